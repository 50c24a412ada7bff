use Rattle.std.proofs.Common.{◌<◌, [], ◌∷◌, length, Some, None, arith}
use Rattle.steal_pool.proofs.Shifting.{stays, then, stolen_as, count_same}
use Rattle.steal_pool.proofs.work.steal_among.Goals as goal

pub loop-victim-init : goal.loop-victim-init
loop-victim-init g c = record { room = c.requires; shifts = stays c.args.thief.now }

pub loop-victim-preserved : goal.loop-victim-preserved
loop-victim-preserved g c =
    let inside : c.loop-victim.victim < length c.loop-victim.thief.victims.items = omega arith in
    let s =
    stolen_as c.loop-victim.thief c.steal.new.self c.loop-victim.victim c.steal.result None c.in_default.is inside c.steal.ensures.own
    c.steal.ensures.rule in
    record {
      room = omega (arith, count_same c.loop-victim.thief c.steal.new.self [] [] s, c.loop-victim.invariant.room);
      shifts = then c.args.thief.now c.loop-victim.thief c.steal.new.self [] [] [] [] c.loop-victim.invariant.shifts s;
    }

pub returns-in-Some : goal.returns-in-Some
returns-in-Some g c =
    let inside : c.loop-victim.victim < length c.loop-victim.thief.victims.items = omega arith in
    let s = stolen_as c.loop-victim.thief c.steal.new.self c.loop-victim.victim c.steal.result
    (Some c.in-Some.job) c.in-Some.is inside c.steal.ensures.own c.steal.ensures.rule in
    then c.args.thief.now c.loop-victim.thief c.steal.new.self [] [] [] (c.in-Some.job ∷ []) c.loop-victim.invariant.shifts s
