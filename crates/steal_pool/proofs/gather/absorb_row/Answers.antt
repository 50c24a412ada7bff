use Rattle.std.proofs.Common.{◌≡◌, [], ◌∷◌, length, refl, sym, ap, ◌∙◌, subst, arith, length-append}
use Rattle.std.proofs.lemmas.List.{nil_from_length}
use Rattle.steal_pool.specs.Deques.{victim_id}
use Rattle.steal_pool.specs.AllWorkers.{id_of}
use Rattle.std.proofs.Common.{get_or}
use Rattle.steal_pool.proofs.Gathering.{starts, to_its_place, one_back_at, all_back}
use Rattle.steal_pool.proofs.gather.absorb_row.Goals as goal

pub loop-victim-init : goal.loop-victim-init
loop-victim-init g c = starts c.args.workers.now c.args.row.items c.requires

pub bounds-workers-len : goal.bounds-workers-len
bounds-workers-len g c =
    let a = ap length c.in-Some.ensures.items in
    let b = c.loop-victim.invariant.inside in
    let n = c.loop-victim.invariant.count in
    let e = c.pop.new.self.ok.0 in
    let f = c.len.ensures in
    omega (arith, length-append c.pop.new.self.items (c.in-Some.victim ∷ []))

pub absorb-requires : goal.absorb-requires
absorb-requires g c =
    let at = sym c.pop.new.self.ok.0 ∙ sym c.len.ensures in
    subst (λ k. victim_id c.in-Some.victim ≡ id_of (get_or c.loop-victim.workers k c.index-workers-len.result)) at
    (to_its_place c.args.workers.now c.loop-victim.workers c.args.row.items c.loop-victim.rest.items c.pop.new.self.items c.in-Some.victim
    c.index-workers-len.result c.in-Some.ensures.items c.loop-victim.invariant)

pub loop-victim-preserved : goal.loop-victim-preserved
loop-victim-preserved g c =
    let at = sym c.pop.new.self.ok.0 ∙ sym c.len.ensures in
    one_back_at c.args.workers.now c.loop-victim.workers c.args.row.items c.loop-victim.rest.items c.pop.new.self.items c.in-Some.victim
    c.index-workers-len.result _ c.len.result at c.in-Some.ensures.items c.loop-victim.invariant
    refl c.absorb.ensures.same.0 c.absorb.ensures.rule refl refl refl refl refl refl

pub returns : goal.returns
returns g c = all_back c.args.workers.now c.loop-victim.workers c.args.row.items c.loop-victim.rest.items
    (nil_from_length c.loop-victim.rest.items (sym c.loop-victim.rest.ok.0 ∙ c.in_default.ensures.cases.0)) c.loop-victim.invariant
