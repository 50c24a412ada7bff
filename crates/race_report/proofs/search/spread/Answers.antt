use Rattle.std.proofs.Common.{◌<◌, length, get_or, arith, refl, subst}
use Rattle.std.specs.BTreeSet.{btree_set_len}
use Rattle.std.proofs.lemmas.List.{take_all}
use Rattle.race_report.specs.declared.edges.Edge.{Edge}
use Rattle.race_report.specs.Search.{has, IsClosed}
use Rattle.race_report.proofs.Spreading.{kept_more, sound_more, closed_more}
use Rattle.race_report.proofs.search.spread.Goals as goal

pub loop-step-preserved : goal.loop-step-preserved
loop-step-preserved c =
    let steps = c.args.steps.now in
    let i = c.loop-step.step-index in
    let none : Edge = record { from = 0; to = 0 } in
    let e = get_or steps i none in
    let old = c.args.reached.now in
    let mid = c.loop-step.reached in
    let adds = c.in_ok-follow.ensures.adds in
    let so_far = c.loop-step.invariant in
    let lt : i < length steps = omega arith in
    record {
      kept = λ v h. kept_more e (has mid) (has c.follow.new.reached) adds v (so_far.kept v h);
      sound = λ start h. sound_more steps i none e (has mid) (has c.follow.new.reached) start lt refl adds (so_far.sound start h);
      rises = omega (arith, so_far.rises, c.in_ok-follow.ensures.len);
      closed = closed_more steps i none e (has mid) (has c.follow.new.reached) (btree_set_len old) (btree_set_len mid)
          (btree_set_len c.follow.new.reached) lt refl adds so_far.rises c.in_ok-follow.ensures.len so_far.closed;
    }

pub returns-clause-closed : goal.returns-clause-closed
returns-clause-closed c =
    let steps = c.args.steps.now in
    let all = take_all c.loop-step.step-index steps (omega arith) in
    λ same. subst (λ l. IsClosed l c.loop-step.reached) all (c.loop-step.invariant.closed same)
