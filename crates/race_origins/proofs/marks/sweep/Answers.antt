use Rattle.std.proofs.Common.{◌-◌, ◌<◌, false, length, get_or, arith, subst, sym, ◌∙◌}
use Rattle.std.proofs.lemmas.Bool.{both_ways}
use Rattle.race_origins.specs.declared.edges.Edge.{Edge}
use Rattle.race_origins.proofs.Marking.{kept_more, sound_more, fewer, closed_more}
use Rattle.race_origins.proofs.marks.sweep.Goals as goal

pub loop-place-preserved : goal.loop-place-preserved
loop-place-preserved c =
    let edges = c.args.edges.now in
    let i = c.loop-place.place - 1 in
    let none : Edge = record { from = 0; to = 0 } in
    let e = get_or edges i none in
    let old = c.loop-place.marks in
    let new = c.mark.new.marks in
    let so_far = c.loop-place.invariant in
    let lt : i < length edges = omega arith in
    let fits : e.from < length old = subst (λ n. e.from < n) (sym so_far.len) (c.requires i none lt) in
    let is = c.mark.ensures.marks in
    let not_new = sym c.if-mark.false ∙ c.mark.ensures.added in
    record {
      len = c.mark.auto.marks ∙ so_far.len;
      kept = λ v h. kept_more old new e fits is v (so_far.kept v h);
      sound = λ end h. sound_more edges i none end old new lt is (so_far.sound end h);
      falls = omega (arith, so_far.falls, fewer old new e false fits not_new is);
      closed = λ h. closed_more edges i c.loop-place.place none old new (omega arith) lt (sym not_new) is (so_far.closed h);
    }

pub loop-place-preserved-then-mark : goal.loop-place-preserved-then-mark
loop-place-preserved-then-mark c =
    let edges = c.args.edges.now in
    let i = c.loop-place.place - 1 in
    let none : Edge = record { from = 0; to = 0 } in
    let e = get_or edges i none in
    let old = c.loop-place.marks in
    let new = c.mark.new.marks in
    let so_far = c.loop-place.invariant in
    let lt : i < length edges = omega arith in
    let fits : e.from < length old = subst (λ n. e.from < n) (sym so_far.len) (c.requires i none lt) in
    let is = c.mark.ensures.marks in
    record {
      len = c.mark.auto.marks ∙ so_far.len;
      kept = λ v h. kept_more old new e fits is v (so_far.kept v h);
      sound = λ end h. sound_more edges i none end old new lt is (so_far.sound end h);
      falls = omega (arith, so_far.falls, fewer old new e c.mark.result fits c.mark.ensures.added is);
      closed = λ h. absurd (both_ways c.mark.result h c.if-mark.true);
    }
