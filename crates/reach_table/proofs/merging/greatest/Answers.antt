use Rattle.std.proofs.Common.{◌≡◌, ℕ, ◌+◌, ◌-◌, ◌≤◌, ◌++◌, List, true≢false, length, sym, ap, ◌∙◌, subst, arith}
use Rattle.std.specs.Prelude.{◌↔◌}
use Rattle.std.proofs.lemmas.List.{take_rest}
use Rattle.fut_base.specs.Dag.{Among}
use Rattle.strand_tree.specs.declared.strand.Strand.{Strand}
use Rattle.reach_table.specs.Merging.{IsGreatest}
use Rattle.reach_table.proofs.Runs.{part, pending_more, pending_none}
use Rattle.reach_table.proofs.Leaving.{Leaves, leaves_more, leaves_out, leaves_all}
use Rattle.reach_table.proofs.Apart.{leaves_run, pending_all}
use Rattle.reach_table.proofs.merging.greatest.Goals as goal
use Rattle.reach_table.proofs.merging.greatest.Goals.{then-width-strands, else-width-strands, then-not-is_greatest+in_ok-extend_from_slice}
use Rattle.reach_table.proofs.merging.greatest.Goals.{else-not-is_greatest, In_ok-extend_from_slice-2, Then-are_alone}

pub loop-place-preserved-then-are_alone : goal.loop-place-preserved-then-are_alone
loop-place-preserved-then-are_alone c =
    let lists = c.args.lists.now in
    let own = c.args.own in
    let ws = c.args.strands.now in
    let left = c.loop-place.left.items in
    let start = c.loop-place.start in
    let i = c.loop-place.place in
    let end = c.if-width-strands.end in
    let v = c.loop-place.invariant in
    let le : i ≤ end =
    elim c.if-width-strands.branch [ then-width-strands w ↦ omega (arith, w.end-is) | else-width-strands w ↦ omega (arith, w.end-is, v.within) ] in
    let on : end ≤ length ws =
    elim c.if-width-strands.branch [
      | then-width-strands w ↦ omega (arith, w.end-is, w.if-width-strands.true, v.within)
      | else-width-strands w ↦
          omega (arith, w.end-is)
    ] in
    let same : i + (end - i) ≡ end = omega (arith, le) in
    let P : ℕ → Type 0 = λ m. Leaves lists own ws m (left ++ part start m ws) in
    record {
      order = omega (arith, v.order, le);
      within = on;
      some = omega (arith, v.some, c.wider-width.ensures);
      leaves =
          subst P same
          (leaves_run lists own ws left start i (end - i) v.order (omega (arith, same, on)) v.leaves
          (λ k a b. c.are_alone.ensures c.if-are_alone.true lists k a (omega (arith, b, same))));
    }

pub loop-place-preserved : goal.loop-place-preserved
loop-place-preserved c =
    let none : Strand = record { number = 0; future = 0 } in
    let lists = c.args.lists.now in
    let own = c.args.own in
    let ws = c.args.strands.now in
    let left = c.loop-place.left.items in
    let start = c.loop-place.start in
    let i = c.loop-place.place in
    let new = c.if-not-is_greatest.left.items in
    let place = c.if-not-is_greatest.start in
    let v = c.loop-place.invariant in
    record {
      order =
          elim c.if-not-is_greatest.branch [
            | then-not-is_greatest+in_ok-extend_from_slice w ↦ omega (arith, w.start-is)
            | else-not-is_greatest w ↦
                omega (arith, w.start-is, v.order)
          ];
      within = omega arith;
      some = omega arith;
      leaves = elim c.if-not-is_greatest.branch [
        | then-not-is_greatest+in_ok-extend_from_slice w ↦ (
            let taken : new ≡ left ++ part start i ws = ap (λ l. l.items) w.left-is ∙ w.in_ok-extend_from_slice.ensures.items in
            leaves_out lists own ws (left ++ part start i ws) (new ++ part place (i + 1) ws) i none (omega arith) v.leaves
            (λ g. true≢false (sym (c.is_greatest.ensures.1 g) ∙ w.if-not-is_greatest.true))
            (ap (λ k. new ++ part k (i + 1) ws) w.start-is ∙ pending_none new ws (i + 1) ∙ taken))
        | else-not-is_greatest w ↦
            leaves_more lists own ws (left ++ part start i ws) (new ++ part place (i + 1) ws) i none (omega arith) v.leaves
            (c.is_greatest.ensures.0 w.if-not-is_greatest.false)
            (ap (λ k. new ++ part k (i + 1) ws) w.start-is ∙ ap (λ l. l.items ++ part start (i + 1) ws) w.left-is
            ∙ pending_more left ws start i none v.order (omega arith))
      ];
    }

all_is : (c : goal.In_ok-extend_from_slice-2) → c.extend_from_slice-2.new.self.items
    ≡ c.loop-place.left.items ++ part c.loop-place.start c.loop-place.place c.args.strands.now
all_is c =
    let ws = c.args.strands.now in
    let left = c.loop-place.left.items in
    let start = c.loop-place.start in
    c.in_ok-extend_from_slice-2.ensures.items ∙ ap (λ l. left ++ l) (take_rest ws start)
    ∙ pending_all ws left start c.loop-place.place c.loop-place.invariant.order (omega arith)

pub returns-clause-strands : goal.returns-clause-strands
returns-clause-strands c =
    let ws = c.args.strands.now in
    let P : List Strand → Type 0 = λ l. (w : Strand) → Among w l ↔ IsGreatest c.args.lists.now c.args.own ws w in
    subst P (sym (all_is c))
    (leaves_all c.args.lists.now c.args.own ws (c.loop-place.left.items ++ part c.loop-place.start c.loop-place.place ws) c.loop-place.place
    (omega arith) c.loop-place.invariant.leaves).1
