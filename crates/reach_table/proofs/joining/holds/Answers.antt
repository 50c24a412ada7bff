use Rattle.std.proofs.Common.{ℕ, get_or, take, inl, inr, refl, subst, sym, arith}
use Rattle.strand_tree.specs.declared.strand.Strand.{Strand}
use Rattle.reach_table.specs.Joining.{HoldsAll}
use Rattle.reach_table.proofs.Members.{at_place, equal_strands}
use Rattle.reach_table.proofs.Held.{holds_more}
use Rattle.reach_table.proofs.joining.holds.Goals as goal
use Rattle.reach_table.proofs.joining.holds.Goals.{then-eq, else-eq+then-other-j+else-not-is_earlier, else-eq+else-other-j}

pub is_earlier-requires-clause-x_in : goal.is_earlier-requires-clause-x_in
is_earlier-requires-clause-x_in c = c.requires.other_in _ (at_place c.args.other.now c.loop-i.j _ c.if-j-other.true)

pub is_earlier-requires-clause-w_in : goal.is_earlier-requires-clause-w_in
is_earlier-requires-clause-w_in c = c.requires.strands_in _ (at_place c.args.strands.now c.loop-i.i _ c.loop-i-test.true)

pub loop-i-preserved : goal.loop-i-preserved
loop-i-preserved c =
    let none : Strand = record { number = 0; future = 0 } in
    let ws = c.args.strands.now in
    let xs = c.args.other.now in
    let i = c.loop-i.i in
    let j = c.loop-i.j in
    let v = c.loop-i.invariant in
    let here = at_place ws i none c.loop-i-test.true in
    let P : ℕ → Type 0 = λ n. HoldsAll c.args.lists.now ws (take n xs) in
    elim c.if-eq.branch [
      | then-eq w ↦ record {
        first = omega arith;
        second = omega (arith, w.j-is);
        held = subst P (sym w.j-is)
            (holds_more c.args.lists.now ws xs j none (get_or ws i none) c.if-j-other.true v.held here
            (inl (equal_strands (get_or xs j none) (get_or ws i none) c.eq.result c.eq.ensures w.if-eq.true)));
      }
      | else-eq+then-other-j+else-not-is_earlier w ↦ record {
        first = omega arith;
        second = omega (arith, w.j-is);
        held = subst P (sym w.j-is)
            (holds_more c.args.lists.now ws xs j none (get_or ws i none) c.if-j-other.true v.held here (inr (w.is_earlier.ensures w.if-not-is_earlier.false)));
      }
      | else-eq+else-other-j w ↦ record {
        first = omega arith;
        second = omega (arith, w.j-is, v.second);
        held = subst P (sym w.j-is) v.held;
      }
    ]

pub returns-then-begins_with : goal.returns-then-begins_with
returns-then-begins_with c = λ _ x a. (x, c.begins_with.ensures c.if-begins_with.true x a, inl refl)
