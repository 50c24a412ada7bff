use Rattle.std.proofs.Common.{◌≡◌, ◌+◌, ◌++◌, [], ◌∷◌, true≢false, List, drop, inl, inr, ap, ◌∙◌, subst, sym, arith, get_or}
use Rattle.std.specs.Prelude.{◌↔◌, ◌⊎◌}
use Rattle.std.proofs.lemmas.List.{drop_all, take_rest}
use Rattle.fut_base.specs.Dag.{Among}
use Rattle.strand_tree.specs.declared.strand.Strand.{Strand}
use Rattle.reach_table.specs.Sorted.{IsRising}
use Rattle.reach_table.proofs.Members.{equal_strands, unequal_strands}
use Rattle.reach_table.proofs.Runs.{part, pending_more, pending_none, pending_rest}
use Rattle.reach_table.proofs.Uniting.{IsOut, step_other, step_one, step_both, ends_rising, ends_members}
use Rattle.reach_table.proofs.merging.union.Goals as goal
use Rattle.reach_table.proofs.merging.union.Goals.{then-loop-i-test+else-j-other, else-loop-i-test, In_ok-extend_from_slice-3}

pub loop-i-preserved-then-eq : goal.loop-i-preserved-then-eq
loop-i-preserved-then-eq c =
    let none : Strand = record { number = 0; future = 0 } in
    let one = c.args.one.now in
    let other = c.args.other.now in
    let all = c.loop-i.all.items in
    let start = c.loop-i.start in
    let i = c.loop-i.i in
    let j = c.loop-i.j in
    let v = c.loop-i.invariant in
    record {
      order = omega (arith, v.order);
      first = omega arith;
      second = omega arith;
      unites = step_both one other (all ++ part start i one) (all ++ part start (i + 1) one) i j none (omega arith) (omega arith) v.unites
          (equal_strands (get_or one i none) (get_or other j none) c.eq.result c.eq.ensures c.if-eq.true)
          (pending_more all one start i none v.order (omega arith));
    }

pub loop-i-preserved-then-is_below : goal.loop-i-preserved-then-is_below
loop-i-preserved-then-is_below c =
    let none : Strand = record { number = 0; future = 0 } in
    let one = c.args.one.now in
    let other = c.args.other.now in
    let all = c.loop-i.all.items in
    let start = c.loop-i.start in
    let i = c.loop-i.i in
    let j = c.loop-i.j in
    let v = c.loop-i.invariant in
    record {
      order = omega (arith, v.order);
      first = omega arith;
      second = v.second;
      unites = step_one one other (all ++ part start i one) (all ++ part start (i + 1) one) i j none (omega arith) (omega arith) v.unites
          (c.is_below.ensures.0 c.if-is_below.true) (pending_more all one start i none v.order (omega arith));
    }

pub loop-i-preserved : goal.loop-i-preserved
loop-i-preserved c =
    let none : Strand = record { number = 0; future = 0 } in
    let one = c.args.one.now in
    let other = c.args.other.now in
    let all = c.loop-i.all.items in
    let start = c.loop-i.start in
    let i = c.loop-i.i in
    let j = c.loop-i.j in
    let y : Strand = get_or other j none in
    let v = c.loop-i.invariant in
    let taken : c.push.new.self.items ≡ (all ++ part start i one) ++ y ∷ [] =
    c.in_ok-push.ensures.items ∙ ap (λ l. l ++ y ∷ []) c.in_ok-extend_from_slice.ensures.items in
    record {
      order = omega arith;
      first = v.first;
      second = omega arith;
      unites = step_other one other (all ++ part start i one) (c.push.new.self.items ++ part i i one) i j none (omega arith) (omega arith) v.unites
          (λ b. true≢false (sym (c.is_below.ensures.1 b) ∙ c.if-is_below.false))
          (unequal_strands (get_or one i none) y c.eq.result c.eq.ensures c.if-eq.false)
          (pending_none c.push.new.self.items one i ∙ taken);
    }

out : (c : goal.In_ok-extend_from_slice-3) → IsOut (drop c.loop-i.i c.args.one.now) (drop c.loop-i.j c.args.other.now)
out c =
    elim c.loop-i-test.branch [
      | then-loop-i-test+else-j-other w ↦ inr (drop_all c.loop-i.j c.args.other.now (omega arith))
      | else-loop-i-test w ↦
          inl (drop_all c.loop-i.i c.args.one.now (omega arith))
    ]

all_is : (c : goal.In_ok-extend_from_slice-3) → c.extend_from_slice-3.new.self.items
    ≡ ((c.loop-i.all.items ++ part c.loop-i.start c.loop-i.i c.args.one.now) ++ drop c.loop-i.i c.args.one.now) ++ drop c.loop-i.j c.args.other.now
all_is c =
    let one = c.args.one.now in
    let other = c.args.other.now in
    let all = c.loop-i.all.items in
    let start = c.loop-i.start in
    let j = c.loop-i.j in
    let first : c.extend_from_slice-2.new.self.items ≡ all ++ drop start one =
    c.in_ok-extend_from_slice-2.ensures.items ∙ ap (λ l. all ++ l) (take_rest one start) in
    let second : c.extend_from_slice-3.new.self.items ≡ c.extend_from_slice-2.new.self.items ++ drop j other =
    c.in_ok-extend_from_slice-3.ensures.items ∙ ap (λ l. c.extend_from_slice-2.new.self.items ++ l) (take_rest other j) in
    second ∙ ap (λ l. l ++ drop j other) (first ∙ sym (pending_rest all one start c.loop-i.i c.loop-i.invariant.order))

pub returns-clause-rising : goal.returns-clause-rising
returns-clause-rising c =
    subst IsRising (sym (all_is c))
    (ends_rising c.args.one.now c.args.other.now (c.loop-i.all.items ++ part c.loop-i.start c.loop-i.i c.args.one.now) _ _ c.loop-i.invariant.unites
    (out c))

pub returns-clause-strands : goal.returns-clause-strands
returns-clause-strands c =
    let P : List Strand → Type 0 = λ l. (w : Strand) → Among w l ↔ (Among w c.args.one.now ⊎ Among w c.args.other.now) in
    subst P (sym (all_is c))
    (ends_members c.args.one.now c.args.other.now (c.loop-i.all.items ++ part c.loop-i.start c.loop-i.i c.args.one.now) _ _ c.loop-i.invariant.unites)
