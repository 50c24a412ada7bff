use Rattle.std.proofs.Common.{◌≡◌, ℕ, ◌+◌, ◌-◌, ◌<◌, [], ◌∷◌, ◌++◌, length, refl, sym, ap, subst, ◌∙◌, append_assoc, append-nil, arith, Some, nat_lt, true}
use Rattle.std.proofs.lemmas.Grind.{common_steps}
use Rattle.std.proofs.lemmas.Bool.Decides.{nat_tests}
use Rattle.run_record.specs.declared.bounds.TheConstants.{MOST_ARGUMENTS}
use Rattle.run_record.specs.RunText.{value_text, values_line}
use Rattle.run_record.specs.Records.{AreValues}
use Rattle.run_record.specs.Machine.{Datum, Arguments, Takes, Refuses}
use Rattle.run_record.specs.Steps.{Steps}
use Rattle.run_record.proofs.Numerals.{is_true}
use Rattle.run_record.proofs.Chains.{onward, takes}
use Rattle.run_record.proofs.Cursors.{in_view}
use Rattle.run_record.proofs.Rows.{first_goes, length_more, values_more}
use Rattle.run_record.proofs.values.arguments.Goals as goal

pub returns-then-byte-eq10 : goal.returns-then-byte-eq10
returns-then-byte-eq10 c =
    let vs = c.more.all.items in
    let ys = c.bump.new.self in
    let front = in_view c.more.cursor 10 (sym c.peek.ensures ∙ c.in-Some.is ∙ ap Some c.if-byte-eq10.true) ∙ ap (λ q. 10 ∷ q) (sym c.bump.ensures) in (
      onward c.more.invariant.goes (takes (Arguments (MOST_ARGUMENTS - length vs)) 10 [] c.more.cursor ys refl front),
      c.more.invariant.text [] ys front ∙ ap (λ q. values_line q ++ ys) (append-nil vs),
      (c.more.invariant.few, c.more.invariant.values),
    )

pub more-preserved : goal.more-preserved
more-preserved c =
    let vs = c.more.all.items in
    let v = c.in_ok-next.next in
    let m = c.bump-in-more.new.self in
    let ys = c.value.new.cursor in
    let front = in_view c.more.cursor 32 (sym c.peek.ensures ∙ c.in-Some.is ∙ ap Some c.if-byte-ne32.false) ∙ ap (λ q. 32 ∷ q) (sym c.bump-in-more.ensures) in
    let items : c.push.new.self.items ≡ vs ++ v ∷ [] = grind (arith, common_steps) in
    let many : length c.push.new.self.items ≡ length vs + 1 = ap length items ∙ length_more vs v in
    let few = c.more.invariant.few in
    let less : length vs < MOST_ARGUMENTS = omega (arith, few, c.len.ensures, c.if-len-eq-MOST_ARGUMENTS.false) in
    let some : nat_lt 0 (MOST_ARGUMENTS - length vs) ≡ true = grind (arith, nat_tests) in
    let left : MOST_ARGUMENTS - length vs - 1 ≡ MOST_ARGUMENTS - length c.push.new.self.items = omega (arith, many) in
    let space = takes (Arguments (MOST_ARGUMENTS - length vs)) 32 (Datum ∷ Arguments (MOST_ARGUMENTS - length vs - 1) ∷ []) c.more.cursor m
    (is_true (nat_lt 0 (MOST_ARGUMENTS - length vs)) (Takes (Datum ∷ Arguments (MOST_ARGUMENTS - length vs - 1) ∷ [])) Refuses some) front in
    record {
      goes = subst (λ (n : ℕ). Steps (Arguments MOST_ARGUMENTS ∷ []) c.args.cursor.now (Arguments n ∷ []) ys) left
          (onward c.more.invariant.goes (onward space (first_goes (Datum ∷ []) (Arguments (MOST_ARGUMENTS - length vs - 1) ∷ []) c.in_ok-next.ensures.0)));
      text = λ rest r e.
          c.more.invariant.text (v ∷ rest) r
          (front ∙ ap (λ q. 32 ∷ q) (c.in_ok-next.ensures.1 ∙ ap (λ q. value_text v ++ q) e ∙ sym (append_assoc (value_text v) (values_line rest) r)))
          ∙ ap (λ q. values_line q ++ r) (sym (append_assoc vs (v ∷ []) rest) ∙ ap (λ q. q ++ rest) (sym items));
      few = omega (arith, many, less);
      values = subst AreValues (sym items) (values_more vs v c.more.invariant.values c.in_ok-next.ensures.2);
    }
