use Rattle.std.proofs.Common.{◌≡◌, arith, rules, ◌∙◌, ap, sym, w64, to_z, of_z}
use Rattle.fut_syntax.specs.Views.{op_tree}
use Rattle.task_machine.specs.Values.{combine}
use Rattle.task_frame.specs.Terms.{number_by}
use Rattle.task_frame.proofs.Evaluating.{negative_number, inverted_number, pair_number}
use Rattle.task_frame.proofs.term.Term.+number.Goals as goal

pub returns-in-Negative : goal.returns-in-Negative
returns-in-Negative t c = grind (arith, negative_number, c.in-Negative.is, c.number.ensures, c.get.ensures, c.wrapping_neg.ensures)

pub returns-in-Inverted : goal.returns-in-Inverted
returns-in-Inverted t c = grind (arith, inverted_number, c.in-Inverted.is, c.number-in-Inverted.ensures, c.get-in-Inverted.ensures, c.number_of_test.ensures)

pub returns-in-Pair : goal.returns-in-Pair
returns-in-Pair t c =
    let slots = c.args.frame.now.slots in
    let w = c.in-Pair in
    let whole : number_by slots c.args.self.now ≡ combine (op_tree w.op) (number_by slots w.left) (number_by slots w.right) =
    ap (number_by slots) w.is ∙ pair_number slots w.left w.op w.right in
    let xs : to_z w64 (of_z w64 c.number-x.result) ≡ c.number-x.result = search rules in
    let ys : to_z w64 (of_z w64 c.number-y.result) ≡ c.number-y.result = search rules in
    let zs : to_z w64 (of_z w64 c.combined.result) ≡ c.combined.result = search rules in
    zs ∙ c.combined.ensures ∙ ap (λ n. combine (op_tree w.op) n (to_z w64 (of_z w64 c.number-y.result)))
    (xs ∙ c.number-x.ensures ∙ ap (number_by slots) c.get-in-Pair.ensures)
    ∙ ap (combine (op_tree w.op) (number_by slots w.left)) (ys ∙ c.number-y.ensures ∙ ap (number_by slots) c.get-in-Pair-2.ensures) ∙ sym whole
