use Rattle.std.proofs.Common.{rules, ◌≡◌, true, refl, ap, sym, ◌∙◌, subst}
use Rattle.std.specs.Prelude.{IfOk}
use Rattle.fut_syntax.specs.Trees as tree
use Rattle.fut_syntax.specs.declared.tree.Expr.{the_lemmas}
use Rattle.fut_syntax.specs.declared.tree.Primary.{Bracket}
use Rattle.fut_syntax.specs.Views.{expr_tree, operand_tree, primary_tree, op_tree, sign_tree}
use Rattle.fut_syntax.proofs.Made.{bracket_tree}
use Rattle.fut_check.specs.Numbers.{primary_fits}
use Rattle.task_machine.specs.Variables.{slot_in, primary_in}
use Rattle.task_frame.specs.declared.term.Term.{Term, Pair}
use Rattle.task_code.specs.Flat.{Means}
use Rattle.task_code.proofs.Meaning.{means_pair, each_signed}
use Rattle.task_code.proofs.compile.+terms.Goals as goal

pub term_of-returns-in_ok-new-in-Pair-2 : goal.term_of-returns-in_ok-new-in-Pair-2
term_of-returns-in_ok-new-in-Pair-2 t c =
    let w = c.in-Pair in
    let names = c.args.scope.now.names.now in
    let m = means_pair names (operand_tree w.left)
    (operand_tree w.right) w.op c.in_ok-left-in-Pair.left c.in_ok-right-in-Pair.right c.in_ok-left-in-Pair.ensures c.in_ok-right-in-Pair.ensures in
    let is : expr_tree c.args.expr.now ≡ tree.Pair (operand_tree w.left) (op_tree w.op) (operand_tree w.right) = ap expr_tree w.is in
    subst (λ (e : tree.Expr). Means names (λ vars. slot_in vars e) (Pair c.in_ok-new-in-Pair.field-0 w.op c.in_ok-new-in-Pair-2.field-0)) (sym is)
    (subst
    (λ (a : Term). Means names (λ vars. slot_in vars (tree.Pair (operand_tree w.left) (op_tree w.op) (operand_tree w.right)))
    (Pair a w.op c.in_ok-new-in-Pair-2.field-0)) (sym c.in_ok-new-in-Pair.ensures)
    (subst
    (λ (b : Term). Means names (λ vars. slot_in vars (tree.Pair (operand_tree w.left) (op_tree w.op) (operand_tree w.right)))
    (Pair c.in_ok-left-in-Pair.left w.op b)) (sym c.in_ok-new-in-Pair-2.ensures) m))

pub term_of_signed-returns : goal.term_of_signed-returns
term_of_signed-returns t c =
    each_signed c.args.scope.now.names.now (sign_tree c.args.sign)
    (primary_tree c.args.primary.now) _ c.in_ok-of.of c.term_with_sign.result refl c.in_ok-of.ensures c.term_with_sign.ensures

pub term_of_primary-returns-in-Bracket : goal.term_of_primary-returns-in-Bracket
term_of_primary-returns-in-Bracket t c =
    let is : primary_tree c.args.primary.now ≡ tree.Bracket (expr_tree c.get.result.now) =
    ap primary_tree (c.in-Bracket.is ∙ ap Bracket (sym c.get.ensures)) ∙ bracket_tree c.get.result.now in
    subst (λ p. IfOk c.term_of.result (λ x. Means c.args.scope.now.names.now (λ vars. primary_in vars p) x)) (sym is) c.term_of.ensures

pub term_of_primary-term_of-requires : goal.term_of_primary-term_of-requires
term_of_primary-term_of-requires t c =
    let is : primary_tree c.args.primary.now ≡ tree.Bracket (expr_tree c.get.result.now) =
    ap primary_tree (c.in-Bracket.is ∙ ap Bracket (sym c.get.ensures)) ∙ bracket_tree c.get.result.now in
    (search (rules, the_lemmas), subst (λ p. primary_fits p ≡ true) is c.requires.fits)
