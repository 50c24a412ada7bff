use Rattle.std.proofs.Common.{sym, subst}
use Rattle.fut_syntax.specs.Trees as tree
use Rattle.fut_syntax.specs.declared.tree.Sign.{Sign}
use Rattle.fut_syntax.specs.Views.{sign_tree}
use Rattle.task_frame.specs.declared.term.Term.{Term, Negative, Inverted}
use Rattle.task_frame.specs.Terms.{IsSigned}
use Rattle.task_code.proofs.Meaning.{negative_is, inverted_is}
use Rattle.task_code.proofs.compile.term_with_sign.Goals as goal

pub returns-in_ok-new-in-Negative : goal.returns-in_ok-new-in-Negative
returns-in_ok-new-in-Negative c =
    subst (λ (s : Sign). IsSigned (sign_tree s) c.args.of (Negative c.in_ok-new-in-Negative.field-0)) (sym c.in-Negative.is)
    (subst (λ (t : Term). IsSigned tree.Negative c.args.of (Negative t)) (sym c.in_ok-new-in-Negative.ensures) (negative_is c.args.of))

pub returns-in_ok-new-in-Inverted : goal.returns-in_ok-new-in-Inverted
returns-in_ok-new-in-Inverted c =
    subst (λ (s : Sign). IsSigned (sign_tree s) c.args.of (Inverted c.in_ok-new-in-Inverted.field-0)) (sym c.in-Inverted.is)
    (subst (λ (t : Term). IsSigned tree.Inverted c.args.of (Inverted t)) (sym c.in_ok-new-in-Inverted.ensures) (inverted_is c.args.of))
