-- What expressions inside others give.
use Rattle.std.proofs.Common.{◌≡◌, List, refl}
use Rattle.std.specs.Int.{w64, int_wrapping_neg}
use Rattle.fut_syntax.specs.declared.tree.Operator.{Operator}
use Rattle.fut_syntax.specs.Views.{op_tree}
use Rattle.task_machine.specs.Values.{truth, is_zero, combine}
use Rattle.task_machine.specs.Variables.{Slot}
use Rattle.task_frame.specs.declared.term.Term.{Term, Negative, Inverted, Pair}
use Rattle.task_frame.specs.Terms.{number_by}

pub negative_number : (slots : List Slot) (t : Term) → number_by slots (Negative t) ≡ int_wrapping_neg w64 (number_by slots t)
unfolding Rattle.task_frame.specs.declared.term.Term.TheBlock.hidden-the_row-Term-0 denote.Hole.Carrier.hidden
negative_number slots t = refl

pub inverted_number : (slots : List Slot) (t : Term) → number_by slots (Inverted t) ≡ truth (is_zero (number_by slots t))
unfolding Rattle.task_frame.specs.declared.term.Term.TheBlock.hidden-the_row-Term-0 denote.Hole.Carrier.hidden
inverted_number slots t = refl

pub pair_number : (slots : List Slot) (a : Term) (op : Operator) (b : Term)
    → number_by slots (Pair a op b) ≡ combine (op_tree op) (number_by slots a) (number_by slots b)
unfolding Rattle.task_frame.specs.declared.term.Term.TheBlock.hidden-the_row-Term-0 denote.Hole.Carrier.hidden
pair_number slots a op b = refl
