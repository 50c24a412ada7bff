-- What expressions with numbered variables give.
use Rattle.std.specs.Prelude.{◌≡◌, List, flat_map, ℤ}
use Rattle.std.specs.Int.{w64, int_wrapping_neg}
use Rattle.fut_base.specs.declared.record.Value.{Value}
use Rattle.fut_base.specs.declared.record.Value.TheVariants.{Int}
use Rattle.fut_syntax.specs.Trees as tree
use Rattle.fut_syntax.specs.Views.{op_tree}
use Rattle.task_machine.specs.Values.{number_of, truth, is_zero, combine}
use Rattle.task_machine.specs.Variables.{Slot, One, value_of, values_of, signed}
use Rattle.task_frame.specs.declared.term.Term.{Term, Number, Variable, Negative', Inverted', Pair', more_of-Term}
use Rattle.task_frame.specs.Frames.{slot_in_place}

-- the number that a term means in these slots
abbrev pub number_by : List Slot → Term → ℤ
number_by slots (Number z) = z
number_by slots (Variable i) = number_of (value_of (slot_in_place slots i))
number_by slots (Negative' _ (more_of-Term t _)) = int_wrapping_neg w64 (number_by slots t)
number_by slots (Inverted' _ (more_of-Term t _)) = truth (is_zero (number_by slots t))
number_by slots (Pair' _ (more_of-Term a _) op _ (more_of-Term b _)) = combine (op_tree op) (number_by slots a) (number_by slots b)

-- a variable alone gives what it holds
abbrev pub slot_by : List Slot → Term → Slot
slot_by slots (Variable i) = slot_in_place slots i
slot_by slots t = One (Int (number_by slots t))

-- the value that a term means in these slots
abbrev pub value_by : List Slot → Term → Value
value_by slots t = value_of (slot_by slots t)

-- the values of arguments, an array as its elements
abbrev pub values_by : List Slot → List Term → List Value
values_by slots ts = flat_map (λ t. values_of (slot_by slots t)) ts

-- a term gives what a sign makes of another one
pub record IsSigned (sign : tree.Sign) (of t : Term) : Type 0 where
  pub same : (slots : List Slot) → slot_by slots t ≡ signed sign (slot_by slots of)
