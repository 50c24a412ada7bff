-- How parameters become variables.
use Rattle.std.specs.Prelude.{ℕ, zero, suc, ◌+◌, List, [], ◌∷◌, take, slice_index_or}
use Rattle.fut_base.specs.declared.record.Value.{Value}
use Rattle.fut_syntax.specs.Trees as tree
use Rattle.task_machine.specs.Variables.{Slot, One, Many, size_of}
use Rattle.task_frame.specs.Frames.{zero_value}

-- a parameter of this type from the argument values that are left, as far as it has room
abbrev pub taken_in : ℕ → tree.VarType → List Value → Slot
taken_in room (tree.Plain _) vs = One (slice_index_or vs 0 zero_value)
taken_in room (tree.Array _ k) vs = Many (take room (take k vs))

-- how many argument values stand before those of the parameter at a place
abbrev pub offset_of : ℕ → List tree.Param → ℕ
offset_of zero ps = 0
offset_of (suc n) [] = 0
offset_of (suc n) (p ∷ ps) = size_of p.type + offset_of n ps
