-- The variables of a task, and what expressions give.
use Rattle.std.specs.Prelude.{ℕ, if◌then◌else◌, List, [], ◌∷◌, length, replicate, take, drop, slice_index_or, flat_map, ℤ, pos, bytes_eq}
use Rattle.std.specs.Int.{w64, int_wrapping_neg}
use Rattle.fut_base.specs.declared.record.Value.{Value}
use Rattle.fut_base.specs.declared.record.Value.TheVariants.{Int}
use Rattle.fut_syntax.specs.Trees as tree
use Rattle.task_machine.specs.Values.{number_of, truth, is_zero, combine}

-- what a variable holds: one value, or those of an array of handles
pub data Slot : Type 0 where
  One : Value → Slot
  Many : List Value → Slot

-- variables by name
abbrev pub Variables : Type 0
Variables = List (List ℕ × Slot)

-- what a variable holds; an unknown name is 0
abbrev pub slot_at : Variables → List ℕ → Slot
slot_at [] word = One (Int (pos 0))
slot_at (v ∷ vs) word = if bytes_eq v.0 word then v.1 else slot_at vs word

-- the variables with one of them set
abbrev pub put : Variables → List ℕ → Slot → Variables
put [] word slot = (word, slot) ∷ []
put (v ∷ vs) word slot = if bytes_eq v.0 word then (v.0, slot) ∷ vs else v ∷ put vs word slot

-- the value of a slot; an array has none, and counts as 0
abbrev pub value_of : Slot → Value
value_of (One v) = v
value_of (Many _) = Int (pos 0)

-- the values of a slot, an array as its elements
abbrev pub values_of : Slot → List Value
values_of (One v) = v ∷ []
values_of (Many vs) = vs

-- a variable of this type with this value, an array with it in all elements
abbrev pub filled : tree.VarType → Value → Slot
filled (tree.Plain _) v = One v
filled (tree.Array _ n) v = Many (replicate n v)

-- the slot with this value, an array with it in all elements
abbrev pub refilled : Slot → Value → Slot
refilled (One _) v = One v
refilled (Many vs) v = Many (replicate (length vs) v)

-- what a sign makes of an operand
abbrev pub signed : tree.Sign → Slot → Slot
signed tree.NoSign s = s
signed tree.Negative s = One (Int (int_wrapping_neg w64 (number_of (value_of s))))
signed tree.Inverted s = One (Int (truth (is_zero (number_of (value_of s)))))

-- what an expression gives: a word alone, in brackets or not, gives what its variable holds
abbrev mutual
  pub slot_in : Variables → tree.Expr → Slot
  slot_in vs (tree.Alone o) = operand_in vs o
  slot_in vs (tree.Pair a op b) = One (Int (combine op (number_of (value_of (operand_in vs a))) (number_of (value_of (operand_in vs b)))))

  pub operand_in : Variables → tree.Operand → Slot
  operand_in vs (tree.Signed sign p) = signed sign (primary_in vs p)

  pub primary_in : Variables → tree.Primary → Slot
  primary_in vs (tree.Literal n) = One (Int (pos n))
  primary_in vs (tree.Name word) = slot_at vs word
  primary_in vs (tree.Bracket e) = slot_in vs e

-- the value of an expression
abbrev pub value_in : Variables → tree.Expr → Value
value_in vs e = value_of (slot_in vs e)

-- the value of an expression, as a number
abbrev pub number_in : Variables → tree.Expr → ℤ
number_in vs e = number_of (value_in vs e)

-- the values of arguments, an array as its elements
abbrev pub values_in : Variables → List tree.Expr → List Value
values_in vs es = flat_map (λ e. values_of (slot_in vs e)) es

-- how many values a variable of this type holds
abbrev pub size_of : tree.VarType → ℕ
size_of (tree.Plain _) = 1
size_of (tree.Array _ n) = n

-- a parameter of this type, from the argument values that are left
abbrev pub taken : tree.VarType → List Value → Slot
taken (tree.Plain _) vs = One (slice_index_or vs 0 (Int (pos 0)))
taken (tree.Array _ n) vs = Many (take n vs)

-- the parameters as variables
abbrev pub bound : List tree.Param → List Value → Variables
bound [] vs = []
bound (p ∷ ps) vs = (p.name, taken p.type vs) ∷ bound ps (drop (size_of p.type) vs)
