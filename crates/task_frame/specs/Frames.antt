-- The variables of a task by number.
use Rattle.std.specs.Prelude.{◌≡◌, ℕ, ◌+◌, ◌≤◌, List, [], ◌∷◌, length, map, take, drop, slice_index_or, slice_set, pos, Option, Some, None}
use Rattle.fut_base.specs.declared.record.Value.{Value}
use Rattle.fut_base.specs.declared.record.Value.TheVariants.{Int}
use Rattle.task_machine.specs.Variables.{Slot, One, Many}
use Rattle.task_frame.specs.declared.frame.Shape.{Shape}
use Rattle.task_frame.specs.declared.frame.Shape.TheVariants as shape
use Rattle.task_frame.specs.declared.frame.Extent.{Extent}

-- the value of what was never set
abbrev pub zero_value : Value
zero_value = Int (pos 0)

-- a slot with the value 0
abbrev pub zero_slot : Slot
zero_slot = One zero_value

-- what a task's variables hold, by number, and for how many values each has room
pub record Held : Type 0 where
  pub slots : List Slot
  pub rooms : List ℕ

-- what a variable holds; a number that no variable has is 0
abbrev pub slot_in_place : List Slot → ℕ → Slot
slot_in_place slots i = slice_index_or slots i zero_slot

-- the same, where a variable may have no number
abbrev pub slot_for : List Slot → Option ℕ → Slot
slot_for slots None = zero_slot
slot_for slots (Some i) = slot_in_place slots i

-- a slot with one of its elements set
abbrev pub with_element : Slot → ℕ → Value → Slot
with_element (One w) k v = One w
with_element (Many vs) k v = Many (slice_set vs k v)

-- the elements of an array
abbrev pub elements_of : Slot → Option (List Value)
elements_of (One _) = None
elements_of (Many vs) = Some vs

-- what a slot is, one value or an array, and of how many
abbrev pub shape_of : Slot → Shape
shape_of (One _) = shape.One
shape_of (Many vs) = shape.Many (length vs)

-- ---- how the values lie in one list

-- the slot of this shape whose values begin at a place
abbrev pub shaped : List Value → ℕ → Shape → Slot
shaped values first shape.One = One (slice_index_or values first zero_value)
shaped values first (shape.Many n) = Many (take n (drop first values))

-- the slot of a parameter, filled with its values
abbrev pub slot_of : List Value → Extent → Slot
slot_of values p = shaped values p.first p.shape

-- the slots of all parameters
abbrev pub slots_of : List Value → List Extent → List Slot
slots_of values places = map (slot_of values) places

-- how much room each place has
abbrev pub rooms_of : List Extent → List ℕ
rooms_of places = map (λ (p : Extent). p.room) places

-- how many values a slot of this shape has
abbrev pub shape_size : Shape → ℕ
shape_size shape.One = 1
shape_size (shape.Many n) = n

-- the places lie one behind the other, from the first number to the end, and each has room for what it holds
abbrev pub AreLaid : ℕ → List Extent → ℕ → Type 0
AreLaid n [] end = n ≡ end
AreLaid n (p ∷ ps) end = (p.first ≡ n) × (1 ≤ p.room) × (shape_size p.shape ≤ p.room) × AreLaid (n + p.room) ps end
