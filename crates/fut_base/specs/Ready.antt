-- How a list with its first item in itself is shown.
use Rattle.std.specs.Prelude.{◌≡◌, ℕ, ◌+◌, ◌≤◌, List, [], ◌∷◌, Option, Some, None}
use Rattle.std.specs.VecDeque.{deque_len, deque_capacity}
use Rattle.fut_base.specs.Listed.{Listed}
use Rattle.fut_base.specs.declared.ready.Ready.TheInside.{Inside}

-- the first item, where there is one, and those behind it
abbrev pub items_of : {T : Type 0} → Option T → List T → List T
items_of None rest = []
items_of (Some x) rest = x ∷ rest

-- for how many more there is room: a missing first item is room for one
abbrev pub room_of : {T : Type 0} → Option T → ℕ → ℕ
room_of None free = free + 1
room_of (Some x) free = free

-- what contracts see of such a list
abbrev pub shown : {T : Type 0} → Inside T → Listed T
shown r = record { items = items_of r.first r.rest.items; spare = room_of r.first r.free }

-- nothing stands behind a missing first item, and there is room
abbrev pub IsHeld : {T : Type 0} → Inside T → Type 0
IsHeld r = (deque_len r.rest + r.free ≤ deque_capacity r.rest) × (r.first ≡ None → r.rest.items ≡ [])
