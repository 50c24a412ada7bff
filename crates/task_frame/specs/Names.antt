-- The variables of a task by name.
use Rattle.std.specs.Prelude.{◌≡◌, ℕ, ◌+◌, ◌≤◌, if◌then◌else◌, List, [], ◌∷◌, length, map, max, slice_index, Option, Some, None, bytes_eq}
use Rattle.fut_syntax.specs.Trees as tree
use Rattle.task_machine.specs.Variables.{Slot, Variables, slot_at}
use Rattle.task_frame.specs.declared.names.Name.{Name}
use Rattle.task_frame.specs.Frames.{slot_for}

-- the place of the first such name, counted from n
abbrev pub find_from : ℕ → List Name → List ℕ → Option ℕ
find_from n [] word = None
find_from n (d ∷ ds) word = if bytes_eq d.word word then Some n else find_from (n + 1) ds word

-- the number of the first variable of this name
abbrev pub find_name : List Name → List ℕ → Option ℕ
find_name names word = find_from 0 names word

-- for how many values each variable has room
abbrev pub rooms_by : List Name → List ℕ
rooms_by names = map (λ (d : Name). max 1 d.room) names

-- the numbered variables hold what the named ones do: what no name of the task means is 0
pub record Holds (names : List Name) (vars : Variables) (slots : List Slot) : Type 0 where
  pub each : (w : List ℕ) → slot_at vars w ≡ slot_for slots (find_name names w)
  pub long : length slots ≡ length names

-- a variable has room for what this type holds
abbrev pub HasRoom : List ℕ → ℕ → tree.VarType → Type 0
HasRoom rooms n (tree.Plain _) = Unit {0}
HasRoom rooms n (tree.Array _ k) = k ≤ slice_index rooms n
