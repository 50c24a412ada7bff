-- Arrays of cells by number.
use Rattle.std.specs.Prelude.{◌≡◌, ℕ, ◌+◌, ◌<◌, ◌≤◌, ◌⊎◌, if◌then◌else◌, List, [], ◌∷◌, slice_get, Option, Some, None, ℤ, bytes_eq, option_map}
use Rattle.fut_syntax.specs.Trees as tree
use Rattle.task_machine.specs.Texts.{CellArray}
use Rattle.task_machine.specs.Values.{index_of}

-- the place of the first array of this name, counted from n
abbrev pub array_from : ℕ → List CellArray → List ℕ → Option ℕ
array_from n [] word = None
array_from n (a ∷ rest) word = if bytes_eq a.name word then Some n else array_from (n + 1) rest word

-- the place of the first array with a name
abbrev pub find_array : List CellArray → List ℕ → Option ℕ
find_array arrays word = array_from 0 arrays word

-- the number of an array's cell at an index
abbrev pub cell_in : ℤ → CellArray → ℕ
cell_in z a = a.first + index_of a.length z

-- the cell at an index of the array at a place, where there is one
abbrev pub cell_for : List CellArray → Option ℕ → ℤ → Option ℕ
cell_for arrays None z = None
cell_for arrays (Some n) z = option_map (cell_in z) (slice_get arrays n)

-- the array at a place has this cell at an index
abbrev pub IsCellOf : List CellArray → ℕ → ℕ × ℕ → Type 0
IsCellOf arrays cell p = (a : CellArray) × (slice_get arrays p.0 ≡ Some a) × (a.first + p.1 ≡ cell) × (p.1 < a.length)

-- some array has this cell
abbrev pub HasCell : ℕ → List CellArray → Type 0
HasCell cell [] = ⊥
HasCell cell (a ∷ rest) = ((a.first ≤ cell) × (cell < a.first + a.length)) ⊎ HasCell cell rest

-- each array of cells among some items has a cell
abbrev pub EachHasCells : List tree.Item → Type 0
EachHasCells [] = Unit {0}
EachHasCells (tree.CellsOf name length ∷ rest) = (1 ≤ length) × EachHasCells rest
EachHasCells (tree.TaskOf name params depth body ∷ rest) = EachHasCells rest
