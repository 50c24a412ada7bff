-- The cells and the tasks of a program.
use Rattle.std.specs.Prelude.{ℕ, ◌+◌, if◌then◌else◌, List, [], ◌∷◌, slice_get, Option, Some, None, unwrap_or, ℤ, bytes_eq, codes}
use Rattle.fut_syntax.specs.Trees as tree
use Rattle.fut_syntax.specs.Trees.{items_of}
use Rattle.task_machine.specs.Values.{index_of}

-- an array of cells: its name, the number of its first cell, and its length
pub record CellArray : Type 0 where
  pub name : List ℕ
  pub first : ℕ
  pub length : ℕ

-- a task of the text: its name, its parameters and its body
pub record TaskText : Type 0 where
  pub name : List ℕ
  pub params : List tree.Param
  pub body : tree.Block

-- the arrays of these items, the first cell of which has number n
abbrev pub arrays_from : ℕ → List tree.Item → List CellArray
arrays_from n [] = []
arrays_from n (tree.CellsOf name length ∷ rest) = record { name = name; first = n; length = length } ∷ arrays_from (n + length) rest
arrays_from n (tree.TaskOf _ _ _ _ ∷ rest) = arrays_from n rest

-- the arrays of cells in the order of the text
abbrev pub cell_arrays : tree.Program → List CellArray
cell_arrays P = arrays_from 0 (items_of P)

-- how many cells these items have
abbrev pub count_cells : List tree.Item → ℕ
count_cells [] = 0
count_cells (tree.CellsOf _ length ∷ rest) = length + count_cells rest
count_cells (tree.TaskOf _ _ _ _ ∷ rest) = count_cells rest

-- how many cells all arrays have together
abbrev pub cell_count : tree.Program → ℕ
cell_count P = count_cells (items_of P)

-- the tasks of these items, in order
abbrev pub tasks_from : List tree.Item → List TaskText
tasks_from [] = []
tasks_from (tree.CellsOf _ _ ∷ rest) = tasks_from rest
tasks_from (tree.TaskOf name params _ body ∷ rest) = record { name = name; params = params; body = body } ∷ tasks_from rest

-- the tasks in the order of the text
abbrev pub tasks_of : tree.Program → List TaskText
tasks_of P = tasks_from (items_of P)

-- the task of a number
abbrev pub task_at : tree.Program → ℕ → Option TaskText
task_at P n = slice_get (tasks_of P) n

-- the number of the first task of this name, counted from n
abbrev pub number_from : ℕ → List TaskText → List ℕ → Option ℕ
number_from n [] word = None
number_from n (t ∷ ts) word = if bytes_eq t.name word then Some n else number_from (n + 1) ts word

-- the place of the first task with a name, among the tasks of these items
abbrev pub find_task : List tree.Item → List ℕ → Option ℕ
find_task items word = number_from 0 (tasks_from items) word

-- the number of the task of this name
abbrev pub task_number : tree.Program → List ℕ → Option ℕ
task_number P word = find_task (items_of P) word

-- the place of `main`
abbrev pub main_of : tree.Program → ℕ
main_of P = unwrap_or (task_number P (codes "main")) 0

-- the number of the cell at an index of the first array with a name
abbrev pub find_cell : List CellArray → List ℕ → ℤ → Option ℕ
find_cell [] word z = None
find_cell (a ∷ rest) word z = if bytes_eq a.name word then Some (a.first + index_of a.length z) else find_cell rest word z

-- the cell at an index of the array of this name
abbrev pub cell_at : tree.Program → List ℕ → ℤ → Option ℕ
cell_at P word z = find_cell (cell_arrays P) word z

-- the statements of a block, in order
abbrev pub stmts_of : tree.Block → List tree.Stmt
stmts_of tree.Done = []
stmts_of (tree.Then s rest) = s ∷ stmts_of rest

-- the statements of the other branch
abbrev pub else_of : tree.Tail → List tree.Stmt
else_of tree.NoElse = []
else_of (tree.ElseOf b) = stmts_of b
