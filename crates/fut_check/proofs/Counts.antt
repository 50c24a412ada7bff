-- Counts of items with one more.
use Rattle.std.proofs.Common.{◌≡◌, ◌+◌, List, [], ◌∷◌, ◌++◌, arith}
use Rattle.fut_syntax.specs.Trees.{Item, CellsOf, TaskOf}
use Rattle.fut_rules.specs.Names.{tasks, cells}

pub tasks_more : (is : List Item) (i : Item) → tasks (is ++ i ∷ []) ≡ tasks is + tasks (i ∷ [])
tasks_more [] i = omega arith
tasks_more (CellsOf w n ∷ is) i = tasks_more is i
tasks_more (TaskOf w ps d b ∷ is) i = omega (arith, tasks_more is i)

pub cells_more : (is : List Item) (i : Item) → cells (is ++ i ∷ []) ≡ cells is + cells (i ∷ [])
cells_more [] i = omega arith
cells_more (CellsOf w n ∷ is) i = omega (arith, cells_more is i)
cells_more (TaskOf w ps d b ∷ is) i = cells_more is i
