-- Laws of the definitions.
use Rattle.std.specs.Prelude.{◌≡◌, ℕ, ◌+◌, ◌<◌, List, slice_get, Some}
use Rattle.fut_base.specs.declared.event.Event.{Event}
use Rattle.fut_base.specs.declared.record.Race.{Race}
use Rattle.fut_base.specs.Racing.{IsReport}
use Rattle.fut_syntax.specs.Trees as tree
use Rattle.task_machine.specs.Texts.{CellArray, cell_arrays, cell_count}
use Rattle.race_report.specs.Brief.{element_name, cell_name}

-- a history has at most one report
abbrev pub OneReport : Type 0
OneReport = (h : List Event) (xs ys : List Race) → IsReport h xs → IsReport h ys → xs ≡ ys

-- a text names an array of these, and an index in it, that together are this cell
pub record IsNameOf (arrays : List CellArray) (cell : ℕ) (text : List ℕ) : Type 0 where
  pub place : ℕ
  pub array : CellArray
  pub index : ℕ
  pub stands : slice_get arrays place ≡ Some array
  pub is_cell : array.first + index ≡ cell
  pub within : index < array.length
  pub text_is : text ≡ element_name array index

-- each cell of a program has a name
abbrev pub CellsAreNamed : Type 0
CellsAreNamed = (P : tree.Program) (cell : ℕ) → cell < cell_count P → IsNameOf (cell_arrays P) cell (cell_name (cell_arrays P) cell)
