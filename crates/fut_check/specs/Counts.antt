-- What is counted of the items so far.
use Rattle.std.specs.Prelude.{◌≡◌, ◌-◌, ◌^◌, min, List}
use Rattle.fut_syntax.specs.Trees.{Item}
use Rattle.fut_check.specs.declared.items.Counts.{Counts}
use Rattle.fut_rules.specs.Names.{tasks, cells}

-- these are the counts of some items; cells are counted up to the greatest number
pub record AreCounts (before : List Item) (counts : Counts) : Type 0 where
  pub tasks_are : counts.tasks ≡ tasks before
  pub cells_are : counts.cells ≡ min (cells before) (2 ^ 64 - 1)
