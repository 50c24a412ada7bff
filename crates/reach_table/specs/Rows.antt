-- What the tables of a run that was worked out by hand tell.
use Rattle.std.specs.Prelude.{◌≡◌, true, List, reverse}
use Rattle.fut_base.specs.declared.event.Event.{Event}
use Rattle.fut_base.specs.Events.{structure_of}
use Rattle.fut_base.specs.Orders.{precedes_past}
use Rattle.fut_base.specs.Rows.{chain_run}
use Rattle.fut_base.specs.Sound.{home_of}
use Rattle.fut_base.specs.Tables.{table_past}
use Rattle.strand_laws.specs.Laws.{Covers}

abbrev pub chain_past : List Event
chain_past = reverse (structure_of chain_run)

-- strand 1 of the first future reaches strand 6 by its table, and strand 0 of its own future by the orders; strand 4
-- does not reach strand 5 of the second future
pub record ChainTells : Type 0 where
  pub one_to_six : Covers chain_past (table_past chain_past 6) 1
  pub zero_to_six : (home_of chain_past 0 ≡ home_of chain_past 6) × (precedes_past chain_past 0 6 ≡ true)
  pub four_to_five : Covers chain_past (table_past chain_past 5) 4 → ⊥
