-- Edges in the code, and what the next ones need of the tasks.
use Rattle.std.specs.Prelude.{◌≡◌, ℕ, List, [], map, reverse, Option, None, Some, option_map}
use Rattle.std.specs.List.{cons_option}
use Rattle.std.specs.Ordering.{nat_cmp}
use Rattle.std.proofs.Common.{Vec, Global}
use Rattle.std.specs.BTreeMap.{BTreeMap, get}
use Rattle.fut_base.specs.declared.record.Entry.{Entry}
use Rattle.fut_base.specs.declared.event.Event.{Event}
use Rattle.fut_base.specs.Events.{event_of}
use Rattle.fut_base.specs.Dag.{last_of, block_of}
use Rattle.race_origins.specs.declared.edges.Edge.{Edge}
use Rattle.race_origins.specs.declared.tasks.Tasks.{Tasks}

-- the events of some entries, the newest first
abbrev pub past_of : List Entry → List Event
past_of entries = reverse (map event_of entries)

-- the strands that an edge joins
abbrev pub ends_of : Edge → ℕ × ℕ
ends_of e = (e.from, e.to)

-- the edge from a task's last strand, where it has one
abbrev pub join_from : Option ℕ → ℕ → List (ℕ × ℕ)
join_from last strand = cons_option (option_map (λ l. (l, strand)) last) []

-- the last strand of a task, where the map has it
abbrev pub last_in : BTreeMap ℕ ℕ → ℕ → Option ℕ
last_in lasts t = get nat_cmp lasts t

-- a block that may be missing because it is empty
abbrev pub block_items : Option (Vec ℕ Global) → List ℕ
block_items None = []
block_items (Some block) = block.items

-- the children of a task, which the map has where there are any
abbrev pub children_in : BTreeMap ℕ (Vec ℕ Global) → ℕ → List ℕ
children_in blocks t = block_items (get nat_cmp blocks t)

-- the last strand and the block of each task after these events
pub record AreTasksOf (past : List Event) (tasks : Tasks) : Type 0 where
  pub lasts : (t : ℕ) → last_in tasks.lasts t ≡ last_of past t
  pub blocks : (t : ℕ) → children_in tasks.blocks t ≡ block_of past t
