-- What one task's event does to what is remembered.
use Rattle.std.specs.Prelude.{◌≡◌, ℕ, List, ◌∷◌, reverse, slice_get, Option, Some}
use Rattle.fut_base.specs.declared.record.Value.{Value}
use Rattle.fut_base.specs.declared.event.Event.{Event}
use Rattle.fut_base.specs.declared.event.Action.TheVariants.{Spawns, Creates, Syncs, Gets}
use Rattle.fut_base.specs.Dag.{block_of}
use Rattle.fut_base.specs.Sound.{IsSound, AllEnded}
use Rattle.fut_base.specs.Tables.{lasts_of}
use Rattle.strand_tree.specs.Placing.{AreOrders, IsLastOfFirst}
use Rattle.strand_tree.specs.declared.strand.Strand.{Strand}
use Rattle.reach_table.specs.Tabled.{and_then}
use Rattle.reach_table.specs.Telling.{HasTable}
use Rattle.reach_table.specs.Merging.{IsMergedOf}
use Rattle.race_finder.specs.declared.track.Track.{Track}
use Rattle.race_finder.specs.declared.forks.Fork.{Fork}
use Rattle.race_finder.specs.declared.forks.Fork.TheVariants as fork
use Rattle.race_finder.specs.Places.{Placed}
use Rattle.race_finder.specs.Finding.{IsTrackOf, AreTracksOf}

-- two lists are the orders of these events, and a task and its child are what is remembered of them
pub record AreForked (s : List Event) (places : Placed) (task child : ℕ) (track kid : Track) : Type 0 where
  pub orders : AreOrders s places.english places.hebrew
  pub acting : IsTrackOf s task track
  pub made : IsTrackOf s child kid

-- where a task spawns this child after some structural events, what was right of these is right with the spawn
abbrev pub SpawnsOne : Placed → Track → ℕ → Placed → Track → Track → Type 0
SpawnsOne places track child places' track' kid =
    (s : List Event) (task code : ℕ) (args : List Value) → IsSound (and_then s task track.at.number (Spawns code child kid.at.number track'.at.number args))
    → AreOrders s places.english places.hebrew → IsTrackOf s task track
    → AreForked (and_then s task track.at.number (Spawns code child kid.at.number track'.at.number args)) places' task child track' kid

-- the same where it creates a future
abbrev pub CreatesOne : Placed → Track → ℕ → Placed → Track → Track → Type 0
CreatesOne places track child places' track' kid =
    (s : List Event) (task code : ℕ) (args : List Value) → IsSound (and_then s task track.at.number (Creates code child kid.at.number track'.at.number args))
    → AreOrders s places.english places.hebrew → IsTrackOf s task track
    → AreForked (and_then s task track.at.number (Creates code child kid.at.number track'.at.number args)) places' task child track' kid

-- the same where it forks so
abbrev pub ForksOne : Fork → Placed → Track → ℕ → Placed → Track → Track → Type 0
ForksOne fork.Spawn places track child places' track' kid = SpawnsOne places track child places' track' kid
ForksOne fork.Create places track child places' track' kid = CreatesOne places track child places' track' kid

-- a task is remembered as before, but for its list's room
pub record IsSameTrack (old new : Track) : Type 0 where
  pub at_is : new.at ≡ old.at
  pub table_is : new.reach ≡ old.reach
  pub block_is : new.block.items ≡ old.block.items
  pub ended_is : new.ended ≡ old.ended

-- two lists are the orders of these events, and this is remembered of a task
pub record AreJoined (s : List Event) (places : Placed) (task : ℕ) (track : Track) : Type 0 where
  pub orders : AreOrders s places.english places.hebrew
  pub acting : IsTrackOf s task track

-- where a task goes on after a get, on a strand with this table, what was right of the events before is right with the get
abbrev pub GetsOne : Placed → Track → List Strand → Placed → Track → Type 0
GetsOne places track table places' track' =
    (s : List Event) (task future : ℕ) (value : Value) → IsSound (and_then s task track.at.number (Gets future value track'.at.number))
    → AreOrders s places.english places.hebrew → IsTrackOf s task track
    → HasTable (and_then s task track.at.number (Gets future value track'.at.number)) track'.at.number table
    → AreJoined (and_then s task track.at.number (Gets future value track'.at.number)) places' task track'

-- the same where it goes on after a sync, and this is the last strand of its block's first child
abbrev pub SyncsOne : Placed → Track → List Strand → Option Strand → Placed → Track → Type 0
SyncsOne places track table last places' track' =
    (s : List Event) (task : ℕ) → IsSound (and_then s task track.at.number (Syncs track'.at.number))
    → AreOrders s places.english places.hebrew → IsTrackOf s task track → IsLastOfFirst s task last
    → HasTable (and_then s task track.at.number (Syncs track'.at.number)) track'.at.number table
    → AreJoined (and_then s task track.at.number (Syncs track'.at.number)) places' task track'

-- two lists and tasks are those of some sound structural events
pub record AreOf (s : List Event) (places : Placed) (tracks : List Track) : Type 0 where
  pub sound : IsSound s
  pub orders : AreOrders s places.english places.hebrew
  pub tasks : AreTracksOf s tracks

-- after a get of a future, the task's new strand has this table
abbrev pub TableAfterGet : Placed → List Track → ℕ → ℕ → List Strand → Type 0
TableAfterGet places tracks task future table =
    (s : List Event) (value : Value) (strand : ℕ) (d : Track) → AreOf s places tracks → slice_get tracks task ≡ Some d
    → IsSound (and_then s task d.at.number (Gets future value strand)) → HasTable (and_then s task d.at.number (Gets future value strand)) strand table

-- a task may sync: the children of its block have ended
pub record MaySync (s : List Event) (places : Placed) (tracks : List Track) (task : ℕ) : Type 0 where
  pub of : AreOf s places tracks
  pub ended : AllEnded (reverse s) (block_of (reverse s) task)

-- what the tables of a task's strand and of the last strands of its block's children leave
abbrev pub TableOfBlock : Placed → List Track → ℕ → List Strand → Type 0
TableOfBlock places tracks task table =
    (s : List Event) (d : Track) → MaySync s places tracks task → slice_get tracks task ≡ Some d
    → IsMergedOf s d.at.future (d.at.number ∷ lasts_of (reverse s) (block_of (reverse s) task)) table
