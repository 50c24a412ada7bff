-- Runs worked out by hand, and what the definitions make of them.
use Rattle.std.specs.Prelude.{◌≡◌, ℕ, pos, true, false, List, [], ◌∷◌}
use Rattle.fut_base.specs.declared.record.Value.TheVariants.{Int, Fut}
use Rattle.fut_base.specs.Events.{Event, Action, Reads, Writes, Spawns, Creates, Syncs, Gets, Ends, structure_of}
use Rattle.fut_base.specs.Dag.{edges_of, Reaches, AreJoined}
use Rattle.fut_base.specs.Racing.{PlacesRace, IsFirstPair}
use Rattle.fut_base.specs.Orders.{english_of, hebrew_of, precedes}
use Rattle.fut_base.specs.Sound.{IsSound}
use Rattle.fut_base.specs.Tables.{table_of}

-- an event of a task on a strand
abbrev pub ev : ℕ → ℕ → Action → Event
ev task strand action = record { task = task; strand = strand; action = action }

-- a child writes, and then its parent, before the sync
abbrev pub spawn_run : List Event
spawn_run =
    ev 0 0 (Spawns 0 1 1 2 []) ∷ ev 1 1 (Writes 0 (pos 1)) ∷ ev 1 1 (Ends (Int (pos 0)))
    ∷ ev 0 2 (Writes 0 (pos 2)) ∷ ev 0 2 (Syncs 3) ∷ ev 0 3 (Ends (Int (pos 0))) ∷ []

-- the same, with the parent's write after the sync
abbrev pub sync_run : List Event
sync_run =
    ev 0 0 (Spawns 0 1 1 2 []) ∷ ev 1 1 (Writes 0 (pos 1)) ∷ ev 1 1 (Ends (Int (pos 0)))
    ∷ ev 0 2 (Syncs 3) ∷ ev 0 3 (Writes 0 (pos 2)) ∷ ev 0 3 (Ends (Int (pos 0))) ∷ []

-- a future, which the sync does not join
abbrev pub future_run : List Event
future_run =
    ev 0 0 (Creates 0 1 1 2 []) ∷ ev 1 1 (Writes 0 (pos 1)) ∷ ev 1 1 (Ends (Int (pos 7)))
    ∷ ev 0 2 (Syncs 3) ∷ ev 0 3 (Writes 0 (pos 2)) ∷ ev 0 3 (Ends (Int (pos 0))) ∷ []

-- a path through the ends of two futures
abbrev pub chain_run : List Event
chain_run =
    ev 0 0 (Creates 0 1 1 2 []) ∷ ev 1 1 (Writes 0 (pos 1)) ∷ ev 1 1 (Ends (Int (pos 1)))
    ∷ ev 0 2 (Creates 1 2 3 4 (Fut 1 ∷ [])) ∷ ev 2 3 (Gets 1 (Int (pos 1)) 5) ∷ ev 2 5 (Ends (Int (pos 1)))
    ∷ ev 0 4 (Gets 2 (Int (pos 1)) 6) ∷ ev 0 6 (Writes 0 (pos 2)) ∷ ev 0 6 (Ends (Int (pos 1))) ∷ []

-- three children read, and a fourth writes
abbrev pub readers_run : List Event
readers_run =
    ev 0 0 (Spawns 0 1 1 2 []) ∷ ev 1 1 (Reads 0 (pos 0)) ∷ ev 1 1 (Ends (Int (pos 0)))
    ∷ ev 0 2 (Spawns 0 2 3 4 []) ∷ ev 2 3 (Reads 0 (pos 0)) ∷ ev 2 3 (Ends (Int (pos 0)))
    ∷ ev 0 4 (Spawns 0 3 5 6 []) ∷ ev 3 5 (Reads 0 (pos 0)) ∷ ev 3 5 (Ends (Int (pos 0)))
    ∷ ev 0 6 (Spawns 1 4 7 8 []) ∷ ev 4 7 (Writes 0 (pos 1)) ∷ ev 4 7 (Ends (Int (pos 0)))
    ∷ ev 0 8 (Syncs 9) ∷ ev 0 9 (Ends (Int (pos 0))) ∷ []

-- a child reads on two strands, and another writes
abbrev pub twice_run : List Event
twice_run =
    ev 0 0 (Spawns 0 1 1 2 []) ∷ ev 1 1 (Reads 0 (pos 0)) ∷ ev 1 1 (Syncs 3) ∷ ev 1 3 (Reads 0 (pos 0)) ∷ ev 1 3 (Ends (Int (pos 0)))
    ∷ ev 0 2 (Spawns 1 2 4 5 []) ∷ ev 2 4 (Writes 0 (pos 1)) ∷ ev 2 4 (Ends (Int (pos 0)))
    ∷ ev 0 5 (Syncs 6) ∷ ev 0 6 (Ends (Int (pos 0))) ∷ []

-- what holds of the first run
pub record SpawnRow : Type 0 where
  pub edges_are : edges_of spawn_run ≡ (0, 1) ∷ (0, 2) ∷ (2, 3) ∷ (1, 3) ∷ []
  pub english_is : english_of (structure_of spawn_run) ≡ 0 ∷ 1 ∷ 2 ∷ 3 ∷ []
  pub hebrew_is : hebrew_of (structure_of spawn_run) ≡ 0 ∷ 2 ∷ 1 ∷ 3 ∷ []
  pub apart : (precedes (structure_of spawn_run) 1 2 ≡ false) × (precedes (structure_of spawn_run) 2 1 ≡ false)
  pub ordered : precedes (structure_of spawn_run) 1 3 ≡ true
  pub sound : IsSound (structure_of spawn_run)
  pub reaches : Reaches spawn_run 1 3
  pub not_joined : AreJoined spawn_run 1 2 → ⊥
  pub races : PlacesRace spawn_run 0 1 3

-- what holds of the next three runs
pub record OtherRows : Type 0 where
  pub after_sync : PlacesRace sync_run 0 1 4 → ⊥
  pub future : PlacesRace future_run 0 1 4
  pub chain_edges : edges_of chain_run ≡ (0, 1) ∷ (0, 2) ∷ (2, 3) ∷ (2, 4) ∷ (3, 5) ∷ (1, 5) ∷ (4, 6) ∷ (5, 6) ∷ []
  pub chain : Reaches chain_run 1 6
  pub sound : IsSound (structure_of chain_run)

-- the tables of the strands of the chain
pub record TableRow : Type 0 where
  pub one : table_of (structure_of chain_run) 1 ≡ 0 ∷ []
  pub two : table_of (structure_of chain_run) 2 ≡ []
  pub three : table_of (structure_of chain_run) 3 ≡ 2 ∷ []
  pub four : table_of (structure_of chain_run) 4 ≡ []
  pub five : table_of (structure_of chain_run) 5 ≡ 2 ∷ 1 ∷ []
  pub six : table_of (structure_of chain_run) 6 ≡ 5 ∷ 1 ∷ []

-- of several partners the last one is named
pub record FirstPairRows : Type 0 where
  pub readers : IsFirstPair readers_run 0 7 10
  pub twice : IsFirstPair twice_run 0 3 6
