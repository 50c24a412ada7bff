-- Laws of the definitions.
use Rattle.std.specs.Prelude.{ℕ, ◌<◌, List, ◌∷◌}
use Rattle.fut_base.specs.Events.{Event}
use Rattle.fut_base.specs.Dag.{edges_past, Among, ReachesBy}
use Rattle.fut_base.specs.Sound.{IsSoundPast, next_strand}

-- each edge leads to a later strand
abbrev pub EdgesRise : Type 0
EdgesRise = (past : List Event) → IsSoundPast past → (a b : ℕ) → Among (a, b) (edges_past past) → (a < b) × (b < next_strand past)

-- a further event leads to no strand that was there
abbrev pub PathsStay : Type 0
PathsStay = (past : List Event) (e : Event) → IsSoundPast (e ∷ past) → (u v : ℕ) → v < next_strand past
    → ReachesBy (edges_past (e ∷ past)) u v → ReachesBy (edges_past past) u v
