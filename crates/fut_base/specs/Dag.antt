-- The dag of a run. Lists of events called `past` have the newest event first.
use Rattle.std.specs.Prelude.{◌≡◌, ℕ, ◌==◌, Bool, true, false, ◌&&◌, if◌then◌else◌, List, [], ◌∷◌}
use Rattle.std.specs.Prelude.{◌++◌, reverse, filter_map, Option, Some, None, option_map, ◌⊎◌}
use Rattle.fut_base.specs.Events.{Event, Action, Reads, Writes, Spawns, Creates, Syncs, Gets, Ends}

-- an action with which a task ends
abbrev pub ends : Action → Bool
ends (Ends _) = true
ends _ = false

-- the last strand of a task, where it has ended
abbrev pub last_of : List Event → ℕ → Option ℕ
last_of [] t = None
last_of (e ∷ past) t = if (t == e.task) && ends e.action then Some e.strand else last_of past t

-- a task's block after it acts
abbrev pub block_after : Action → List ℕ → List ℕ
block_after (Spawns _ child _ _ _) block = block ++ child ∷ []
block_after (Syncs _) block = []
block_after _ block = block

-- the children that a task has spawned since its last sync, the first of them first
abbrev pub block_of : List Event → ℕ → List ℕ
block_of [] t = []
block_of (e ∷ past) t = if t == e.task then block_after e.action (block_of past t) else block_of past t

-- the edges from the last strands of these tasks
abbrev pub joins : List Event → List ℕ → ℕ → List (ℕ × ℕ)
joins past tasks strand = filter_map (λ t. option_map (λ last. (last, strand)) (last_of past t)) tasks

-- the edges that an action makes, from the strand on which it stands
abbrev pub edges_by : List Event → ℕ → ℕ → Action → List (ℕ × ℕ)
edges_by past task from (Reads _ _) = []
edges_by past task from (Writes _ _) = []
edges_by past task from (Spawns _ _ kid cont _) = (from, kid) ∷ (from, cont) ∷ []
edges_by past task from (Creates _ _ kid cont _) = (from, kid) ∷ (from, cont) ∷ []
edges_by past task from (Syncs strand) = (from, strand) ∷ joins past (block_of past task) strand
edges_by past task from (Gets future _ strand) = (from, strand) ∷ joins past (future ∷ []) strand
edges_by past task from (Ends _) = []

-- the edges that all these events make, those of the first event first
abbrev pub edges_past : List Event → List (ℕ × ℕ)
edges_past [] = []
edges_past (e ∷ past) = edges_past past ++ edges_by past e.task e.strand e.action

-- the edges of a history
abbrev pub edges_of : List Event → List (ℕ × ℕ)
edges_of h = edges_past (reverse h)

-- x is one of the list
abbrev pub Among : {X : Type 0} → X → List X → Type 0
Among x [] = ⊥
Among x (y ∷ ys) = (y ≡ x) ⊎ Among x ys

-- these edges lead from one strand to another, each beginning where the one before ends
abbrev pub IsPath : List (ℕ × ℕ) → List (ℕ × ℕ) → ℕ → ℕ → Type 0
IsPath es [] u v = u ≡ v
IsPath es (e ∷ path) u v = Among e es × (e.0 ≡ u) × IsPath es path e.1 v

-- one strand is the other, or a path of these edges leads from it to the other
abbrev pub ReachesBy : List (ℕ × ℕ) → ℕ → ℕ → Type 0
ReachesBy es u v = (path : List (ℕ × ℕ)) × IsPath es path u v

-- a path of these edges leads one way or the other
abbrev pub AreJoinedBy : List (ℕ × ℕ) → ℕ → ℕ → Type 0
AreJoinedBy es u v = ReachesBy es u v ⊎ ReachesBy es v u

-- in a history one strand is the other, or a path leads from it to the other
abbrev pub Reaches : List Event → ℕ → ℕ → Type 0
Reaches h u v = ReachesBy (edges_of h) u v

-- in a history a path leads one way or the other
abbrev pub AreJoined : List Event → ℕ → ℕ → Type 0
AreJoined h u v = AreJoinedBy (edges_of h) u v
