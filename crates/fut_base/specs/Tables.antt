-- The table of a strand: strands of other futures by which it is reached. Lists of events called `past` have the newest event first.
use Rattle.std.specs.Prelude.{ℕ, ◌==◌, not, ◌&&◌, ◌||◌, if◌then◌else◌, List, [], ◌∷◌, ◌++◌, reverse, filter, flat_map, filter_map}
use Rattle.std.specs.List.{list_any}
use Rattle.fut_base.specs.Events.{Event, Action, Spawns, Creates, Syncs, Gets}
use Rattle.fut_base.specs.Dag.{last_of, block_of}
use Rattle.fut_base.specs.Orders.{precedes_past, is_in}
use Rattle.fut_base.specs.Sound.{future_of, home_of}

-- without repetition, the last of each kept
abbrev pub once_each : List ℕ → List ℕ
once_each [] = []
once_each (x ∷ xs) = if is_in x xs then once_each xs else x ∷ once_each xs

-- the strands of other futures than `own`, without those that precede another of the same future
abbrev pub maximal : List Event → ℕ → List ℕ → List ℕ
maximal past own us =
    let others = filter (λ u. not (home_of past u == own)) us in
    once_each (filter (λ u. not (list_any (λ w. (home_of past w == home_of past u) && precedes_past past u w) others)) others)

-- the last strands of those of these tasks that have ended
abbrev pub lasts_of : List Event → List ℕ → List ℕ
lasts_of past tasks = filter_map (λ t. last_of past t) tasks

-- the table of a strand that an event makes, by the tables before the event
abbrev pub table_by : List Event → (ℕ → List ℕ) → Event → Action → ℕ → List ℕ
table_by past old e (Spawns _ _ kid cont _) v = if (v == kid) || (v == cont) then old e.strand else old v
table_by past old e (Creates _ _ kid cont _) v = if v == kid then e.strand ∷ old e.strand else (if v == cont then old e.strand else old v)
table_by past old e (Syncs strand) v =
    if v == strand then maximal past (future_of past e.task) (old e.strand ++ flat_map old (lasts_of past (block_of past e.task))) else old v
table_by past old e (Gets future _ strand) v =
    if v == strand then maximal past (future_of past e.task) (old e.strand ++ flat_map (λ l. l ∷ old l) (lasts_of past (future ∷ []))) else old v
table_by past old e _ v = old v

-- the table of a strand after all these events
abbrev pub table_past : List Event → ℕ → List ℕ
table_past [] v = []
table_past (e ∷ past) v = table_by past (table_past past) e e.action v

-- the table of a strand in a structure
abbrev pub table_of : List Event → ℕ → List ℕ
table_of s v = table_past (reverse s) v
