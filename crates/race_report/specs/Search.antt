-- Sets of strands, and what paths have to do with them.
use Rattle.std.specs.Prelude.{◌≡◌, ℕ, Bool, true, ◌||◌, List, map, reverse, All}
use Rattle.std.specs.Ordering.{nat_cmp}
use Rattle.std.specs.BTreeSet.{BTreeSet, contains}
use Rattle.fut_base.specs.declared.record.Entry.{Entry}
use Rattle.fut_base.specs.Dag.{ReachesBy, edges_past}
use Rattle.race_report.specs.declared.edges.Edge.{Edge}
use Rattle.race_report.specs.declared.search.Dag.{Dag}
use Rattle.race_report.specs.declared.search.Joined.{Joined}
use Rattle.race_report.specs.Edges.{ends_of, turn, past_of}

-- whether a strand is in the set
abbrev pub has : BTreeSet ℕ → ℕ → Bool
has set v = contains nat_cmp set v

-- a step that begins in the set ends in it
abbrev pub IsClosed : List Edge → BTreeSet ℕ → Type 0
IsClosed steps set = All (λ e. has set e.from ≡ true → has set e.to ≡ true) steps

-- paths lead from the start to each strand of the set
abbrev pub OnlyReached : List Edge → ℕ → BTreeSet ℕ → Type 0
OnlyReached steps start set = (v : ℕ) → has set v ≡ true → ReachesBy (map ends_of steps) start v

-- the strand reaches the one that was asked for, or is reached from it
abbrev pub is_joined : Joined → ℕ → Bool
is_joined joined v = has joined.before v || has joined.after v

-- the edges of some entries, both ways
pub record IsDagOf (entries : List Entry) (dag : Dag) : Type 0 where
  pub onward : map ends_of dag.onward.items ≡ edges_past (past_of entries)
  pub back : dag.back.items ≡ map turn (reverse dag.onward.items)
