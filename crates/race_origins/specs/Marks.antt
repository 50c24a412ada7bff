-- Marked strands, and what paths have to do with them.
use Rattle.std.specs.Prelude.{◌≡◌, ℕ, Bool, true, false, not, ◌&&◌, List, map, slice_index_or, All, count_by}
use Rattle.fut_base.specs.Dag.{ReachesBy}
use Rattle.race_origins.specs.declared.edges.Edge.{Edge}
use Rattle.race_origins.specs.Edges.{ends_of}

-- whether a strand is marked
abbrev pub has : List Bool → ℕ → Bool
has marks v = slice_index_or marks v false

-- the edge leads from a strand that is not marked to one that is
abbrev pub adds : List Bool → Edge → Bool
adds marks e = has marks e.to && not (has marks e.from)

-- how many are not marked
abbrev pub unmarked : List Bool → ℕ
unmarked marks = count_by not marks

-- an edge that leads to a marked strand begins at one
abbrev pub IsClosed : List Edge → List Bool → Type 0
IsClosed edges marks = All (λ e. has marks e.to ≡ true → has marks e.from ≡ true) edges

-- paths lead from each marked strand to this one
abbrev pub OnlyReaching : List Edge → ℕ → List Bool → Type 0
OnlyReaching edges end marks = (v : ℕ) → has marks v ≡ true → ReachesBy (map ends_of edges) v end
