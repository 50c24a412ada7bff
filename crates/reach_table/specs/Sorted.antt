-- How the strands of a table are sorted, and where in it a future stands.
use Rattle.std.specs.Prelude.{◌≡◌, ◌<◌, List, [], ◌∷◌, ◌⊎◌}
use Rattle.fut_base.specs.Dag.{Among}
use Rattle.strand_tree.specs.declared.strand.Strand.{Strand}

-- by future, and within one future by number
abbrev pub IsBelow : Strand → Strand → Type 0
IsBelow x y = (x.future < y.future) ⊎ ((x.future ≡ y.future) × (x.number < y.number))

-- each is below all after it
abbrev pub IsRising : List Strand → Type 0
IsRising [] = Unit {0}
IsRising (x ∷ xs) = ((y : Strand) → Among y xs → IsBelow x y) × IsRising xs
