-- What is found among kept accesses before one more is kept.
use Rattle.std.specs.Prelude.{◌≡◌, ℕ, ◌<◌, ◌≤◌, List, [], ◌∷◌, ◌++◌, ◌↔◌, ◌⊎◌, Option, Some, None}
use Rattle.fut_base.specs.declared.event.Event.{Event}
use Rattle.fut_base.specs.Dag.{Among, ReachesBy, edges_of}
use Rattle.strand_tree.specs.declared.strand.Strand.{Strand}
use Rattle.strand_tree.specs.Placing.{IsStrandOf}
use Rattle.access_shards.specs.declared.kept.Access.{Access}
use Rattle.access_shards.specs.Kept.{IsInOrder, IsViewOf}

-- a strand is not reached from that of an access
abbrev pub IsApart : List Event → Strand → Access → Type 0
IsApart s at a = ReachesBy (edges_of s) a.strand.number at.number → ⊥

-- the place of the last of these accesses from which a strand is not reached, or that it is reached from each
abbrev pub IsLastApart : List Event → Strand → List Access → Option ℕ → Type 0
IsLastApart s at all None = (a : Access) → Among a all → ReachesBy (edges_of s) a.strand.number at.number
IsLastApart s at all (Some place) = (a : Access) × Among a all × (a.place ≡ place) × IsApart s at
    a × ((b : Access) → Among b all → IsApart s at b → b.place ≤ a.place)

-- accesses in order, each on a strand of these structural events
pub record AreOf (s : List Event) (all : List Access) : Type 0 where
  pub order : IsInOrder all
  pub strands : (a : Access) → Among a all → IsStrandOf s a.strand

-- for any structural events of which this is a view, and which have the strands of these accesses
abbrev pub FindsLast : List Strand → Strand → ℕ → List ℕ → List ℕ → List Access → Option ℕ → Type 0
FindsLast table at known english hebrew all found =
    (s : List Event) → IsViewOf s table at known english hebrew → AreOf s all → IsLastApart s at all found

-- those of the accesses from which a strand is not reached, in order
pub record AreThoseApart (s : List Event) (at : Strand) (all left : List Access) : Type 0 where
  pub those : (a : Access) → Among a left ↔ (Among a all × IsApart s at a)
  pub order : IsInOrder left

abbrev pub FindsApart : List Strand → Strand → ℕ → List ℕ → List ℕ → List Access → List Access → Type 0
FindsApart table at known english hebrew all left =
    (s : List Event) → IsViewOf s table at known english hebrew → AreOf s all → AreThoseApart s at all left

-- each access is on a strand that is known
abbrev pub AllOnKnown : ℕ → List Access → Type 0
AllOnKnown known all = (a : Access) → Among a all → a.strand.number < known

-- the place of an access from which a strand is not reached, or else what was found before
abbrev pub LooksOn : List Strand → Strand → ℕ → List ℕ → List ℕ → Access → Option ℕ → Option ℕ → Type 0
LooksOn table at known english hebrew a found next =
    (s : List Event) → IsViewOf s table at known english hebrew → IsStrandOf s a.strand
    → (ReachesBy (edges_of s) a.strand.number at.number × (next ≡ found)) ⊎ (IsApart s at a × (next ≡ Some a.place))

-- an access from which a strand is not reached is added
abbrev pub KeepsApart : List Strand → Strand → ℕ → List ℕ → List ℕ → Access → List Access → List Access → Type 0
KeepsApart table at known english hebrew a old new =
    (s : List Event) → IsViewOf s table at known english hebrew → IsStrandOf s a.strand
    → (ReachesBy (edges_of s) a.strand.number at.number × (new ≡ old)) ⊎ (IsApart s at a × (new ≡ old ++ a ∷ []))
