-- What becomes of the reads that are kept where one more is kept.
use Rattle.std.specs.Prelude.{◌≡◌, ℕ, ◌<◌, Bool, true, List, [], ◌∷◌, ◌++◌, ◌⊎◌}
use Rattle.fut_base.specs.declared.event.Event.{Event}
use Rattle.fut_base.specs.Dag.{Among, ReachesBy, edges_of}
use Rattle.fut_base.specs.Orders.{stands_before}
use Rattle.strand_tree.specs.declared.strand.Strand.{Strand}
use Rattle.access_shards.specs.declared.kept.Access.{Access}
use Rattle.access_shards.specs.Kept.{IsViewOf}
use Rattle.access_shards.specs.Finding.{IsApart, AreOf, AreThoseApart}
use Rattle.access_shards.specs.Logged.{Logged, reads_of, RiseInEnglish, AreSorted}

-- a strand is of the future of another one, and is it or stands before it in a list
pub record IsNotAfter (english : List ℕ) (u v : Strand) : Type 0 where
  pub future_is : u.future ≡ v.future
  pub first : (u.number ≡ v.number) ⊎ (stands_before u.number v.number english ≡ true)

-- the last of these accesses, where there is one, is on such a strand
abbrev pub EndsBefore : List ℕ → Strand → List Access → Type 0
EndsBefore english at all = (before : List Access) (last : Access) → all ≡ before ++ last ∷ [] → IsNotAfter english last.strand at

-- a strand comes after the reads of a log in the English order of one future: they are said to rise, and the last of them
-- is on such a strand
pub record ComesAfter (english : List ℕ) (at : Strand) (l : Logged) : Type 0 where
  pub rise_is : l.rise ≡ true
  pub last : EndsBefore english at (reads_of l.kept)

-- no path leads from an access to a later one
abbrev pub AreApart : List Event → List Access → Type 0
AreApart s all = (a b : Access) → Among a all → Among b all → a.place < b.place → ReachesBy (edges_of s) a.strand.number b.strand.number → ⊥

-- no path leads from an access to another strand of these
abbrev pub AreUnjoined : List Event → List Access → Type 0
AreUnjoined s all = (a b : Access) → Among a all → Among b all → (a.strand.number ≡ b.strand.number → ⊥)
    → ReachesBy (edges_of s) a.strand.number b.strand.number → ⊥

-- accesses as they are kept of reads, which rise in the English order where this is said of them, and else are listed in it
-- where there is such a list
pub record AreReads (s : List Event) (all : List Access) (rise : Bool) (sorted : List Access) : Type 0 where
  pub of : AreOf s all
  pub apart : AreApart s all
  pub unjoined : AreUnjoined s all
  pub rising : rise ≡ true → RiseInEnglish s all
  pub listed : AreSorted s all sorted

-- those of the accesses from which the strand of a new one is not reached, and the new one
pub record IsOneMore (s : List Event) (new : Access) (old after : List Access) : Type 0 where
  pub left : List Access
  pub those : AreThoseApart s new.strand old left
  pub after_is : after ≡ left ++ new ∷ []

abbrev pub KeepsAll : List Strand → Access → ℕ → List ℕ → List ℕ → List Access → List Access → Type 0
KeepsAll table new known english hebrew old after =
    (s : List Event) → IsViewOf s table new.strand known english hebrew → AreOf s old → IsOneMore s new old after

-- the same of accesses that are kept of reads, all of them before the new one; and what is said of the new list holds
abbrev pub KeepsRead : List Strand → Access → ℕ → List ℕ → List ℕ → Bool → List Access → List Access → Bool → List Access → List Access → Type 0
KeepsRead table new known english hebrew rise old sorted rise' after sorted' =
    (s : List Event) → IsViewOf s table new.strand known english hebrew → AreReads s old rise sorted → ((a : Access) → Among a old → a.place < new.place)
    → IsOneMore s new old after × (rise' ≡ true → RiseInEnglish s after) × AreSorted s after sorted'
