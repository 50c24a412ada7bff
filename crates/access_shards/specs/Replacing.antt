-- What becomes of the reads that are kept, in the order of places, where those of a run in another order are dropped.
use Rattle.std.specs.Prelude.{◌≡◌, ℕ, ◌<◌, ◌≤◌, Bool, true, false, ◌↔◌, List, [], ◌∷◌, ◌++◌, ◌⊎◌, vec_len, vec_capacity}
use Rattle.std.proofs.Common.{Vec, Global}
use Rattle.fut_base.specs.Dag.{Among}
use Rattle.access_shards.specs.declared.kept.Access.{Access}
use Rattle.access_shards.specs.declared.kept.Kept.{Kept}
use Rattle.access_shards.specs.declared.kept.Kept.TheVariants.{Clean, Found}
use Rattle.access_shards.specs.Kept.{IsInOrder}
use Rattle.access_shards.specs.Runs.{access_at}

-- the accesses of two lists on other strands than one are the same, but for that at a place
pub record IsMarked (number place : ℕ) (old new : List Access) : Type 0 where
  pub order : IsInOrder new
  pub those : (a : Access) → (a.strand.number ≡ number → ⊥) → Among a new ↔ (Among a old × (a.place ≡ place → ⊥))

-- no access of a run is at a place
abbrev pub IsNotInRun : List Access → ℕ → ℕ → ℕ → Type 0
IsNotInRun row start end place = (k : ℕ) → start ≤ k → k < end → place ≡ (access_at row k).place → ⊥

-- and but for those at the places of a run
pub record AreMarked (number : ℕ) (row : List Access) (start end : ℕ) (old new : List Access) : Type 0 where
  pub order : IsInOrder new
  pub those : (a : Access) → (a.strand.number ≡ number → ⊥) → Among a new ↔ (Among a old × IsNotInRun row start end a.place)

-- a list is in order, without accesses at the places of a run, and without others of the old list only where they are on
-- one strand
pub record AreLeft (number : ℕ) (row : List Access) (start end : ℕ) (old left : List Access) : Type 0 where
  pub order : IsInOrder left
  pub from : (a : Access) → Among a left → Among a old × IsNotInRun row start end a.place
  pub to : (a : Access) → Among a old → (a.strand.number ≡ number → ⊥) → IsNotInRun row start end a.place → Among a left

-- those left, and a new one
pub record IsReplaced (row : List Access) (start end : ℕ) (new : Access) (old after : List Access) : Type 0 where
  pub left : List Access
  pub those : AreLeft new.strand.number row start end old left
  pub after_is : after ≡ left ++ new ∷ []

-- there is memory for a list in the English order: where there is one, for one more; and where there is none since the
-- reads rise, and their own list is full, for one of them all and one more
pub record HasSpace (rise : Bool) (readers sorted : Vec Access Global) : Type 0 where
  pub full : rise ≡ true → vec_capacity readers ≤ vec_len readers → vec_len readers < vec_capacity sorted
  pub listed : rise ≡ false → vec_len sorted < vec_capacity sorted ⊎ (vec_len sorted ≡ 0)

-- the same of what is kept
abbrev pub HasSpaceOf : Kept → Bool → Vec Access Global → Type 0
HasSpaceOf (Clean writer readers) rise sorted = HasSpace rise readers sorted
HasSpaceOf (Found first second) rise sorted = Unit {0}

-- the memory of a log: an empty list with room for so many reads, and with as many there is memory for the list in the
-- English order
pub record HasMemory (kept : Kept) (rise : Bool) (held : ℕ) (room sorted : Vec Access Global) : Type 0 where
  pub empty : room.items ≡ []
  pub space : held ≤ vec_capacity room
  pub listed : 0 < held → HasSpaceOf kept rise sorted
