-- When the strands of one block stand for those of another, too.
use Rattle.std.specs.Prelude.{◌≡◌, ◌≢◌, ℕ, ◌≤◌, ◌⊎◌, nat_lt, if◌then◌else◌, true, false, List, Option, Some, None}
use Rattle.order_list.specs.Sides.{Lists}
use Rattle.fut_base.specs.Dag.{Among}
use Rattle.strand_tree.specs.declared.strand.Strand.{Strand}
use Rattle.reach_table.specs.declared.block.Block.{Block}
use Rattle.reach_table.specs.Merging.{precedes_in, listed}
use Rattle.reach_table.specs.Blocks.{key_of}

-- one strand precedes another one of the same future, which does not precede it
pub record IsEarlier (lists : Lists) (x w : Strand) : Type 0 where
  pub future : x.future ≡ w.future
  pub other : x.number ≢ w.number
  pub before : precedes_in lists x.number w.number ≡ true
  pub not_after : precedes_in lists w.number x.number ≡ false

-- for each of some strands one of these is it, or a later one of its future
abbrev pub HoldsAll : Lists → List Strand → List Strand → Type 0
HoldsAll lists ws xs = (x : Strand) → Among x xs → (w : Strand) × Among w ws × ((x ≡ w) ⊎ IsEarlier lists x w)

-- the least of some numbers, where there are any
abbrev pub IsLeast : (ℕ → Type 0) → Option ℕ → Type 0
IsLeast P None = (k : ℕ) → P k → ⊥
IsLeast P (Some k) = P k × ((m : ℕ) → P m → k ≤ m)

abbrev pub lesser_of : Option ℕ → Option ℕ → Option ℕ
lesser_of None other = other
lesser_of (Some x) None = Some x
lesser_of (Some x) (Some y) = if nat_lt x y then Some x else Some y

-- one of the blocks has this number
abbrev pub HasKey : List Block → ℕ → Type 0
HasKey bs key = (b : Block) × Among b bs × (b.key ≡ key)

-- the strand is of the block with this number
abbrev pub IsOfKey : Option Strand → ℕ → Type 0
IsOfKey last key = (w : Strand) × Among w (listed last) × (key_of w ≡ key)

-- a block of either table, or that of the strand, has this number
abbrev pub IsNext : List Block → List Block → Option Strand → ℕ → Type 0
IsNext bs cs last key = (HasKey bs key ⊎ HasKey cs key) ⊎ IsOfKey last key
