-- Blocks of a table: strands whose futures have 64 neighbouring numbers.
use Rattle.std.specs.Prelude.{◌≡◌, ℕ, ◌/◌, ◌%◌, ◌<◌, ◌↔◌, true, List, [], ◌∷◌, ◌++◌, map}
use Rattle.std.specs.Int.{bit_at}
use Rattle.std.specs.declared.sync.Arc.{Arc}
use Rattle.std.specs.Arc.{arc_value}
use Rattle.fut_base.specs.Dag.{Among}
use Rattle.strand_tree.specs.declared.strand.Strand.{Strand}
use Rattle.reach_table.specs.declared.block.Block.{Block}
use Rattle.reach_table.specs.Sorted.{IsRising}
use Rattle.reach_table.specs.Telling.{HasOneOfEach}

-- the block in which a strand stands
abbrev pub key_of : Strand → ℕ
key_of w = w.future / 64

-- the strands of some blocks, one block after the other
abbrev pub flat : List Block → List Strand
flat [] = []
flat (b ∷ bs) = b.strands.items ++ flat bs

-- bit n of the mask is set just where a strand is of a future whose number is n more than a multiple of 64
abbrev pub IsMaskOf : ℕ → List Strand → Type 0
IsMaskOf mask ws = (n : ℕ) → n < 64 → (bit_at mask n ≡ 1) ↔ ((w : Strand) × Among w ws × (w.future % 64 ≡ n))

-- a block has its strands in order, of its futures alone, and tells which futures these are and whether there is one of each at most
pub record IsBlock (b : Block) : Type 0 where
  pub rising : IsRising b.strands.items
  pub keyed : (w : Strand) → Among w b.strands.items → key_of w ≡ b.key
  pub masked : IsMaskOf b.mask b.strands.items
  pub alone : b.alone ≡ true → HasOneOfEach b.strands.items

-- the blocks of a table, each of lower futures than all after it
abbrev pub AreBlocks : List Block → Type 0
AreBlocks [] = Unit {0}
AreBlocks (b ∷ bs) = IsBlock b × ((c : Block) → Among c bs → b.key < c.key) × AreBlocks bs

-- what is shared
abbrev pub values : {Z : Type 0} → List (Arc Block Z) → List Block
values shared = map arc_value shared
