use Rattle.std.proofs.Common.{◌≡◌, ◌<◌, ◌≤◌, List, take, drop, ap, subst, sym, ◌∙◌}
use Rattle.std.specs.Prelude.{◌↔◌}
use Rattle.fut_base.specs.Dag.{Among}
use Rattle.strand_tree.specs.declared.strand.Strand.{Strand}
use Rattle.reach_table.specs.declared.block.Block.{Block}
use Rattle.reach_table.specs.Blocks.{key_of, flat, AreBlocks, values}
use Rattle.reach_table.proofs.Blocks.{blocks_take, blocks_drop}
use Rattle.reach_table.proofs.Found.{found}
use Rattle.reach_table.proofs.block.block_at.Goals as goal

pub count_at-requires-clause-blocks : goal.count_at-requires-clause-blocks
count_at-requires-clause-blocks c = subst AreBlocks (sym c.behind-rest.ensures.blocks) (blocks_drop c.first_block.result (values c.args.blocks.now) c.requires)

pub count_at-requires-clause-least : goal.count_at-requires-clause-least
count_at-requires-clause-least c =
    let P : List Block → Type 0 = λ l. (b : Block) → Among b l → c.args.key ≤ b.key in
    subst P (sym c.behind-rest.ensures.blocks) c.first_block.ensures.after

pub returns-clause-blocks : goal.returns-clause-blocks
returns-clause-blocks c =
    let rest : AreBlocks (values c.behind-rest.result.now) =
    subst AreBlocks (sym c.behind-rest.ensures.blocks) (blocks_drop c.first_block.result (values c.args.blocks.now) c.requires) in
    subst AreBlocks (sym c.front.ensures.blocks) (blocks_take c.count_at.result (values c.behind-rest.result.now) rest)

pub returns-clause-strands : goal.returns-clause-strands
returns-clause-strands c =
    let bs = values c.args.blocks.now in
    let rest = c.behind-rest.ensures.blocks in
    let n = c.count_at.result in
    let key = c.args.key in
    let P : List Block → Type 0 = λ l. (b : Block) → Among b (take n l) → b.key ≡ key in
    let Q : List Block → Type 0 = λ l. (b : Block) → Among b (drop n l) → key < b.key in
    let all : flat (values c.front.result.now) ≡ flat (take n (drop c.first_block.result bs)) =
    ap flat c.front.ensures.blocks ∙ ap (λ l. flat (take n l)) rest in
    let R : List Strand → Type 0 = λ l. (w : Strand) → Among w l ↔ (Among w (flat bs) × (key_of w ≡ key)) in
    subst R (sym all)
    (found bs c.requires c.first_block.result n key c.first_block.ensures.before (subst P rest c.count_at.ensures.at)
    (subst Q rest c.count_at.ensures.rest))
