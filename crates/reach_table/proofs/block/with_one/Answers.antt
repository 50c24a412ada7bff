use Rattle.std.proofs.Common.{◌≡◌, ℕ, ◌<◌, ◌≤◌, List, [], ◌∷◌, ◌++◌, take, drop, ◌⊎◌, inl, inr, ap, subst, sym, ◌∙◌}
use Rattle.std.specs.Prelude.{◌↔◌, option_to_list}
use Rattle.fut_base.specs.Dag.{Among}
use Rattle.strand_tree.specs.declared.strand.Strand.{Strand}
use Rattle.reach_table.specs.declared.block.Block.{Block}
use Rattle.reach_table.specs.Blocks.{key_of, flat, AreBlocks, values}
use Rattle.reach_table.proofs.Blocks.{blocks_take, blocks_drop}
use Rattle.reach_table.proofs.Found.{found, with_blocks, with_strands}
use Rattle.reach_table.proofs.block.with_one.Goals as goal

pub count_at-count-requires-clause-blocks : goal.count_at-count-requires-clause-blocks
count_at-count-requires-clause-blocks c =
    subst AreBlocks (sym c.behind-rest.ensures.blocks) (blocks_drop c.first_block-at.result (values c.args.blocks.now) c.requires)

pub count_at-count-requires-clause-least : goal.count_at-count-requires-clause-least
count_at-count-requires-clause-least c =
    let P : List Block → Type 0 = λ l. (b : Block) → Among b l → c.block_of_future-key.result ≤ b.key in
    subst P (sym c.behind-rest.ensures.blocks) c.first_block-at.ensures.after

pub strands_of-requires-clause-blocks : goal.strands_of-requires-clause-blocks
strands_of-requires-clause-blocks c =
    let rest : AreBlocks (values c.behind-rest.result.now) =
    subst AreBlocks (sym c.behind-rest.ensures.blocks) (blocks_drop c.first_block-at.result (values c.args.blocks.now) c.requires) in
    subst AreBlocks (sym c.front.ensures.blocks) (blocks_take c.count_at-count.result (values c.behind-rest.result.now) rest)

-- the strands of the block and the one
both : (bs rest front : List Block) (at n : ℕ) (one all : List Strand) (strands : List Strand) → rest ≡ drop at bs → front ≡ take n rest
    → strands ≡ flat front → ((w : Strand) → Among w all ↔ (Among w strands ⊎ Among w one)) → (w : Strand) → Among w all
    ↔ (Among w (flat (take n (drop at bs))) ⊎ Among w one)
both bs rest front at n one all strands is_rest is_front is iff =
    let P : List Strand → Type 0 = λ l. (w : Strand) → Among w all ↔ (Among w l ⊎ Among w one) in
    subst P (is ∙ ap flat is_front ∙ ap (λ l. flat (take n l)) is_rest) iff

is_at : (n key : ℕ) (rest rest' : List Block) → rest ≡ rest' → ((b : Block) → Among b (take n rest) → b.key ≡ key) → (b : Block) → Among b (take n rest')
    → b.key ≡ key
is_at n key rest rest' same f = let P : List Block → Type 0 = λ l. (b : Block) → Among b (take n l) → b.key ≡ key in subst P same f

is_behind : (n key : ℕ) (rest rest' : List Block) → rest ≡ rest' → ((b : Block) → Among b (drop n rest) → key < b.key) → (b : Block) → Among b (drop n rest')
    → key < b.key
is_behind n key rest rest' same f = let P : List Block → Type 0 = λ l. (b : Block) → Among b (drop n l) → key < b.key in subst P same f

pub made_block-requires-clause-keyed : goal.made_block-requires-clause-keyed
made_block-requires-clause-keyed c = λ w a.
    let bs = values c.args.blocks.now in
    let key = c.block_of_future-key.result in
    let at = c.first_block-at.result in
    let n = c.count_at-count.result in
    let rest = c.behind-rest.ensures.blocks in
    elim ((both bs (values c.behind-rest.result.now) (values c.front.result.now) at n
    (c.args.one ∷ []) c.in_ok-strands.strands.items c.strands_of.result.now rest c.front.ensures.blocks c.strands_of.ensures.strands
    c.in_ok-strands.ensures.strands w).0 a) [
      | inl l ↦
          ((found bs c.requires at n key c.first_block-at.ensures.before
          (is_at n key (values c.behind-rest.result.now) (drop at bs) rest c.count_at-count.ensures.at)
          (is_behind n key (values c.behind-rest.result.now) (drop at bs) rest c.count_at-count.ensures.rest) w).0 l).1
      | inr (inl e) ↦ (let P : Strand → Type 0 = λ z. key_of z ≡ key in subst P e (sym c.block_of_future-key.ensures))
      | inr (inr none) ↦ absurd none
    ]

all_is : (c : goal.In_ok-share_blocks-2) → values c.share_blocks-2.new.all.items
    ≡ (take c.first_block-at.result (values c.args.blocks.now) ++ values (option_to_list c.in_ok-made.made))
    ++ drop c.count_at-count.result (drop c.first_block-at.result (values c.args.blocks.now))
all_is c =
    let bs = values c.args.blocks.now in
    let at = c.first_block-at.result in
    let n = c.count_at-count.result in
    let made = values (option_to_list c.in_ok-made.made) in
    let none : values c.reserve.new.self.items ≡ [] = ap values (c.in_ok-reserve.ensures.items ∙ c.new-all.ensures.items) in
    let first : values c.share_blocks.new.all.items ≡ take at bs =
    c.in_ok-share_blocks.ensures ∙ ap (λ l. l ++ values c.front-2.result.now) none ∙ c.front-2.ensures.blocks in
    let second : values c.push_block.new.all.items ≡ take at bs ++ made = c.in_ok-push_block.ensures ∙ ap (λ l. l ++ made) first in
    let last : values c.behind.result.now ≡ drop n (drop at bs) = c.behind.ensures.blocks ∙ ap (λ l. drop n l) c.behind-rest.ensures.blocks in
    c.in_ok-share_blocks-2.ensures ∙ ap (λ l. l ++ values c.behind.result.now) second ∙ ap (λ l. (take at bs ++ made) ++ l) last

pub returns-clause-blocks : goal.returns-clause-blocks
returns-clause-blocks c =
    let bs = values c.args.blocks.now in
    let key = c.block_of_future-key.result in
    let at = c.first_block-at.result in
    let n = c.count_at-count.result in
    let rest = c.behind-rest.ensures.blocks in
    subst AreBlocks (sym (all_is c))
    (with_blocks bs c.requires at n key c.first_block-at.ensures.before
    (is_at n key (values c.behind-rest.result.now) (drop at bs) rest c.count_at-count.ensures.at)
    (is_behind n key (values c.behind-rest.result.now) (drop at bs) rest c.count_at-count.ensures.rest)
    (values (option_to_list c.in_ok-made.made)) c.in_ok-made.ensures.blocks c.in_ok-made.ensures.keyed)

pub returns-clause-strands : goal.returns-clause-strands
returns-clause-strands c =
    let bs = values c.args.blocks.now in
    let key = c.block_of_future-key.result in
    let at = c.first_block-at.result in
    let n = c.count_at-count.result in
    let rest = c.behind-rest.ensures.blocks in
    let made = values (option_to_list c.in_ok-made.made) in
    let P : List Block → Type 0 = λ l. (w : Strand) → Among w (flat l) ↔ Among w (flat bs ++ c.args.one ∷ []) in
    let Q : List Strand → Type 0 = λ l. (w : Strand) → Among w l ↔ (Among w (flat (take n (drop at bs))) ⊎ Among w (c.args.one ∷ [])) in
    let iff = both bs (values c.behind-rest.result.now) (values c.front.result.now) at n
    (c.args.one ∷ []) c.in_ok-strands.strands.items c.strands_of.result.now rest c.front.ensures.blocks c.strands_of.ensures.strands
    c.in_ok-strands.ensures.strands in
    subst P (sym (all_is c))
    (with_strands bs c.requires at n key c.first_block-at.ensures.before
    (is_at n key (values c.behind-rest.result.now) (drop at bs) rest c.count_at-count.ensures.at)
    (is_behind n key (values c.behind-rest.result.now)
    (drop at bs) rest c.count_at-count.ensures.rest) made c.in_ok-made.ensures.blocks c.in_ok-made.ensures.keyed (c.args.one ∷ [])
    (subst Q (sym c.in_ok-made.ensures.strands) iff))
