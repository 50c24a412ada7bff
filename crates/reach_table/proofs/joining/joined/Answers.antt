use Rattle.std.proofs.Common.{◌≡◌, ℕ, List, [], ◌∷◌, length, subst, sym}
use Rattle.std.specs.Prelude.{◌↔◌, Option, option_to_list}
use Rattle.std.specs.Arc.{arc_value}
use Rattle.std.proofs.lemmas.Result.{IfOk-weaker}
use Rattle.order_list.specs.Sides.{Lists}
use Rattle.fut_base.specs.Dag.{Among}
use Rattle.strand_tree.specs.declared.strand.Strand.{Strand}
use Rattle.reach_table.specs.declared.block.Block.{Block}
use Rattle.reach_table.specs.Telling.{AllKnown}
use Rattle.reach_table.specs.Merging.{together, IsGreatest}
use Rattle.reach_table.specs.Blocks.{flat, values}
use Rattle.reach_table.proofs.Putting.{greatest_of, all_in}
use Rattle.reach_table.proofs.Held.{greatest_turned}
use Rattle.reach_table.proofs.Joins.{known_parts, keyed_parts}
use Rattle.reach_table.proofs.joining.joined.Goals as goal

-- a block that is one of these has their number
same_key : (b : Block) (bs : List Block) (key : ℕ) → b ∷ [] ≡ bs → ((c : Block) → Among c bs → c.key ≡ key) → (c : Block) → Among c (b ∷ []) → c.key ≡ key
same_key b bs key same f = let P : List Block → Type 0 = λ l. (c : Block) → Among c l → c.key ≡ key in subst P (sym same) f

-- and their strands
same_strands : (lists : Lists) (own : ℕ) (last : Option Strand) (b : Block) (bs : List Block) (other second : List Strand) → b ∷ [] ≡ bs → second ≡ other
    → ((w : Strand) → Among w (flat bs) ↔ IsGreatest lists own (together (flat bs) second last) w) → (w : Strand) → Among w (flat (b ∷ []))
    ↔ IsGreatest lists own (together (flat bs) other last) w
same_strands lists own last b bs other second same is iff =
    let P : List Strand → Type 0 = λ l. (w : Strand) → Among w (flat bs) ↔ IsGreatest lists own (together (flat bs) l last) w in
    let Q : List Block → Type 0 = λ l. (w : Strand) → Among w (flat l) ↔ IsGreatest lists own (together (flat bs) other last) w in
    subst Q (sym same) (subst P is iff)

pub shared_of-requires-clause-other_in : goal.shared_of-requires-clause-other_in
shared_of-requires-clause-other_in c =
    let P : List Strand → Type 0 = λ l. AllKnown (length c.args.lists.now.english.order) l in
    subst P (sym c.strands_of-second.ensures.strands) c.requires.other_in

pub shared_of-requires-2-clause-other_in : goal.shared_of-requires-2-clause-other_in
shared_of-requires-2-clause-other_in c =
    let P : List Strand → Type 0 = λ l. AllKnown (length c.args.lists.now.english.order) l in
    subst P (sym c.strands_of-first.ensures.strands) c.requires.one_in

pub returns-in-Some-clause-keyed : goal.returns-in-Some-clause-keyed
returns-in-Some-clause-keyed c =
    same_key (arc_value c.in-Some.block) (values c.args.one.now) c.args.key (rw c.in-Some.is at c.in_ok-block.ensures.same) c.requires.one_keyed

pub returns-in-Some-2-clause-keyed : goal.returns-in-Some-2-clause-keyed
returns-in-Some-2-clause-keyed c =
    same_key (arc_value c.in-Some-2.block) (values c.args.other.now) c.args.key (rw c.in-Some-2.is at c.in_ok-block-2.ensures.same) c.requires.other_keyed

pub returns-in-Some-clause-strands : goal.returns-in-Some-clause-strands
returns-in-Some-clause-strands c =
    same_strands c.args.lists.now c.args.own c.args.last (arc_value c.in-Some.block) (values c.args.one.now)
    (flat (values c.args.other.now)) c.strands_of-second.result.now
    (rw c.in-Some.is at c.in_ok-block.ensures.same) c.strands_of-second.ensures.strands (rw c.in-Some.is at c.in_ok-block.ensures.strands)

pub returns-in-Some-2-clause-strands : goal.returns-in-Some-2-clause-strands
returns-in-Some-2-clause-strands c =
    greatest_turned c.args.lists.now c.args.own (flat (values c.args.one.now)) (flat (values c.args.other.now)) c.args.last
    (flat (arc_value c.in-Some-2.block ∷ [])) (
    same_strands c.args.lists.now c.args.own c.args.last (arc_value c.in-Some-2.block) (values c.args.other.now)
    (flat (values c.args.one.now)) c.strands_of-first.result.now
    (rw c.in-Some-2.is at c.in_ok-block-2.ensures.same) c.strands_of-first.ensures.strands (rw c.in-Some-2.is at c.in_ok-block-2.ensures.strands))

pub greatest-requires-clause-strands_in : goal.greatest-requires-clause-strands_in
greatest-requires-clause-strands_in c = λ w a.
    known_parts (length c.args.lists.now.english.order) (flat (values c.args.one.now))
    (flat (values c.args.other.now)) c.args.last c.requires.one_in c.requires.other_in c.requires.last_in w
    (all_in c.args.last (flat (values c.args.one.now)) c.strands_of-first.result.now
    (flat
    (values c.args.other.now)) c.strands_of-second.result.now c.in_ok-all.all.items c.as_slice.result.now c.strands_of-first.ensures.strands
    c.strands_of-second.ensures.strands c.in_ok-all.ensures.strands c.as_slice.ensures.value w a)

pub made_block-requires-clause-keyed : goal.made_block-requires-clause-keyed
made_block-requires-clause-keyed c = λ w a.
    keyed_parts c.args.key (values c.args.one.now)
    (values c.args.other.now) c.args.last c.requires.one_blocks c.requires.other_blocks c.requires.one_keyed c.requires.other_keyed c.requires.last_keyed w
    (all_in c.args.last (flat (values c.args.one.now)) c.strands_of-first.result.now
    (flat
    (values c.args.other.now)) c.strands_of-second.result.now c.in_ok-all.all.items c.as_slice.result.now c.strands_of-first.ensures.strands
    c.strands_of-second.ensures.strands c.in_ok-all.ensures.strands c.as_slice.ensures.value w ((c.in_ok-left.ensures.strands w).0 a).among)

pub returns-clause-strands : goal.returns-clause-strands
returns-clause-strands c =
    IfOk-weaker c.made_block.result _ _
    (λ made is. greatest_of c.args.lists.now c.args.own c.args.last (flat (values c.args.one.now)) c.strands_of-first.result.now
    (flat (values c.args.other.now)) c.strands_of-second.result.now c.in_ok-all.all.items c.as_slice.result.now c.in_ok-left.left.items
    (flat (values (option_to_list made)))
    c.strands_of-first.ensures.strands c.strands_of-second.ensures.strands c.in_ok-all.ensures.strands c.as_slice.ensures.value c.in_ok-left.ensures.strands
    is) c.made_block.ensures.strands
