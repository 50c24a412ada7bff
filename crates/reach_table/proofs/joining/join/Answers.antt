use Rattle.std.proofs.Common.{◌≡◌, ◌+◌, ◌<◌, List, [], take, drop, length, inl, inr, ap, subst, sym, refl, arith, ◌∙◌}
use Rattle.std.specs.Prelude.{◌↔◌, option_to_list}
use Rattle.fut_base.specs.Dag.{Among}
use Rattle.strand_tree.specs.declared.strand.Strand.{Strand}
use Rattle.reach_table.specs.declared.block.Block.{Block}
use Rattle.reach_table.specs.Merging.{listed, together, IsGreatest}
use Rattle.reach_table.specs.Blocks.{flat, values}
use Rattle.reach_table.proofs.Joins.{Joins, joins_none, joins_all, joins_more, of_parts, of_take, taken_one}
use Rattle.reach_table.proofs.joining.join.Goals as goal

pub loop-key-init : goal.loop-key-init
loop-key-init c =
    let none : values c.reserve.new.self.items ≡ [] = ap values (c.in_ok-reserve.ensures.items ∙ c.new-all.ensures.items) in
    let one = values c.args.one.now in
    let other = values c.args.other.now in
    let P : List Block → Type 0 = λ l. Joins c.args.lists.now c.args.own (together (flat one) (flat other) c.args.last) l one other c.args.last in
    subst P (sym none) (joins_none c.args.lists.now c.args.own one other c.args.last c.requires.one c.requires.other)

pub count_at-first-requires-clause-least : goal.count_at-first-requires-clause-least
count_at-first-requires-clause-least c = λ b a. c.in-Some.ensures.1 b.key (inl (inl (b, a, refl)))

pub count_at-second-requires-clause-least : goal.count_at-second-requires-clause-least
count_at-second-requires-clause-least c = λ b a. c.in-Some.ensures.1 b.key (inl (inr (b, a, refl)))

pub joined-requires-clause-one_in : goal.joined-requires-clause-one_in
joined-requires-clause-one_in c = λ w a.
    let one = values c.loop-key.one.now in
    let P : List Block → Type 0 = λ l. Among w (flat l) in
    c.requires.known w
    ((c.loop-key.invariant.whole_is w).1
    (inr
    (of_parts (flat one) (flat (values c.loop-key.other.now)) c.loop-key.last w
    (inl (of_take c.count_at-first.result one w (subst P c.front.ensures.blocks a))))))

pub joined-requires-clause-other_in : goal.joined-requires-clause-other_in
joined-requires-clause-other_in c = λ w a.
    let other = values c.loop-key.other.now in
    let P : List Block → Type 0 = λ l. Among w (flat l) in
    c.requires.known w
    ((c.loop-key.invariant.whole_is w).1
    (inr
    (of_parts (flat (values c.loop-key.one.now)) (flat other) c.loop-key.last w
    (inr (inl (of_take c.count_at-second.result other w (subst P c.front-in-Some.ensures.blocks a)))))))

pub joined-requires-clause-last_in : goal.joined-requires-clause-last_in
joined-requires-clause-last_in c = λ w a.
    c.requires.known w
    ((c.loop-key.invariant.whole_is w).1
    (inr (of_parts (flat (values c.loop-key.one.now)) (flat (values c.loop-key.other.now)) c.loop-key.last w (inr (inr ((c.taken.ensures w).0 a).0)))))

pub joined-requires-clause-one_keyed : goal.joined-requires-clause-one_keyed
joined-requires-clause-one_keyed c =
    let P : List Block → Type 0 = λ l. (b : Block) → Among b l → b.key ≡ c.in-Some.key in
    subst P (sym c.front.ensures.blocks) c.count_at-first.ensures.at

pub joined-requires-clause-other_keyed : goal.joined-requires-clause-other_keyed
joined-requires-clause-other_keyed c =
    let P : List Block → Type 0 = λ l. (b : Block) → Among b l → b.key ≡ c.in-Some.key in
    subst P (sym c.front-in-Some.ensures.blocks) c.count_at-second.ensures.at

pub loop-key-smaller : goal.loop-key-smaller
loop-key-smaller c =
    let one = c.behind-one.ensures.len in
    let other = c.behind-other.ensures.len in
    let fewer = c.left-last.ensures.fewer in
    let less : length c.behind-one.result.now + length c.behind-other.result.now + length
    (listed c.left-last.result) < length c.loop-key.one.now + length c.loop-key.other.now + length (listed c.loop-key.last) =
    elim c.in-Some.ensures.0 [
      | inl (inl h) ↦
          (let k = taken_one (values c.loop-key.one.now) c.count_at-first.result c.in-Some.key h c.count_at-first.ensures.rest in
          omega (arith, k, one, other, fewer))
      | inl (inr h) ↦
          (let k = taken_one (values c.loop-key.other.now) c.count_at-second.result c.in-Some.key h c.count_at-second.ensures.rest in
          omega (arith, k, one, other, fewer))
      | inr h ↦ (let k = c.left-last.ensures.less h in omega (arith, k, one, other))
    ] in
    less

pub loop-key-preserved : goal.loop-key-preserved
loop-key-preserved c =
    let whole = together (flat (values c.args.one.now)) (flat (values c.args.other.now)) c.args.last in
    let all = values c.loop-key.all.items in
    let one = values c.loop-key.one.now in
    let other = values c.loop-key.other.now in
    let first = c.count_at-first.result in
    let second = c.count_at-second.result in
    let key = c.in-Some.key in
    let made = values (option_to_list c.in_ok-made.made) in
    let here = c.taken.result in
    let there = c.left-last.result in
    let F : List Block → Type 0 =
    λ l. (w : Strand) → Among w (flat made) ↔ IsGreatest c.args.lists.now c.args.own
    (together (flat l) (flat (values c.front-in-Some.result.now)) here) w in
    let G : List Block → Type 0 =
    λ l. (w : Strand) → Among w (flat made) ↔ IsGreatest c.args.lists.now c.args.own (together (flat (take first one)) (flat l) here) w in
    let strands = subst G c.front-in-Some.ensures.blocks (subst F c.front.ensures.blocks c.in_ok-made.ensures.strands) in
    let more =
    joins_more c.args.lists.now c.args.own whole all one other c.loop-key.last c.loop-key.invariant key c.in-Some.ensures.0 c.in-Some.ensures.1 first second
    c.count_at-first.ensures.at c.count_at-first.ensures.rest c.count_at-second.ensures.at c.count_at-second.ensures.rest here there c.taken.ensures
    c.left-last.ensures.strands
    made c.in_ok-made.ensures.blocks c.in_ok-made.ensures.keyed strands in
    let P : List Block → Type 0 = λ l. Joins c.args.lists.now c.args.own whole l (drop first one) (drop second other) there in
    let Q : List Block → Type 0 = λ l. Joins c.args.lists.now c.args.own whole (values c.push_block.new.all.items) l (drop second other) there in
    let R : List Block → Type 0 = λ l. Joins c.args.lists.now c.args.own whole (values c.push_block.new.all.items) (values c.behind-one.result.now) l there in
    subst R (sym c.behind-other.ensures.blocks) (subst Q (sym c.behind-one.ensures.blocks) (subst P (sym c.in_ok-push_block.ensures) more))

pub returns-clause-strands : goal.returns-clause-strands
returns-clause-strands c =
    joins_all c.args.lists.now c.args.own (together (flat (values c.args.one.now)) (flat (values c.args.other.now)) c.args.last) (values c.loop-key.all.items)
    (values c.loop-key.one.now) (values c.loop-key.other.now) c.loop-key.last c.loop-key.invariant (rw c.in_default.is at c.next_key.ensures)
