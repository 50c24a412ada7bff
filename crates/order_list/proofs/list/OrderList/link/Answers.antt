use Rattle.std.proofs.Common.{◌≡◌, ℕ, ◌<◌, ◌≤◌, [], ◌∷◌, sym, subst, length, arith, Some, vec_len, Option}
use Rattle.std.specs.Prelude.{slice_index, slice_set, IfSome}
use Rattle.order_list.specs.Ordered.{Ordered, high_of, put_after}
use Rattle.order_list.specs.Chain.{walk}
use Rattle.order_list.proofs.Inserting.{linked_in, IsLinked, kept, next_read}
use Rattle.order_list.proofs.list.OrderList.link.Goals as goal

pub lead_back-requires : goal.lead_back-requires
lead_back-requires c = λ y is.
    let l = c.self.inside in
    let P : Ordered → Type 0 = λ v. c.args.x.0 < length v.order in
    let Q : Option ℕ → Type 0 = λ o. IfSome o (λ z. z < length l.nexts.items) in
    let next = next_read l.labels.items l.nexts.items l.prevs.items _ c.args.x.0 c.index-next.result.now c.self.invariant.0 (subst P (sym c.self.view_is)
    c.requires.x_in) c.index-next.ensures in
    let below : y < length l.nexts.items = subst Q is next.below in
    omega (arith, below, c.self.invariant.0.prev_count, l.prevs.ok.0, c.push_reserved-3.ensures.len)

linked : (c : goal.After-self-2-1)
    → IsLinked c.push_reserved.new.self.items (slice_set c.push_reserved-2.new.self.items c.args.x.0 (Some c.len-item.result))
    c.lead_back.new.prevs.items c.push_reserved-2.new.self.len
    (put_after c.args.x.0 (c.len-item.result ∷ []) (walk c.self.inside.nexts.items (vec_len c.self.inside.nexts) (Some 0)))
linked c =
    let l = c.self.inside in
    let P : Ordered → Type 0 = λ v. c.args.x.0 < length v.order in
    let Q : Ordered → Type 0 = λ v. slice_index v.labels c.args.x.0 < c.args.label in
    let R : Ordered → Type 0 = λ v. c.args.label < high_of v c.args.x.0 in
    let back = sym c.self.view_is in
    let l_ok : vec_len l.nexts ≡ length l.nexts.items = omega (arith, l.nexts.ok.0) in
    subst (λ ps. IsLinked c.push_reserved.new.self.items (slice_set c.push_reserved-2.new.self.items c.args.x.0 (Some c.len-item.result)) ps
    c.push_reserved-2.new.self.len (put_after c.args.x.0 (c.len-item.result ∷ []) (walk c.self.inside.nexts.items (vec_len c.self.inside.nexts) (Some 0))))
    (sym c.lead_back.ensures.items)
    (linked_in l.labels.items l.nexts.items l.prevs.items (vec_len l.nexts) _ c.args.x.0 c.args.label c.len-item.result c.index-next.result.now _ _ _
    l_ok c.push_reserved-2.ensures.len c.len-item.ensures c.index-next.ensures c.push_reserved.ensures.items c.push_reserved-2.ensures.items
    c.push_reserved-3.ensures.items c.self.invariant.0
    (subst P back c.requires.x_in) (subst Q back c.requires.low) (subst R back c.requires.high))

room : (c : goal.After-self-2-1) → 1 ≤ c.self.inside.room
room c = let P : Ordered → Type 0 = λ v. 1 ≤ v.room in subst P (sym c.self.view_is) c.requires.room

pub invariant_of-self : goal.invariant_of-self
invariant_of-self c = (
  (linked c).keeps,
  omega (arith, c.push_reserved.ensures.len, c.push_reserved.ensures.capacity, c.self.invariant.1, room c),
  omega (arith, c.push_reserved-2.ensures.len, c.push_reserved-2.ensures.capacity, c.self.invariant.2, room c),
  omega (
    arith,
    c.lead_back.ensures.len,
    c.lead_back.ensures.capacity,
    c.push_reserved-3.ensures.len,
    c.push_reserved-3.ensures.capacity,
    c.self.invariant.3,
    room c,
  ),
  omega (arith, c.push_reserved-2.ensures.len, c.self.invariant.4, room c),
)

pub returns-clause-order : goal.returns-clause-order
returns-clause-order c = rw (← c.self.view_is) (linked c).order_is

pub returns-clause-kept : goal.returns-clause-kept
returns-clause-kept c = kept _ _ _ _ _ (linked c).keeps
