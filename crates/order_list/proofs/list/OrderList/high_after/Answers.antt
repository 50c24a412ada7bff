use Rattle.std.proofs.Common.{◌≡◌, ◌<◌, ◌∙◌, sym, ap, subst, length, arith, ℕ, Option, Some, None, get_or, vec_len}
use Rattle.std.specs.Prelude.{slice_index}
use Rattle.std.proofs.lemmas.List.{get_or_read}
use Rattle.order_list.specs.Ordered.{Ordered, high_by, high_of}
use Rattle.order_list.specs.Chain.{Keeps, walk}
use Rattle.order_list.specs.declared.list.OrderList.TheInside.{Inside}
use Rattle.order_list.specs.contracts.list.OrderList.{the_view}
use Rattle.order_list.proofs.Chains.{kept_next}
use Rattle.order_list.proofs.Inserting.{next_read, Next}
use Rattle.order_list.proofs.list.OrderList.high_after.Goals as goal

-- what a next item that was read says of the value
record Found (i : Inside) (v : Ordered) (x : ℕ) (o : Option ℕ) : Type 0 where
  is : high_of v x ≡ high_by i.labels.items o
  facts : Next i.labels.items (length i.nexts.items) x o

found : (i : Inside) (v : Ordered) (x : ℕ) (o p : Option ℕ) → the_view i ≡ v
    → Keeps i.labels.items i.nexts.items i.prevs.items (walk i.nexts.items (vec_len i.nexts) (Some 0)) → x < length v.order → o ≡ get_or i.nexts.items x o
    → o ≡ p → Found i v x p
found i v x o p view_is k x_in read is =
    let P : Ordered → Type 0 = λ w. x < length w.order in
    let in_ = subst P (sym view_is) x_in in
    let Q : Ordered → Option ℕ → Type 0 = λ w q. Found i w x q in
    subst (λ w. Q w p) view_is (subst (λ q. Q (the_view i) q) is (record {
      is = ap (high_by i.labels.items) (sym (kept_next i.labels.items i.nexts.items i.prevs.items _ x o k in_ read));
      facts = next_read i.labels.items i.nexts.items i.prevs.items _ x o k in_ read;
    }))

labels_of : (i : Inside) (v : Ordered) (x : ℕ) → the_view i ≡ v → slice_index v.labels x ≡ slice_index i.labels.items x
labels_of i v x is = ap (λ (w : Ordered). slice_index w.labels x) (sym is)

pub index-requires-in-Some : goal.index-requires-in-Some
index-requires-in-Some c =
    let f = found c.self.inside c.args.self.now c.args.x.0 c.index.result.now (Some
    c.in-Some.next) c.self.view_is c.self.invariant.0 c.requires c.index.ensures c.in-Some.is in
    omega (arith, f.facts.below, c.self.invariant.0.same_count, c.self.inside.labels.ok.0)

pub returns-in-Some : goal.returns-in-Some
returns-in-Some c =
    let i = c.self.inside in
    let f = found i c.args.self.now c.args.x.0 c.index.result.now (Some
    c.in-Some.next) c.self.view_is c.self.invariant.0 c.requires c.index.ensures c.in-Some.is in
    let s = labels_of i c.args.self.now c.args.x.0 c.self.view_is in
    let r = get_or_read i.labels.items c.in-Some.next c.index-in-Some.result.now
    (omega (arith, f.facts.below, c.self.invariant.0.same_count)) c.index-in-Some.ensures 0 in
    record { high = r ∙ sym f.is; above = omega (arith, f.facts.above, r, s); most = omega (arith, f.facts.most, r) }

pub returns-in-None : goal.returns-in-None
returns-in-None c =
    let i = c.self.inside in
    let f = found i c.args.self.now c.args.x.0 c.index.result.now None c.self.view_is c.self.invariant.0 c.requires c.index.ensures c.in-None.is in
    let s = labels_of i c.args.self.now c.args.x.0 c.self.view_is in
    record { high = sym f.is; above = omega (arith, f.facts.above, s); most = omega arith }
