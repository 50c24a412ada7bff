use Rattle.std.proofs.Common.{rules, ◌≡◌, ℕ, List, Option, Some, vec_len, sym, subst}
use Rattle.std.specs.Vec.{with_items}
use Rattle.std.proofs.lemmas.List.{with_items_is}
use Rattle.order_list.specs.Chain.{walk}
use Rattle.order_list.specs.Labels.{IsSpread}
use Rattle.order_list.proofs.list.OrderList.relabel.Goals as goal

pub returns-clause-labels : goal.returns-clause-labels
returns-clause-labels c =
    let l = c.self.inside in
    let labels = c.relabel.new.labels in
    let P : List ℕ → List (Option ℕ) → ℕ → Type 0 = λ ls ns n. IsSpread ls (walk ns n (Some 0)) c.args.x.0 c.relabel.result labels in
    let spread : P l.labels.items l.nexts.items (vec_len l.nexts) =
    subst (λ ls. P ls l.nexts.items (vec_len l.nexts)) c.as_mut_slice.ensures.value
    (subst (λ ns. P c.as_mut_slice.result.now ns (vec_len l.nexts)) c.as_slice.ensures.value
    (subst (λ n. P c.as_mut_slice.result.now c.as_slice.result.now n) c.as_slice.ensures.len c.relabel.ensures.spread)) in
    let same : (with_items l.labels labels).items ≡ labels = with_items_is l.labels labels (search rules) in
    rw (← c.self.view_is) (subst (λ ls. IsSpread l.labels.items (walk l.nexts.items (vec_len l.nexts) (Some 0)) c.args.x.0
    c.relabel.result ls) (sym same) spread)
