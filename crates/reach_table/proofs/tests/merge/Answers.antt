use Rattle.std.proofs.Common.{◌≡◌, ℕ, ◌<◌, length, subst, ap, ◌∙◌}
use Rattle.order_list.specs.Ordered.{Ordered}
use Rattle.reach_table.proofs.Putting.{all_together}
use Rattle.reach_table.proofs.tests.merge.Goals as goal

pub merged-requires : goal.merged-requires
merged-requires c =
    let known = length c.args.lists.now.english.order in
    let N : ℕ → Type 0 = λ n. c.args.last.number < n in
    let same : c.len.result ≡ known = c.len.ensures.len ∙ ap (λ (l : Ordered). length l.order) c.english.ensures.list in
    all_together known c.args.one.now c.args.other.now c.args.last (c.has_known.ensures c.if-not-has_known.false)
    (c.has_known-2.ensures c.if-not-has_known-2.false) (subst N same c.if-last-len.false)
