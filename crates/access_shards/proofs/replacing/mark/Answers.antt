use Rattle.std.proofs.Common.{List, ap, sym, subst, arith, ◌∙◌, length, ◌<◌, ◌≤◌}
use Rattle.access_shards.specs.declared.kept.Access.{Access}
use Rattle.access_shards.specs.Kept.{IsInOrder}
use Rattle.access_shards.specs.Runs.{IsParted}
use Rattle.access_shards.proofs.Listing.{marked_at, those_at, marked_none, same_default}
use Rattle.access_shards.proofs.replacing.mark.Goals.{else-at-len-via-then-at-len+else-index-place, else-at-len-via-else-at-len}
use Rattle.access_shards.proofs.replacing.mark.Goals as goal

pub returns-then-index-place-clause-marked : goal.returns-then-index-place-clause-marked
returns-then-index-place-clause-marked c = λ order.
    let xs = c.args.readers.now.items in
    let n = c.first_from-at.result in
    let lt : n < length xs = omega (arith, c.if-at-len.true, c.len.ensures) in
    marked_at xs n c.args.place c.args.strand lt
    (ap (λ (z : Access). z.place) (same_default xs n c.index.result.now lt ∙ sym c.index.ensures) ∙ c.if-index-place.true) order

pub returns-then-index-place-clause-those : goal.returns-then-index-place-clause-those
returns-then-index-place-clause-those c = λ a h.
    let xs = c.args.readers.now.items in
    let n = c.first_from-at.result in
    let lt : n < length xs = omega (arith, c.if-at-len.true, c.len.ensures) in
    those_at xs n c.args.place c.args.strand lt a h

pub returns-else-at-len-clause-marked : goal.returns-else-at-len-clause-marked
returns-else-at-len-clause-marked c = λ order.
    let xs = c.args.readers.now.items in
    let n = c.first_from-at.result in
    let value = c.as_slice.ensures.value in
    let e = c.first_from-at.ensures in
    let within : n ≤ length xs = subst (λ (l : List Access). n ≤ length l) value e.within in
    marked_none xs n c.args.place c.args.strand.number within
    (subst (λ (l : List Access). IsParted c.args.place l n) value (e.parts (subst IsInOrder (sym value) order)))
    (λ lt is. elim c.else-at-len.branch [
      | else-at-len-via-then-at-len+else-index-place w ↦ w.if-index-place.false
          (ap (λ (z : Access). z.place) (w.index.ensures ∙ sym (same_default xs n w.index.result.now lt)) ∙ is)
      | else-at-len-via-else-at-len w ↦ absurd (omega (arith, lt, w.if-at-len.false, c.len.ensures))
    ]) order
