use Rattle.std.proofs.Common.{◌≡◌, ℕ, length, map, arith, subst}
use Rattle.std.specs.Ordering.{nat_cmp}
use Rattle.std.specs.BTreeMap.{get}
use Rattle.fut_base.specs.Events.{event_of}
use Rattle.race_report.specs.Pairs.{IsFoundBefore}
use Rattle.race_report.proofs.found.first_pairs.Goals as goal

pub returns : goal.returns
returns c =
    let entries = c.args.entries.now in
    let end : c.loop-place.place ≡ length entries = omega arith in
    subst (λ n. (q : ℕ) → IsFoundBefore (map event_of entries) n q (get nat_cmp c.loop-place.found q)) end c.loop-place.invariant
