use Rattle.std.proofs.Common.{◌≡◌, ℕ, length, map, sym, subst}
use Rattle.std.specs.Ordering.{nat_cmp}
use Rattle.std.specs.BTreeMap.{get, values}
use Rattle.std.proofs.lemmas.List.{length-map}
use Rattle.std.proofs.lemmas.Result.{IfOk-weaker}
use Rattle.fut_base.specs.Events.{event_of}
use Rattle.fut_base.specs.Racing.{IsReport}
use Rattle.race_report.specs.Pairs.{IsFoundBefore}
use Rattle.race_report.proofs.Reports.{report_of}
use Rattle.race_report.proofs.found.found_of.Goals as goal

pub returns : goal.returns
returns c =
    let items = c.args.history.now.items in
    let h = map event_of items in
    let found = c.in_ok-found.found in
    let known : (q : ℕ) → IsFoundBefore h (length items) q (get nat_cmp found q) =
    subst (λ xs. (q : ℕ) → IsFoundBefore (map event_of xs) (length xs) q (get nat_cmp found q)) c.as_slice.ensures c.in_ok-found.ensures in
    let whole : (q : ℕ) → IsFoundBefore h (length h) q (get nat_cmp found q) =
    subst (λ n. (q : ℕ) → IsFoundBefore h n q (get nat_cmp found q)) (sym (length-map items event_of)) known in
    let report = report_of h found c.listed.ensures.ordered whole in
    IfOk-weaker c.listed.result (λ races. races.items ≡ values found) (λ races. IsReport h races.items)
    (λ races is. subst (λ l. IsReport h l) (sym is) report) c.listed.ensures.items
