use Rattle.std.proofs.Common.{◌≡◌, ℕ, map, reverse, ◌∙◌, subst, IsTrue, ◌↔◌}
use Rattle.fut_base.specs.Dag.{ReachesBy}
use Rattle.race_report.specs.Edges.{ends_of, turn}
use Rattle.race_report.specs.Search.{has}
use Rattle.race_report.proofs.Paths.{joined_iff}
use Rattle.race_report.proofs.search.Dag.joined_with.Goals as goal

pub returns : goal.returns
returns c =
    let edges = c.args.self.now.onward.items in
    let at = c.args.strand in
    let before = c.in_ok-before.before in
    let after = c.in_ok-after.after in
    let here : c.as_slice.result.now ≡ map turn (reverse edges) = c.as_slice.ensures.value ∙ c.requires in
    let back : (v : ℕ) → IsTrue (has before v) ↔ ReachesBy (map ends_of (map turn (reverse edges))) at v =
    subst (λ es. (v : ℕ) → IsTrue (has before v) ↔ ReachesBy (map ends_of es) at v) here c.in_ok-before.ensures in
    let on : (v : ℕ) → IsTrue (has after v) ↔ ReachesBy (map ends_of edges) at v =
    subst (λ es. (v : ℕ) → IsTrue (has after v) ↔ ReachesBy (map ends_of es) at v) c.as_slice-2.ensures.value c.in_ok-after.ensures in
    joined_iff edges (has before) (has after) at back on
