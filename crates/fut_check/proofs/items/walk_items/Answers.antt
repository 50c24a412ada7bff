use Rattle.std.proofs.Common.{◌≡◌, ◌+◌, List, [], ◌∷◌, ◌++◌, take, drop, sym, ap, subst, ◌∙◌, arith}
use Rattle.fut_syntax.specs.Trees.{Item}
use Rattle.fut_syntax.specs.Views.{item_tree, items_tree}
use Rattle.fut_rules.specs.Faults.{least}
use Rattle.fut_check.specs.Counts.{AreCounts}
use Rattle.fut_check.specs.Items.{items_faults}
use Rattle.fut_rules.specs.Widths.{items_width}
use Rattle.fut_check.proofs.Counts.{tasks_more}
use Rattle.fut_rules.proofs.Drops.{dropped}
use Rattle.fut_check.proofs.Walks.{items_taken, items_step, tasks_few}
use Rattle.fut_check.proofs.items.walk_items.Goals as goal

pub loop-place-preserved : goal.loop-place-preserved
loop-place-preserved c =
    let i = c.loop-place.place in
    let xs = c.args.items.now in
    let x = item_tree c.index-items-place.result in
    let before = items_tree (take i xs) in
    let left : items_tree (drop i c.args.items.now) ≡ item_tree c.index-items-place.result ∷ items_tree (drop (i + 1) c.args.items.now) =
    ap items_tree (dropped xs i c.index-items-place.result (omega arith) c.index-items-place.is)
    in
    let done : items_tree (take (i + 1) c.args.items.now) ≡ items_tree (take i c.args.items.now) ++ item_tree c.index-items-place.result ∷ [] =
    items_taken xs i c.index-items-place.result (omega arith) c.index-items-place.is
    in
    let walked = c.in_ok-walk_item.ensures in
    let counts : AreCounts (items_tree (take i c.args.items.now) ++ item_tree c.index-items-place.result ∷ []) c.count-counts.result =
    c.count-counts.ensures before c.loop-place.invariant.counts in
    record {
      end = walked.end ∙ c.loop-place.invariant.end;
      at = omega (arith, ap items_width left, walked.at);
      found = c.loop-place.invariant.found
          ∙ ap (λ is. least c.loop-place.search.found (items_faults (items_tree xs) before c.loop-place.search.at is)) left
          ∙ items_step (items_tree xs) before c.loop-place.search c.walk_item.new.search x (items_tree (drop (i + 1) xs)) walked
          ∙ ap (λ is. least c.walk_item.new.search.found (items_faults (items_tree xs) is c.walk_item.new.search.at (items_tree (drop (i + 1) xs)))) (sym done);
      counts = subst (λ (is : List Item). AreCounts is c.count-counts.result) (sym done) counts;
      few = omega (arith, counts.tasks_are, tasks_more before x, tasks_few x, walked.at, c.loop-place.invariant.counts.tasks_are, c.loop-place.invariant.few);
    }
