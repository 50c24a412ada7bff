use Rattle.std.proofs.Common.{◌≡◌, ◌+◌, ◌≤◌, [], take, drop}
use Rattle.fut_syntax.specs.Views.{items_tree}
use Rattle.fut_rules.specs.Faults.{least}
use Rattle.fut_check.specs.Counts.{AreCounts}
use Rattle.fut_check.specs.Items.{items_faults}
use Rattle.fut_rules.specs.Widths.{items_width}
use Rattle.fut_check.proofs.items.walk_items.Given as goal

abbrev pub invariant-loop-place : goal.invariant-loop-place
invariant-loop-place l =
    record {
      end : l.search.end ≡ l.initial.search.end;
      at : l.search.at + items_width (items_tree (drop l.place l.items)) ≡ l.initial.search.at + items_width (items_tree l.items);
      found : least l.initial.search.found (items_faults (items_tree l.items) [] l.initial.search.at (items_tree l.items))
          ≡ least l.search.found (items_faults (items_tree l.items) (items_tree (take l.place l.items)) l.search.at (items_tree (drop l.place l.items)));
      counts : AreCounts (items_tree (take l.place l.items)) l.counts;
      few : l.counts.tasks ≤ l.search.at;
    }
