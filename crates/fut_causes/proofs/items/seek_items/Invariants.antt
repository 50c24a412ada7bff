use Rattle.std.proofs.Common.{◌≡◌, ◌+◌, drop}
use Rattle.fut_syntax.specs.Views.{items_tree}
use Rattle.fut_rules.specs.Widths.{items_width}
use Rattle.fut_causes.specs.Causes.{items_causes}
use Rattle.fut_causes.specs.Seeking.{first}
use Rattle.fut_causes.proofs.items.seek_items.Given as goal

abbrev pub invariant-loop-item : goal.invariant-loop-item
invariant-loop-item l =
    record {
      end : l.seek.end ≡ l.initial.seek.end;
      wanted : l.seek.wanted ≡ l.initial.seek.wanted;
      at : l.seek.at + items_width (items_tree (drop l.item-index l.items)) ≡ l.initial.seek.at + items_width (items_tree l.items);
      found : first l.initial.seek.wanted l.initial.seek.found (items_causes (items_tree l.items) l.initial.seek.at (items_tree l.items))
          ≡ first l.initial.seek.wanted l.seek.found (items_causes (items_tree l.items) l.seek.at (items_tree (drop l.item-index l.items)));
    }
