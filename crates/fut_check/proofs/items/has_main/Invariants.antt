use Rattle.std.proofs.Common.{◌≡◌, drop}
use Rattle.fut_syntax.specs.Views.{items_tree}
use Rattle.fut_rules.specs.Names.{has_main}
use Rattle.fut_check.proofs.items.has_main.Given as goal

abbrev pub invariant-loop-item : goal.invariant-loop-item
invariant-loop-item l = has_main (items_tree l.items) ≡ has_main (items_tree (drop l.item-index l.items))
