use Rattle.std.proofs.Common.{◌≡◌, drop}
use Rattle.fut_syntax.specs.Views.{items_tree}
use Rattle.fut_rules.specs.Names as spec
use Rattle.fut_rules.proofs.names.declares.Given as goal

abbrev pub invariant-loop-item : goal.invariant-loop-item
invariant-loop-item l = spec.declares (items_tree l.items) l.word ≡ spec.declares (items_tree (drop l.item-index l.items)) l.word
