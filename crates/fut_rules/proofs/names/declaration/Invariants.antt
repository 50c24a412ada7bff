use Rattle.std.proofs.Common.{◌≡◌, drop}
use Rattle.fut_syntax.specs.Views.{items_tree}
use Rattle.fut_rules.specs.Names as spec
use Rattle.fut_rules.proofs.names.declaration.Given as goal

abbrev pub invariant-loop-item : goal.invariant-loop-item
invariant-loop-item l = spec.declaration (items_tree l.items) l.word ≡ spec.declaration (items_tree (drop l.item-index l.items)) l.word
