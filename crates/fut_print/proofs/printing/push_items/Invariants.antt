use Rattle.std.proofs.Common.{◌≡◌, ◌++◌, drop, map}
use Rattle.fut_syntax.specs.Lines.{item_tokens}
use Rattle.fut_tokens.specs.Spelling.{lines_of}
use Rattle.fut_syntax.specs.Views.{items_tree}
use Rattle.fut_print.proofs.printing.push_items.Given as goal

-- what is written, and then what is left
abbrev pub invariant-loop-item : goal.invariant-loop-item
invariant-loop-item l = l.out.items ++ lines_of (map item_tokens (items_tree (drop l.item-index l.items)))
    ≡ l.fn.out.items ++ lines_of (map item_tokens (items_tree l.items))
