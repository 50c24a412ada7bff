use Rattle.std.proofs.Common.{◌≡◌, ◌+◌, ◌≤◌, ◌++◌, length, take, drop}
use Rattle.fut_syntax.specs.Views.{items_tree, block_tree}
use Rattle.fut_rules.specs.Faults.{least}
use Rattle.fut_check.specs.Stmts.{block_faults, declared_in_block}
use Rattle.fut_rules.specs.Widths.{block_width}
use Rattle.fut_check.proofs.stmts.+stmts.Given as goal

abbrev pub invariant-walk_block-loop-stmt : goal.invariant-walk_block-loop-stmt
invariant-walk_block-loop-stmt l =
    record {
      end : l.search.end ≡ l.initial.search.end;
      at : l.search.at + block_width (block_tree (drop l.stmt-index l.stmts)) ≡ l.initial.search.at + block_width (block_tree l.stmts);
      found : least l.initial.search.found (block_faults (items_tree l.items) l.initial.scope l.initial.search.at (block_tree l.stmts))
          ≡ least l.search.found (block_faults (items_tree l.items) l.scope l.search.at (block_tree (drop l.stmt-index l.stmts)));
      returns : l.scope.returns ≡ l.initial.scope.returns;
      declared : l.scope.declared ++ declared_in_block (block_tree (drop l.stmt-index l.stmts))
          ≡ l.initial.scope.declared ++ declared_in_block (block_tree l.stmts);
      visible : take (length l.initial.scope.visible) l.scope.visible ≡ l.initial.scope.visible;
      count : length l.initial.scope.visible ≤ length l.scope.visible;
    }
