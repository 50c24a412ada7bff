use Rattle.std.proofs.Common.{◌≡◌, ◌+◌, ◌≤◌, ◌++◌, length, take, drop}
use Rattle.fut_syntax.specs.Views.{items_tree, block_tree}
use Rattle.fut_check.specs.Stmts.{declared_in_block}
use Rattle.fut_causes.specs.Causes.{block_causes}
use Rattle.fut_causes.specs.Seeking.{first}
use Rattle.fut_rules.specs.Widths.{block_width}
use Rattle.fut_causes.proofs.stmts.+stmts.Given as goal

abbrev pub invariant-seek_block-loop-stmt : goal.invariant-seek_block-loop-stmt
invariant-seek_block-loop-stmt l =
    record {
      end : l.seek.end ≡ l.initial.seek.end;
      wanted : l.seek.wanted ≡ l.initial.seek.wanted;
      at : l.seek.at + block_width (block_tree (drop l.stmt-index l.stmts)) ≡ l.initial.seek.at + block_width (block_tree l.stmts);
      found : first l.initial.seek.wanted l.initial.seek.found (block_causes (items_tree l.items) l.initial.scope l.initial.seek.at (block_tree l.stmts))
          ≡ first l.initial.seek.wanted l.seek.found (block_causes (items_tree l.items) l.scope l.seek.at (block_tree (drop l.stmt-index l.stmts)));
      returns : l.scope.returns ≡ l.initial.scope.returns;
      declared : l.scope.declared ++ declared_in_block (block_tree (drop l.stmt-index l.stmts))
          ≡ l.initial.scope.declared ++ declared_in_block (block_tree l.stmts);
      visible : take (length l.initial.scope.visible) l.scope.visible ≡ l.initial.scope.visible;
      count : length l.initial.scope.visible ≤ length l.scope.visible;
    }
