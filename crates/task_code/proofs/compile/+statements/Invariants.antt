use Rattle.std.proofs.Common.{◌≡◌, ◌+◌, length, drop}
use Rattle.fut_syntax.specs.Views.{block_tree}
use Rattle.task_code.specs.Serving.{instructions_in}
use Rattle.task_code.specs.Flat.{context_of, DoesBlock, Grows}
use Rattle.task_code.proofs.compile.+statements.Given as goal

abbrev pub invariant-add_block-loop-index : goal.invariant-add_block-loop-index
invariant-add_block-loop-index l =
    record {
      grows : Grows l.fn.code.items l.code.items;
      does : DoesBlock (context_of l.scope) l.code.items (block_tree (drop l.index l.stmts)) l.next l.entry;
      count : length l.code.items ≡ length l.fn.code.items + instructions_in (block_tree (drop l.index l.stmts));
    }
