use Rattle.std.proofs.Common.{take}
use Rattle.fut_syntax.specs.Views.{block_tree}
use Rattle.task_frame.specs.Gathered.{HasBlock, Widens, words_of_block}
use Rattle.task_frame.proofs.names.+names.Given as goal

abbrev pub invariant-note_block-loop-stmt : goal.invariant-note_block-loop-stmt
invariant-note_block-loop-stmt l =
    record {
      has : HasBlock l.names.items (block_tree (take l.stmt-index l.body));
      more : Widens l.fn.names.items l.names.items (words_of_block (block_tree (take l.stmt-index l.body)));
    }
