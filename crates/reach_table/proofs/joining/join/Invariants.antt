use Rattle.std.proofs.Common.{◌+◌, length}
use Rattle.reach_table.specs.Merging.{listed, together}
use Rattle.reach_table.specs.Blocks.{flat, values}
use Rattle.reach_table.proofs.Joins.{Joins}
use Rattle.reach_table.proofs.joining.join.Given as goal

abbrev pub invariant-loop-key : goal.invariant-loop-key
invariant-loop-key l =
    Joins l.lists l.own (together (flat (values l.fn.one)) (flat (values l.fn.other)) l.fn.last) (values l.all.items) (values l.one) (values l.other) l.last

abbrev pub decreases-loop-key : goal.decreases-loop-key
decreases-loop-key l = length l.one + length l.other + length (listed l.last)
