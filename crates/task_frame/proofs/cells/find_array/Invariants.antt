use Rattle.std.proofs.Common.{◌≡◌, drop}
use Rattle.task_frame.specs.Arrays.{array_from, find_array}
use Rattle.task_frame.proofs.cells.find_array.Given as goal

abbrev pub invariant-loop-array : goal.invariant-loop-array
invariant-loop-array l =
    record {
      counted : l.place ≡ l.array-index;
      rest : array_from l.place (drop l.array-index l.arrays) l.word ≡ find_array l.arrays l.word;
    }
