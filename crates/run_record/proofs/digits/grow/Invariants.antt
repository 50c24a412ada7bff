use Rattle.std.proofs.Common.{◌≡◌, ◌≤◌, ◌++◌, ◌∷◌, [], length, decimal}
use Rattle.run_record.specs.Machine.{Digits, bound}
use Rattle.run_record.specs.Steps.{Steps}
use Rattle.run_record.proofs.digits.grow.Given as goal

abbrev pub invariant-loop-byte : goal.invariant-loop-byte
invariant-loop-byte l = record {
  goes : Steps (Digits l.fn.kind l.fn.first ∷ []) l.fn.cursor (Digits l.fn.kind l.number ∷ []) l.cursor;
  text : decimal l.fn.first ++ l.fn.cursor ≡ decimal l.number ++ l.cursor;
  most : l.number ≤ bound l.fn.kind;
  least : l.fn.first ≤ l.number;
}

abbrev pub decreases-loop-byte : goal.decreases-loop-byte
decreases-loop-byte l = length l.cursor
