use Rattle.std.proofs.Common.{◌≡◌, ◌+◌, ◌%◌, ◌^◌, drop}
use Rattle.std.specs.Prelude.{sum_by}
use Rattle.std.specs.Int.{w64, cast_unsigned}
use Rattle.race_report.proofs.brief.sum.Given as goal

abbrev pub invariant-loop-cell : goal.invariant-loop-cell
invariant-loop-cell l = (l.sum + sum_by (cast_unsigned w64) (drop l.cell-index l.cells)) % 2 ^ 64 ≡ sum_by (cast_unsigned w64) l.cells % 2 ^ 64
