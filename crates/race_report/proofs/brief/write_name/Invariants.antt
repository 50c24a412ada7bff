use Rattle.std.proofs.Common.{◌≡◌, drop}
use Rattle.race_report.specs.Brief.{cell_name}
use Rattle.race_report.proofs.brief.write_name.Given as goal

abbrev pub invariant-loop-array : goal.invariant-loop-array
invariant-loop-array g l = record {
  rest : cell_name l.arrays l.cell ≡ cell_name (drop l.array-index l.arrays) l.cell;
  same : l.out ≡ l.fn.out;
}
