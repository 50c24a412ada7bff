use Rattle.race_finder.proofs.Reporting.{IsReportUpTo}
use Rattle.race_finder.proofs.cells.report.Given as goal

abbrev pub invariant-loop-cell : goal.invariant-loop-cell
invariant-loop-cell l = IsReportUpTo l.logs l.cell l.races.items
