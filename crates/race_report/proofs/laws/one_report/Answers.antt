use Rattle.fut_base.proofs.Reports.{one_report}
use Rattle.race_report.proofs.laws.one_report.Goals as goal

pub returns : goal.returns
returns c = one_report
