use Rattle.over_laws.proofs.Touching.{over_gives_report}
use Rattle.over_laws.proofs.laws.over_gives_report.Goals as goal

pub returns : goal.returns
returns c = over_gives_report
