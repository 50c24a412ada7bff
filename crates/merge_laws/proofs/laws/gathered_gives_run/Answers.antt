use Rattle.merge_laws.proofs.Gathering.{gathered_gives_run}
use Rattle.merge_laws.proofs.laws.gathered_gives_run.Goals as goal

pub returns : goal.returns
returns c = gathered_gives_run
