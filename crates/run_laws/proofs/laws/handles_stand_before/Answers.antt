use Rattle.run_laws.proofs.Waits.{handles_stand_before}
use Rattle.run_laws.proofs.laws.handles_stand_before.Goals as goal

pub returns : goal.returns
returns c = handles_stand_before
