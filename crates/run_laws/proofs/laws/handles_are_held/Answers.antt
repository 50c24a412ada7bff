use Rattle.run_laws.proofs.Waits.{handles_are_held}
use Rattle.run_laws.proofs.laws.handles_are_held.Goals as goal

pub returns : goal.returns
returns c = handles_are_held
