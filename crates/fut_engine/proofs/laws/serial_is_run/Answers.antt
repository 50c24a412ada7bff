use Rattle.fut_engine.proofs.Running as running
use Rattle.fut_engine.proofs.laws.serial_is_run.Goals as goal

pub returns : goal.returns
returns c = running.serial_is_run
