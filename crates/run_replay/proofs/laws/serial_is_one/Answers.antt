use Rattle.run_replay.proofs.OneRun.{serial_is_one}
use Rattle.run_replay.proofs.laws.serial_is_one.Goals as goal

pub returns : goal.returns
returns c = serial_is_one
