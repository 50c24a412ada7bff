use Rattle.fut_driver.proofs.Wordings as laws
use Rattle.fut_driver.proofs.laws.run_is_serial.Goals as goal

pub returns : goal.returns
returns c = laws.run_is_serial
