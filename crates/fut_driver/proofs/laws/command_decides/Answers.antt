use Rattle.fut_driver.proofs.Wordings as laws
use Rattle.fut_driver.proofs.laws.command_decides.Goals as goal

pub returns : goal.returns
returns c = laws.command_decides
