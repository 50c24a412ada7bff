use Rattle.fut_driver.proofs.Causes as laws
use Rattle.fut_driver.proofs.laws.one_verdict.Goals as goal

pub returns : goal.returns
returns c = laws.one_verdict
