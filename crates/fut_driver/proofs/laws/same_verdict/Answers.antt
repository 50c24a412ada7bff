use Rattle.fut_driver.proofs.Causes as laws
use Rattle.fut_driver.proofs.laws.same_verdict.Goals as goal

pub returns : goal.returns
returns c = laws.same_verdict
