use Rattle.fut_check.proofs.Once as once
use Rattle.fut_check.proofs.laws.one_first.Goals as goal

pub returns : goal.returns
returns c = once.one_first
