use Rattle.fut_check.proofs.Reading as reading
use Rattle.fut_check.proofs.laws.read_can_be_checked.Goals as goal

pub returns : goal.returns
returns c = reading.read_can_be_checked
