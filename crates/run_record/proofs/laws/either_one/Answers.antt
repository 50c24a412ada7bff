use Rattle.run_record.proofs.Decided as laws
use Rattle.run_record.proofs.laws.either_one.Goals as goal

pub returns : goal.returns
returns c = laws.either_one
