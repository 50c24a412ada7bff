use Rattle.run_record.proofs.Onces as laws
use Rattle.run_record.proofs.laws.one_value.Goals as goal

pub returns : goal.returns
returns c = laws.one_value
