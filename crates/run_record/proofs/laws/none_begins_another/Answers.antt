use Rattle.run_record.proofs.Decided as laws
use Rattle.run_record.proofs.laws.none_begins_another.Goals as goal

pub returns : goal.returns
returns c = laws.none_begins_another
