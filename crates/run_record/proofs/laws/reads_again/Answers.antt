use Rattle.run_record.proofs.Decided as laws
use Rattle.run_record.proofs.laws.reads_again.Goals as goal

pub returns : goal.returns
returns c = laws.reads_again
