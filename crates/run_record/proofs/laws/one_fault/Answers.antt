use Rattle.run_record.proofs.Decided as laws
use Rattle.run_record.proofs.laws.one_fault.Goals as goal

pub returns : goal.returns
returns c = laws.one_fault
