use Rattle.run_check.proofs.Refusals as laws
use Rattle.run_check.proofs.laws.one_refusal.Goals as goal

pub returns : goal.returns
returns c = laws.one_refusal
