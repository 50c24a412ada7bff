use Rattle.fut_driver.proofs.Causes as laws
use Rattle.fut_driver.proofs.laws.replay_answers_run.Goals as goal

pub returns : goal.returns
returns c = laws.replay_answers_run
