use Rattle.fut_driver.proofs.Cleaned.{clean_answers_for_all}
use Rattle.fut_driver.proofs.clean.clean_answers_for_all.Goals as goal

pub returns : goal.returns
returns c = clean_answers_for_all
