use Rattle.task_types.proofs.Wishes.{wished_end_fits}
use Rattle.task_types.proofs.laws.wished_end_fits.Goals as goal

pub returns : goal.returns
returns c = wished_end_fits
