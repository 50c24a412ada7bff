use Rattle.task_types.proofs.Wishes.{wished_get_fits}
use Rattle.task_types.proofs.laws.wished_get_fits.Goals as goal

pub returns : goal.returns
returns c = wished_get_fits
