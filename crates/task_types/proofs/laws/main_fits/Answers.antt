use Rattle.task_types.proofs.Running.{main_fits_any}
use Rattle.task_types.proofs.laws.main_fits.Goals as goal

pub returns : goal.returns
returns c = main_fits_any
