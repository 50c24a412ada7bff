use Rattle.task_types.proofs.Wishing.{effect_stays}
use Rattle.task_types.proofs.laws.effect_stays_typed.Goals as goal

pub returns : goal.returns
returns c = effect_stays
