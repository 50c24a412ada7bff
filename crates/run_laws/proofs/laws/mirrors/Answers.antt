use Rattle.run_laws.proofs.Mirrored.{mirrors}
use Rattle.run_laws.proofs.laws.mirrors.Goals as goal

pub returns : goal.returns
returns c = mirrors
