use Rattle.run_laws.proofs.Sound.{legal_is_sound}
use Rattle.run_laws.proofs.laws.legal_is_sound.Goals as goal

pub returns : goal.returns
returns c = legal_is_sound
