use Rattle.fut_syntax.proofs.Scraps.{program_none}
use Rattle.fut_syntax.proofs.laws.no_scrap.Goals as goal

pub returns : goal.returns
returns c = program_none
