use Rattle.fut_syntax.proofs.Appends.{program_ended}
use Rattle.fut_syntax.proofs.laws.lines_spell.Goals as goal

pub returns : goal.returns
returns c = program_ended
