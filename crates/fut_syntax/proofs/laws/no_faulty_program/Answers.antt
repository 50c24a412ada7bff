use Rattle.fut_syntax.proofs.Programs.{no_faulty_program}
use Rattle.fut_syntax.proofs.laws.no_faulty_program.Goals as goal

pub returns : goal.returns
returns c = no_faulty_program
