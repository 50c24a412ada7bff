use Rattle.fut_syntax.proofs.Programs.{printed_reads}
use Rattle.fut_syntax.proofs.laws.printed_reads.Goals as goal

pub returns : goal.returns
returns c = printed_reads
