use Rattle.fut_tokens.proofs.Spacing.{respaced_reads}
use Rattle.fut_tokens.proofs.lexer_laws.respaced_reads.Goals as goal

pub returns : goal.returns
returns c = respaced_reads
