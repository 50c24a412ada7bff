use Rattle.fut_tokens.proofs.Spacing.{spaced_reads}
use Rattle.fut_tokens.proofs.lexer_laws.spaced_reads.Goals as goal

pub returns : goal.returns
returns c = spaced_reads
