use Rattle.fut_tokens.proofs.Spacing.{lines_read}
use Rattle.fut_tokens.proofs.lexer_laws.lines_read.Goals as goal

pub returns : goal.returns
returns c = lines_read
