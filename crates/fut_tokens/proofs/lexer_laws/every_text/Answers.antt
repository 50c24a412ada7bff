use Rattle.fut_tokens.proofs.Every.{every_text}
use Rattle.fut_tokens.proofs.lexer_laws.every_text.Goals as goal

pub returns : goal.returns
returns c = every_text
