use Rattle.fut_tokens.proofs.Cuts.{tokens_once}
use Rattle.fut_tokens.proofs.lexer_laws.one_token_list.Goals as goal

pub returns : goal.returns
returns c = tokens_once
