use Rattle.fut_explain.proofs.Placing.{token_placed}
use Rattle.fut_explain.proofs.mark.mark_under.Goals as goal

pub line_of-requires-clause-within : goal.line_of-requires-clause-within
line_of-requires-clause-within c = token_placed c.args.text.now c.args.place c.requires.here.0 c.requires.here.1
