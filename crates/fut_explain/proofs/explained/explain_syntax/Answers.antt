use Rattle.fut_explain.proofs.Finding.{token_at_fault}
use Rattle.fut_explain.proofs.Telling.{tells_syntax}
use Rattle.fut_explain.proofs.explained.explain_syntax.Goals as goal

pub mark_under-requires-clause-here : goal.mark_under-requires-clause-here
mark_under-requires-clause-here c = token_at_fault c.args.text.now c.args.place c.requires.fault

pub returns : goal.returns
returns c =
    tells_syntax c.args.text.now c.args.place c.in_ok-mark.mark c.in_ok-found.found c.as_slice.result.now c.syntax_told.result c.requires.fault
    c.in_ok-mark.ensures c.in_ok-found.ensures c.as_slice.ensures.value c.syntax_told.ensures
