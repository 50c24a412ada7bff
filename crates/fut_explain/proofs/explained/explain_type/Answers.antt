use Rattle.fut_check.proofs.Reading.{read_can_be_checked}
use Rattle.fut_explain.proofs.Finding.{token_at_broken}
use Rattle.fut_explain.proofs.Telling.{tells_type}
use Rattle.fut_explain.proofs.explained.explain_type.Goals as goal

pub mark_under-requires-clause-here : goal.mark_under-requires-clause-here
mark_under-requires-clause-here c =
    token_at_broken c.args.text.now c.args.program.now c.args.rule c.args.place c.requires.parsed c.requires.fault

pub cause_of-requires : goal.cause_of-requires
cause_of-requires c = read_can_be_checked c.args.text.now c.args.program.now c.requires.short c.requires.parsed

pub returns : goal.returns
returns c =
    tells_type c.args.text.now c.args.program.now c.args.place c.args.rule c.in_ok-mark.mark c.in_ok-cause.cause c.type_told.result c.requires.parsed c.requires.fault
    c.in_ok-mark.ensures c.in_ok-cause.ensures c.type_told.ensures
