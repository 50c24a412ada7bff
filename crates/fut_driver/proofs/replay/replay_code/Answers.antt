use Rattle.std.proofs.Common.{◌∙◌, sym, ap, length, arith}
use Rattle.std.proofs.lemmas.List.{length-map}
use Rattle.fut_base.specs.Events.{event_of, events_of}
use Rattle.fut_driver.specs.Due.{legal_text}
use Rattle.fut_driver.specs.Verdict.{IsRecordOf}
use Rattle.fut_driver.proofs.Endings.{record_verdict}
use Rattle.fut_driver.proofs.replay.replay_code.Goals as goal

pub returns-in-Ok-legal_line : goal.returns-in-Ok-legal_line
returns-in-Ok-legal_line c = λ a words read.
    let run = c.args.run in
    let P = c.requires.program.0 in
    let typed = c.requires.program.1 in
    let of : IsRecordOf c.args.bytes.now P (events_of run.history) run.races.items run.finish =
    record { program = run.program.items; record_is = c.requires.record; typed = typed } in
    let accepted = c.in-Ok.ensures P typed.well_typed c.requires.program.2 in
    let count = c.len.ensures ∙ sym (length-map run.history.items event_of) in
    let due = c.in-Ok-legal_line.ensures ∙ (ap (λ n. legal_text n c.len-2.result) count ∙ ap (legal_text (length (events_of run.history))) c.len-2.ensures) in
    rw c.ending.ensures
    (record_verdict a c.args.bytes.now P (events_of run.history) run.races.items run.finish c.in-Ok-legal_line.text.items of accepted due words read)

pub check_run-requires-clause-few : goal.check_run-requires-clause-few
check_run-requires-clause-few c =
    let few = c.requires.record.within.few in
    let same = length-map c.args.run.history.items event_of in
    omega (arith, few, same)
