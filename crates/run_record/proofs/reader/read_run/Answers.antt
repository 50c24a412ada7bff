use Rattle.std.proofs.Common.{ℕ, List, Some, sym, ap, ◌∙◌}
use Rattle.run_record.specs.Machine.{all_due, run}
use Rattle.run_record.proofs.Ends.{stopped_run, left_over, not_run, within}
use Rattle.run_record.proofs.reader.read_run.Goals as goal

pub not_run-requires-in-Err-Fault-clause-least : goal.not_run-requires-in-Err-Fault-clause-least
not_run-requires-in-Err-Fault-clause-least c =
    let e = stopped_run c.new-cursor.result c.whole.new.cursor c.in-Err-Fault.field-0 c.in-Err-Fault.field-0-is c.in-Err-Fault.ensures in
    within c.args.bytes.now _ (sym (ap (λ (q : List ℕ). run all_due q) c.new-cursor.ensures) ∙ e ∙ ap Some (sym c.count-in-Err-Fault.ensures))

pub returns-else-count-eq0 : goal.returns-else-count-eq0
returns-else-count-eq0 c =
    let e = left_over c.new-cursor.result c.whole.new.cursor c.in-Ok.ensures.0 (λ z. c.if-count-eq0.false (c.count.ensures ∙ z)) in
    not_run c.args.bytes.now c.count-else-count-eq0.result c.not_run.result c.not_run.ensures
    (sym (ap (λ (q : List ℕ). run all_due q) c.new-cursor.ensures) ∙ e ∙ ap Some (sym c.count-else-count-eq0.ensures))

pub returns-in-Err-Fault : goal.returns-in-Err-Fault
returns-in-Err-Fault c =
    let e = stopped_run c.new-cursor.result c.whole.new.cursor c.in-Err-Fault.field-0 c.in-Err-Fault.field-0-is c.in-Err-Fault.ensures in
    not_run c.args.bytes.now c.count-in-Err-Fault.result c.not_run-in-Err-Fault.result c.not_run-in-Err-Fault.ensures
    (sym (ap (λ (q : List ℕ). run all_due q) c.new-cursor.ensures) ∙ e ∙ ap Some (sym c.count-in-Err-Fault.ensures))
