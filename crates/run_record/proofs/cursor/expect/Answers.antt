use Rattle.std.proofs.Common.{◌∙◌, sym}
use Rattle.run_record.proofs.Chains.{onward_stops}
use Rattle.run_record.proofs.Cursors.{none_left, due_short}
use Rattle.run_record.proofs.cursor.expect.Goals as goal

pub returns-in_default-2 : goal.returns-in_default-2
returns-in_default-2 c = onward_stops c.loop-due.invariant.goes
    (due_short c.args.text.now c.loop-due.due-index c.loop-due.cursor c.loop-due-test.true (none_left c.loop-due.cursor (sym c.peek.ensures ∙ c.in_default.is)))
