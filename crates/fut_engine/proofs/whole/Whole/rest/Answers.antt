use Rattle.std.proofs.Common.{ap, subst}
use Rattle.std.specs.Prelude.{IfOk}
use Rattle.fut_base.specs.Events.{events_of}
use Rattle.fut_syntax.specs.Trees as tree
use Rattle.fut_check.specs.Items.{IsWellTyped}
use Rattle.task_code.specs.Flat.{IsCodeOf}
use Rattle.fut_engine.specs.Going.{GoesFirst}
use Rattle.fut_engine.specs.Runs.{IsRun}
use Rattle.fut_engine.specs.Turns.{WholeNow}
use Rattle.fut_engine.proofs.Turning.{goes_so}
use Rattle.fut_engine.proofs.whole.Whole.rest.Goals as goal

pub go_on_alone-requires-clause-goes : goal.go_on_alone-requires-clause-goes
go_on_alone-requires-clause-goes g c =
    goes_so c.args.code.now g.J.Naming.code g.J.Naming.limits c.self.inside.limits
    (events_of c.self.inside.history) c.self.inside.run c.self.inside.seats.items c.requires.code c.self.invariant

pub returns-clause-run : goal.returns-clause-run
returns-clause-run g c =
    subst
    (λ k. IfOk c.go_on_alone.result
    (λ ran. (P : tree.Program) → IsWellTyped P → IsCodeOf P c.args.code.now
    → IsRun P k (events_of ran.history) ran.finish ran.cells.items)) c.self.invariant.limits_are c.go_on_alone.ensures.run

pub returns-clause-goes : goal.returns-clause-goes
returns-clause-goes g c =
    subst (λ h. IfOk c.go_on_alone.result (λ ran. (P : tree.Program) → IsWellTyped P → IsCodeOf P c.args.code.now → GoesFirst P h (events_of ran.history)))
    (ap (λ (w : WholeNow). w.history) c.self.view_is) c.go_on_alone.ensures.goes
