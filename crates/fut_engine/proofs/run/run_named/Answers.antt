use Rattle.std.proofs.Common.{subst, sym}
use Rattle.std.specs.Prelude.{IfOk}
use Rattle.fut_base.specs.Events.{events_of}
use Rattle.fut_syntax.specs.Trees as tree
use Rattle.fut_check.specs.Items.{IsWellTyped}
use Rattle.task_code.specs.Flat.{IsCodeOf}
use Rattle.fut_engine.specs.Runs.{IsRun}
use Rattle.fut_engine.proofs.run.run_named.Goals as goal

pub returns-clause-run : goal.returns-clause-run
returns-clause-run g c =
    subst
    (λ k. IfOk c.rest.result
    (λ ran. (P : tree.Program) → IsWellTyped P → IsCodeOf P c.args.code.now → IsRun P k (events_of ran.history) ran.finish ran.cells.items))
    (sym c.requires.limits) c.rest.ensures.run
