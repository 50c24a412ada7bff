use Rattle.std.proofs.Common.{refl, sym, ap, ◌∙◌}
use Rattle.std.specs.Prelude.{slice_get}
use Rattle.std.specs.Option.{option_copied}
use Rattle.task_code.specs.Flat.{code_of}
use Rattle.task_code.proofs.Beginning.{none_given}
use Rattle.task_code.proofs.starting.frame_at.Goals as goal

pub returns-in_ok-make-in-None-clause-holds : goal.returns-in_ok-make-in-None-clause-holds
returns-in_ok-make-in-None-clause-holds c =
    none_given (code_of c.args.code.now.tasks c.args.which)
    (slice_get c.args.code.now.tasks c.args.which) c.in_ok-make-in-None.field-0.slots c.args.args.now refl
    (sym c.task.ensures ∙ ap option_copied c.in-None.is) c.in_ok-make-in-None.ensures.slots
