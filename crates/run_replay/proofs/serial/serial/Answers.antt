use Rattle.std.proofs.Common.{◌≡◌, subst, sym}
use Rattle.fut_base.specs.Events.{events_of}
use Rattle.fut_base.specs.declared.record.Ran.{Ran}
use Rattle.fut_syntax.specs.Trees as tree
use Rattle.fut_check.specs.Items.{IsWellTyped}
use Rattle.task_code.specs.Flat.{IsCodeOf}
use Rattle.run_replay.specs.Serials.{HasTurned, IsNeverStuck, IsSerialRun}
use Rattle.run_replay.proofs.Answering.{if_ok}
use Rattle.run_replay.proofs.Serially.{never_stuck, serial_run, serial_as}
use Rattle.run_replay.proofs.serial.serial.Goals as goal

pub finished-requires : goal.finished-requires
finished-requires c =
    let (P, typed, of) = c.requires.program in
    let code = c.args.code.now in
    let turned =
    subst
    (λ o. HasTurned code c.args.limits (events_of c.loop-made.history)
    (events_of c.turn.new.history) c.turn.new.run o) c.in-Some.is c.in_ok-finish.ensures in
    let y = turned P typed of in
    record { known = (P, code, y.0.machine, y.0.replay) }

pub returns-in-Some-clause-run : goal.returns-in-Some-clause-run
returns-in-Some-clause-run c =
    let code = c.args.code.now in
    let limits = c.args.limits in
    let h = events_of c.turn.new.history in
    let f = c.in-Some.finish in
    let turned =
    subst
    (λ o. HasTurned code limits (events_of c.loop-made.history) (events_of c.turn.new.history) c.turn.new.run o) c.in-Some.is c.in_ok-finish.ensures in
    let goes : (ran : Ran) → (events_of ran.history ≡ events_of c.turn.new.history) × (ran.finish ≡ c.in-Some.finish) × (ran.cells.items ≡ c.turn.new.run.cells)
    → (P : tree.Program) → IsWellTyped P → IsCodeOf P c.args.code.now → IsSerialRun P c.args.limits (events_of ran.history) ran.finish ran.cells.items =
    λ ran says P typed of.
    (let y = turned P typed of in
    serial_as P limits h (events_of ran.history) f ran.finish c.turn.new.run.cells ran.cells.items says.0 says.1 says.2
    (serial_run P code limits h c.turn.new.run y.0 f c.requires.futures y.1)) in
    if_ok c.finished.result
    (λ ran. (events_of ran.history ≡ events_of c.turn.new.history) × (ran.finish ≡ c.in-Some.finish) × (ran.cells.items ≡ c.turn.new.run.cells))
    (λ ran. (P : tree.Program) → IsWellTyped P → IsCodeOf P c.args.code.now
    → IsSerialRun P c.args.limits (events_of ran.history) ran.finish ran.cells.items) goes c.finished.ensures.run

pub returns-in-Some-clause-never_stuck : goal.returns-in-Some-clause-never_stuck
returns-in-Some-clause-never_stuck c =
    let code = c.args.code.now in
    let h = events_of c.turn.new.history in
    let turned = subst (λ o. HasTurned code c.args.limits (events_of c.loop-made.history) h c.turn.new.run o) c.in-Some.is c.in_ok-finish.ensures in
    let goes : (ran : Ran) → (events_of ran.history ≡ h) × (ran.finish ≡ c.in-Some.finish) × (ran.cells.items ≡ c.turn.new.run.cells)
    → (P : tree.Program) → IsWellTyped P → IsCodeOf P c.args.code.now → IsNeverStuck P (events_of ran.history) = λ ran says P typed of.
    (let y = turned P typed of in
    subst (IsNeverStuck P) (sym says.0) (never_stuck P h y.0.machine typed y.0.replay.leads)) in
    if_ok c.finished.result (λ ran. (events_of ran.history ≡ h) × (ran.finish ≡ c.in-Some.finish) × (ran.cells.items ≡ c.turn.new.run.cells))
    (λ ran. (P : tree.Program) → IsWellTyped P → IsCodeOf P c.args.code.now → IsNeverStuck P (events_of ran.history)) goes c.finished.ensures.run
