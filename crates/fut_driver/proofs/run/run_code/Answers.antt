use Rattle.std.proofs.Common.{subst}
use Rattle.fut_base.specs.Events.{events_of}
use Rattle.run_replay.specs.Serials.{IsSerialRun}
use Rattle.fut_engine.proofs.Running.{serial_is_run}
use Rattle.fut_driver.specs.Verdict.{limits_of}
use Rattle.fut_driver.proofs.run.run_code.Goals as goal

pub returns : goal.returns
returns c = λ P typed of.
    let ran = c.in_ok-ran.ran in
    let serial : IsSerialRun P (limits_of c.args.events) (events_of ran.history) ran.finish ran.cells.items =
    subst (λ l. IsSerialRun P l (events_of ran.history) ran.finish ran.cells.items) c.limits.ensures (c.in_ok-ran.ensures.run P typed of) in
    c.in_ok-outcome.ensures P 1 typed of (serial_is_run P (limits_of c.args.events) (events_of ran.history) ran.finish ran.cells.items serial) (λ one. serial)
