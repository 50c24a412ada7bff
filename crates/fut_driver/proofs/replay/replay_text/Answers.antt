use Rattle.fut_driver.proofs.Endings.{not_run}
use Rattle.fut_driver.proofs.replay.replay_text.Goals as goal

pub returns-in-Err-NotRun : goal.returns-in-Err-NotRun
returns-in-Err-NotRun c = λ a words read.
    not_run a _ _ _ c.args.bytes.now c.in-Err-NotRun.byte c.bare.ensures.status c.bare.ensures.history
    (rw c.in-Err-NotRun.field-0-is at c.in-Err-NotRun.ensures) words read
