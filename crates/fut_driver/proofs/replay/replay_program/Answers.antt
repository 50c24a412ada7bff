use Rattle.fut_base.specs.Events.{events_of}
use Rattle.command_words.specs.declared.words.Command.TheVariants as command
use Rattle.fut_driver.proofs.Endings.{refused}
use Rattle.fut_driver.proofs.replay.replay_program.Goals as goal

pub returns-in-Err : goal.returns-in-Err
returns-in-Err c = λ a words read.
    let run = c.args.run in
    refused a command.Replay c.args.bytes.now run.program.items c.in-Err.refusal _ _ _ c.refused.ensures.status c.refused.ensures.history
    (events_of run.history, run.races.items, run.finish, c.requires) (rw c.as_slice.ensures at c.in-Err.ensures) words read
