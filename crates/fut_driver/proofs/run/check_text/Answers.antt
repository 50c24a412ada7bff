use Rattle.std.proofs.Common.{refl}
use Rattle.command_words.specs.declared.words.Command.TheVariants as command
use Rattle.fut_driver.proofs.Endings.{refused}
use Rattle.fut_driver.proofs.run.check_text.Goals as goal

pub returns : goal.returns
returns c = λ a words read.
    refused a command.Check c.args.text.now c.args.text.now c.in-Err.refusal _ _ _ c.refused.ensures.status c.refused.ensures.history refl c.in-Err.ensures
    words read
