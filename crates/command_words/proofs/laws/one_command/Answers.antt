use Rattle.command_words.proofs.Wording as laws
use Rattle.command_words.proofs.laws.one_command.Goals as goal

pub returns : goal.returns
returns c = laws.one_command
