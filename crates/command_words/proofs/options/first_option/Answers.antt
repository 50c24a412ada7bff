use Rattle.std.proofs.Common.{map, string_bytes, sym, ◌∙◌}
use Rattle.command_words.proofs.Choosing.{no_option}
use Rattle.command_words.proofs.options.first_option.Goals as goal

pub returns-else-is_option : goal.returns-else-is_option
returns-else-is_option c =
    let first = c.in_ok-choice.ensures in
    no_option c.args.kind (map string_bytes c.args.words.now) (map string_bytes c.in_ok-choice.more.now) c.in_ok-choice.choice first.0 first.1
    (sym c.is_option.ensures ∙ c.if-is_option.false)
