use Rattle.std.proofs.Common.{map, string_bytes}
use Rattle.command_words.proofs.Choosing.{no_events, no_crew}
use Rattle.command_words.proofs.options.first_choice.Goals as goal

pub returns-in_err-events : goal.returns-in_err-events
returns-in_err-events c =
    rw c.from_residual.ensures
    (no_events (map string_bytes c.args.words.now) (map string_bytes c.in-Some-behind.rest.now) c.in-Some-behind.ensures c.in_err-events.ensures)

pub returns-in_err-crew : goal.returns-in_err-crew
returns-in_err-crew c =
    rw c.from_residual-in_err-crew.ensures
    (no_crew (map string_bytes c.args.words.now) (map string_bytes c.in-Some-behind-2.rest.now) c.in-Some-behind-2.ensures c.in_err-crew.ensures)
