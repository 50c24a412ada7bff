use Rattle.std.proofs.Common.{None, map, string_bytes}
use Rattle.command_words.proofs.Wording.{no_run}
use Rattle.command_words.proofs.words.run_of.Goals as goal

pub returns-in_err-seen : goal.returns-in_err-seen
returns-in_err-seen c = rw c.from_residual.ensures (λ events brief crew o. c.in_err-seen.ensures events brief crew None o)

pub returns-in-Some : goal.returns-in-Some
returns-in-Some c =
    let seen = c.in_ok-seen.seen in
    no_run c.args.kind (map string_bytes c.args.rest.now) seen.bound seen.brief seen.crew seen.side c.in-Some.field-0 c.in-Some.is c.in_ok-seen.ensures
