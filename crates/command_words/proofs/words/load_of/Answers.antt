use Rattle.std.proofs.Common.{false, Some, refl, map, string_bytes}
use Rattle.command_words.proofs.Wording.{no_load, load_with}
use Rattle.command_words.proofs.words.load_of.Goals as goal

pub returns-in_err-seen : goal.returns-in_err-seen
returns-in_err-seen c = rw c.from_residual.ensures (λ side events crew o. c.in_err-seen.ensures events false crew (Some side) o)

pub returns-in_err-side : goal.returns-in_err-side
returns-in_err-side c = rw c.from_residual-in_err-side.ensures (no_load _ _ _ _ _ c.in_err-side.was c.in_ok-seen.ensures)

pub returns : goal.returns
returns c =
    let seen = c.in_ok-seen.seen in (
      c.in_ok-side.side,
      seen.bound,
      seen.crew,
      refl,
      load_with (map string_bytes c.args.rest.now) seen.bound seen.brief seen.crew seen.side c.in_ok-side.side c.in_ok-side.was c.in_ok-seen.ensures,
    )
