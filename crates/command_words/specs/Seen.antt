-- What options say together that were read one by one.
use Rattle.std.specs.Prelude.{◌≡◌, ℕ, List, is_some}
use Rattle.command_words.specs.declared.options.Choice.{Choice}
use Rattle.command_words.specs.declared.options.Choice.TheVariants as choice
use Rattle.command_words.specs.declared.options.Seen as declared
use Rattle.command_words.specs.Asking.{times, count, is_events, is_brief, is_workers, is_side, bound_of, workers_of, side_of}

-- these options say this together, where so many workers make a run whose options name none
pub record IsSeen (unnamed : ℕ) (choices : List Choice) (seen : declared.Seen) : Type 0 where
  pub bound : seen.bound ≡ bound_of choices
  pub events : count is_events choices ≡ times seen.events
  pub brief : count is_brief choices ≡ times seen.brief
  pub workers : count is_workers choices ≡ times seen.workers
  pub crew : seen.crew ≡ workers_of unnamed choices
  pub sides : count is_side choices ≡ times (is_some seen.side)
  pub side : seen.side ≡ side_of choices

-- an option of this kind is among them
abbrev pub IsAgain : List Choice → Choice → Type 0
IsAgain choices (choice.Events _) = count is_events choices ≡ 1
IsAgain choices choice.Brief = count is_brief choices ≡ 1
IsAgain choices (choice.Workers _) = count is_workers choices ≡ 1
IsAgain choices (choice.Side _) = count is_side choices ≡ 1
