use Rattle.std.proofs.Common.{◌≡◌, List, ◌∷◌, reverse, take, slice_get}
use Rattle.std.specs.Prelude.{Some}
use Rattle.fut_base.specs.declared.event.Event.{Event}
use Rattle.fut_base.specs.Tables.{lasts_of}
use Rattle.reach_table.specs.Merging.{IsMergedOf}
use Rattle.race_finder.specs.Acting.{MaySync}
use Rattle.race_finder.proofs.joins.table_of_block.Given as goal

abbrev pub invariant-loop-child : goal.invariant-loop-child
invariant-loop-child l =
    (s : List Event) → MaySync s l.places l.tracks l.task → slice_get l.tracks l.task ≡ Some l.track
    → IsMergedOf s l.track.at.future (l.track.at.number ∷ lasts_of (reverse s) (take l.child-index l.track.block.items)) l.reach
