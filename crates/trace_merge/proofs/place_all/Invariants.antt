use Rattle.std.proofs.Common.{◌≡◌, ℕ, length, List, ◌++◌}
use Rattle.fut_base.specs.declared.record.Entry.{Entry}
use Rattle.fut_base.specs.Listed.{Listed}
use Rattle.trace_merge.specs.Placing.{HavePlaces, entries_in}
use Rattle.trace_merge.proofs.place_all.Given as goal

abbrev pub invariant-loop-trace : goal.invariant-loop-trace
invariant-loop-trace l =
    (done : List (Listed (ℕ × Entry))) × (done ++ l.traces.items ≡ l.initial.traces.items) × (length l.places ≡ length l.initial.places)
    × HavePlaces (entries_in done) l.initial.places l.places

abbrev pub decreases-loop-trace : goal.decreases-loop-trace
decreases-loop-trace l = length l.traces.items
