use Rattle.std.proofs.Common.{◌≡◌, ℕ, length, List, ◌++◌}
use Rattle.fut_base.specs.declared.record.Entry.{Entry as Made}
use Rattle.trace_merge.specs.Placing.{HavePlaces}
use Rattle.trace_merge.proofs.place_trace.Given as goal

abbrev pub invariant-loop-ticket : goal.invariant-loop-ticket
invariant-loop-ticket l =
    (done : List (ℕ × Made)) × (done ++ l.trace.items ≡ l.initial.trace.items) × (length l.places ≡ length l.initial.places)
    × HavePlaces done l.initial.places l.places

abbrev pub decreases-loop-ticket : goal.decreases-loop-ticket
decreases-loop-ticket l = length l.trace.items
