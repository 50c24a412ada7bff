-- Entries with the tickets that they drew, the oldest first. Lists of events called `past` have the newest event first.
use Rattle.std.specs.Prelude.{ℕ, ◌==◌, nat_lt, List, map, reverse, filter}
use Rattle.fut_base.specs.declared.event.Event.{Event}
use Rattle.fut_base.specs.declared.record.Entry.{Entry}
use Rattle.fut_base.specs.Events.{event_of, structural}
use Rattle.run_place.specs.Placed.{events_in}

-- the entries of a trace
abbrev pub drawn_of : List (ℕ × Entry) → List (ℕ × Event)
drawn_of trace = map (λ (p : ℕ × Entry). (p.0, event_of p.1)) trace

-- the entries of a task
abbrev pub of_task : ℕ → List (ℕ × Event) → List (ℕ × Event)
of_task t drawn = filter (λ (x : ℕ × Event). x.1.task == t) drawn

-- the structural entries
abbrev pub structural_in : List (ℕ × Event) → List (ℕ × Event)
structural_in drawn = filter (λ (x : ℕ × Event). structural x.1.action) drawn

-- the events of a list, the newest first
abbrev pub past_in : List (ℕ × Event) → List Event
past_in drawn = reverse (events_in drawn)

-- the events with tickets below k, the newest first
abbrev pub past_below : ℕ → List (ℕ × Event) → List Event
past_below k drawn = past_in (filter (λ (x : ℕ × Event). nat_lt x.0 k) drawn)
