-- Edges in the code, and as pairs of strands.
use Rattle.std.specs.Prelude.{ℕ, List, [], map, reverse, Option, option_map}
use Rattle.std.specs.List.{cons_option}
use Rattle.fut_base.specs.declared.record.Entry.{Entry}
use Rattle.fut_base.specs.declared.event.Event.{Event}
use Rattle.fut_base.specs.Events.{event_of}
use Rattle.race_report.specs.declared.edges.Edge.{Edge}

-- the events of some entries, the newest first
abbrev pub past_of : List Entry → List Event
past_of entries = reverse (map event_of entries)

-- the strands that an edge joins
abbrev pub ends_of : Edge → ℕ × ℕ
ends_of e = (e.from, e.to)

-- the edge turned round
abbrev pub turn : Edge → Edge
turn e = record { from = e.to; to = e.from }

-- the edge from a task's last strand, where it has one
abbrev pub join_from : Option ℕ → ℕ → List (ℕ × ℕ)
join_from last strand = cons_option (option_map (λ l. (l, strand)) last) []
