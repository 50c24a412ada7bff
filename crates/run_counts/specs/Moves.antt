-- How jobs come in and go out.
use Rattle.std.specs.Prelude.{ℕ, ◌+◌, ◌-◌}
use Rattle.run_counts.specs.Counted.{Counted, Handed}

-- a worker's job came in, and so many jobs went out to it
abbrev pub turned : ℕ → Handed → Handed
turned jobs h = record { given = h.given + jobs; taken = h.taken + 1 }

-- an event: one job came in, and two went out
abbrev pub forked : Counted → Counted
forked c = record c { events = c.events + 1; running = c.running + 1; given = c.given + 2; taken = c.taken + 1 }

-- an event: one job came in, and one went out
abbrev pub gone_on : Counted → Counted
gone_on c = record c { events = c.events + 1; given = c.given + 1; taken = c.taken + 1 }

-- no event: one job came in, whose task waits
abbrev pub gone_to_wait : Counted → Counted
gone_to_wait c = record c { running = c.running - 1; waiting = c.waiting + 1; taken = c.taken + 1 }

-- an event: one job came in, whose task has ended
abbrev pub over : Counted → Counted
over c = record c { events = c.events + 1; running = c.running - 1; taken = c.taken + 1 }

-- a task that waited waits no more, and its job went out
abbrev pub woken : Counted → Counted
woken c = record c { running = c.running + 1; waiting = c.waiting - 1; given = c.given + 1 }
