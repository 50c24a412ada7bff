-- The names that a call picks anew have these members elsewhere.
use Rattle.std.specs.Prelude.{[]}
use Rattle.atomic_table.specs.Seated.{TableId}
use Rattle.fut_base.specs.declared.record.Limits.{Limits}
use Rattle.event_clock.specs.Seated.{Ticking, no_size}
use Rattle.task_code.specs.Flat.{Compiled}

-- no table
abbrev pub no_table : TableId
no_table = record { words = 0; slots = 0; views_name = 0; atom = 0; block = 0; offset = 0; slot_names = [] }

-- no clock
abbrev pub no_clock : Ticking
no_clock = record { id = no_table; size = no_size }

-- no code
abbrev pub no_code : Compiled
no_code = record { arrays = []; tasks = []; main = 0; cells = 0 }

-- no limits
abbrev pub no_limits : Limits
no_limits = record { events = 0; local_steps = 0; futures = 0 }
