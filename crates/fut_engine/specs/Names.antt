-- The names that a call picks anew have these members elsewhere.
use Rattle.std.specs.Prelude.{[]}
use Rattle.fut_base.specs.declared.record.Limits.{Limits}
use Rattle.task_code.specs.Flat.{Compiled}

abbrev pub no_code : Compiled
no_code = record { arrays = []; tasks = []; main = 0; cells = 0 }

abbrev pub no_limits : Limits
no_limits = record { events = 0; local_steps = 0; futures = 0 }
