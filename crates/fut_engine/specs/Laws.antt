-- Laws of runs.
use Rattle.std.specs.Prelude.{List, ℤ}
use Rattle.fut_base.specs.declared.event.Event.{Event}
use Rattle.fut_base.specs.declared.record.Finish.{Finish}
use Rattle.fut_base.specs.declared.record.Limits.{Limits}
use Rattle.fut_syntax.specs.Trees as tree
use Rattle.run_replay.specs.Serials.{IsSerialRun}
use Rattle.fut_engine.specs.Runs.{IsRun}

-- the serial run of a program is one of its runs
abbrev pub SerialIsRun : Type 0
SerialIsRun = (P : tree.Program) (limits : Limits) (h : List Event) (f : Finish) (cells : List ℤ) → IsSerialRun P limits h f cells → IsRun P limits h f cells
