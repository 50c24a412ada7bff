-- The end of a run.
use Rattle.std.proofs.Common.{List}
use Rattle.std.specs.Prelude.{ℤ}
use Rattle.fut_base.specs.declared.event.Event.{Event}
use Rattle.fut_base.specs.declared.record.Finish.{Finish}
use Rattle.fut_base.specs.declared.record.Finish.TheVariants as finish
use Rattle.fut_base.specs.declared.record.Limits.{Limits}
use Rattle.fut_syntax.specs.Trees as tree
use Rattle.task_machine.specs.Machine.{Machine}
use Rattle.run_replay.specs.Serials.{Stops, IsSerialRun}
use Rattle.fut_engine.specs.Runs.{Ends, IsRun}

pub ends_of : (P : tree.Program) (limits : Limits) (h : List Event) (m : Machine) (f : Finish) → Stops P limits h m f → Ends P limits h m f
ends_of P limits h m finish.Whole s = s
ends_of P limits h m (finish.Events b) (t, r, first, spent) = (t, spent)
ends_of P limits h m (finish.Local u) (t, r, first, spent) = (t, spent)
ends_of P limits h m (finish.Futures u) (t, r, first, spent) = (t, spent)

pub serial_is_run : (P : tree.Program) (limits : Limits) (h : List Event) (f : Finish) (cells : List ℤ) → IsSerialRun P limits h f cells
    → IsRun P limits h f cells
serial_is_run P limits h f cells s =
    record {
      machine = s.machine;
      leads = s.leads;
      few = s.few;
      creates_few = s.creates_few;
      ends = ends_of P limits h s.machine f s.stops;
      holds = s.holds;
      cells_are = s.cells_are;
    }
