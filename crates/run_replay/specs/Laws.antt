-- Laws of serial runs.
use Rattle.std.specs.Prelude.{◌≡◌, List, ℤ}
use Rattle.fut_base.specs.declared.event.Event.{Event}
use Rattle.fut_base.specs.declared.record.Finish.{Finish}
use Rattle.fut_base.specs.declared.record.Limits.{Limits}
use Rattle.fut_syntax.specs.Trees as tree
use Rattle.run_replay.specs.Serials.{IsSerialRun}

-- two serial runs of a program within the same limits are one run: the same events, the same cause of the end, the same cells
abbrev pub SerialIsOne : Type 0
SerialIsOne =
    (P : tree.Program) (limits : Limits) (h g : List Event) (f e : Finish) (cells values : List ℤ)
    → IsSerialRun P limits h f cells → IsSerialRun P limits g e values
    → (h ≡ g) × (f ≡ e) × (cells ≡ values)
