-- Which records make a run text.
use Rattle.std.specs.Prelude.{ℕ, ◌≤◌, List, length}
use Rattle.fut_base.specs.declared.limits.TheConstants.{MOST_PROGRAM_BYTES, MOST_ENTRIES}
use Rattle.fut_base.specs.declared.event.Event.{Event}
use Rattle.fut_base.specs.declared.record.Race.{Race}
use Rattle.fut_base.specs.declared.record.Finish.{Finish}
use Rattle.fut_syntax.specs.Trees as tree
use Rattle.fut_check.specs.Items.{IsWellTyped}
use Rattle.run_record.specs.Records.{AreNumbered, IsFinish, IsWithin}
use Rattle.run_check.specs.Checks.{IsAccepted}

-- what is accepted for a well-typed program is within the bounds of a run text, where the program's text, the number of
-- entries and their numbers are
abbrev pub AcceptedAreWithin : Type 0
AcceptedAreWithin =
    (P : tree.Program) (bytes : List ℕ) (h : List Event) (races : List Race) (end : Finish) → IsWellTyped P → IsAccepted P h races end
    → length bytes ≤ MOST_PROGRAM_BYTES → length h ≤ MOST_ENTRIES → AreNumbered h → IsFinish end → IsWithin bytes h races end
