-- Laws of records that are accepted or refused.
use Rattle.std.specs.Prelude.{◌≡◌, ℕ, List}
use Rattle.fut_base.specs.declared.event.Event.{Event}
use Rattle.fut_base.specs.declared.record.Race.{Race}
use Rattle.fut_base.specs.declared.record.Finish.{Finish}
use Rattle.fut_syntax.specs.Trees as tree
use Rattle.run_check.specs.Checks.{IsAccepted, IsRefusedAt}

-- a record that is accepted is refused nowhere
abbrev pub AcceptedIsNotRefused : Type 0
AcceptedIsNotRefused = (P : tree.Program) (h : List Event) (races : List Race) (end : Finish) (k : ℕ) → IsAccepted P h races end
    → IsRefusedAt P h races end k → ⊥

-- a record is refused at one entry at most
abbrev pub OneRefusal : Type 0
OneRefusal = (P : tree.Program) (h : List Event) (races : List Race) (end : Finish) (j k : ℕ) → IsRefusedAt P h races end j
    → IsRefusedAt P h races end k → j ≡ k
