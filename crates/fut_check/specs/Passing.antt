-- What it is to go over a part of a task's body.
use Rattle.std.specs.Prelude.{◌≡◌, ℕ, List}
use Rattle.fut_rules.specs.declared.fault.Fault.{Fault}
use Rattle.fut_rules.specs.Faults.{Searched, Walked}
use Rattle.fut_rules.specs.Names.{Scope}

-- a search has gone over so many tokens and met these faults, and the scope is the one that is due behind them
pub record Passed (old new : Searched) (width : ℕ) (faults : List Fault) (scope due : Scope) : Type 0 where
  pub walked : Walked old new width faults
  pub scope_is : scope ≡ due
