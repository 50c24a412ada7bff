-- What a check answers.
use Rattle.std.specs.Prelude.{◌≡◌, Result, Ok, Err}
use Rattle.fut_syntax.specs.declared.tree.Program as declared
use Rattle.fut_check.specs.declared.checked.Checked.{Checked}
use Rattle.fut_check.specs.declared.program.CheckFault.{CheckFault}
use Rattle.fut_check.specs.declared.program.CheckFault.TheVariants as fault
use Rattle.fut_check.specs.Checks.{IsChecked, IsFaultOf}

-- a check is Ok exactly where the tree breaks no rule, and says else where the first fault stands and which rule it breaks
abbrev pub Checks : declared.Program → Result Checked CheckFault → Type 0
Checks p (Ok c) = (c.program.now ≡ p) × IsChecked p
Checks p (Err (fault.IllTyped number line column)) = IsFaultOf p number (record { line = line; column = column })
Checks p (Err fault.NoMemory) = Unit {0}
