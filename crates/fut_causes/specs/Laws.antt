-- Laws of causes.
use Rattle.std.specs.Prelude.{◌≡◌, Bool, true, false}
use Rattle.fut_syntax.specs.Trees.{Program}
use Rattle.fut_rules.specs.declared.fault.Fault.{Fault}
use Rattle.fut_rules.specs.declared.fault.Rule.{Rule}
use Rattle.fut_rules.specs.declared.fault.Rule.TheVariants as rule
use Rattle.fut_rules.specs.Faults as faults
use Rattle.fut_check.specs.Items.{faults_of}
use Rattle.fut_causes.specs.Answers.{IsAmong}
use Rattle.fut_causes.specs.Causes.{Caused, causes_of}

-- where types or counts break a rule a program has a fault of that rule
abbrev pub CausesAreFaults : Type 0
CausesAreFaults = (P : Program) (c : Caused) → IsAmong c (causes_of P) → faults.IsAmong c.fault (faults_of P)

-- types or counts alone break these rules: another number of arguments, a handle where a number is due
abbrev pub is_caused : Rule → Bool
is_caused rule.ArgumentCount = true
is_caused rule.HandleForInt = true
is_caused _ = false

-- each fault of such a rule has a cause
abbrev pub TheseHaveCauses : Type 0
TheseHaveCauses = (P : Program) (f : Fault) → faults.IsAmong f (faults_of P) → is_caused f.rule ≡ true
    → (c : Caused) × IsAmong c (causes_of P) × (c.fault ≡ f)
