-- What a call was given.
use Rattle.std.specs.Prelude.{ℕ, Bool, List, Option}
use Rattle.fut_base.specs.declared.ports.Source as source
use Rattle.fut_base.specs.declared.ports.Sink as sink
use Rattle.command_words.specs.declared.words.Command.{Command}
use Rattle.command_words.specs.Asking.{AreWordsOf}

-- what a call was given: whether it makes runs on workers, the words, what the source had left before and after it, whether the last
-- take answered the end, and the source's count of faults before and after it
pub record Asked : Type 0 where
  pub may_run : Bool
  pub words : List (List ℕ)
  pub left_before : Option (List ℕ)
  pub left_after : Option (List ℕ)
  pub ended : Bool
  pub faults_before : ℕ
  pub faults_after : ℕ

-- the same, by what the source tells before and after the call
abbrev pub asked_of : {S : Type 0} → source.Ghosts S → Bool → List (List ℕ) → S → S → Asked
asked_of g may_run words old new = record {
  may_run = may_run;
  words = words;
  left_before = g.left old;
  left_after = g.left new;
  ended = g.ended new;
  faults_before = g.faults old;
  faults_after = g.faults new;
}

-- what the sink held before and after a call, and its count of faults before and after it
pub record Told : Type 0 where
  pub held_before : Option (List ℕ)
  pub held_after : Option (List ℕ)
  pub faults_before : ℕ
  pub faults_after : ℕ

-- the same, by what the sink tells
abbrev pub told_of : {K : Type 0} → sink.Ghosts K → K → K → Told
told_of g old new = record { held_before = g.held old; held_after = g.held new; faults_before = g.faults old; faults_after = g.faults new }

-- the words ask for this
abbrev pub Asks : Asked → Command → Type 0
Asks a c = AreWordsOf a.may_run a.words c
