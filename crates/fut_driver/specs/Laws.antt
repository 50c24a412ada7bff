-- Laws of verdicts.
use Rattle.std.specs.Prelude.{◌≡◌, ◌≢◌, ℕ, ◌-◌, ◌^◌, ◌<◌, ◌≤◌, Bool, true, false, List, ◌∷◌, length, codes, Some, None, ◌↔◌}
use Rattle.fut_base.specs.declared.event.Event.{Event}
use Rattle.fut_base.specs.Ports.{Rose}
use Rattle.command_words.specs.declared.words.Command.{Command}
use Rattle.command_words.specs.declared.words.Command.TheVariants as command
use Rattle.command_words.specs.declared.options.Kind.TheVariants as kind
use Rattle.command_words.specs.Asking.{AreOptions, AreWordsOf, most_bytes}
use Rattle.fut_driver.specs.declared.form.Form.{Form}
use Rattle.fut_driver.specs.declared.status.Status.{Status}
use Rattle.fut_driver.specs.declared.status.Status.TheVariants as status
use Rattle.fut_driver.specs.Given.{Asked, Asks}
use Rattle.fut_driver.specs.Verdict.{AsksRun, IsVerdict}

-- the source tells which bytes it has left, and its count of faults can rise
pub record IsTold (a : Asked) (bytes : List ℕ) : Type 0 where
  pub left : a.left_before ≡ Some bytes
  pub can_rise : a.faults_before < 2 ^ 64 - 1

-- where the words ask for a run, it is one on one worker
abbrev pub AsksOneWorker : Asked → Type 0
AsksOneWorker a = (c : Command) (bound : ℕ) (due : Form) (workers : ℕ) → Asks a c → AsksRun c bound due workers → workers ≡ 1

-- no two verdicts of one call hold, but for want of memory, and but for runs on several workers, which may differ
abbrev pub OneVerdict : Type 0
OneVerdict = (a : Asked) (bytes : List ℕ) (s r : Status) (h g : List Event) (text other : List ℕ) → IsTold a bytes → AsksOneWorker a
    → IsVerdict a s h text → IsVerdict a r g other → s ≢ status.NoMemory → r ≢ status.NoMemory → (s ≡ r) × (h ≡ g) × (text ≡ other)

-- two calls with the same words, over sources that have the same bytes left, of which both failed or none
pub record AreAlike (a b : Asked) (bytes : List ℕ) : Type 0 where
  pub may_run : a.may_run ≡ b.may_run
  pub words : a.words ≡ b.words
  pub told : IsTold a bytes
  pub other_told : IsTold b bytes
  pub failed : Rose a.faults_before a.faults_after ↔ Rose b.faults_before b.faults_after

-- they have the same verdict, but for want of memory and for runs on several workers
abbrev pub SameVerdict : Type 0
SameVerdict = (a b : Asked) (bytes : List ℕ) (s r : Status) (h g : List Event) (text other : List ℕ) → AreAlike a b bytes → AsksOneWorker a
    → IsVerdict a s h text → IsVerdict b r g other → s ≢ status.NoMemory → r ≢ status.NoMemory → (s ≡ r) × (h ≡ g) × (text ≡ other)

-- the status says how a run ended
abbrev pub TellsRun : Status → Type 0
TellsRun status.Clean = Unit {0}
TellsRun status.Raced = Unit {0}
TellsRun (status.Spent _) = Unit {0}
TellsRun _ = ⊥

-- a replay of the record that a run wrote, on any number of workers, is answered with the run's status and history, but for want of memory
abbrev pub ReplayAnswersRun : Type 0
ReplayAnswersRun = (a b : Asked) (bound workers : ℕ) (s r : Status) (h g : List Event) (text other : List ℕ)
    → Asks a (command.Run bound false workers) → TellsRun s → IsVerdict a s h text
    → Asks b command.Replay → b.left_before ≡ Some text → length text ≤ most_bytes command.Replay → (Rose b.faults_before b.faults_after → ⊥)
    → IsVerdict b r g other → r ≢ status.NoMemory → (r ≡ s) × (g ≡ h)

-- a call with other words
abbrev pub with_words : Asked → Bool → List (List ℕ) → Asked
with_words a may_run words = record {
  may_run = may_run;
  words = words;
  left_before = a.left_before;
  left_after = a.left_after;
  ended = a.ended;
  faults_before = a.faults_before;
  faults_after = a.faults_after;
}

-- words that ask for the same have the same verdicts
abbrev pub CommandDecides : Type 0
CommandDecides = (a : Asked) (may_run : Bool) (words : List (List ℕ)) (c : Command) (s : Status) (h : List Event) (text : List ℕ)
    → Asks a c → AreWordsOf may_run words c → IsVerdict a s h text → IsVerdict (with_words a may_run words) s h text

-- `run` with one worker has the verdicts of `serial` with the same options
abbrev pub RunIsSerial : Type 0
RunIsSerial = (a : Asked) (options : List (List ℕ)) (bound : ℕ) (brief : Bool) (s : Status) (h : List Event) (text : List ℕ)
    → a.words ≡ codes "serial" ∷ options → AreOptions kind.Serial options bound brief 1 None
    → IsVerdict a s h text ↔ IsVerdict (with_words a true (codes "run" ∷ (codes "--workers" ∷ (codes "1" ∷ options)))) s h text
