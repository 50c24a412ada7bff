-- What comes of the bytes that a command works on.
use Rattle.std.specs.Prelude.{◌≡◌, ◌≢◌, ℕ, ◌≤◌, List, [], ◌∷◌, length, Some, ℤ, ◌⊎◌}
use Rattle.fut_base.specs.declared.event.Event.{Event}
use Rattle.fut_base.specs.declared.record.Race.{Race}
use Rattle.fut_base.specs.declared.record.Finish.{Finish}
use Rattle.fut_base.specs.declared.record.Finish.TheVariants as finish
use Rattle.fut_syntax.specs.declared.tree.Program as declared
use Rattle.fut_tokens.specs.declared.token.Token.{Token}
use Rattle.fut_tokens.specs.Lexed.{IsTokensOf}
use Rattle.fut_syntax.specs.Texts.{IsProgram, IsFaultPlace}
use Rattle.fut_syntax.specs.Views.{program_tree}
use Rattle.fut_syntax.specs.Trees as tree
use Rattle.fut_check.specs.Checks.{HasPlaces}
use Rattle.task_machine.specs.Texts.{cell_arrays}
use Rattle.run_record.specs.Records.{IsRunText}
use Rattle.fut_driver.specs.declared.form.Form.{Form}
use Rattle.fut_driver.specs.declared.form.Form.TheVariants as form
use Rattle.fut_driver.specs.declared.status.Status.{Status}
use Rattle.fut_driver.specs.declared.status.Status.TheVariants as status
use Rattle.fut_driver.specs.declared.program.Refusal.{Refusal}
use Rattle.fut_driver.specs.declared.program.Refusal.TheVariants as refusal
use Rattle.command_words.specs.declared.words.Command.{Command}
use Rattle.command_words.specs.Asking.{AreWorkers, IsBound}
use Rattle.task_code.specs.Flat.{IsCodeOf}
use Rattle.fut_base.specs.Events.{events_of}
use Rattle.fut_base.specs.Ports.{Writes}
use Rattle.fut_base.specs.declared.limits.TheConstants.{MOST_PROGRAM_BYTES}
use Rattle.fut_base.specs.declared.ports.Wrote.TheVariants as wrote
use Rattle.fut_driver.specs.declared.job.Job.{Job}
use Rattle.fut_driver.specs.declared.job.Prepared.{Prepared}
use Rattle.fut_driver.specs.declared.job.Prepared.TheVariants as prepared
use Rattle.fut_driver.specs.declared.outcome.Outcome.{Outcome}
use Rattle.fut_driver.specs.declared.status.Ended.{Ended}
use Rattle.fut_driver.specs.Given.{Asked, Told, Asks}
use Rattle.fut_driver.specs.Due.{due_text, run_due}
use Rattle.fut_driver.specs.Verdict.{IsInput, AsksRun, IsWellTypedText, EndsIn, IsIllTypedText, IsVerdict}

-- how a run ended that has these races
abbrev pub ending_of : Finish → List Race → Status
ending_of finish.Whole [] = status.Clean
ending_of finish.Whole (_ ∷ _) = status.Raced
ending_of (finish.Events b) races = status.Spent (finish.Events b)
ending_of (finish.Local t) races = status.Spent (finish.Local t)
ending_of (finish.Futures t) races = status.Spent (finish.Futures t)

-- the tree of a text, which has a place for each of its tokens
pub record IsOfTree (text : List ℕ) (p : declared.Program) : Type 0 where
  pub tree : tree.Program
  pub is : program_tree p.items ≡ Some tree
  pub program : IsProgram text tree
  pub places : HasPlaces p
  pub tokens : List Token
  pub cut : IsTokensOf text tokens p.places

-- why a text was not taken as a program
abbrev pub IsRefused : List ℕ → Refusal → Type 0
IsRefused text (refusal.Syntax line column) = IsFaultPlace text (record { line = line; column = column })
IsRefused text (refusal.IllTyped rule line column) = IsIllTypedText text rule (record { line = line; column = column })
IsRefused text refusal.NoMemory = Unit {0}

-- the status for such a text
abbrev pub status_of : Refusal → Status
status_of (refusal.Syntax line column) = status.Syntax line column
status_of (refusal.IllTyped rule line column) = status.IllTyped rule line column
status_of refusal.NoMemory = status.NoMemory

-- a program was run, on so many workers, and this text was made of the run
pub record RanAs (P : tree.Program) (workers bound : ℕ) (due : Form) (text : List ℕ) (s : Status) (h : List Event) (made : List ℕ) : Type 0 where
  pub races : List Race
  pub end : Finish
  pub cells : List ℤ
  pub status : s ≡ ending_of end races
  pub ends : EndsIn P workers bound s end h races cells
  pub text_is : made ≡ run_due due text (cell_arrays P) h races end cells
  pub recorded : due ≡ form.Record → IsRunText made text h races end

-- a job is a run of this program on several workers
pub record IsJob (P : tree.Program) (job : Job) : Type 0 where
  pub typed : IsWellTypedText job.text.items P
  pub code_is : IsCodeOf P job.code
  pub short : length job.text.items ≤ MOST_PROGRAM_BYTES
  pub bounded : IsBound job.events
  pub workers : AreWorkers job.workers
  pub several : job.workers ≢ 1

-- the words ask for this job, and its text is what the command works on
pub record IsAsked (a : Asked) (job : Job) : Type 0 where
  pub command : Command
  pub words : Asks a command
  pub asked : AsksRun command job.events job.form job.workers
  pub read : IsInput a command job.text.items
  pub job_is : (P : tree.Program) × IsJob P job

-- wherever a command works on these bytes, this is a verdict
abbrev pub IsOutcome : Command → List ℕ → Status → List Event → List ℕ → Type 0
IsOutcome c bytes s h made = (a : Asked) → Asks a c → IsInput a c bytes → IsVerdict a s h (due_text s made)

-- what comes of the bytes that a command works on: an outcome, or the job that the command asks for
abbrev pub IsPrepared : Command → List ℕ → Prepared → Type 0
IsPrepared c bytes (prepared.Done o) = IsOutcome c bytes o.status (events_of o.history) o.text.items
IsPrepared c bytes (prepared.Due job) =
    AsksRun c job.events job.form job.workers × (job.text.items ≡ bytes) × ((P : tree.Program) × IsJob P job)

-- what comes of a call: a verdict, or a job that the words ask for
abbrev pub IsJudged : Asked → Prepared → Type 0
IsJudged a (prepared.Done o) = IsVerdict a o.status (events_of o.history) (due_text o.status o.text.items)
IsJudged a (prepared.Due job) = IsAsked a job

-- the call ends with how it is used
abbrev pub IsUsage : Prepared → Type 0
IsUsage (prepared.Done o) = o.status ≡ status.Usage
IsUsage (prepared.Due job) = ⊥

-- the text of an outcome was written, and its status and history are answered; or a put failed
abbrev pub IsEnding : Outcome → Told → Ended → Type 0
IsEnding o t e =
    (events_of e.history ≡ events_of o.history)
    × (((e.status ≡ o.status) × Writes t.held_before t.held_after t.faults_before t.faults_after (due_text o.status o.text.items) wrote.All)
    ⊎ ((e.status ≡ status.WriteFault) × Writes t.held_before t.held_after t.faults_before t.faults_after (due_text o.status o.text.items) wrote.Failed))
