-- What `explain` answers, and why.
use Rattle.std.specs.Prelude.{◌≡◌, ℕ, ◌+◌, ◌≤◌, Bool, true, List, [], ◌++◌, length, codes, Option, ◌⊎◌}
use Rattle.std.specs.Io.KnownBytes.{Appends, Consumes, IsAtEnd}
use Rattle.fut_base.specs.declared.limits.TheConstants.{MOST_PROGRAM_BYTES}
use Rattle.fut_base.specs.declared.ports.Source as source
use Rattle.fut_base.specs.declared.ports.Sink as sink
use Rattle.fut_base.specs.declared.ports.Wrote.TheVariants as wrote
use Rattle.fut_base.specs.Ports.{Rose, AppendsPart, Writes}
use Rattle.fut_explain.specs.declared.explained.Verdict.{Verdict}
use Rattle.fut_explain.specs.declared.explained.Verdict.TheVariants as verdict
use Rattle.fut_explain.specs.Explained.{Explains}
use Rattle.explain_driver.specs.declared.line.Line.{Line}
use Rattle.explain_driver.specs.declared.line.Line.TheVariants as line
use Rattle.explain_driver.specs.declared.outcome.Outcome.{Outcome}
use Rattle.explain_driver.specs.declared.status.Status.{Status}
use Rattle.explain_driver.specs.declared.status.Status.TheVariants as status

-- ---- what a call was given, and what it wrote to

-- what the source had left before and after a call, whether its last take answered the end, and its count of faults before and
-- after it
pub record Asked : Type 0 where
  pub left_before : Option (List ℕ)
  pub left_after : Option (List ℕ)
  pub ended : Bool
  pub faults_before : ℕ
  pub faults_after : ℕ

-- the same, by what the source tells before and after the call
abbrev pub asked_of : {S : Type 0} → source.Ghosts S → S → S → Asked
asked_of g old new = record {
  left_before = g.left old;
  left_after = g.left new;
  ended = g.ended new;
  faults_before = g.faults old;
  faults_after = g.faults new;
}

-- what the sink held before and after a call, and its count of faults before and after it
pub record Told : Type 0 where
  pub held_before : Option (List ℕ)
  pub held_after : Option (List ℕ)
  pub faults_before : ℕ
  pub faults_after : ℕ

-- the same, by what the sink tells
abbrev pub told_of : {K : Type 0} → sink.Ghosts K → K → K → Told
told_of g old new = record { held_before = g.held old; held_after = g.held new; faults_before = g.faults old; faults_after = g.faults new }

-- these are all bytes that the source had, no more than a program text may have, a take answered the end, and none failed
pub record IsWhole (a : Asked) (bytes : List ℕ) : Type 0 where
  pub short : length bytes ≤ MOST_PROGRAM_BYTES
  pub taken : Consumes a.left_before a.left_after bytes
  pub none_left : IsAtEnd a.left_after
  pub ended : a.ended ≡ true
  pub quiet : a.faults_after ≡ a.faults_before

-- the source gave these bytes, one more than a program text may have, and no take failed
pub record GaveTooMuch (a : Asked) (bytes : List ℕ) : Type 0 where
  pub long : length bytes ≡ MOST_PROGRAM_BYTES + 1
  pub taken : Consumes a.left_before a.left_after bytes
  pub quiet : a.faults_after ≡ a.faults_before

-- nothing was asked of the source
pub record IsUntouched (a : Asked) : Type 0 where
  pub left : a.left_after ≡ a.left_before
  pub quiet : a.faults_after ≡ a.faults_before

-- the bytes begin as a record does
abbrev pub IsRecordText : List ℕ → Type 0
IsRecordText bytes = (rest : List ℕ) × (bytes ≡ codes "forder 1\n" ++ rest)

-- ---- statuses

-- the numbers with which the program ends
abbrev pub status_number : Status → ℕ
status_number status.WellTyped = 0
status_number status.NoProgram = 2
status_number status.IllTyped = 3
status_number status.Record = 5
status_number status.ReadFault = 6
status_number status.WriteFault = 7
status_number status.NoMemory = 8
status_number status.Usage = 9
status_number status.TooLong = 10

-- the status of a text that is this
abbrev pub status_of : Verdict → Status
status_of verdict.NoProgram = status.NoProgram
status_of verdict.IllTyped = status.IllTyped
status_of verdict.WellTyped = status.WellTyped

-- what is told of a program text, or a line that says why nothing is
abbrev pub due_text : Status → List ℕ → List ℕ
due_text status.WellTyped made = made
due_text status.NoProgram made = made
due_text status.IllTyped made = made
due_text status.Record made = codes "a record: records are not explained yet\n"
due_text status.ReadFault made = codes "read fault\n"
due_text status.WriteFault made = []
due_text status.NoMemory made = codes "no memory\n"
due_text status.Usage made = codes "usage: explain, with a program text on standard input\n"
due_text status.TooLong made = codes "too long\n"

-- ---- verdicts

-- the bytes begin as no record does, they are this, and the text tells of them
abbrev pub IsToldOf : List ℕ → Verdict → List ℕ → Type 0
IsToldOf bytes v text = (IsRecordText bytes → ⊥) × Explains bytes v text

-- the bytes begin as a record does
abbrev pub IsRecordTold : List ℕ → List ℕ → Type 0
IsRecordTold bytes text = IsRecordText bytes × (text ≡ codes "a record: records are not explained yet\n")

-- what comes of all bytes of a source: a status and a text; no reason is due for want of memory
abbrev pub IsOfWhole : List ℕ → Status → List ℕ → Type 0
IsOfWhole bytes status.WellTyped text = IsToldOf bytes verdict.WellTyped text
IsOfWhole bytes status.NoProgram text = IsToldOf bytes verdict.NoProgram text
IsOfWhole bytes status.IllTyped text = IsToldOf bytes verdict.IllTyped text
IsOfWhole bytes status.Record text = IsRecordTold bytes text
IsOfWhole bytes status.NoMemory text = text ≡ codes "no memory\n"
IsOfWhole bytes _ text = ⊥

-- what comes of bytes that are more than a program text may have
abbrev pub IsOfLonger : List ℕ → Status → List ℕ → Type 0
IsOfLonger bytes status.Record text = IsRecordTold bytes text
IsOfLonger bytes status.TooLong text = (IsRecordText bytes → ⊥) × (text ≡ codes "too long\n")
IsOfLonger bytes _ text = ⊥

-- all bytes of the source were read, and the text tells of them
abbrev pub IsOfText : Asked → Verdict → List ℕ → Type 0
IsOfText a v text = (bytes : List ℕ) × IsWhole a bytes × IsToldOf bytes v text

-- a status with the text that is due, and what must have come about for it where the command line is bare
abbrev pub IsOfSource : Asked → Status → List ℕ → Type 0
-- the text is a program that breaks no type rule
IsOfSource a status.WellTyped text = IsOfText a verdict.WellTyped text
-- the text is no program
IsOfSource a status.NoProgram text = IsOfText a verdict.NoProgram text
-- the text is a program, and breaks a type rule
IsOfSource a status.IllTyped text = IsOfText a verdict.IllTyped text
-- the bytes, whole or too many, begin as a record does
IsOfSource a status.Record text = (bytes : List ℕ) × (IsWhole a bytes ⊎ GaveTooMuch a bytes) × IsRecordTold bytes text
-- the source gave one byte more than a program text may have, and no record
IsOfSource a status.TooLong text = (bytes : List ℕ) × GaveTooMuch a bytes × (IsRecordText bytes → ⊥) × (text ≡ codes "too long\n")
-- a take failed
IsOfSource a status.ReadFault text = (text ≡ codes "read fault\n") × (a.faults_before ≤ a.faults_after) × Rose a.faults_before a.faults_after
-- no reason is due for want of memory
IsOfSource a status.NoMemory text = (text ≡ codes "no memory\n") × (a.faults_after ≡ a.faults_before)
-- the command line is bare
IsOfSource a status.Usage text = ⊥
-- that a put failed is no verdict of its own
IsOfSource a status.WriteFault text = ⊥

-- the same for each command line; where it is not bare nothing is read
abbrev pub IsVerdict : Line → Asked → Status → List ℕ → Type 0
IsVerdict line.Bare a s text = IsOfSource a s text
IsVerdict line.Words a s text =
    (s ≡ status.Usage) × (text ≡ codes "usage: explain, with a program text on standard input\n") × IsUntouched a
IsVerdict line.NoMemory a s text = (s ≡ status.NoMemory) × (text ≡ codes "no memory\n") × IsUntouched a

-- ---- answers

-- the text of a verdict was added to the sink, where it tells what it holds
pub record IsAnswered (line : Line) (a : Asked) (t : Told) (s : Status) : Type 0 where
  pub text : List ℕ
  pub verdict : IsVerdict line a s text
  pub added : Appends t.held_before t.held_after text
  pub quiet : t.faults_after ≡ t.faults_before

-- a put failed: a beginning of the text of another verdict was added
pub record IsCutOff (line : Line) (a : Asked) (t : Told) : Type 0 where
  pub status : Status
  pub text : List ℕ
  pub verdict : IsVerdict line a status text
  pub added : AppendsPart t.held_before t.held_after text
  pub fewer : t.faults_before ≤ t.faults_after
  pub rose : Rose t.faults_before t.faults_after

-- each status has its verdict, and its text was written
abbrev pub IsAnswer : Line → Asked → Told → Status → Type 0
IsAnswer line a t status.WriteFault = IsCutOff line a t
IsAnswer line a t s = IsAnswered line a t s

-- the text of an outcome was written, and its status is answered; or a put failed
abbrev pub IsEnding : Outcome → Told → Status → Type 0
IsEnding o t s =
    ((s ≡ o.status) × Writes t.held_before t.held_after t.faults_before t.faults_after (due_text o.status o.made.items) wrote.All)
    ⊎ ((s ≡ status.WriteFault) × Writes t.held_before t.held_after t.faults_before t.faults_after (due_text o.status o.made.items) wrote.Failed)
