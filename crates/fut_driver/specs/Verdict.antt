-- What `forder` and `plain` answer, and why.
use Rattle.std.specs.Prelude.{◌≡◌, ◌≢◌, ℕ, ◌+◌, ◌≤◌, Bool, true, false, List, [], length, codes, slice_get, Option, Some, ◌⊎◌, ℤ}
use Rattle.std.specs.Io.KnownBytes.{Appends, Consumes, IsAtEnd}
use Rattle.fut_base.specs.declared.event.Event.{Event}
use Rattle.fut_base.specs.declared.record.Race.{Race}
use Rattle.fut_base.specs.declared.record.Finish.{Finish}
use Rattle.fut_base.specs.declared.record.Limits.{Limits}
use Rattle.fut_base.specs.declared.record.Finish.TheVariants as finish
use Rattle.fut_base.specs.Ports.{Rose, AppendsPart}
use Rattle.fut_base.specs.Racing.{IsReport}
use Rattle.fut_base.specs.declared.limits.TheConstants.{MOST_CREATES, MOST_LOCAL_STEPS}
use Rattle.fut_tokens.specs.declared.token.Position.{Position}
use Rattle.fut_tokens.specs.declared.token.Token.{Token}
use Rattle.fut_syntax.specs.Trees as tree
use Rattle.fut_tokens.specs.Lexed.{IsTokensOf}
use Rattle.fut_syntax.specs.Lines.{canonical_text}
use Rattle.fut_syntax.specs.Texts.{IsProgram, IsFaultPlace}
use Rattle.fut_rules.specs.declared.fault.Fault.{Fault}
use Rattle.fut_rules.specs.Faults.{rule_number}
use Rattle.fut_check.specs.Items.{IsWellTyped, IsFirstFault}
use Rattle.task_machine.specs.Texts.{cell_arrays}
use Rattle.run_replay.specs.Serials.{IsSerialRun}
use Rattle.fut_engine.specs.Runs.{IsRun}
use Rattle.run_check.specs.Checks.{IsAccepted, IsRefusedAt}
use Rattle.run_record.specs.Records.{IsRunText, IsFault}
use Rattle.command_words.specs.Asking.{most_bytes}
use Rattle.fut_driver.specs.Given.{Asked, Told, Asks}
use Rattle.fut_driver.specs.Due.{syntax_text, type_text, legal_text, not_legal_text, not_run_text, form_of, run_due}
use Rattle.fut_driver.specs.Load.{load_text}
use Rattle.fut_driver.specs.declared.form.Form.{Form}
use Rattle.fut_driver.specs.declared.form.Form.TheVariants as form
use Rattle.fut_driver.specs.declared.status.Status.{Status}
use Rattle.fut_driver.specs.declared.status.Status.TheVariants as status
use Rattle.command_words.specs.declared.words.Command.{Command}
use Rattle.command_words.specs.declared.words.Command.TheVariants as command

-- ---- what was read

-- the command reads from the source
abbrev pub Reads : Command → Type 0
Reads command.Check = Unit {0}
Reads command.Replay = Unit {0}
Reads (command.Run events brief workers) = Unit {0}
Reads (command.Load side events workers) = ⊥

-- these are all bytes that the source had, and a take answered the end; what it had left before and afterwards is given
abbrev pub IsAllOf : Option (List ℕ) → Option (List ℕ) → Bool → List ℕ → Type 0
IsAllOf old new ended bytes = Consumes old new bytes × IsAtEnd new × (ended ≡ true)

-- where the command works on these bytes, what became of the source: all of it was read; for `load` nothing, and the bytes are the
-- text of its program
abbrev pub IsTaken : Command → Option (List ℕ) → Option (List ℕ) → Bool → List ℕ → Type 0
IsTaken command.Check old new ended bytes = IsAllOf old new ended bytes
IsTaken command.Replay old new ended bytes = IsAllOf old new ended bytes
IsTaken (command.Run events brief workers) old new ended bytes = IsAllOf old new ended bytes
IsTaken (command.Load side events workers) old new ended bytes = (bytes ≡ load_text side) × (new ≡ old)

-- the command works on these bytes, which are no more than it works on at most, and no take failed
pub record IsInput (a : Asked) (c : Command) (bytes : List ℕ) : Type 0 where
  pub short : length bytes ≤ most_bytes c
  pub taken : IsTaken c a.left_before a.left_after a.ended bytes
  pub quiet : a.faults_after ≡ a.faults_before

-- the source gave one byte more than the most that are read, and no take failed
pub record GaveTooMuch (a : Asked) (most : ℕ) : Type 0 where
  pub bytes : List ℕ
  pub long : length bytes ≡ most + 1
  pub taken : Consumes a.left_before a.left_after bytes
  pub quiet : a.faults_after ≡ a.faults_before

-- ---- texts

-- the text is a program that breaks no type rule
pub record IsWellTypedText (bytes : List ℕ) (P : tree.Program) : Type 0 where
  pub program : IsProgram bytes P
  pub well_typed : IsWellTyped P

-- the text is a program whose first fault breaks the rule of this number, and its token stands here
pub record IsIllTypedText (bytes : List ℕ) (number : ℕ) (place : Position) : Type 0 where
  pub tree : tree.Program
  pub program : IsProgram bytes tree
  pub fault : Fault
  pub first : IsFirstFault tree fault
  pub rule : number ≡ rule_number fault.rule
  pub tokens : List Token
  pub places : List Position
  pub cut : IsTokensOf bytes tokens places
  pub stands : slice_get places fault.token ≡ Some place

-- the text is a program that breaks no type rule, and this is its canonical text
abbrev pub IsPrinted : List ℕ → List ℕ → Type 0
IsPrinted bytes printed = (P : tree.Program) × IsWellTypedText bytes P × (printed ≡ canonical_text P)

-- ---- runs

-- the limits of a run of so many entries
abbrev pub limits_of : ℕ → Limits
limits_of bound = record { events = bound; local_steps = MOST_LOCAL_STEPS; futures = MOST_CREATES }

-- a history is a run of a program up to so many entries, the serial one where there is one worker, which ended so with these
-- values in its cells, and these are its races
pub record IsRunOf (P : tree.Program) (workers bound : ℕ) (h : List Event) (end : Finish) (races : List Race) (cells : List ℤ) : Type 0 where
  pub run : IsRun P (limits_of bound) h end cells
  pub serial : workers ≡ 1 → IsSerialRun P (limits_of bound) h end cells
  pub report : IsReport h races

-- a status says how a run ended that has these races: whole without a race, whole with one, or spent
abbrev pub Says : Status → Finish → List Race → Type 0
Says status.Clean end races = (end ≡ finish.Whole) × (races ≡ [])
Says status.Raced end races = (end ≡ finish.Whole) × (races ≢ [])
Says (status.Spent spent) end races = (end ≡ spent) × (end ≢ finish.Whole)
Says _ end races = ⊥

-- a program was run, and the status says how that run ended
abbrev pub EndsIn : tree.Program → ℕ → ℕ → Status → Finish → List Event → List Race → List ℤ → Type 0
EndsIn P workers bound s end h races cells = IsRunOf P workers bound h end races cells × Says s end races

-- ---- verdicts

-- the bytes are the run text of a program text, a history, races and a finish, and the text is this program without a fault
pub record IsRecordOf (bytes : List ℕ) (P : tree.Program) (h : List Event) (races : List Race) (end : Finish) : Type 0 where
  pub program : List ℕ
  pub record_is : IsRunText bytes program h races end
  pub typed : IsWellTypedText program P

-- the bytes are such a record, and it is accepted
abbrev pub IsGoodRecord : List ℕ → tree.Program → List Event → List Race → Finish → Type 0
IsGoodRecord bytes P h races end = IsRecordOf bytes P h races end × IsAccepted P h races end

-- the command asks for a run of at most so many entries on so many workers, of which this text is due: of `load` the brief text
-- with its sum
abbrev pub AsksRun : Command → ℕ → Form → ℕ → Type 0
AsksRun command.Check bound due workers = ⊥
AsksRun command.Replay bound due workers = ⊥
AsksRun (command.Run events brief crew) bound due workers = (events ≡ bound) × (form_of brief ≡ due) × (crew ≡ workers)
AsksRun (command.Load side events crew) bound due workers = (events ≡ bound) × (form.Summed ≡ due) × (crew ≡ workers)

-- the words ask for a run, the bytes that the command works on are a program that breaks no type rule, its run ended so, and the
-- record of that run is due, which a replay accepts, or its brief text
pub record IsOfRun (a : Asked) (s : Status) (h : List Event) (text : List ℕ) : Type 0 where
  pub command : Command
  pub words : Asks a command
  pub bound : ℕ
  pub due : Form
  pub workers : ℕ
  pub asked : AsksRun command bound due workers
  pub bytes : List ℕ
  pub read : IsInput a command bytes
  pub tree : tree.Program
  pub program : IsWellTypedText bytes tree
  pub races : List Race
  pub end : Finish
  pub cells : List ℤ
  pub ends : EndsIn tree workers bound s end h races cells
  pub is_due : text ≡ run_due due bytes (cell_arrays tree) h races end cells
  pub replayed : due ≡ form.Record → IsGoodRecord text tree h races end

-- the words ask for a replay, all the source's bytes were read, they are the record of a program with this history, it is
-- accepted, the status says how it ended, and the line with its counts is due
pub record IsOfRecord (a : Asked) (s : Status) (h : List Event) (text : List ℕ) : Type 0 where
  pub words : Asks a command.Replay
  pub bytes : List ℕ
  pub read : IsInput a command.Replay bytes
  pub tree : tree.Program
  pub races : List Race
  pub end : Finish
  pub good : IsGoodRecord bytes tree h races end
  pub says : Says s end races
  pub is_due : text ≡ legal_text (length h) (length races)

-- a run or a legal record
abbrev pub IsOfHistory : Asked → Status → List Event → List ℕ → Type 0
IsOfHistory a s h text = IsOfRun a s h text ⊎ IsOfRecord a s h text

-- the program text that a command finds in the bytes: in a record the one that it names, else all the bytes
abbrev pub IsGiven : Command → List ℕ → List ℕ → Type 0
IsGiven command.Replay bytes program = (h : List Event) × (races : List Race) × (end : Finish) × IsRunText bytes program h races end
IsGiven command.Check bytes program = program ≡ bytes
IsGiven (command.Run bound brief workers) bytes program = program ≡ bytes
IsGiven (command.Load side bound workers) bytes program = program ≡ bytes

-- the words ask for this command, no run was made, and this is due; this holds of the bytes that the command works on
pub record IsOfBytes (a : Asked) (c : Command) (h : List Event) (text due : List ℕ) (Holds : List ℕ → Type 0) : Type 0 where
  pub words : Asks a c
  pub no_run : h ≡ []
  pub is_due : text ≡ due
  pub bytes : List ℕ
  pub read : IsInput a c bytes
  pub holds : Holds bytes

-- the same of some command, and it holds of the program text that the command finds in the bytes
abbrev pub IsOfText : Asked → List Event → List ℕ → List ℕ → (List ℕ → Type 0) → Type 0
IsOfText a h text due Holds =
    (c : Command) × IsOfBytes a c h text due (λ bytes. (program : List ℕ) × IsGiven c bytes program × Holds program)

-- the bytes are the record of a program, which is refused at this entry
pub record IsRefusedRecord (bytes : List ℕ) (entry : ℕ) : Type 0 where
  pub tree : tree.Program
  pub events : List Event
  pub races : List Race
  pub end : Finish
  pub record_is : IsRecordOf bytes tree events races end
  pub refused : IsRefusedAt tree events races end entry

-- a status with the history that is answered and the text that is due, and what must have come about for it
abbrev pub IsVerdict : Asked → Status → List Event → List ℕ → Type 0
IsVerdict a status.Clean h text = IsOfHistory a status.Clean h text
IsVerdict a status.Raced h text = IsOfHistory a status.Raced h text
IsVerdict a (status.Spent end) h text = IsOfHistory a (status.Spent end) h text
-- the text is a program that breaks no type rule, and its canonical text is due
IsVerdict a status.Accepted h text = IsOfBytes a command.Check h text text (λ bytes. IsPrinted bytes text)
-- the text is no program
IsVerdict a (status.Syntax line column) h text =
    IsOfText a h text (syntax_text line column) (λ program. IsFaultPlace program (record { line = line; column = column }))
-- the text is a program, and breaks a type rule
IsVerdict a (status.IllTyped rule line column) h text =
    IsOfText a h text (type_text rule line column) (λ program. IsIllTypedText program rule (record { line = line; column = column }))
-- the bytes are the record of a program, and it is refused
IsVerdict a (status.NotLegal entry) h text =
    IsOfBytes a command.Replay h text (not_legal_text entry) (λ bytes. IsRefusedRecord bytes entry)
-- the bytes are no run text
IsVerdict a (status.NotRun byte) h text = IsOfBytes a command.Replay h text (not_run_text byte) (λ bytes. IsFault bytes byte)
-- the command reads, and the source gave one byte more than it does
IsVerdict a status.TooLong h text = ((c : Command) × Asks a c × Reads c × GaveTooMuch a (most_bytes c)) × (h ≡ []) × (text ≡ codes "too long\n")
-- the command reads, and a take failed
IsVerdict a status.ReadFault h text =
    ((c : Command) × Asks a c × Reads c) × (h ≡ []) × (text ≡ codes "read fault\n") × (a.faults_before ≤ a.faults_after) × Rose a.faults_before a.faults_after
-- no reason is due for want of memory
IsVerdict a status.NoMemory h text = (h ≡ []) × (text ≡ codes "no memory\n") × (a.faults_after ≡ a.faults_before)
-- the words have another form; nothing is read
IsVerdict a status.Usage h text =
    ((c : Command) → Asks a c → ⊥) × (h ≡ []) × (text ≡ codes "usage: forder run, serial, replay, check or load\n") × (a.left_after ≡ a.left_before)
    × (a.faults_after ≡ a.faults_before)
-- that a put failed is no verdict of its own
IsVerdict a status.WriteFault h text = ⊥

-- the text of a verdict was added to the sink, where it tells what it holds
pub record IsAnswered (a : Asked) (t : Told) (s : Status) (h : List Event) : Type 0 where
  pub text : List ℕ
  pub verdict : IsVerdict a s h text
  pub added : Appends t.held_before t.held_after text
  pub quiet : t.faults_after ≡ t.faults_before

-- a put failed: a beginning of the text of another verdict was added
pub record IsCutOff (a : Asked) (t : Told) (h : List Event) : Type 0 where
  pub status : Status
  pub text : List ℕ
  pub verdict : IsVerdict a status h text
  pub added : AppendsPart t.held_before t.held_after text
  pub fewer : t.faults_before ≤ t.faults_after
  pub rose : Rose t.faults_before t.faults_after

-- each status has its verdict, and its text was written
abbrev pub IsAnswer : Asked → Told → Status → List Event → Type 0
IsAnswer a t status.WriteFault h = IsCutOff a t h
IsAnswer a t s h = IsAnswered a t s h

-- the words ask for a run, or for a replay
abbrev pub AsksHistory : Asked → Type 0
AsksHistory a = ((c : Command) × (bound : ℕ) × (due : Form) × (workers : ℕ) × Asks a c × AsksRun c bound due workers) ⊎ Asks a command.Replay

-- the answers to what nothing hinders
abbrev pub IsFree : Asked → Status → Type 0
IsFree a status.Accepted = Asks a command.Check
IsFree a status.Clean = AsksHistory a
IsFree a status.Raced = AsksHistory a
IsFree a (status.Spent _) = AsksHistory a
IsFree a status.NoMemory = Unit {0}
IsFree a _ = ⊥

-- the bytes are what a command reads: a program without a fault, or a record of one that is accepted
abbrev pub IsFit : Command → List ℕ → Type 0
IsFit command.Check bytes = (P : tree.Program) × IsWellTypedText bytes P
IsFit (command.Run bound brief workers) bytes = (P : tree.Program) × IsWellTypedText bytes P
IsFit (command.Load side bound workers) bytes = (P : tree.Program) × IsWellTypedText bytes P
IsFit command.Replay bytes =
    (P : tree.Program) × (h : List Event) × (races : List Race) × (end : Finish) × IsGoodRecord bytes P h races end

-- the source tells that it has left these bytes; for `load` they are the text of its program, whatever the source has
abbrev pub IsLeft : Command → Option (List ℕ) → List ℕ → Type 0
IsLeft command.Check left bytes = left ≡ Some bytes
IsLeft command.Replay left bytes = left ≡ Some bytes
IsLeft (command.Run events brief workers) left bytes = left ≡ Some bytes
IsLeft (command.Load side events workers) left bytes = bytes ≡ load_text side

-- the words ask for a command, the source tells that it has left what the command reads, a program text of at most 1,048,576
-- bytes or a record of at most 67,108,864, and no count of faults rose
pub record IsUnhindered (a : Asked) (t : Told) : Type 0 where
  pub command : Command
  pub words : Asks a command
  pub bytes : List ℕ
  pub left : IsLeft command a.left_before bytes
  pub short : length bytes ≤ most_bytes command
  pub fit : IsFit command bytes
  pub source_quiet : Rose a.faults_before a.faults_after → ⊥
  pub sink_quiet : Rose t.faults_before t.faults_after → ⊥

-- where nothing hinders, the status is one of those
abbrev pub IsComplete : Asked → Told → Status → Type 0
IsComplete a t s = IsUnhindered a t → IsFree a s
