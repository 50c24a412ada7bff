-- What a part of the reader did.
use denote.Ref.{Bor}
use Rattle.std.specs.Prelude.{◌≡◌, ℕ, ◌≤◌, Bool, true, false, List, [], ◌∷◌, ◌++◌, length, Option, Some, None, Result, Ok, Err, decimal, codes}
use Rattle.std.specs.Fmt.{signed_decimal}
use Rattle.fut_base.specs.declared.limits.TheConstants.{MOST_PROGRAM_BYTES, MOST_ENTRIES}
use Rattle.fut_base.specs.Listed.{Listed}
use Rattle.fut_base.specs.Events.{events_of}
use Rattle.fut_base.specs.declared.event.Event.{Event}
use Rattle.fut_base.specs.declared.record.Value.{Value}
use Rattle.fut_base.specs.declared.record.Race.{Race}
use Rattle.run_record.specs.declared.acts.Access.{Access}
use Rattle.run_record.specs.declared.acts.Call.{Call}
use Rattle.run_record.specs.declared.cursor.Stop.{Stop}
use Rattle.run_record.specs.declared.cursor.Stop.TheVariants as stop
use Rattle.run_record.specs.declared.digits.Kind.{Kind}
use Rattle.run_record.specs.declared.digits.Kind.TheVariants as kind
use Rattle.run_record.specs.declared.record.RunText.{RunText}
use Rattle.run_record.specs.RunText.{call_line, entry_lines, race_lines, run_text}
use Rattle.run_record.specs.declared.bounds.TheConstants.{MOST_ARGUMENTS, MOST_RACES}
use Rattle.run_record.specs.Records.{IsNumber, IsSigned, AreValues, IsCall, AreEvents, AreRaces, IsWithin}
use Rattle.run_record.specs.Machine.{Symbol, Number, Digits, due, run, is_more, bound, bytes_due, entries_due, races_due}

-- the first byte, where there is one
abbrev pub front : List ℕ → Option ℕ
front [] = None
front (x ∷ xs) = Some x

-- the bytes behind the first
abbrev pub behind : List ℕ → List ℕ
behind [] = []
behind (x ∷ xs) = xs

-- whatever is due besides, the run goes from there to here
pub record Steps (s : List Symbol) (xs : List ℕ) (s' : List Symbol) (ys : List ℕ) : Type 0 where
  pub goes : (k : List Symbol) → run (s ++ k) xs ≡ run (s' ++ k) ys

-- whatever is due besides, the run stops here
pub record Halts (s : List Symbol) (xs ys : List ℕ) : Type 0 where
  pub stops : (k : List Symbol) → run (s ++ k) xs ≡ Some (length ys)

-- why reading stops: no memory, or a byte that is not due
abbrev pub StopsBy : List Symbol → List ℕ → List ℕ → Stop → Type 0
StopsBy s xs ys stop.Fault = Halts s xs ys
StopsBy s xs ys stop.NoMemory = Unit {0}

-- the reading of what is due stopped: the fault is in view, or there is no memory
pub record Stops (s : List Symbol) (xs ys : List ℕ) (e : Stop) : Type 0 where
  pub by : StopsBy s xs ys e

-- What is due was read as a value within its bounds, of which this is the text when other bytes were taken before; or the
-- reading stopped.
abbrev pub ReadOn : {X T : Type 0} → List ℕ → List Symbol → (T → List ℕ) → (T → Type 0) → (X → T) → List ℕ → List ℕ → Result X Stop → Type 0
ReadOn taken s text Within view xs ys (Ok x) = Steps s xs [] ys × (taken ++ xs ≡ text (view x) ++ ys) × Within (view x)
ReadOn taken s text Within view xs ys (Err e) = Stops s xs ys e

-- what is due was read as a value within its bounds, of which this is the text, or the reading stopped
abbrev pub Read : {X T : Type 0} → List Symbol → (T → List ℕ) → (T → Type 0) → (X → T) → List ℕ → List ℕ → Result X Stop → Type 0
Read s text Within view xs ys r = ReadOn [] s text Within view xs ys r

-- these bytes were read, or the reading stopped
abbrev pub Took : List ℕ → List ℕ → List ℕ → Result (Unit {0}) Stop → Type 0
Took text xs ys (Ok _) = Steps (due text) xs [] ys × (xs ≡ text ++ ys)
Took text xs ys (Err e) = Stops (due text) xs ys e

-- so many bytes were read, or there are fewer
abbrev pub TookBytes : ℕ → List ℕ → List ℕ → Result (Bor (List ℕ)) Stop → Type 0
TookBytes n xs ys (Ok taken) = Steps (bytes_due n) xs [] ys × (xs ≡ taken.now ++ ys) × (length taken.now ≡ n)
TookBytes n xs ys (Err e) = Stops (bytes_due n) xs ys e

-- the first byte is no further digit
abbrev pub EndsAt : Kind → ℕ → List ℕ → Type 0
EndsAt k n [] = Unit {0}
EndsAt k n (x ∷ xs) = is_more k n x ≡ false

-- all further digits were read
pub record Grew (k : Kind) (n : ℕ) (xs : List ℕ) (m : ℕ) (ys : List ℕ) : Type 0 where
  pub goes : Steps (Digits k n ∷ []) xs (Digits k m ∷ []) ys
  pub text : decimal n ++ xs ≡ decimal m ++ ys
  pub most : m ≤ bound k
  pub least : n ≤ m
  pub ends : EndsAt k m ys

-- a number and all its digits were read
pub record IsDigits (k : Kind) (xs : List ℕ) (n : ℕ) (ys : List ℕ) : Type 0 where
  pub goes : Steps (Number k ∷ []) xs (Digits k n ∷ []) ys
  pub text : xs ≡ decimal n ++ ys
  pub most : n ≤ bound k
  pub ends : EndsAt k n ys

-- the digits of a number were taken, or reading stops
abbrev pub ReadNumber : Kind → List ℕ → List ℕ → Result ℕ Stop → Type 0
ReadNumber k xs ys (Ok n) = IsDigits k xs n ys
ReadNumber k xs ys (Err e) = Stops (Number k ∷ []) xs ys e

-- what is due behind a line with a count
abbrev pub counted : Kind → ℕ → List Symbol
counted kind.Plain n = []
counted kind.Positive n = []
counted kind.Negative n = []
counted kind.Bytes n = bytes_due n
counted kind.Entries n = entries_due 0 n
counted kind.Races n = races_due n

-- a number of bytes, entries or races
abbrev pub is_count : Kind → Bool
is_count kind.Plain = false
is_count kind.Positive = false
is_count kind.Negative = false
is_count kind.Bytes = true
is_count kind.Entries = true
is_count kind.Races = true

-- a count and the end of its line were taken, or reading stops
abbrev pub ReadCount : Kind → List ℕ → List ℕ → Result ℕ Stop → Type 0
ReadCount k xs ys (Ok n) = Steps (Number k ∷ []) xs (counted k n) ys × (xs ≡ decimal n ++ 10 ∷ ys) × (n ≤ bound k)
ReadCount k xs ys (Err e) = Stops (Number k ∷ []) xs ys e

-- a value is its own view
abbrev pub same : {X : Type 0} → X → X
same x = x

-- the items of a list
abbrev pub items_of : {X : Type 0} → Listed X → List X
items_of l = l.items

-- a number behind some bytes
abbrev pub with_word : List ℕ → ℕ → List ℕ
with_word word n = word ++ decimal n

-- the same to the end of the line
abbrev pub as_line : List ℕ → ℕ → List ℕ
as_line word n = word ++ (decimal n ++ codes "\n")

-- at most 16 values
abbrev pub AreArguments : List Value → Type 0
AreArguments vs = (length vs ≤ MOST_ARGUMENTS) × AreValues vs

-- the line of an access, behind this word
abbrev pub access_text : List ℕ → Access → List ℕ
access_text word a = word ++ (decimal a.cell ++ (codes " " ++ (signed_decimal a.value ++ codes "\n")))

-- the numbers of an access are within their bounds
abbrev pub IsAccess : Access → Type 0
IsAccess a = IsNumber a.cell × IsSigned a.value

-- the line of a call, behind this word
abbrev pub call_text : List ℕ → Call → List ℕ
call_text word c = word ++ call_line c.code c.child c.kid c.cont c.args.items

-- the numbers of a call are within their bounds
abbrev pub IsCalled : Call → Type 0
IsCalled c = IsCall c.code c.child c.kid c.cont c.args.items

-- so many events, whose numbers are within their bounds
abbrev pub AreEntries : ℕ → List Event → Type 0
AreEntries n es = (length es ≡ n) × AreEvents es

-- so many races, whose numbers are within their bounds
abbrev pub AreRacesOf : ℕ → List Race → Type 0
AreRacesOf n rs = (length rs ≡ n) × AreRaces rs

-- the count of the program's bytes, and the bytes
abbrev pub program_text : List ℕ → List ℕ
program_text program = codes "forder 1\nprogram " ++ (decimal (length program) ++ (codes "\n" ++ program))

-- a program that is not too long
abbrev pub IsProgram : List ℕ → Type 0
IsProgram program = length program ≤ MOST_PROGRAM_BYTES

-- the count of the entries, and the entries
abbrev pub history_text : List Event → List ℕ
history_text es = codes "\nentries " ++ (decimal (length es) ++ (codes "\n" ++ entry_lines 0 es))

-- a history that is not too long, whose numbers are within their bounds
abbrev pub IsHistory : List Event → Type 0
IsHistory es = (length es ≤ MOST_ENTRIES) × AreEvents es

-- the count of the races, and the races
abbrev pub report_text : List Race → List ℕ
report_text rs = codes "races " ++ (decimal (length rs) ++ (codes "\n" ++ race_lines rs))

-- races that are not too many, whose numbers are within their bounds
abbrev pub IsReport : List Race → Type 0
IsReport rs = (length rs ≤ MOST_RACES) × AreRaces rs

-- what the parts of a run text say
abbrev pub whole_text : RunText → List ℕ
whole_text r = run_text r.program.items (events_of r.history) r.races.items r.finish

-- a record within its bounds
abbrev pub IsWhole : RunText → Type 0
IsWhole r = IsWithin r.program.items (events_of r.history) r.races.items r.finish
