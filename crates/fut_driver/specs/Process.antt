-- What the process is given on its command line, and how it ends.
use Rattle.std.specs.Prelude.{◌≡◌, ◌≢◌, ℕ, List, [], drop, map, string_bytes, Result, Ok, Err, ◌⊎◌}
use Rattle.std.specs.declared.string.String.{String}
use Rattle.std.specs.declared.vec.IntoIter.{IntoIter}
use Rattle.std.specs.Vec.Iter.{into_iter_items}
use Rattle.std.specs.declared.io.Error.{Error}
use Rattle.std.specs.declared.io.ErrorKind.TheVariants.{OutOfMemory}
use Rattle.std.specs.IoError.{error_kind}
use Rattle.fut_base.specs.declared.event.Event.{Event}
use Rattle.fut_base.specs.Ports.{Writes}
use Rattle.fut_base.specs.declared.ports.Wrote.TheVariants as wrote
use Rattle.fut_driver.specs.declared.line.CommandLine.{CommandLine}
use Rattle.fut_driver.specs.declared.line.CommandLine.TheVariants as line
use Rattle.fut_driver.specs.declared.status.Status.{Status}
use Rattle.fut_driver.specs.declared.status.Status.TheVariants as status
use Rattle.fut_driver.specs.Given.{Asked, Told}
use Rattle.fut_driver.specs.Due.{due_text}
use Rattle.fut_driver.specs.Numbers.{status_number}
use Rattle.fut_driver.specs.Verdict.{IsAnswer}

-- what was given is this command line: its words without the first, which is the program's name; that they were no words; or
-- that there was no memory for them
abbrev pub IsLineOf : {Z : Type 0} → Result (IntoIter (String Z) Z) Error → CommandLine → Type 0
IsLineOf (Ok args) (line.Words words) = words ≡ map string_bytes (drop 1 (into_iter_items args))
IsLineOf (Ok args) line.NoMemory = Unit {0}
IsLineOf (Ok args) line.Foreign = ⊥
IsLineOf (Err e) (line.Words words) = ⊥
IsLineOf (Err e) line.NoMemory = error_kind e ≡ OutOfMemory
IsLineOf (Err e) line.Foreign = error_kind e ≢ OutOfMemory

-- the line of this status was written; or a put failed, and a beginning of it was
abbrev pub IsRefusal : Told → Status → Status → List Event → Type 0
IsRefusal t due s h = (h ≡ []) ×
    (((s ≡ due) × Writes t.held_before t.held_after t.faults_before t.faults_after (due_text due []) wrote.All)
    ⊎ ((s ≡ status.WriteFault) × Writes t.held_before t.held_after t.faults_before t.faults_after (due_text due []) wrote.Failed))

-- what comes of a command line: its words are answered; where it has none, that is usage, or, where there was no memory for them, want
-- of memory
abbrev pub IsLineAnswer : CommandLine → (List (List ℕ) → Asked) → Told → Status → List Event → Type 0
IsLineAnswer (line.Words words) a t s h = IsAnswer (a words) t s h
IsLineAnswer line.Foreign a t s h = IsRefusal t status.Usage s h
IsLineAnswer line.NoMemory a t s h = IsRefusal t status.NoMemory s h

-- the process ends with the number of the status that comes of its command line
abbrev pub EndsWith : CommandLine → (List (List ℕ) → Asked) → Told → ℕ → Type 0
EndsWith line a t number = (s : Status) × (h : List Event) × IsLineAnswer line a t s h × (number ≡ status_number s)

-- the command line has words
abbrev pub HasWords : CommandLine → Type 0
HasWords (line.Words words) = Unit {0}
HasWords _ = ⊥
