-- What the process is given on its command line, and how it ends.
use Rattle.std.specs.Prelude.{◌≡◌, ◌≢◌, ℕ, List, [], drop, Result, Ok, Err}
use Rattle.std.specs.declared.string.String.{String}
use Rattle.std.specs.declared.vec.IntoIter.{IntoIter}
use Rattle.std.specs.Vec.Iter.{into_iter_items}
use Rattle.std.specs.declared.io.Error.{Error}
use Rattle.std.specs.declared.io.ErrorKind.TheVariants.{OutOfMemory}
use Rattle.std.specs.IoError.{error_kind}
use Rattle.explain_driver.specs.declared.line.Line.{Line}
use Rattle.explain_driver.specs.declared.line.Line.TheVariants as line
use Rattle.explain_driver.specs.declared.status.Status.{Status}
use Rattle.explain_driver.specs.Answers.{Asked, Told, IsAnswer, status_number}

-- whether words stand behind the first
abbrev pub IsBehindName : {X : Type 0} → List X → Line → Type 0
IsBehindName words line.Bare = drop 1 words ≡ []
IsBehindName words line.Words = drop 1 words ≢ []
IsBehindName words line.NoMemory = ⊥

-- what was given is this command line: its words, of which the first is the program's name; that they were no words; or that there
-- was no memory for them
abbrev pub IsLineOf : {Z : Type 0} → Result (IntoIter (String Z) Z) Error → Line → Type 0
IsLineOf (Ok args) l = IsBehindName (into_iter_items args) l
IsLineOf (Err e) line.Bare = ⊥
IsLineOf (Err e) line.NoMemory = error_kind e ≡ OutOfMemory
IsLineOf (Err e) line.Words = error_kind e ≢ OutOfMemory

-- the process ends with the number of the status that comes of its command line
abbrev pub EndsWith : Line → Asked → Told → ℕ → Type 0
EndsWith line a t number = (s : Status) × IsAnswer line a t s × (number ≡ status_number s)
