-- Laws of run texts.
use Rattle.std.specs.Prelude.{◌≡◌, ℕ, ◌⊎◌, List, [], ◌++◌, Result, Ok, Err}
use Rattle.fut_base.specs.Events.{events_of}
use Rattle.fut_base.specs.declared.event.Event.{Event}
use Rattle.fut_base.specs.declared.record.Race.{Race}
use Rattle.fut_base.specs.declared.record.Finish.{Finish}
use Rattle.run_record.specs.declared.record.RunText.{RunText}
use Rattle.run_record.specs.declared.record.ReadFault.{ReadFault}
use Rattle.run_record.specs.declared.record.ReadFault.TheVariants as fault
use Rattle.run_record.specs.RunText.{run_text}
use Rattle.run_record.specs.Records.{IsWithin, IsRunText, IsSomeRunText, IsFault}
use Rattle.run_record.specs.Reading.{Reading}

-- a text is the run text of one program, one list of entries, one list of races and one finish at most
abbrev pub OneValue : Type 0
OneValue = (bytes p : List ℕ) (es : List Event) (rs : List Race) (f : Finish) (p' : List ℕ) (es' : List Event) (rs' : List Race) (f' : Finish)
    → IsRunText bytes p es rs f → IsRunText bytes p' es' rs' f' → (p ≡ p') × (es ≡ es') × (rs ≡ rs') × (f ≡ f')

-- no run text begins another
abbrev pub NoneBeginsAnother : Type 0
NoneBeginsAnother = (xs more : List ℕ) → IsSomeRunText xs → IsSomeRunText (xs ++ more) → more ≡ []

-- bytes are a run text or have a fault
abbrev pub EitherOne : Type 0
EitherOne = (xs : List ℕ) → IsSomeRunText xs ⊎ ((count : ℕ) × IsFault xs count)

-- and not both, nor two faults
abbrev pub OneFault : Type 0
OneFault = (xs : List ℕ) (count other : ℕ) → IsFault xs count → IsFault xs other → count ≡ other

-- this value was read, or there was no memory
abbrev pub Gives : List ℕ → List Event → List Race → Finish → Result RunText ReadFault → Type 0
Gives p es rs f (Ok r) = (r.program.items ≡ p) × (events_of r.history ≡ es) × (r.races.items ≡ rs) × (r.finish ≡ f)
Gives p es rs f (Err (fault.NotRun count)) = ⊥
Gives p es rs f (Err fault.NoMemory) = Unit {0}

-- reading a run text gives what it was written of, unless memory ran out
abbrev pub ReadsAgain : Type 0
ReadsAgain = (p : List ℕ) (es : List Event) (rs : List Race) (f : Finish) (r : Result RunText ReadFault) → IsWithin p es rs f
    → Reading (run_text p es rs f) r → Gives p es rs f r
