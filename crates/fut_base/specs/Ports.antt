-- What a source gives and a sink takes, and when they may fail.
use Rattle.std.specs.Prelude.{◌≡◌, ℕ, ◌+◌, ◌-◌, ◌^◌, ◌<◌, ◌≤◌, min, Bool, true, false, List, ◌++◌, length, take, Option}
use Rattle.std.specs.Io.KnownBytes.{Appends, Keeps, Consumes, IsAtEnd}
use Rattle.fut_base.specs.declared.ports.Took.{Took}
use Rattle.fut_base.specs.declared.ports.Took.TheVariants as took
use Rattle.fut_base.specs.declared.ports.Put.{Put}
use Rattle.fut_base.specs.declared.ports.Put.TheVariants as put
use Rattle.fut_base.specs.declared.ports.Wrote.{Wrote}
use Rattle.fut_base.specs.declared.ports.Wrote.TheVariants as wrote

-- a count rose; at its greatest it stands
abbrev pub Rose : ℕ → ℕ → Type 0
Rose before now = min (before + 1) (2 ^ 64 - 1) ≤ now

-- what a take did to the known bytes that are left, to the flag that it ended and to the count of faults
abbrev pub Takes : Option (List ℕ) → Option (List ℕ) → Bool → ℕ → ℕ → List ℕ → Took → Type 0
Takes old new ended before now buf (took.Bytes n) = (0 < n) × (n ≤ length buf) × Consumes old new (take n buf) × (ended ≡ false) × (now ≡ before)
Takes old new ended before now buf took.End = Keeps old new × IsAtEnd new × (ended ≡ true) × (now ≡ before)
Takes old new ended before now buf took.Failed = Keeps old new × (ended ≡ false) × (before ≤ now) × Rose before now

-- what a put did to the known bytes, and to the count of faults
abbrev pub Puts : Option (List ℕ) → Option (List ℕ) → ℕ → ℕ → List ℕ → Put → Type 0
Puts old new before now piece (put.Took n) = (0 < n) × (n ≤ length piece) × Appends old new (take n piece) × (now ≡ before)
Puts old new before now piece put.Failed = Keeps old new × (before ≤ now) × Rose before now

-- known bytes grow by a beginning of the text
abbrev pub AppendsPart : Option (List ℕ) → Option (List ℕ) → List ℕ → Type 0
AppendsPart old new text = (part : List ℕ) × (rest : List ℕ) × (text ≡ part ++ rest) × Appends old new part

-- a text was written whole, or a put failed and a beginning of it was
abbrev pub Writes : Option (List ℕ) → Option (List ℕ) → ℕ → ℕ → List ℕ → Wrote → Type 0
Writes old new before now text wrote.All = Appends old new text × (now ≡ before)
Writes old new before now text wrote.Failed = AppendsPart old new text × (before ≤ now) × Rose before now
