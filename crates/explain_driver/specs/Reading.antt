-- What the reading of a source to its end gives.
use Rattle.std.specs.Prelude.{◌≡◌, ℕ, ◌+◌, ◌<◌, ◌≤◌, Bool, true, List, ◌++◌, length, Option}
use Rattle.std.specs.Io.KnownBytes.{Consumes, Keeps, IsAtEnd}
use Rattle.fut_base.specs.Ports.{Rose}
use Rattle.explain_driver.specs.declared.input.Input.{Input}
use Rattle.explain_driver.specs.declared.input.Input.TheVariants as input
use Rattle.explain_driver.specs.declared.input.Step.{Step}
use Rattle.explain_driver.specs.declared.input.Step.TheVariants as step

-- Bytes were read from a source up to its end, or one byte over a limit; or it failed, or there was no memory.
-- `old` and `new` are what was left before and afterwards, `ended` is whether the last take answered the end.
abbrev pub ReadsAll : ℕ → Option (List ℕ) → Option (List ℕ) → Bool → ℕ → ℕ → Input → Type 0
ReadsAll limit old new ended before now (input.Whole bytes) =
    (length bytes.items ≤ limit) × Consumes old new bytes.items × IsAtEnd new × (ended ≡ true) × (now ≡ before)
ReadsAll limit old new ended before now (input.TooLong bytes) = (length bytes.items ≡ limit + 1) × Consumes old new bytes.items × (now ≡ before)
ReadsAll limit old new ended before now input.Failed = (before ≤ now) × Rose before now
ReadsAll limit old new ended before now input.NoMemory = now ≡ before

-- one take from a source added a part of at most so many bytes to what was read, or nothing
abbrev pub Adds : ℕ → Option (List ℕ) → Option (List ℕ) → Bool → ℕ → ℕ → List ℕ → List ℕ → Step → Type 0
Adds most old new ended before now had has step.More =
    (part : List ℕ) × (has ≡ had ++ part) × (0 < length part) × (length part ≤ most) × Consumes old new part × (now ≡ before)
Adds most old new ended before now had has step.End = (has ≡ had) × Keeps old new × IsAtEnd new × (ended ≡ true) × (now ≡ before)
Adds most old new ended before now had has step.Failed = (before ≤ now) × Rose before now
Adds most old new ended before now had has step.NoMemory = now ≡ before
