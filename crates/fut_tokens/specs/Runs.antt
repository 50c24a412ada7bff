-- Runs of one class of bytes.
use Rattle.std.specs.Prelude.{◌≡◌, ℕ, ◌<◌, ◌≤◌, Bool, true, false, List, [], ◌∷◌, length, take, drop, get_or}
use Rattle.fut_tokens.specs.Cut.{each}

-- nothing of the class follows
abbrev pub Ends : (ℕ → Bool) → List ℕ → Type 0
Ends p [] = Unit {0}
Ends p (b ∷ bs) = p b ≡ false

-- so many bytes of the class stand at the front, and no more
abbrev pub IsRun : (ℕ → Bool) → List ℕ → ℕ → Type 0
IsRun p bs n = (n ≤ length bs) × (each p (take n bs) ≡ true) × Ends p (drop n bs)

-- each byte is a digit
abbrev pub AllDigits : List ℕ → Type 0
AllDigits bs = (i : ℕ) → i < length bs → (48 ≤ get_or bs i 0) × (get_or bs i 0 ≤ 57)
