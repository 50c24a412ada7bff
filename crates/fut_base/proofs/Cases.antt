-- Cases on a test.
use Rattle.std.proofs.Common.{◌≡◌, ◌≢◌, ℕ, Bool, true, false, ◌==◌, inl, inr, subst, sym, refl}
use Rattle.std.proofs.lemmas.Bool.Decides.{eqb_tells}

-- what holds where a test passes, and where it fails, holds of it
pub by_bool : (P : Bool → Type 0) (b : Bool) → (b ≡ true → P true) → (b ≡ false → P false) → P b
by_bool P true passes fails = passes refl
by_bool P false passes fails = fails refl

-- the same of the test whether two numbers are equal
pub by_eq : (P : Bool → Type 0) (a b : ℕ) → (a ≡ b → P true) → (a ≢ b → P false) → P (a == b)
by_eq P a b passes fails = elim (eqb_tells a b) [ inl h ↦ subst P (sym h.0) (passes h.1) | inr h ↦ subst P (sym h.0) (fails h.1) ]
