-- What a table has.
use Rattle.std.proofs.Common.{◌≡◌, Bool, true, false, List, [], ◌∷◌, refl, sym, ap, ◌∙◌}
use Rattle.std.specs.Prelude.{Option, Some, ◌&&◌, if◌then◌else◌}
use Rattle.std.proofs.lemmas.Bool.{and_parts}
use Rattle.fut_tokens.specs.Cut.{look_up}

-- each entry passes a test
abbrev pub every : {K A : Type 0} → (K → A → Bool) → List (K × A) → Bool
every good [] = true
every good (entry ∷ table) = good entry.0 entry.1 && every good table

found_by : {K A : Type 0} (good : K → A → Bool) (test : K → Bool) (b : Bool) (k : K) (y x : A) (o : Option A) → test k ≡ b → good k y ≡ true
    → (o ≡ Some x → (j : K) × (test j ≡ true) × (good j x ≡ true)) → (if b then Some y else o) ≡ Some x → (j : K) × (test j ≡ true) × (good j x ≡ true)
found_by good test true k y x o t g h e = let same : y ≡ x = cc in (k, t, ap (good k) (sym same) ∙ g)
found_by good test false k y x o t g h e = h e

-- what a table has stands there at a key that passes
pub found : {K A : Type 0} (good : K → A → Bool) (test : K → Bool) (table : List (K × A)) (x : A) → every good table ≡ true → look_up test table ≡ Some x
    → (k : K) × (test k ≡ true) × (good k x ≡ true)
found good test [] x g e = absurd (cc)
found good test (entry ∷ table) x g e =
    found_by good test (test entry.0) entry.0 entry.1 x (look_up test table) refl ((and_parts (good entry.0 entry.1) (every good table) g).0)
    (λ h. found good test table x ((and_parts (good entry.0 entry.1) (every good table) g).1) h) e
