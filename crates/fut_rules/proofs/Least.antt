-- The first fault of faults one after the other.
use Rattle.std.proofs.Common.{◌≡◌, ℕ, ◌+◌, List, [], ◌∷◌, ◌++◌, Option, Some, refl, sym, ap, ◌∙◌, arith}
use Rattle.fut_rules.specs.declared.fault.Fault.{Fault}
use Rattle.fut_rules.specs.Faults.{earlier, least, Searched, Walked}

pub least_append : (found : Option Fault) (fs gs : List Fault) → least found (fs ++ gs) ≡ least (least found fs) gs
least_append found [] gs = refl
least_append found (f ∷ fs) gs = least_append (Some (earlier found f)) fs gs

-- two walks one after the other
pub walked_both : {a b c : Searched} {m k : ℕ} {fs gs : List Fault} → Walked a b m fs → Walked b c k gs → Walked a c (m + k) (fs ++ gs)
walked_both {a = a} {fs = fs} {gs = gs} x y =
    record {
      at = omega arith;
      end = y.end ∙ x.end;
      found = y.found ∙ ap (λ f. least f gs) x.found ∙ sym (least_append a.found fs gs);
    }

-- a walk, and then tokens without a fault
pub walked_past : {a b c : Searched} {m k : ℕ} {fs : List Fault} → Walked a b m fs → Walked b c k [] → Walked a c (m + k) fs
walked_past x y = record { at = omega arith; end = y.end ∙ x.end; found = y.found ∙ x.found }

-- tokens without a fault, and then a walk
pub past_walked : {a b c : Searched} {m k : ℕ} {fs : List Fault} → Walked a b m [] → Walked b c k fs → Walked a c (m + k) fs
past_walked {fs = fs} x y = record { at = omega arith; end = y.end ∙ x.end; found = y.found ∙ ap (λ f. least f fs) x.found }

-- a walk by another name
pub walked_as : {a b : Searched} {m k : ℕ} {fs gs : List Fault} → Walked a b m fs → m ≡ k → fs ≡ gs → Walked a b k gs
walked_as {a = a} x w f = record { at = omega arith; end = x.end; found = x.found ∙ ap (least a.found) f }
