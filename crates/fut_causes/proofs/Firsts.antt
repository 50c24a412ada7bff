-- The first wanted cause of causes one after the other.
use Rattle.std.proofs.Common.{◌≡◌, ℕ, ◌+◌, List, [], ◌∷◌, ◌++◌, Option, refl, sym, ap, ◌∙◌, arith}
use Rattle.fut_causes.specs.declared.cause.Cause.{Cause}
use Rattle.fut_causes.specs.declared.seek.Wanted.{Wanted}
use Rattle.fut_causes.specs.Causes.{Caused}
use Rattle.fut_causes.specs.Seeking.{kept, first, Seeking, Sought}

pub first_append : (w : Wanted) (found : Option Cause) (cs ds : List Caused) → first w found (cs ++ ds) ≡ first w (first w found cs) ds
first_append w found [] ds = refl
first_append w found (c ∷ cs) ds = first_append w (kept w found c) cs ds

-- two searches one after the other
pub sought_both : {a b c : Seeking} {m k : ℕ} {cs ds : List Caused} → Sought a b m cs → Sought b c k ds → Sought a c (m + k) (cs ++ ds)
sought_both {a = a} {b = b} {cs = cs} {ds = ds} x y =
    record {
      at = omega (arith, x.at, y.at);
      end = y.end ∙ x.end;
      wanted = y.wanted ∙ x.wanted;
      found = y.found ∙ ap (λ w. first w b.found ds) x.wanted ∙ ap (λ f. first a.wanted f ds) x.found ∙ sym (first_append a.wanted a.found cs ds);
    }

-- a search, and then tokens without a cause
pub sought_past : {a b c : Seeking} {m k : ℕ} {cs : List Caused} → Sought a b m cs → Sought b c k [] → Sought a c (m + k) cs
sought_past x y = record { at = omega (arith, x.at, y.at); end = y.end ∙ x.end; wanted = y.wanted ∙ x.wanted; found = y.found ∙ x.found }

-- tokens without a cause, and then a search
pub past_sought : {a b c : Seeking} {m k : ℕ} {cs : List Caused} → Sought a b m [] → Sought b c k cs → Sought a c (m + k) cs
past_sought {a = a} {b = b} {cs = cs} x y =
    record {
      at = omega (arith, x.at, y.at);
      end = y.end ∙ x.end;
      wanted = y.wanted ∙ x.wanted;
      found = y.found ∙ ap (λ w. first w b.found cs) x.wanted ∙ ap (λ f. first a.wanted f cs) x.found;
    }

-- a search by another name
pub sought_as : {a b : Seeking} {m k : ℕ} {cs ds : List Caused} → Sought a b m cs → m ≡ k → cs ≡ ds → Sought a b k ds
sought_as {a = a} x w f = record { at = x.at ∙ ap (λ n. a.at + n) w; end = x.end; wanted = x.wanted; found = x.found ∙ ap (first a.wanted a.found) f }
