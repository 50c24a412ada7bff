-- Logs that begin others.
use Rattle.std.proofs.Common.{◌≡◌, ℕ, ◌<◌, ◌≤◌, Bool, true, false, List, [], ◌∷◌, ◌++◌, inl, inr, length, append_assoc, append-nil, sym, ◌∙◌, refl, ap, arith}
use Rattle.std.specs.Prelude.{nat_lt, if◌then◌else◌}
use Rattle.std.proofs.lemmas.Bool.Decides.{nat_tests}
use Rattle.order_list.proofs.Chains.{tested}
use Rattle.order_query.specs.declared.view.Insert.{Insert}
use Rattle.order_query.specs.Logs.{StartsWith}
use Rattle.order_query.specs.Plays.{longer}

pub starts_self : (a : List Insert) → StartsWith a a
starts_self a = ([], sym (append-nil a))

pub starts_more : (a b : List Insert) → StartsWith (a ++ b) a
starts_more a b = (b, refl)

pub starts_on : (a b c : List Insert) → StartsWith a b → StartsWith b c → StartsWith a c
starts_on a b c s t = (t.0 ++ s.0, s.1 ∙ ap (λ (l : List Insert). l ++ s.0) t.1 ∙ append_assoc c t.0 s.0)

-- of two beginnings of one log the longer begins with the other
two_starts : (a b ra rb : List Insert) → a ++ ra ≡ b ++ rb → length a ≤ length b → StartsWith b a
two_starts [] b ra rb e le = (b, refl)
two_starts (x ∷ a) [] ra rb e le = absurd (omega arith)
two_starts (x ∷ a) (y ∷ b) ra rb e le =
    let h : x ≡ y = cc in
    let t : a ++ ra ≡ b ++ rb = cc in
    let r = two_starts a b ra rb t (omega arith) in
    (r.0, (let b_is : b ≡ a ++ r.0 = r.1 in cc))

-- the longer of two beginnings
pub record IsLonger (log a b c : List Insert) : Type 0 where
  pub begins : StartsWith log c
  pub first : StartsWith c a
  pub second : StartsWith c b
  pub first_count : length a ≤ length c
  pub second_count : length b ≤ length c

by_test : (log a b : List Insert) (t : Bool) → StartsWith log a → StartsWith log b → (t ≡ true → length a < length b) → (t ≡ false → length b ≤ length a)
    → IsLonger log a b (if t then b else a)
by_test log a b true s t h k =
    let lt = h refl in record {
      begins = t;
      first = two_starts a b s.0 t.0 (sym s.1 ∙ t.1) (omega (arith, lt));
      second = starts_self b;
      first_count = omega (arith, lt);
      second_count = omega arith;
    }
by_test log a b false s t h k =
    let le = k refl in record {
      begins = s;
      first = starts_self a;
      second = two_starts b a t.0 s.0 (sym t.1 ∙ s.1) le;
      first_count = omega arith;
      second_count = le;
    }

pub longer_is : (log a b : List Insert) → StartsWith log a → StartsWith log b → IsLonger log a b (longer a b)
longer_is log a b s t = by_test log a b (nat_lt (length a) (length b)) s t (λ e. grind (arith, nat_tests)) (λ e. grind (arith, nat_tests))

pub longer_count : (a b : List Insert) (n : ℕ) → length a ≤ n → length b ≤ n → length (longer a b) ≤ n
longer_count a b n p q = elim (tested (nat_lt (length a) (length b))) [ inl e ↦ rw e q | inr e ↦ rw e p ]
