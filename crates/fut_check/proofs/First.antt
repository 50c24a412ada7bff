-- The least of some faults is the first.
use Rattle.std.proofs.Common.{◌≡◌, ℕ, ◌+◌, ◌*◌, ◌<◌, ◌≤◌, ◌≢◌, ◌⊎◌, inl, inr, Bool, true, false, cond, List, [], ◌∷◌, Some, None, refl, sym, ap, subst, arith}
use Rattle.std.specs.Prelude.{◌||◌, ◌&&◌, nat_lt, nat_eq}
use Rattle.std.proofs.lemmas.Bool.{ltb-true, ltb-false, eqb-true, eqb-false, cases_Bool}
use Rattle.fut_rules.specs.declared.fault.Rule.{Rule}
use Rattle.fut_rules.specs.declared.fault.Rule.TheVariants as rule
use Rattle.fut_rules.specs.declared.fault.Fault.{Fault}
use Rattle.fut_rules.specs.Faults.{rule_number, is_before, earlier, least, IsAmong, IsFirst}

pub small : (r : Rule) → rule_number r ≤ 12
small rule.UnknownName = omega arith
small rule.DoubledName = omega arith
small rule.ArgumentCount = omega arith
small rule.IntForHandle = omega arith
small rule.HandleForInt = omega arith
small rule.HandleDepth = omega arith
small rule.ArrayLength = omega arith
small rule.ResultType = omega arith
small rule.NoMain = omega arith
small rule.MainParameters = omega arith
small rule.NoValue = omega arith
small rule.ConstantLimit = omega arith

-- a number by which faults are ordered
abbrev pub rank : Fault → ℕ
rank f = f.token * 13 + rule_number f.rule

ranked : (a b r s : ℕ) (x y z : Bool) → nat_lt a b ≡ x → nat_eq a b ≡ y → nat_lt r s ≡ z → r ≤ 12 → s ≤ 12 → (x || (y && z)) ≡ true → a * 13 + r < b * 13 + s
ranked a b r s true y z p q t rs ss h = omega (arith, ltb-true a b p)
ranked a b r s false true true p q t _ _ h = omega (arith, eqb-true a b q, ltb-true r s t)
ranked a b r s false true false p q t _ _ h = cc
ranked a b r s false false z p q t _ _ h = cc

unranked : (a b r s : ℕ) (x y z : Bool) → nat_lt a b ≡ x → nat_eq a b ≡ y → nat_lt r s ≡ z → r ≤ 12 → s ≤ 12 → (x || (y && z)) ≡ false → b * 13 + s ≤ a * 13 + r
unranked a b r s true y z p q t _ _ h = cc
unranked a b r s false true true p q t _ _ h = cc
unranked a b r s false true false p q t _ _ h = omega (arith, eqb-true a b q, ltb-false r s t)
unranked a b r s false false z p q t rs ss h = let ne : a ≢ b = eqb-false a b q in omega (arith, ltb-false a b p)

before : (f g : Fault) → is_before f g ≡ true → rank f < rank g
before f g h = ranked f.token g.token (rule_number f.rule) (rule_number g.rule) _ _ _ refl refl refl (small f.rule) (small g.rule) h

pub not_before : (f g : Fault) → is_before f g ≡ false → rank g ≤ rank f
not_before f g h = unranked f.token g.token (rule_number f.rule) (rule_number g.rule) _ _ _ refl refl refl (small f.rule) (small g.rule) h

in_order : (f g : Fault) → rank f ≤ rank g → is_before g f ≡ false
in_order f g le = elim (cases_Bool (is_before g f)) [ inl h ↦ absurd (omega (arith, before g f h)) | inr h ↦ h ]

earlier_is : (f x : Fault) (b : Bool) → is_before x f ≡ b → earlier (Some f) x ≡ cond b x f
earlier_is f x b h = ap (λ c. cond c x f) h

-- the least of a fault and more is one of them, and none of them has a lesser rank
record IsLeast (found f : Fault) (fs : List Fault) : Type 0 where
  among : (f ≡ found) ⊎ IsAmong f fs
  low : rank f ≤ rank found
  rest : (g : Fault) → IsAmong g fs → rank f ≤ rank g

least_by : (found x f : Fault) (fs : List Fault) (b : Bool) → is_before x found ≡ b → IsLeast (cond b x found) f fs → IsLeast found f (x ∷ fs)
least_by found x f fs true h l =
    record {
      among = inr l.among;
      low = omega (arith, l.low, before x found h);
      rest = λ g m. elim m [ inl e ↦ subst (λ (q : Fault). rank f ≤ rank q) (sym e) l.low | inr n ↦ l.rest g n ];
    }
least_by found x f fs false h l =
    record {
      among = elim l.among [ inl e ↦ inl e | inr n ↦ inr (inr n) ];
      low = l.low;
      rest = λ g m. elim m [ inl e ↦ subst (λ (q : Fault). rank f ≤ rank q) (sym e) (omega (arith, l.low, not_before x found h)) | inr n ↦ l.rest g n ];
    }

is_least : (found f : Fault) (fs : List Fault) → least (Some found) fs ≡ Some f → IsLeast found f fs
is_least found f [] h =
    let e : f ≡ found = cc in record { among = inl e; low = omega (arith, ap rank e); rest = λ g m. absurd m }
is_least found f (x ∷ fs) h =
    least_by found x f fs (is_before x found) refl (is_least (earlier (Some found) x) f fs h)

never_none : (found : Fault) (fs : List Fault) → least (Some found) fs ≡ None → ⊥
never_none found [] h = cc
never_none found (x ∷ fs) h = never_none (earlier (Some found) x) fs h

pub none_found : (fs : List Fault) → least None fs ≡ None → fs ≡ []
none_found [] h = refl
none_found (x ∷ fs) h = absurd (never_none x fs h)

first_of_least : (x f : Fault) (fs : List Fault) → IsLeast x f fs → IsFirst f (x ∷ fs)
first_of_least x f fs l =
    record {
      among = l.among;
      first = λ g m. in_order f g (elim m [ inl e ↦ subst (λ (q : Fault). rank f ≤ rank q) (sym e) l.low | inr n ↦ l.rest g n ]);
    }

pub first_found : (f : Fault) (fs : List Fault) → least None fs ≡ Some f → IsFirst f fs
first_found f [] h = cc
first_found f (x ∷ fs) h = first_of_least x f fs (is_least x f fs h)
