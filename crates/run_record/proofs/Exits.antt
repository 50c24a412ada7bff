-- Ends of the reader's functions.
use Rattle.std.proofs.Common.{◌≡◌, ℕ, zero, suc, true, false, ◌&&◌, nat_eq, nat_le, ◌+◌, ◌-◌, ◌<◌, ◌≤◌, ℤ, negsuc, pos, List}
use Rattle.std.proofs.Common.{[], ◌∷◌, ◌++◌, length, sym, ap, subst, ◌∙◌, arith, decimal, w64, of_z, to_z, to_z-of_z}
use Rattle.std.specs.Int.Signed.{mag}
use Rattle.std.proofs.lemmas.Int.{to_z_pos}
use Rattle.std.specs.Fmt.{signed_decimal}
use Rattle.std.proofs.lemmas.Bool.Decides.{nat_tests}
use Rattle.std.proofs.lemmas.Fmt.{decimal_digit}
use Rattle.run_record.specs.declared.cursor.Stop.TheVariants as stop
use Rattle.run_record.specs.declared.digits.Kind.{Kind}
use Rattle.run_record.specs.declared.digits.Kind.TheVariants as kind
use Rattle.run_record.specs.Machine.{Symbol, Number, Digits, Unsigned, Signed, Datum, Takes, Passes, rule}
use Rattle.run_record.specs.Machine.{behind_rule, number_rule, signed_rule, by_answer, next, run_on, run}
use Rattle.run_record.specs.Records.{IsSigned}
use Rattle.run_record.specs.Steps.{Steps, Stops, front, Grew, IsDigits}
use Rattle.run_record.proofs.Numerals as numerals
use Rattle.run_record.proofs.Numerals.{is_true, is_false}
use Rattle.run_record.proofs.Chains.{onward, onward_stops, takes, short}
use Rattle.run_record.proofs.Cursors.{ends_rule}

-- a number is behind its digits, where a byte follows that is none
pub passes : (a : Symbol) (x : ℕ) (xs ys : List ℕ) → rule a x ≡ Passes → xs ≡ x ∷ ys → Steps (a ∷ []) xs [] xs
passes a x xs ys e front = record { goes = λ k. ap (λ q. run (a ∷ k) q) front ∙ numerals.passes a x k ys e ∙ ap (λ q. run k q) (sym front) }

-- where one symbol does what another does
pub opens : (a b : Symbol) (x : ℕ) (xs ys : List ℕ) → rule a x ≡ rule b x → xs ≡ x ∷ ys → Steps (a ∷ []) xs (b ∷ []) xs
opens a b x xs ys e front = record {
  goes = λ k.
      ap (λ q. run (a ∷ k) q) front ∙ ap (λ r. run_on (by_answer r k (next k x)) (suc (length ys)) (λ q. run q ys)) e
      ∙ ap (λ q. run (b ∷ k) q) (sym front);
}

is_minus : (n : ℕ) → 1 ≤ n → signed_decimal (negsuc (n - 1)) ≡ 45 ∷ decimal n
is_minus zero h = absurd (omega arith)
is_minus (suc n) h = ap (λ (m : ℕ). 45 ∷ decimal m) (omega arith)

-- the digits behind a minus sign, where a byte follows them
pub minus_goes : (x n y : ℕ) (xs m ys zs : List ℕ) → xs ≡ x ∷ m → 49 ≤ x → x ≤ 57 → Grew kind.Negative (x - 48) m n ys → ys ≡ y ∷ zs
    → Steps (Unsigned ∷ []) xs [] ys
minus_goes x n y xs m ys zs e low high g f =
    let first : (nat_le 49 x && nat_le x 57) ≡ true = grind (arith, nat_tests) in
    onward (takes Unsigned x (Digits kind.Negative (x - 48) ∷ []) xs m (is_true (nat_le 49 x && nat_le x 57) _ _ first) e)
    (onward g.goes (passes (Digits kind.Negative n) y ys zs (ends_rule kind.Negative n y ys zs f g.ends) f))

pub minus_text : (x n : ℕ) (xs m ys : List ℕ) (z : ℤ) → xs ≡ x ∷ m → 49 ≤ x → x ≤ 57 → Grew kind.Negative (x - 48) m n ys → z ≡ negsuc (n - 1)
    → 45 ∷ xs ≡ signed_decimal z ++ ys
minus_text x n xs m ys z e low high g same =
    let is : x ≡ 48 + (x - 48) = omega arith in
    let least = g.least in
    let text : x ∷ m ≡ decimal n ++ ys = ap (λ (b : ℕ). b ∷ m) is ∙ ap (λ q. q ++ m) (sym (decimal_digit (x - 48) (omega arith))) ∙ g.text in
    ap (λ q. 45 ∷ q) (e ∙ text) ∙ ap (λ q. q ++ ys) (sym (is_minus n (omega (arith, least))) ∙ ap signed_decimal (sym same))

pub minus_within : (n : ℕ) (z : ℤ) → 1 ≤ n → n ≤ 9223372036854775808 → z ≡ negsuc (n - 1) → IsSigned z
minus_within n z low high same = subst IsSigned (sym same) (omega arith)

not_minus : (x : ℕ) → (x ≡ 45 → ⊥) → nat_eq x 45 ≡ false
not_minus x h = grind (arith, nat_tests)

-- where no minus sign stands a number without one is due
pub unsigned_opens : (x : ℕ) (xs ys : List ℕ) → (x ≡ 45 → ⊥) → xs ≡ x ∷ ys → Steps (Signed ∷ []) xs (Number kind.Positive ∷ []) xs
unsigned_opens x xs ys other e =
    opens Signed (Number kind.Positive) x xs ys (is_false (nat_eq x 45) (Takes (Unsigned ∷ [])) (number_rule kind.Positive x) (not_minus x other)) e

not_f : (x : ℕ) → (x ≡ 102 → ⊥) → nat_eq x 102 ≡ false
not_f x h = grind (arith, nat_tests)

-- where no `f` stands a signed number is due
pub datum_opens : (x : ℕ) (xs ys : List ℕ) → (x ≡ 102 → ⊥) → xs ≡ x ∷ ys → Steps (Datum ∷ []) xs (Signed ∷ []) xs
datum_opens x xs ys other e = opens Datum Signed x xs ys (is_false (nat_eq x 102) (Takes (Number kind.Plain ∷ [])) (signed_rule x) (not_f x other)) e

pub number_goes : (k : Kind) (n y : ℕ) (xs ys zs : List ℕ) → IsDigits k xs n ys → ys ≡ y ∷ zs → behind_rule k n y ≡ Passes → Steps (Number k ∷ []) xs [] ys
number_goes k n y xs ys zs d f same = onward d.goes (passes (Digits k n) y ys zs (ends_rule k n y ys zs f d.ends ∙ same) f)

pub number_short : (k : Kind) (n : ℕ) (xs ys : List ℕ) → IsDigits k xs n ys → ys ≡ [] → Stops (Number k ∷ []) xs ys stop.Fault
number_short k n xs ys d none = onward_stops d.goes (short (Digits k n) [] ys none)

-- a number of 64 bits in a word
pub back : (z : ℤ) → mag z < 9223372036854775808 → to_z w64 (of_z w64 z) ≡ z
back z h = to_z-of_z {w = w64} {z = z} (record { sfits = h })

-- one that is not below 0
pub plain_z : (n : ℕ) → n ≤ 9223372036854775807 → to_z w64 n ≡ pos n
plain_z n h = to_z_pos w64 n (omega arith)
