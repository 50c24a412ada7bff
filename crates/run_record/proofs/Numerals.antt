-- Decimal numbers and the machine's digits.
use Rattle.std.proofs.Common.{◌≡◌, ℕ, suc, ◌+◌, ◌-◌, ◌*◌, ◌/◌, ◌%◌, ◌^◌, ◌<◌, ◌≤◌, Bool, true, false, cond}
use Rattle.std.proofs.Common.{List, [], ◌∷◌, ◌++◌, length, refl, ap, ◌∙◌, append_assoc, arith, decimal, Some}
use Rattle.std.proofs.lemmas.Bool.Decides.{nat_tests}
use Rattle.std.proofs.lemmas.Fmt.{decimal_step, decimal_by_steps}
use Rattle.run_record.specs.declared.digits.Kind.{Kind}
use Rattle.run_record.specs.declared.digits.Kind.TheVariants as kind
use Rattle.run_record.specs.Machine.{Symbol, Number, Digits, Takes, Passes, Refuses, bound, is_digit, is_more, behind_rule, rule, by_answer, next, run_on, run}

pub bound_small : (k : Kind) → bound k < 2 ^ 64
bound_small kind.Plain = omega arith
bound_small kind.Positive = omega arith
bound_small kind.Negative = omega arith
bound_small kind.Bytes = omega arith
bound_small kind.Entries = omega arith
bound_small kind.Races = omega arith

pub bound_large : (k : Kind) → 9 < bound k
bound_large kind.Plain = omega arith
bound_large kind.Positive = omega arith
bound_large kind.Negative = omega arith
bound_large kind.Bytes = omega arith
bound_large kind.Entries = omega arith
bound_large kind.Races = omega arith

-- one digit more
pub decimal_more : (n d : ℕ) → 0 < n → d ≤ 9 → n * 10 + d < 2 ^ 64 → decimal (n * 10 + d) ≡ decimal n ++ ((48 + d) ∷ [])
decimal_more n d some low small =
    let front : (n * 10 + d) / 10 ≡ n = omega arith in
    let end : 48 + (n * 10 + d) % 10 ≡ 48 + d = omega arith in
    decimal_step (n * 10 + d) (omega arith) small ∙ (λ i. decimal (front i) ++ (end i ∷ []))

-- a symbol takes the first byte
pub takes : (a : Symbol) (x : ℕ) (s k : List Symbol) (xs : List ℕ) → rule a x ≡ Takes s → run (a ∷ k) (x ∷ xs) ≡ run (s ++ k) xs
takes a x s k xs e = ap (λ b. run_on (by_answer b k (next k x)) (suc (length xs)) (λ q. run q xs)) e

-- a symbol was nothing at the first byte
pub passes : (a : Symbol) (x : ℕ) (k : List Symbol) (xs : List ℕ) → rule a x ≡ Passes → run (a ∷ k) (x ∷ xs) ≡ run k (x ∷ xs)
passes a x k xs e = ap (λ b. run_on (by_answer b k (next k x)) (suc (length xs)) (λ q. run q xs)) e

-- a symbol stops at the first byte
pub stops : (a : Symbol) (x : ℕ) (k : List Symbol) (xs : List ℕ) → rule a x ≡ Refuses → run (a ∷ k) (x ∷ xs) ≡ Some (suc (length xs))
stops a x k xs e = ap (λ b. run_on (by_answer b k (next k x)) (suc (length xs)) (λ q. run q xs)) e

pub is_true : (b : Bool) {A : Type 0} (x y : A) → b ≡ true → cond b x y ≡ x
is_true true x y e = refl
is_true false x y e = absurd (cc)

pub is_false : (b : Bool) {A : Type 0} (x y : A) → b ≡ false → cond b x y ≡ y
is_false true x y e = absurd (cc)
is_false false x y e = refl

digit_byte : (d : ℕ) → d ≤ 9 → is_digit (48 + d) ≡ true
digit_byte d h = grind (arith, nat_tests)

more_byte : (k : Kind) (n d : ℕ) → 0 < n → d ≤ 9 → n * 10 + d ≤ bound k → is_more k n (48 + d) ≡ true
more_byte k n d some low fits = grind (arith, nat_tests, digit_byte d low)

-- a first digit
pub first_digit : (k : Kind) (d : ℕ) (s : List Symbol) (r : List ℕ) → d ≤ 9 → run (Number k ∷ s) ((48 + d) ∷ r) ≡ run (Digits k d ∷ s) r
first_digit k d s r h =
    let same : 48 + d - 48 ≡ d = omega arith in
    takes (Number k) (48 + d) (Digits k (48 + d - 48) ∷ []) s r (is_true (is_digit (48 + d)) (Takes (Digits k (48 + d - 48) ∷ [])) Refuses (digit_byte d h))
    ∙ ap (λ n. run (Digits k n ∷ s) r) same

-- a further digit
pub next_digit : (k : Kind) (n d : ℕ) (s : List Symbol) (r : List ℕ) → 0 < n → d ≤ 9 → n * 10 + d ≤ bound k
    → run (Digits k n ∷ s) ((48 + d) ∷ r) ≡ run (Digits k (n * 10 + d) ∷ s) r
next_digit k n d s r some low fits =
    let same : n * 10 + (48 + d - 48) ≡ n * 10 + d = omega arith in
    takes (Digits k n) (48 + d) (Digits k (n * 10 + (48 + d - 48)) ∷ []) s r
    (is_true (is_more k n (48 + d)) (Takes (Digits k (n * 10 + (48 + d - 48)) ∷ [])) (behind_rule k n (48 + d)) (more_byte k n d some low fits))
    ∙ ap (λ m. run (Digits k m ∷ s) r) same

-- the digits of a number go through
pub number_runs : (k : Kind) (s : List Symbol) (n : ℕ) → n ≤ bound k → (r : List ℕ) → run (Number k ∷ s) (decimal n ++ r) ≡ run (Digits k n ∷ s) r
number_runs k s n fits =
    let small = bound_small k in
    decimal_by_steps (λ m ds. m ≤ bound k → (r : List ℕ) → run (Number k ∷ s) (ds ++ r) ≡ run (Digits k m ∷ s) r)
    (λ m l f r. first_digit k m s r (omega arith))
    (λ m ds l h f r.
    let same : m / 10 * 10 + m % 10 ≡ m = omega arith in
    ap (λ q. run (Number k ∷ s) q) (append_assoc ds ((48 + m % 10) ∷ []) r)
    ∙ h (omega arith) ((48 + m % 10) ∷ r)
    ∙ next_digit k (m / 10) (m % 10) s r (omega arith) (omega arith) (omega arith)
    ∙ ap (λ q. run (Digits k q ∷ s) r) same)
    n (omega arith) fits
