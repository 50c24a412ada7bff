-- What the first bytes are to the machine.
use Rattle.std.proofs.Common.{◌≡◌, ℕ, zero, suc, ◌+◌, ◌-◌, ◌*◌, ◌<◌, ◌≤◌, Bool, true, false, nat_eq, List, [], ◌∷◌}
use Rattle.std.proofs.Common.{◌++◌, length, drop, refl, sym, ap, subst, ◌∙◌, append_assoc, arith, decimal, Some, None}
use Rattle.std.proofs.lemmas.Bool.Decides.{nat_tests}
use Rattle.std.proofs.Math.Seq.{drop-cons}
use Rattle.std.proofs.lemmas.Fmt.{decimal_digit}
use Rattle.run_record.specs.declared.cursor.Stop.TheVariants as stop
use Rattle.run_record.specs.declared.digits.Kind.{Kind}
use Rattle.run_record.specs.declared.digits.Kind.TheVariants as kind
use Rattle.run_record.specs.Machine.{Symbol, Number, Digits, Takes, Refuses, due, bytes_due, bound, rule, behind_rule, takes_if, is_more, run}
use Rattle.run_record.specs.Steps.{Steps, Stops, front, behind, Grew, IsDigits, EndsAt, counted, is_count}
use Rattle.run_record.proofs.Numerals.{is_false, bound_small, decimal_more, first_digit, next_digit}
use Rattle.run_record.proofs.Chains.{onward, onward_stops, takes, halts, short}

pub in_view : (xs : List ℕ) (x : ℕ) → front xs ≡ Some x → xs ≡ x ∷ behind xs
in_view [] x e = absurd (cc)
in_view (y ∷ xs) x e = cc

pub none_left : (xs : List ℕ) → front xs ≡ None → xs ≡ []
none_left [] e = refl
none_left (y ∷ xs) e = absurd (cc)

-- some of the bytes that are due are left, and none comes
pub due_short : (text : List ℕ) (i : ℕ) (xs : List ℕ) → i < length text → xs ≡ [] → Stops (due (drop i text)) xs xs stop.Fault
due_short text i xs lt none = subst (λ q. Stops (due q) xs xs stop.Fault) (sym (drop-cons text i 0 lt)) (short _ _ xs none)

any_short : (n : ℕ) (xs : List ℕ) (k : List Symbol) → length xs < n → run (bytes_due n ++ k) xs ≡ Some 0
any_short zero xs k h = absurd (omega arith)
any_short (suc n) [] k h = refl
any_short (suc n) (x ∷ xs) k h = any_short n xs k (omega arith)

-- fewer bytes are left than are due
pub bytes_short : (n : ℕ) (xs ys : List ℕ) → length xs < n → ys ≡ [] → Stops (bytes_due n) xs ys stop.Fault
bytes_short n xs ys h none = record { by = record { stops = λ k. any_short n xs k h ∙ ap (λ q. Some (length q)) (sym none) } }

any_taken : (n : ℕ) (xs : List ℕ) (k : List Symbol) → n ≤ length xs → run (bytes_due n ++ k) xs ≡ run k (drop n xs)
any_taken zero xs k h = refl
any_taken (suc n) [] k h = absurd (omega arith)
any_taken (suc n) (x ∷ xs) k h = any_taken n xs k (omega arith)

pub bytes_taken : (n : ℕ) (xs : List ℕ) → n ≤ length xs → Steps (bytes_due n) xs [] (drop n xs)
bytes_taken n xs h = record { goes = λ k. any_taken n xs k h }

-- one digit more
pub digit_goes : (k : Kind) (n x : ℕ) (xs ys : List ℕ) → xs ≡ x ∷ ys → 48 ≤ x → x ≤ 57 → 0 < n → n * 10 + (x - 48) ≤ bound k
    → Steps (Digits k n ∷ []) xs (Digits k (n * 10 + (x - 48)) ∷ []) ys
digit_goes k n x xs ys e low high some fits =
    let is : x ≡ 48 + (x - 48) = omega arith in
    record { goes = λ s. ap (λ q. run (Digits k n ∷ s) q) (e ∙ ap (λ (b : ℕ). b ∷ ys) is) ∙ next_digit k n (x - 48) s ys some (omega arith) fits }

pub digit_text : (k : Kind) (n x : ℕ) (xs ys : List ℕ) → xs ≡ x ∷ ys → 48 ≤ x → x ≤ 57 → 0 < n → n * 10 + (x - 48) ≤ bound k
    → decimal n ++ xs ≡ decimal (n * 10 + (x - 48)) ++ ys
digit_text k n x xs ys e low high some fits =
    let is : 48 + (x - 48) ≡ x = omega arith in
    let small = bound_small k in
    let more : decimal (n * 10 + (x - 48)) ≡ decimal n ++ x ∷ [] =
    decimal_more n (x - 48) some (omega arith) (omega arith) ∙ ap (λ (b : ℕ). decimal n ++ b ∷ []) is in
    ap (λ q. decimal n ++ q) e ∙ sym (append_assoc (decimal n) (x ∷ []) ys) ∙ ap (λ q. q ++ ys) (sym more)

-- a first digit and the digits behind it
pub digits_read : (k : Kind) (x n : ℕ) (xs m ys : List ℕ) → xs ≡ x ∷ m → 48 ≤ x → x ≤ 57 → Grew k (x - 48) m n ys → IsDigits k xs n ys
digits_read k x n xs m ys e low high g =
    let is : x ≡ 48 + (x - 48) = omega arith in
    record {
      goes = record { goes = λ s. ap (λ q. run (Number k ∷ s) q) (e ∙ ap (λ (b : ℕ). b ∷ m) is) ∙ first_digit k (x - 48) s m (omega arith) ∙ g.goes.goes s };
      text = e ∙ ap (λ (b : ℕ). b ∷ m) is ∙ ap (λ q. q ++ m) (sym (decimal_digit (x - 48) (omega arith))) ∙ g.text;
      most = g.most;
      ends = g.ends;
    }

pub ends_rule : (k : Kind) (n x : ℕ) (xs ys : List ℕ) → xs ≡ x ∷ ys → EndsAt k n xs → rule (Digits k n) x ≡ behind_rule k n x
ends_rule k n x xs ys e h =
    is_false (is_more k n x) (Takes (Digits k (n * 10 + (x - 48)) ∷ [])) (behind_rule k n x) (subst (λ q. EndsAt k n q) e h)

-- the end of the line behind a count
pub line_rule : (k : Kind) (n : ℕ) → is_count k ≡ true → behind_rule k n 10 ≡ Takes (counted k n)
line_rule kind.Plain n h = absurd (cc)
line_rule kind.Positive n h = absurd (cc)
line_rule kind.Negative n h = absurd (cc)
line_rule kind.Bytes n h = refl
line_rule kind.Entries n h = refl
line_rule kind.Races n h = refl

refused_if : (b : Bool) (s : List Symbol) → b ≡ false → takes_if b s ≡ Refuses
refused_if true s h = absurd (cc)
refused_if false s h = refl

other_rule : (k : Kind) (n x : ℕ) → is_count k ≡ true → nat_eq x 10 ≡ false → behind_rule k n x ≡ Refuses
other_rule kind.Plain n x h not_it = absurd (cc)
other_rule kind.Positive n x h not_it = absurd (cc)
other_rule kind.Negative n x h not_it = absurd (cc)
other_rule kind.Bytes n x h not_it = refused_if (nat_eq x 10) (counted kind.Bytes n) not_it
other_rule kind.Entries n x h not_it = refused_if (nat_eq x 10) (counted kind.Entries n) not_it
other_rule kind.Races n x h not_it = refused_if (nat_eq x 10) (counted kind.Races n) not_it

pub count_goes : (k : Kind) (n : ℕ) (xs m ys : List ℕ) → is_count k ≡ true → IsDigits k xs n m → m ≡ 10 ∷ ys → Steps (Number k ∷ []) xs (counted k n) ys
count_goes k n xs m ys h d e = onward d.goes (takes (Digits k n) 10 (counted k n) m ys (ends_rule k n 10 m ys e d.ends ∙ line_rule k n h) e)

pub count_halts : (k : Kind) (n x : ℕ) (xs m ys : List ℕ) → is_count k ≡ true → IsDigits k xs n m → m ≡ x ∷ ys → (x ≡ 10 → ⊥)
    → Stops (Number k ∷ []) xs m stop.Fault
count_halts k n x xs m ys h d e not_it =
    let other : nat_eq x 10 ≡ false = grind (arith, nat_tests) in
    onward_stops d.goes (halts (Digits k n) x m ys (ends_rule k n x m ys e d.ends ∙ other_rule k n x h other) e)
