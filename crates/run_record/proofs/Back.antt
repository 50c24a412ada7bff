-- What a run text was written of, read back from it.
use Rattle.std.proofs.Common.{◌≡◌, ℕ, zero, suc, ◌+◌, ◌-◌, ◌*◌, ◌/◌, ◌%◌, ◌<◌, ◌≤◌, ◌^◌, ℤ, pos, negsuc, false, cond, nat_eq, List}
use Rattle.std.proofs.Common.{[], ◌∷◌, ◌++◌, length, drop, get_or, refl, sym, ap, ◌∙◌, append_assoc, arith, decimal, codes}
use Rattle.std.specs.Fmt.{signed_decimal}
use Rattle.std.proofs.lemmas.Bool.Decides.{nat_tests}
use Rattle.std.proofs.lemmas.Fmt.{decimal_by_steps}
use Rattle.fut_base.specs.declared.event.Action.{Action}
use Rattle.fut_base.specs.declared.event.Action.TheVariants.{Reads, Writes, Spawns, Creates, Syncs, Gets, Ends}
use Rattle.fut_base.specs.declared.record.Value.{Value}
use Rattle.fut_base.specs.declared.record.Value.TheVariants.{Int, Fut}
use Rattle.run_record.specs.RunText.{value_text, values_line, call_line, action_line}
use Rattle.run_record.specs.Records.{IsNumber, IsSigned, IsValue, AreValues, IsCall, IsAction}
use Rattle.run_record.specs.Machine.{is_digit}
use Rattle.run_record.proofs.Numerals.{is_true, is_false}
use Rattle.run_record.proofs.Through.{headed, signed_headed, lined, digit_is, not_byte}

-- the number at the front, and what stands behind it
scan : ℕ → List ℕ → ℕ × List ℕ
scan n [] = (n, [])
scan n (x ∷ xs) = cond (is_digit x) (scan (n * 10 + (x - 48)) xs) (n, x ∷ xs)

scan_digit : (n d : ℕ) (r : List ℕ) → d ≤ 9 → scan n ((48 + d) ∷ r) ≡ scan (n * 10 + d) r
unfolding scan
scan_digit n d r low =
    let same : n * 10 + (48 + d - 48) ≡ n * 10 + d = omega arith in
    is_true (is_digit (48 + d)) _ _ (digit_is (48 + d) (omega arith) (omega arith)) ∙ ap (λ m. scan m r) same

scan_number : (n : ℕ) → n < 2 ^ 64 → (r : List ℕ) → scan 0 (decimal n ++ r) ≡ scan n r
scan_number n small = decimal_by_steps (λ m ds. (r : List ℕ) → scan 0 (ds ++ r) ≡ scan m r)
    (λ m l r. let same : 0 * 10 + m ≡ m = omega arith in scan_digit 0 m r (omega arith) ∙ ap (λ k. scan k r) same)
    (λ m ds l h r.
    let same : m / 10 * 10 + m % 10 ≡ m = omega arith in
    ap (λ q. scan 0 q) (append_assoc ds ((48 + m % 10) ∷ []) r) ∙ h ((48 + m % 10) ∷ r) ∙ scan_digit (m / 10) (m % 10) r (omega arith)
    ∙ ap (λ k. scan k r) same)
    n small

scan_end : (n c : ℕ) (r : List ℕ) → c < 48 → scan n (c ∷ r) ≡ (n, c ∷ r)
unfolding scan
scan_end n c r low = let other : is_digit c ≡ false = grind (arith, nat_tests) in is_false (is_digit c) _ _ other

-- what is made of the number at the front and the rest
pub number_then : {A : Type 0} → (ℕ → List ℕ → A) → List ℕ → A
number_then f xs = let p = scan 0 xs in f p.0 p.1

pub number_back : {A : Type 0} (f : ℕ → List ℕ → A) (n c : ℕ) (r : List ℕ) → n < 2 ^ 64 → c < 48 → number_then f (decimal n ++ (c ∷ r)) ≡ f n (c ∷ r)
unfolding number_then
number_back f n c r small low = ap (λ (p : ℕ × List ℕ). f p.0 p.1) (scan_number n small (c ∷ r) ∙ scan_end n c r low)

signed_then : {A : Type 0} → (ℤ → List ℕ → A) → List ℕ → A
signed_then f xs = cond (nat_eq (get_or xs 0 0) 45) (number_then (λ n r. f (negsuc (n - 1)) r) (drop 1 xs)) (number_then (λ n r. f (pos n) r) xs)

signed_back : {A : Type 0} (f : ℤ → List ℕ → A) (z : ℤ) (c : ℕ) (r : List ℕ) → IsSigned z → c < 48 → signed_then f (signed_decimal z ++ (c ∷ r)) ≡ f z (c ∷ r)
unfolding signed_then
signed_back f (pos n) c r small low =
    let h = headed n (omega arith) in
    let top = h.low in
    let first : get_or (decimal n ++ (c ∷ r)) 0 0 ≡ h.head = ap (λ q. get_or (q ++ (c ∷ r)) 0 0) h.is in
    is_false (nat_eq (get_or (decimal n ++ (c ∷ r)) 0 0) 45) _ _ (not_byte _ 45 (λ e. omega (arith, e, first, top)))
    ∙ number_back (λ n r. f (pos n) r) n c r (omega arith) low
signed_back f (negsuc n) c r small low =
    let same : suc n - 1 ≡ n = omega arith in
    number_back (λ n r. f (negsuc (n - 1)) r) (suc n) c r (omega arith) low ∙ ap (λ m. f (negsuc m) (c ∷ r)) same

value_then : {A : Type 0} → (Value → List ℕ → A) → List ℕ → A
value_then f xs = cond (nat_eq (get_or xs 0 0) 102) (number_then (λ n r. f (Fut n) r) (drop 1 xs)) (signed_then (λ z r. f (Int z) r) xs)

value_back : {A : Type 0} (f : Value → List ℕ → A) (v : Value) (c : ℕ) (r : List ℕ) → IsValue v → c < 48 → value_then f (value_text v ++ (c ∷ r)) ≡ f v (c ∷ r)
unfolding value_then
value_back f (Int z) c r small low =
    let h = signed_headed z small in
    let top = h.3 in
    let first : get_or (signed_decimal z ++ (c ∷ r)) 0 0 ≡ h.0 = ap (λ q. get_or (q ++ (c ∷ r)) 0 0) h.2 in
    is_false (nat_eq (get_or (signed_decimal z ++ (c ∷ r)) 0 0) 102) _ _ (not_byte _ 102 (λ e. omega (arith, e, first, top)))
    ∙ signed_back (λ z r. f (Int z) r) z c r small low
value_back f (Fut n) c r small low = number_back (λ n r. f (Fut n) r) n c r (omega arith) low

-- the values up to the end of the line, where there are at most so many
values_then : {A : Type 0} → ℕ → (List Value → List ℕ → A) → List ℕ → A
values_then zero f xs = f [] (drop 1 xs)
values_then (suc most) f xs = cond (nat_eq (get_or xs 0 0) 10) (f [] (drop 1 xs)) (value_then (λ v r. values_then most (λ vs s. f (v ∷ vs) s) r) (drop 1 xs))

values_back : {A : Type 0} (vs : List Value) (most : ℕ) (f : List Value → List ℕ → A) (r : List ℕ) → length vs ≤ most → AreValues vs
    → values_then most f (values_line vs ++ r) ≡ f vs r
unfolding values_then
values_back [] zero f r few h = refl
values_back [] (suc most) f r few h = refl
values_back (v ∷ vs) zero f r few h = absurd (omega arith)
values_back (v ∷ vs) (suc most) f r few h =
    let l = lined vs r in
    let text : (value_text v ++ values_line vs) ++ r ≡ value_text v ++ (l.first ∷ l.others) =
    append_assoc (value_text v) (values_line vs) r ∙ ap (λ q. value_text v ++ q) l.is in
    ap (λ q. value_then (λ v r. values_then most (λ vs s. f (v ∷ vs) s) r) q) text
    ∙ value_back (λ v r. values_then most (λ vs s. f (v ∷ vs) s) r) v l.first l.others h.0 l.low
    ∙ ap (λ q. values_then most (λ vs s. f (v ∷ vs) s) q) (sym l.is)
    ∙ values_back vs most (λ vs s. f (v ∷ vs) s) r (omega arith) h.1

-- an act, behind its word
access_then : {A : Type 0} → (ℕ → ℤ → Action) → (Action → List ℕ → A) → List ℕ → A
access_then a f xs = number_then (λ n r. signed_then (λ z s. f (a n z) (drop 1 s)) (drop 1 r)) xs

call_then : {A : Type 0} → (ℕ → ℕ → ℕ → ℕ → List Value → Action) → (Action → List ℕ → A) → List ℕ → A
call_then a f xs = number_then
    (λ code r. number_then
    (λ child r. number_then (λ kid r. number_then (λ cont r. values_then 16 (λ args r. f (a code child kid cont args) r) r) (drop 2 r)) (drop 2 r))
    (drop 2 r)) xs

get_then : {A : Type 0} → (Action → List ℕ → A) → List ℕ → A
get_then f xs = number_then (λ n r. value_then (λ v r. number_then (λ s r. f (Gets n v s) (drop 1 r)) (drop 2 r)) (drop 1 r)) xs

pub action_then : {A : Type 0} → (Action → List ℕ → A) → List ℕ → A
action_then f xs =
    cond (nat_eq (get_or xs 0 0) 114) (access_then Reads f (drop 5 xs))
    (cond (nat_eq (get_or xs 0 0) 119) (access_then Writes f (drop 6 xs))
    (cond (nat_eq (get_or xs 0 0) 99) (call_then Creates f (drop 7 xs))
    (cond (nat_eq (get_or xs 0 0) 103) (get_then f (drop 5 xs))
    (cond (nat_eq (get_or xs 0 0) 101) (value_then (λ v r. f (Ends v) (drop 1 r)) (drop 4 xs))
    (cond (nat_eq (get_or xs 1 0) 112) (call_then Spawns f (drop 6 xs)) (number_then (λ s r. f (Syncs s) (drop 1 r)) (drop 6 xs)))))))

access_back : {A : Type 0} (a : ℕ → ℤ → Action) (f : Action → List ℕ → A) (n : ℕ) (z : ℤ) (r : List ℕ) → IsNumber n → IsSigned z
    → access_then a f ((decimal n ++ (codes " " ++ (signed_decimal z ++ codes "\n"))) ++ r) ≡ f (a n z) r
unfolding access_then
access_back a f n z r small fits =
    ap (λ q. number_then (λ n r. signed_then (λ z s. f (a n z) (drop 1 s)) (drop 1 r)) q) joined
    ∙ number_back (λ n r. signed_then (λ z s. f (a n z) (drop 1 s)) (drop 1 r)) n 32 (signed_decimal z ++ (10 ∷ r)) (omega arith) (omega arith)
    ∙ signed_back (λ z s. f (a n z) (drop 1 s)) z 10 r fits (omega arith)
  where
    joined : (decimal n ++ (codes " " ++ (signed_decimal z ++ codes "\n"))) ++ r ≡ decimal n ++ (32 ∷ (signed_decimal z ++ (10 ∷ r)))
    joined = simp append_assoc

call_back : {A : Type 0} (a : ℕ → ℕ → ℕ → ℕ → List Value → Action) (f : Action → List ℕ → A) (code child kid cont : ℕ) (args : List Value) (r : List ℕ)
    → IsCall code child kid cont args
    → call_then a f (call_line code child kid cont args ++ r) ≡ f (a code child kid cont args) r
unfolding call_then
call_back a f code child kid cont args r h =
    let l = lined args r in
    ap
    (λ q. number_then
    (λ code r. number_then
    (λ child r. number_then (λ kid r. number_then (λ cont r. values_then 16 (λ args r. f (a code child kid cont args) r) r) (drop 2 r)) (drop 2 r))
    (drop 2 r)) q) joined
    ∙ number_back
    (λ code r. number_then
    (λ child r. number_then (λ kid r. number_then (λ cont r. values_then 16 (λ args r. f (a code child kid cont args) r) r) (drop 2 r)) (drop 2 r))
    (drop 2 r)) code 32 _ (omega (arith, h.0)) (omega arith)
    ∙ number_back
    (λ child r. number_then (λ kid r. number_then (λ cont r. values_then 16 (λ args r. f (a code child kid cont args) r) r) (drop 2 r))
    (drop 2 r)) child 32 _ (omega (arith, h.1)) (omega arith)
    ∙ number_back (λ kid r. number_then (λ cont r. values_then 16 (λ args r. f (a code child kid cont args) r) r) (drop 2 r)) kid 32 _ (omega (arith, h.2))
    (omega arith)
    ∙ ap (λ q. number_then (λ cont r. values_then 16 (λ args r. f (a code child kid cont args) r) r) (decimal cont ++ q)) l.is
    ∙ number_back (λ cont r. values_then 16 (λ args r. f (a code child kid cont args) r) r) cont l.first l.others (omega (arith, h.3)) l.low
    ∙ ap (λ q. values_then 16 (λ args r. f (a code child kid cont args) r) q) (sym l.is)
    ∙ values_back args 16 (λ args r. f (a code child kid cont args) r) r h.4 h.5
  where
    joined : call_line code child kid cont args ++ r
        ≡ decimal code ++ (32 ∷ (116 ∷ (decimal child ++ (32 ∷ (115 ∷ (decimal kid ++ (32 ∷ (115 ∷ (decimal cont ++ (values_line args ++ r))))))))))
    joined = simp append_assoc

get_back : {A : Type 0} (f : Action → List ℕ → A) (n : ℕ) (v : Value) (s : ℕ) (r : List ℕ) → IsNumber n → IsValue v → IsNumber s
    → get_then f ((decimal n ++ (codes " " ++ (value_text v ++ (codes " s" ++ (decimal s ++ codes "\n"))))) ++ r) ≡ f (Gets n v s) r
unfolding get_then
get_back f n v s r small fits low =
    ap (λ q. number_then (λ n r. value_then (λ v r. number_then (λ s r. f (Gets n v s) (drop 1 r)) (drop 2 r)) (drop 1 r)) q) joined
    ∙ number_back (λ n r. value_then (λ v r. number_then (λ s r. f (Gets n v s) (drop 1 r)) (drop 2 r)) (drop 1 r)) n 32 _ (omega arith) (omega arith)
    ∙ value_back (λ v r. number_then (λ s r. f (Gets n v s) (drop 1 r)) (drop 2 r)) v 32 _ fits (omega arith)
    ∙ number_back (λ s r. f (Gets n v s) (drop 1 r)) s 10 r (omega arith) (omega arith)
  where
    joined : (decimal n ++ (codes " " ++ (value_text v ++ (codes " s" ++ (decimal s ++ codes "\n"))))) ++ r
        ≡ decimal n ++ (32 ∷ (value_text v ++ (32 ∷ (115 ∷ (decimal s ++ (10 ∷ r))))))
    joined = simp append_assoc

pub action_back : {A : Type 0} (f : Action → List ℕ → A) (a : Action) (r : List ℕ) → IsAction a → action_then f (action_line a ++ r) ≡ f a r
unfolding action_then
action_back f (Reads n z) r h = access_back Reads f n z r h.0 h.1
action_back f (Writes n z) r h = access_back Writes f n z r h.0 h.1
action_back f (Spawns code child kid cont args) r h = call_back Spawns f code child kid cont args r h
action_back f (Creates code child kid cont args) r h = call_back Creates f code child kid cont args r h
action_back f (Syncs s) r h =
    ap (λ q. number_then (λ s r. f (Syncs s) (drop 1 r)) q) (append_assoc (decimal s) (10 ∷ []) r)
    ∙ number_back (λ s r. f (Syncs s) (drop 1 r)) s 10 r (omega arith) (omega arith)
action_back f (Gets n v s) r h = get_back f n v s r h.0 h.1 h.2
action_back f (Ends v) r h =
    ap (λ q. value_then (λ v r. f (Ends v) (drop 1 r)) q) (append_assoc (value_text v) (10 ∷ []) r)
    ∙ value_back (λ v r. f (Ends v) (drop 1 r)) v 10 r h (omega arith)
