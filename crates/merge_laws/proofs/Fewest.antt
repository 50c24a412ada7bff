-- So many different numbers, all below that many, are all of them.
use Rattle.std.proofs.Common.{◌≡◌, ◌≢◌, ℕ, zero, suc, ◌+◌, ◌<◌, ◌≤◌, List, [], ◌∷◌, inl, inr, length, refl, sym, subst, ◌∙◌, arith}
use Rattle.std.specs.Prelude.{◌==◌, if◌then◌else◌}
use Rattle.std.proofs.lemmas.Bool.{cases_eq}
use Rattle.fut_base.specs.Dag.{Among}
use Rattle.fut_base.proofs.Cases.{by_eq}
use Rattle.event_clock.specs.Views.{times}

-- a list without a number
abbrev less : ℕ → List ℕ → List ℕ
less m [] = []
less m (y ∷ ys) = if y == m then less m ys else y ∷ less m ys

less_length : (m : ℕ) (xs : List ℕ) → length (less m xs) + times m xs ≡ length xs
less_length m [] = refl
less_length m (y ∷ ys) =
    let r = less_length m ys in
    by_eq (λ b. length (if b then less m ys else y ∷ less m ys) + ((if b then 1 else 0) + times m ys) ≡ suc (length ys)) y m
    (λ same. omega (arith, r)) (λ ne. omega (arith, r))

less_times : (m k : ℕ) (xs : List ℕ) → times k (less m xs) ≤ times k xs
less_times m k [] = omega arith
less_times m k (y ∷ ys) =
    let r = less_times m k ys in
    by_eq (λ b. times k (if b then less m ys else y ∷ less m ys) ≤ (if y == k then 1 else 0) + times k ys) y m
    (λ same. omega (arith, r)) (λ ne. omega (arith, r))

less_among : (m k : ℕ) (xs : List ℕ) → Among k (less m xs) → Among k xs × (k ≢ m)
less_among m k [] a = absurd a
less_among m k (y ∷ ys) a =
    by_eq (λ b. Among k (if b then less m ys else y ∷ less m ys) → Among k (y ∷ ys) × (k ≢ m)) y m
    (λ same a. (let r = less_among m k ys a in (inr r.0, r.1)))
    (λ ne a. elim a [
      | inl e ↦ (inl e, λ s. ne (e ∙ s))
      | inr b ↦ (let r = less_among m k ys b in (inr r.0, r.1))
    ])
    a

times_some : (k : ℕ) (xs : List ℕ) → 0 < times k xs → Among k xs
times_some k [] h = absurd (omega (arith, h))
times_some k (y ∷ ys) h =
    by_eq (λ b. 0 < (if b then 1 else 0) + times k ys → Among k (y ∷ ys)) y k (λ same h. inl same) (λ ne h. inr (times_some k ys (omega (arith, h)))) h

lower : (n k : ℕ) → k < suc n → k ≢ n → k < n
lower n k lt ne = omega (arith, lt, ne)

few : (n : ℕ) (xs : List ℕ) → ((k : ℕ) → times k xs ≤ 1) → ((k : ℕ) → Among k xs → k < n) → length xs ≤ n
few zero [] once low = omega arith
few zero (y ∷ ys) once low = absurd (let l = low y (inl refl) in omega (arith, l))
few (suc n) xs once low =
    let r = few n (less n xs) (λ k. (let a = less_times n k xs in let o = once k in omega (arith, a, o)))
    (λ k a. (let l = less_among n k xs a in lower n k (low k l.0) l.1)) in
    let l = less_length n xs in
    let o = once n in
    omega (arith, r, l, o)

pub all_there : (n : ℕ) (xs : List ℕ) → ((k : ℕ) → times k xs ≤ 1) → ((k : ℕ) → Among k xs → k < n) → length xs ≡ n → (k : ℕ) → k < n → Among k xs
all_there zero xs once low size k lt = absurd (omega (arith, lt))
all_there (suc n) xs once low size k lt =
    let once_less : (i : ℕ) → times i (less n xs) ≤ 1 = λ i. (let a = less_times n i xs in let o = once i in omega (arith, a, o)) in
    let low_less : (i : ℕ) → Among i (less n xs) → i < n = λ i a. (let l = less_among n i xs a in lower n i (low i l.0) l.1) in
    let f = few n (less n xs) once_less low_less in
    let l = less_length n xs in
    let o = once n in
    elim (cases_eq k n) [
      | inl same ↦ times_some k xs (subst (λ i. 0 < times i xs) (sym same) (omega (arith, f, l, o, size)))
      | inr ne ↦ (less_among n k xs (all_there n (less n xs) once_less low_less (omega (arith, f, l, o, size)) k (lower n k lt ne))).0
    ]
