-- Powers, and the windows of labels.
use Rattle.std.proofs.Common.{◌≡◌, ℕ, zero, suc, ◌+◌, ◌*◌, ◌-◌, ◌/◌, ◌^◌, ◌<◌, ◌≤◌, ◌∙◌, inl, inr, sym, subst, ap, arith}
use Rattle.std.proofs.Math.Nat.{pow-succ', mul-le-mul_left, lt_of_mul-lt-mul_left, mul-lt-mul_of_pos_left}
use Rattle.std.proofs.lemmas.Bool.{cases_lt}
use Rattle.std.proofs.lemmas.Nat.{pow_pos, pow-add, shr-shr}
use Rattle.order_list.specs.Labels.{base_of, IsSparse}

-- a label's window begins at a multiple of its size
base_is : (i label : ℕ) → base_of i label ≡ 2 ^ i * (label / 2 ^ i)
base_is i label = let p = pow_pos i in omega arith

pub base_le : (i label : ℕ) → base_of i label ≤ label
base_le i label = omega arith

pub label_below : (i label : ℕ) → label < base_of i label + 2 ^ i
label_below i label = let p = pow_pos i in omega arith

pub base_zero : (label : ℕ) → base_of 0 label ≡ label
base_zero label = omega arith

-- a window is within the next wider one
pub base_wider : (i label : ℕ) → base_of (i + 1) label ≤ base_of i label
base_wider i label =
    let m = 2 ^ i in
    let q = label / m in
    let two : 2 ^ (i + 1) ≡ m * 2 = pow-add 2 i 1 in
    let half : label / 2 ^ (i + 1) ≡ q / 2 = sym (shr-shr label i 1) in
    let b : base_of i label ≡ m * q = base_is i label in
    let b' : base_of (i + 1) label ≡ (m * 2) * (q / 2) = base_is (i + 1) label ∙ (ap (λ p. p * (label / 2 ^ (i + 1))) two ∙ ap (λ d. (m * 2) * d) half) in
    let le : m * (2 * (q / 2)) ≤ m * q = mul-le-mul_left m (omega arith) in
    omega (arith, b, b', le)

pub end_wider : (i label : ℕ) → base_of i label + 2 ^ i ≤ base_of (i + 1) label + 2 ^ (i + 1)
end_wider i label =
    let m = 2 ^ i in
    let q = label / m in
    let two : 2 ^ (i + 1) ≡ m * 2 = pow-add 2 i 1 in
    let half : label / 2 ^ (i + 1) ≡ q / 2 = sym (shr-shr label i 1) in
    let b : base_of i label ≡ m * q = base_is i label in
    let b' : base_of (i + 1) label ≡ (m * 2) * (q / 2) = base_is (i + 1) label ∙ (ap (λ p. p * (label / 2 ^ (i + 1))) two ∙ ap (λ d. (m * 2) * d) half) in
    let le : m * (q + 1) ≤ m * (2 * (q / 2) + 2) = mul-le-mul_left m (omega arith) in
    omega (arith, b, b', le, two)

-- a window ends at 2^62 or before
pub end_le : (i label : ℕ) → i ≤ 62 → label < 2 ^ 62 → base_of i label + 2 ^ i ≤ 2 ^ 62
end_le i label le lt =
    let m = 2 ^ i in
    let q = label / m in
    let p = pow_pos i in
    let k = 2 ^ (62 - i) in
    let all : 2 ^ 62 ≡ m * k = ap (λ n. 2 ^ n) (the_sum i le) ∙ pow-add 2 i (62 - i) in
    let b : base_of i label ≡ m * q = base_is i label in
    let below : q < k = lt_of_mul-lt-mul_left m (omega (arith, b, base_le i label, all, lt)) in
    let fits : m * (q + 1) ≤ m * k = mul-le-mul_left m (omega (arith, below)) in
    omega (arith, b, fits, all)
  where
    the_sum : (i : ℕ) → i ≤ 62 → 62 ≡ i + (62 - i)
    the_sum i le = omega arith

-- from 3 on, the square of 2^i is at least twice 3^i
square : (j : ℕ) → 2 * 3 ^ (j + 3) ≤ 2 ^ (j + 3) * 2 ^ (j + 3)
square zero = omega arith
square (suc j) =
    let three : 3 ^ (suc j + 3) ≡ 3 * 3 ^ (j + 3) = ap (λ n. 3 ^ n) (more j) ∙ pow-succ' 3 (j + 3) in
    let two : 2 ^ (suc j + 3) ≡ 2 * 2 ^ (j + 3) = ap (λ n. 2 ^ n) (more j) ∙ pow-succ' 2 (j + 3) in
    rw (three, two) (omega (arith, square j))
  where
    more : (j : ℕ) → suc j + 3 ≡ suc (j + 3)
    more j = omega arith

-- where so few items share a window, there are two labels and more for each
pub gap_two : (i n : ℕ) → 1 ≤ i → IsSparse i n → 2 * n ≤ 2 ^ i
gap_two zero n some sparse = absurd (omega arith)
gap_two (suc zero) n some sparse = omega arith
gap_two (suc (suc zero)) n some sparse = omega arith
gap_two (suc (suc (suc j))) n some sparse =
    let is : suc (suc (suc j)) ≡ j + 3 = omega arith in
    let s : n * 2 ^ (j + 3) ≤ 3 ^ (j + 3) = subst (λ i. n * 2 ^ i ≤ 3 ^ i) is sparse in
    let m = 2 ^ (j + 3) in
    subst (λ i. 2 * n ≤ 2 ^ i) (sym is) (elim (cases_lt m (2 * n)) [
      | inl more ↦ absurd (let big : m * m < m * (2 * n) = mul-lt-mul_of_pos_left more (pow_pos (j + 3)) in omega (arith, big, s, square j))
      | inr le ↦ le
    ])

-- the widest window is sparse
pub widest : (n : ℕ) → n < 2 ^ 32 → IsSparse 62 n
widest n lt = omega arith
