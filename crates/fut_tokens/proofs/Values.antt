-- The value of digits grows.
use Rattle.std.proofs.Common.{◌≡◌, ℕ, suc, ◌+◌, ◌-◌, ◌*◌, ◌/◌, ◌<◌, ◌≤◌, List, [], ◌∷◌, length, drop, get_or, ap, arith}
use Rattle.std.specs.Prelude.{None}
use Rattle.std.proofs.lemmas.Bool.Decides.{nat_tests}
use Rattle.std.proofs.Math.Seq.{drop-cons}
use Rattle.fut_tokens.specs.Cut.{value_from}
use Rattle.fut_tokens.specs.Parts.{ranged}

pub grows : (bs : List ℕ) (n : ℕ) → n ≤ value_from n bs
grows [] n = omega arith
grows (b ∷ bs) n = let h = grows bs (n * 10 + (b - 48)) in omega arith

step : (bs : List ℕ) (i n : ℕ) → i < length bs → value_from n (drop i bs) ≡ value_from (n * 10 + (get_or bs i 0 - 48)) (drop (suc i) bs)
step bs i n lt = ap (λ q. value_from n q) (drop-cons bs i 0 lt)

too_large : (bs : List ℕ) (i n most digit : ℕ) → i < length bs → value_from 0 bs ≡ value_from n (drop i bs) → digit ≡ get_or bs i 0 - 48 → digit ≤ most
    → (most - digit) / 10 < n → most < value_from 0 bs
too_large bs i n most digit lt rest same small over =
    let a = step bs i n lt in
    let b = grows (drop (suc i) bs) (n * 10 + (get_or bs i 0 - 48)) in
    omega (arith, a, b, rest)

not_within : (v : ℕ) → 9223372036854775807 < v → None ≡ ranged v
not_within v h = grind (arith, nat_tests)

pub out_of_range : (bs : List ℕ) (i n digit : ℕ) → i < length bs → value_from 0 bs ≡ value_from n (drop i bs) → digit ≡ get_or bs i 0 - 48
    → digit ≤ 9223372036854775807 → (9223372036854775807 - digit) / 10 < n → None ≡ ranged (value_from 0 bs)
out_of_range bs i n digit lt rest same small over = not_within (value_from 0 bs) (too_large bs i n 9223372036854775807 digit lt rest same small over)
