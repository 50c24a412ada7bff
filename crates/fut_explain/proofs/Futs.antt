-- One `fut` after the other.
use Rattle.std.proofs.Common.{◌≡◌, ℕ, zero, suc, ◌-◌, ◌<◌, ◌++◌, ap, arith}
use Rattle.std.specs.Prelude.{codes}
use Rattle.fut_explain.specs.Causes.{futs}

pub futs_step : (n : ℕ) → 0 < n → futs n ≡ codes "fut " ++ futs (n - 1)
futs_step zero h = absurd (omega (arith, h))
futs_step (suc n) h = let one : n ≡ suc n - 1 = omega arith in ap (λ k. codes "fut " ++ futs k) one
