-- Two entries, the later first.
use Rattle.std.proofs.Common.{ℕ, zero, suc, ◌<◌, [], ◌∷◌, inl, inr, refl, arith}
use Rattle.fut_base.specs.declared.record.Entry.{Entry}
use Rattle.fut_base.specs.Dag.{Among}
use Rattle.trace_merge.specs.Trials.{end_of}

-- both numbers below 2 are tickets
pub both_there : (k : ℕ) → k < 2 → (x : Entry) × Among {X = ℕ × Entry} (k, x) ((1, end_of 1) ∷ (0, end_of 0) ∷ [])
both_there zero less = (end_of 0, inr (inl refl))
both_there (suc zero) less = (end_of 1, inl refl)
both_there (suc (suc k)) less = absurd (omega (arith, less))
