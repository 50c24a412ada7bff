use Rattle.std.proofs.Common.{◌≡◌, ℕ, true, true≢false, [], ◌∷◌, ◌⊎◌, inl, inr, subst, sym, refl, arith}
use Rattle.fut_base.specs.Dag.{Among}
use Rattle.fut_base.specs.Orders.{precedes_past}
use Rattle.fut_base.specs.Sound.{home_of}
use Rattle.reach_table.specs.Rows.{chain_past}
use Rattle.reach_table.proofs.laws.chain_tells.Goals as goal

four : (w : ℕ) → Among w (2 ∷ 1 ∷ []) → home_of chain_past w ≡ 0 → (4 ≡ w) ⊎ (precedes_past chain_past 4 w ≡ true) → ⊥
four w (inl e) h (inl q) = absurd (omega (arith, e, q))
four w (inl e) h (inr p) = let P : ℕ → Type 0 = λ z. precedes_past chain_past 4 z ≡ true in true≢false (sym (subst P (sym e) p))
four w (inr (inl e)) h o = let P : ℕ → Type 0 = λ z. home_of chain_past z ≡ 0 in absurd (omega (arith, subst P (sym e) h))
four w (inr (inr a)) h o = absurd a

pub returns : goal.returns
returns c = record {
  one_to_six = (1, inr (inl refl), refl, inl refl);
  zero_to_six = (refl, refl);
  four_to_five = λ k. four k.0 k.1 k.2 k.3;
}
