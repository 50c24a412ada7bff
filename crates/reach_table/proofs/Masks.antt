-- Which futures a mask tells, one strand after the other.
use Rattle.std.proofs.Common.{◌≡◌, ℕ, ◌+◌, ◌*◌, ◌%◌, ◌^◌, ◌<◌, List, [], ◌∷◌, length, get_or, take, inl, inr, refl, subst, sym, arith, ◌∙◌, w64, bit_or}
use Rattle.std.specs.Int.{bit_at}
use Rattle.std.proofs.lemmas.List.{take_more}
use Rattle.std.proofs.lemmas.Nat.Bits.{bit_at_set_same, bit_at_set_other}
use Rattle.fut_base.specs.Dag.{Among}
use Rattle.strand_laws.proofs.Places.{among_left, among_right, same_or_not}
use Rattle.strand_tree.specs.declared.strand.Strand.{Strand}
use Rattle.reach_table.specs.Blocks.{IsMaskOf}
use Rattle.reach_table.proofs.Members.{in_more}

module _ (mask : ℕ) (ws : List Strand) (i : ℕ) (d : Strand) (lt : i < length ws) (is : IsMaskOf mask (take i ws)) where
  abbrev bit : ℕ
  bit = (get_or ws i d).future % 64

  abbrev with_bit : ℕ
  with_bit = bit_or mask (1 * 2 ^ bit % 18446744073709551616)

  low : bit < 64
  low = omega arith

  was : (w : Strand) → Among w (take i ws) → Among w (take (i + 1) ws)
  was w a = subst (λ l. Among w l) (sym (take_more ws i d lt)) (among_left w (take i ws) (get_or ws i d ∷ []) a)

  here : Among (get_or ws i d) (take (i + 1) ws)
  here = subst (λ l. Among (get_or ws i d) l) (sym (take_more ws i d lt)) (among_right (get_or ws i d) (take i ws) (get_or ws i d ∷ []) (inl refl))

  pub mask_more : IsMaskOf with_bit (take (i + 1) ws)
  mask_more n n_low = elim (same_or_not n bit) [
    | inl e ↦ (
      λ _. (get_or ws i d, here, sym e),
      λ _. (let P : ℕ → Type 0 = λ k. bit_at with_bit k ≡ 1 in subst P (sym e) (bit_at_set_same w64 mask bit low)),
    )
    | inr ne ↦ (
        let same : bit_at with_bit n ≡ bit_at mask n = bit_at_set_other w64 mask bit low n ne in (
          λ h. (let k = (is n n_low).0 (sym same ∙ h) in (k.0, was k.0 k.1, k.2)),
          λ k. elim (in_more ws i d lt k.0 k.1) [
            | inl a ↦ same ∙ (is n n_low).1 (k.0, a, k.2)
            | inr e ↦ (let P : Strand → Type 0 = λ z. z.future % 64 ≡ n in let q : P (get_or ws i d) = subst P (sym e) k.2 in absurd (ne (sym q)))
          ],
        ))
  ]
