use Rattle.std.proofs.Common.{◌≡◌, ℕ, ◌+◌, List, ◌++◌, length, take, drop, arith, sym, ◌∙◌, ap, rules, refl, length-append}
use Rattle.std.proofs.lemmas.List.{take-append-drop, drop-drop, length-take}
use Rattle.std.proofs.Math.Seq.{take-append_seam}
use Rattle.fut_base.proofs.memory.MemSourceSource.take.Goals as goal

-- what was copied to the front, and what stands behind it
all_of : (bytes copied others : List ℕ) (i n : ℕ) → length copied ≡ n → copied ≡ take n (drop i bytes)
    → drop i bytes ≡ take n (copied ++ others) ++ drop (i + n) bytes
all_of bytes copied others i n len is =
    sym (ap (λ l. take n (copied ++ others) ++ l) (sym (drop-drop n i bytes))
    ∙ ap (λ (l : List ℕ). l ++ drop n (drop i bytes)) (ap (λ k. take k (copied ++ others)) (sym len) ∙ (take-append_seam copied others ∙ is))
    ∙ take-append-drop n (drop i bytes))

pub returns-clause-takes : goal.returns-clause-takes
returns-clause-takes c =
    let n = c.min-count.result in
    let i = c.self.inside.at in
    let bytes = c.self.inside.bytes.items in
    let behind = drop n c.args.buf.now in
    let len : length c.copy_from_slice.new.self ≡ n = c.copy_from_slice.ensures.len ∙ omega (arith, length-take {A = ℕ}, c.min.ensures, c.min-count.ensures) in
    let is : c.copy_from_slice.new.self ≡ take n (drop i bytes) =
    c.copy_from_slice.ensures.after
    ∙ (ap (λ k. take k (drop i c.deref-2.result.now)) (omega arith) ∙ ap (λ l. take n (drop i l)) c.deref-2.ensures.value) in (
      search rules,
      omega (arith, length-append {A = ℕ}, len),
      ap (λ g. g.left) (sym c.self.view_is) ∙ all_of bytes c.copy_from_slice.new.self behind i n len is,
      refl,
      ap (λ g. g.faults) c.self.view_is,
    )
