use Rattle.std.proofs.Common.{arith, ◌≡◌, ◌∙◌, sym, ap, ◌+◌, ◌%◌, ◌/◌, ◌*◌, ◌^◌, ℕ, pos, get_or, drop}
use Rattle.std.specs.Prelude.{sum_by}
use Rattle.std.specs.Int.{w64, cast_unsigned}
use Rattle.std.proofs.lemmas.List.Sums.{sum_by-drop_more}
use Rattle.std.proofs.Math.Nat.{add-mul-mod_self_left, mod-add-div, add_assoc}
use Rattle.race_report.proofs.brief.sum.Goals as goal

parts : (a b c : ℕ) → (a + b) + c ≡ (a + c) + b
parts a b c = omega arith

pub loop-cell-preserved : goal.loop-cell-preserved
loop-cell-preserved c =
    let cells = c.as_slice-cells.result.now in
    let value = cast_unsigned w64 in
    let i = c.loop-cell.cell-index in
    let rest = sum_by value (drop (i + 1) cells) in
    let here : c.bits-sum.result ≡ value (get_or cells i (pos 0)) = c.bits-sum.ensures in
    let next : sum_by value (drop i cells) ≡ c.bits-sum.result + rest =
    sum_by-drop_more value cells i (pos 0) c.loop-cell-test.true ∙ ap (λ n. n + rest) (sym here) in
    let all = c.loop-cell.sum + c.bits-sum.result in
    let less : (all % 2 ^ 64 + rest) % 2 ^ 64 ≡ (all + rest) % 2 ^ 64 =
    sym (add-mul-mod_self_left (all % 2 ^ 64 + rest) (2 ^ 64) (all / 2 ^ 64))
    ∙ ap (λ n. n % 2 ^ 64) (parts (all % 2 ^ 64) rest (2 ^ 64 * (all / 2 ^ 64)) ∙ ap (λ n. n + rest) (mod-add-div all (2 ^ 64))) in
    less ∙ (ap (λ n. n % 2 ^ 64) (add_assoc c.loop-cell.sum c.bits-sum.result rest ∙ ap (λ n. c.loop-cell.sum + n) (sym next)) ∙ c.loop-cell.invariant)
