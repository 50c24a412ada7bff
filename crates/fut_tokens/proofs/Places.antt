-- How places go on.
use Rattle.std.proofs.Common.{◌≡◌, ℕ, ◌+◌, ◌≤◌, Bool, true, false, List, [], ◌∷◌, ◌++◌, length, reverse, ap, ◌∙◌, arith}
use Rattle.std.specs.Prelude.{count_by, nat_eq, if◌then◌else◌}
use Rattle.std.specs.List.{suffix_len, prefix_len}
use Rattle.std.proofs.lemmas.List.{reverse-append, length-reverse}
use Rattle.std.proofs.lemmas.List.Sums.{count_by-le-length, prefix_len-le-length, sum_by_push}
use Rattle.fut_tokens.specs.declared.token.Position.{Position}
use Rattle.fut_tokens.specs.Cut.{is_inline}
use Rattle.fut_tokens.specs.Lexed.{place_after}
use Rattle.fut_tokens.specs.Lexing.{place_on}

pub column_small : (bs : List ℕ) → (place_after bs).column ≤ 1 + length bs
column_small bs = let h = prefix_len-le-length is_inline (reverse bs) in omega (arith, length-reverse bs, h)

pub line_small : (bs : List ℕ) → (place_after bs).line ≤ 1 + length bs
line_small bs = omega (arith, count_by-le-length (λ b. nat_eq b 10) bs)

abbrev made : ℕ → ℕ → Position
made l c = record { line = l; column = c }

by_test : (t : Bool) (m n : ℕ) → made (1 + (m + (if t then 1 else 0))) (1 + (if (if t then false else true) then 1 + n else 0))
    ≡ (if t then made (1 + m + 1) 1 else made (1 + m) (1 + n + 1))
by_test true m n = ap (λ q. made q 1) (omega arith)
by_test false m n = let a : 1 + (m + 0) ≡ 1 + m = omega arith in let b : 1 + (1 + n) ≡ 1 + n + 1 =
    omega arith in ap (λ q. made q (1 + (1 + n))) a ∙ ap (λ q. made (1 + m) q) b

-- the place behind one byte more
pub after_push : (bs : List ℕ) (b : ℕ) → place_after (bs ++ b ∷ []) ≡ place_on (place_after bs) b
after_push bs b =
    ap (λ q. made (1 + q) (1 + suffix_len is_inline (bs ++ b ∷ []))) (sum_by_push (λ x. if nat_eq x 10 then 1 else 0) bs b)
    ∙ ap (λ q. made (1 + (count_by (λ x. nat_eq x 10) bs + (if nat_eq b 10 then 1 else 0))) (1 + prefix_len is_inline q)) (reverse-append bs (b ∷ []))
    ∙ by_test (nat_eq b 10) (count_by (λ x. nat_eq x 10) bs) (suffix_len is_inline bs)
