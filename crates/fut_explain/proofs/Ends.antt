-- The ends of a line.
use Rattle.std.proofs.Common.{◌≡◌, ℕ, ◌-◌, ◌<◌, ◌≤◌, true, List, refl, sym, ap, subst, length, take, drop, get_or, arith}
use Rattle.std.specs.List.{suffix_len}
use Rattle.std.proofs.lemmas.List.{take-append-drop, take_all, drop_all, drop_more, length-drop}
use Rattle.std.proofs.lemmas.List.Sums.{suffix_len-take_no}
use Rattle.fut_tokens.specs.Cut.{each, is_inline, EndsLine}
use Rattle.fut_explain.specs.Lines.{IsLastLine, IsFirstLine}

pub first_line_is : (text : List ℕ) (n : ℕ) → each is_inline (take n text) ≡ true → EndsLine (drop n text) → IsFirstLine text (take n text)
first_line_is text n inline ends = record { after = drop n text; whole = sym (take-append-drop n text); inline = inline; ends = ends }

pub ends_text : (text : List ℕ) (n : ℕ) → length text ≤ n → EndsLine (drop n text)
ends_text text n h = subst EndsLine (sym (drop_all n text h)) tt

pub ends_line : (text : List ℕ) (n d : ℕ) → n < length text → get_or text n d ≡ 10 → EndsLine (drop n text)
ends_line text n d h e = subst EndsLine (sym (drop_more text n d h)) e

pub last_line_is : (text : List ℕ) (n : ℕ) → n ≤ length text → each is_inline (drop n text) ≡ true → suffix_len is_inline (take n text) ≡ 0
    → IsLastLine text (take (length text - n) (drop n text))
last_line_is text n h inline begins =
    subst (IsLastLine text) (sym (take_all (length text - n) (drop n text) (omega (arith, length-drop n text))))
    (record { before = take n text; whole = sym (take-append-drop n text); begins = begins; inline = inline })

pub begins_text : (text : List ℕ) (n : ℕ) → n ≡ 0 → suffix_len is_inline (take n text) ≡ 0
begins_text text n e = subst (λ k. suffix_len is_inline (take k text) ≡ 0) (sym e) refl

pub begins_line : (text : List ℕ) (n d : ℕ) → 0 < n → n ≤ length text → get_or text (n - 1) d ≡ 10 → suffix_len is_inline (take n text) ≡ 0
begins_line text n d some h e = suffix_len-take_no is_inline text n d some h (ap is_inline e)
