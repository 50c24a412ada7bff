-- The places of a text, and the way to one of them.
use Rattle.std.proofs.Common.{◌≡◌, ℕ, zero, suc, ◌+◌, ◌≤◌, ◌⊎◌, inl, inr}
use Rattle.std.proofs.Common.{List, [], ◌∷◌, ◌++◌, refl, sym, ap, ◌∙◌, append_assoc, length, length-append, take, arith}
use Rattle.std.specs.Prelude.{Some, slice_get}
use Rattle.std.proofs.Math.Seq.{take-append_seam}
use Rattle.fut_tokens.specs.declared.token.Token.{Token}
use Rattle.fut_tokens.specs.declared.token.Position.{Position}
use Rattle.fut_tokens.specs.Cut.{Piece, Space, Comment, Lexeme, IsCut}
use Rattle.fut_tokens.specs.Lexed.{places_of, place_after}
use Rattle.fut_explain.specs.Lines.{IsPlaceOf, IsTokenAt}

abbrev Split : List ℕ → Position → Type 0
Split text p = (a : List ℕ) × (b : List ℕ) × (text ≡ a ++ b) × (place_after a ≡ p)

further : (before bs more rest : List ℕ) (p : Position) → rest ≡ bs ++ more → Split ((before ++ bs) ++ more) p → Split (before ++ rest) p
further before bs more rest p is (a, b, e, s) = (a, b, ap (λ l. before ++ l) is ∙ (sym (append_assoc before bs more) ∙ e), s)

placed : (ps : List Piece) (before rest : List ℕ) (i : ℕ) (p : Position) → IsCut rest ps → slice_get (places_of before ps) i ≡ Some p → Split (before ++ rest) p
placed [] before rest zero p cut e = (before, rest, refl, cc)
placed [] before rest (suc i) p cut e = absurd (cc)
placed (Space b ∷ ps) before rest i p (more, is, fits, cut) e = further before (b ∷ []) more rest p is (placed ps (before ++ b ∷ []) more i p cut e)
placed (Comment c ∷ ps) before rest i p (more, is, fits, cut) e =
    further before (47 ∷ 47 ∷ c) more rest p is (placed ps (before ++ 47 ∷ 47 ∷ c) more i p cut e)
placed (Lexeme bs x ∷ ps) before rest zero p cut e = (before, rest, refl, cc)
placed (Lexeme bs x ∷ ps) before rest (suc i) p (more, is, fits, cut) e = further before bs more rest p is (placed ps (before ++ bs) more i p cut e)

-- a token stands at a place of the text
pub token_placed : (text : List ℕ) (place : Position) (x : Token) → IsTokenAt text place x → IsPlaceOf text place
token_placed text place x h =
    let s = placed h.cut.pieces [] text h.at place h.cut.cut (ap (λ l. slice_get l h.at) (sym h.cut.stand) ∙ h.stands) in
    record { before = s.0; after = s.1; whole = s.2; stands = s.3 }

-- some beginning of a text that is not shorter than so many bytes ends at this place
abbrev pub Goes : List ℕ → Position → ℕ → Type 0
Goes text place at = (n : ℕ) × (at ≤ n) × (n ≤ length text) × (place_after (take n text) ≡ place)

pub goes_first : (text : List ℕ) (place : Position) → IsPlaceOf text place → Goes text place 0
goes_first text place h = (
  length h.before,
  omega arith,
  omega (arith, ap length h.whole, length-append h.before h.after),
  ap (λ l. place_after (take (length h.before) l)) h.whole ∙ (ap place_after (take-append_seam h.before h.after) ∙ h.stands),
)

pub apart : (m n : ℕ) → m ≤ n → (m ≡ n) ⊎ (m + 1 ≤ n)
apart zero zero h = inl refl
apart zero (suc n) h = inr (omega arith)
apart (suc m) zero h = absurd (omega (arith, h))
apart (suc m) (suc n) h = elim (apart m n (omega (arith, h))) [
  | inl e ↦ inl (ap suc e)
  | inr l ↦ inr (omega (arith, l))
]

pub goes_next : (text : List ℕ) (place here : Position) (at : ℕ) → here ≡ place_after (take at text)
    → (here ≡ place → ⊥) → Goes text place at → Goes text place (at + 1)
goes_next text place here at is other (n, le, within, stands) = elim (apart at n le) [
  | inl e ↦ absurd (other (is ∙ (ap (λ k. place_after (take k text)) e ∙ stands)))
  | inr l ↦ (n, l, within, stands)
]

pub goes_last : (text : List ℕ) (place : Position) (at : ℕ) → length text ≤ at → Goes text place at → place_after (take at text) ≡ place
goes_last text place at end (n, le, within, stands) =
    let e : at ≡ n = omega (arith, end, le, within) in
    ap (λ k. place_after (take k text)) e ∙ stands
