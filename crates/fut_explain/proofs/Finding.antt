-- The token that stands at a place.
use Rattle.std.proofs.Common.{◌≡◌, ℕ, zero, suc, ◌+◌, ◌<◌, ◌≤◌, inl, inr, List, [], ◌∷◌, ◌++◌, refl, sym, ap, ◌∙◌, length, get_or, arith}
use Rattle.std.specs.Prelude.{Some, Result, Ok, Err, IfOk, slice_get}
use Rattle.std.proofs.lemmas.Option.{slice_get_within, get_or_from_slice_get, slice_get-get_or, slice_get_read}
use Rattle.fut_tokens.specs.declared.token.Token.{Token}
use Rattle.fut_tokens.specs.declared.token.Position.{Position}
use Rattle.fut_tokens.specs.Cut.{Piece, Space, Comment, Lexeme}
use Rattle.fut_tokens.specs.Lexed.{tokens_of, places_of, IsTokensOf}
use Rattle.fut_tokens.proofs.Cuts.{tokens_once}
use Rattle.fut_syntax.specs.declared.tree.Program as declared
use Rattle.fut_syntax.specs.Texts.{IsFaultPlace, Parses}
use Rattle.fut_check.specs.Checks.{IsFaultOf}
use Rattle.fut_explain.specs.Lines.{IsTokenAt, width_of}
use Rattle.fut_explain.proofs.Placing.{apart}

-- the place is among some, not before the one with this number
abbrev pub Among : List Position → Position → ℕ → Type 0
Among places place at = (i : ℕ) × (at ≤ i) × (slice_get places i ≡ Some place)

pub among_next : (places : List Position) (place d : Position) (at : ℕ) → (get_or places at d ≡ place → ⊥) → Among places place at → Among places place (at + 1)
among_next places place d at other (i, le, is) = elim (apart at i le) [
  | inl e ↦ absurd (other (get_or_from_slice_get places at place d (ap (λ k. slice_get places k) e ∙ is)))
  | inr l ↦ (i, l, is)
]

pub among_here : (places : List Position) (place d : Position) (at : ℕ) → at < length places → get_or places at d ≡ place → slice_get places at ≡ Some place
among_here places place d at less e = slice_get-get_or places at d less ∙ ap Some e

pub among_none : (places : List Position) (place : Position) (at : ℕ) → length places ≤ at → Among places place at → ⊥
among_none places place at end (i, le, is) = let w = slice_get_within places i place is in absurd (omega (arith, w, le, end))

-- a text's tokens and places are once for all
pub has_place : (text : List ℕ) (place : Position) (tokens : List Token) (places : List Position) → IsTokensOf text tokens places
    → ((x : Token) × IsTokenAt text place x) → (i : ℕ) × (slice_get places i ≡ Some place)
has_place text place tokens places cut (x, h) =
    (h.at, ap (λ l. slice_get l h.at) ((tokens_once text tokens h.tokens places h.places cut h.cut).1) ∙ h.stands)

-- the width of the token that stands at a place is that of a token that does
pub width_there : {E : Type 0} (text : List ℕ) (place : Position) (tokens : List Token) (places : List Position) (at : ℕ) (x : Token) (r : Result ℕ E)
    → IsTokensOf text tokens places → slice_get places at ≡ Some place → length places ≡ length tokens → x ≡ get_or tokens at x
    → IfOk r (λ n. n ≡ width_of x) → IfOk r (λ n. (x : Token) × IsTokenAt text place x × (n ≡ width_of x))
width_there text place tokens places at x (Ok n) cut stands paired is h =
    let less = slice_get_within places at place stands in (
      x,
      record {
        tokens = tokens;
        places = places;
        at = at;
        cut = cut;
        stands = stands;
        is = slice_get_read tokens (length tokens) at x refl (omega (arith, less, paired)) is;
      },
      h,
    )
width_there text place tokens places at x (Err e) cut stands paired is h = tt

-- each place is that of a token
has_token : (ps : List Piece) (before : List ℕ) (i : ℕ) (p : Position) → slice_get (places_of before ps) i ≡ Some p
    → (x : Token) × (slice_get (tokens_of ps) i ≡ Some x)
has_token [] before zero p e = (_, refl)
has_token [] before (suc i) p e = absurd (cc)
has_token (Space b ∷ ps) before i p e = has_token ps (before ++ b ∷ []) i p e
has_token (Comment c ∷ ps) before i p e = has_token ps (before ++ 47 ∷ 47 ∷ c) i p e
has_token (Lexeme bs x ∷ ps) before zero p e = (x, refl)
has_token (Lexeme bs x ∷ ps) before (suc i) p e = has_token ps (before ++ bs) i p e

token_at : (text : List ℕ) (place : Position) (tokens : List Token) (places : List Position) (i : ℕ) → IsTokensOf text tokens places
    → slice_get places i ≡ Some place → (x : Token) × IsTokenAt text place x
token_at text place tokens places i cut stands =
    let t = has_token cut.pieces [] i place (ap (λ l. slice_get l i) (sym cut.stand) ∙ stands) in
    (t.0, record { tokens = tokens; places = places; at = i; cut = cut; stands = stands; is = ap (λ l. slice_get l i) cut.are ∙ t.1 })

-- at the place of a fault a token stands
pub token_at_fault : (text : List ℕ) (place : Position) → IsFaultPlace text place → (x : Token) × IsTokenAt text place x
token_at_fault text place h = token_at text place h.tokens h.places (length h.fault.before) h.cut h.stands

-- and where the first fault of a program stands
pub token_at_broken : (text : List ℕ) (p : declared.Program) (rule : ℕ) (place : Position) → Parses text (Ok p) → IsFaultOf p rule place
    → (x : Token) × IsTokenAt text place x
token_at_broken text p rule place parsed h = token_at text place parsed.1.0 p.places h.fault.token parsed.1.1 h.stands
