-- A text is cut part by part.
use Rattle.std.proofs.Common.{◌≡◌, ℕ, suc, ◌+◌, ◌≤◌, Bool, false, List, [], ◌∷◌, ◌++◌, length, take, drop, refl, sym, subst, ap, ◌∙◌, append_assoc}
use Rattle.std.specs.Prelude.{◌||◌}
use Rattle.std.proofs.lemmas.List.{take-append-drop, drop-drop, drop_all}
use Rattle.std.proofs.Math.Seq.{take-add}
use Rattle.std.proofs.Math.Bool.{or_assoc, or-false}
use Rattle.fut_tokens.specs.declared.token.Token.{Token}
use Rattle.fut_tokens.specs.declared.token.Token.TheVariants as t
use Rattle.fut_tokens.specs.declared.token.Position.{Position}
use Rattle.fut_tokens.specs.declared.lexer.Part.{Part}
use Rattle.fut_tokens.specs.declared.lexer.Part.TheVariants as part
use Rattle.fut_tokens.specs.Cut.{Piece, Space, Comment, Lexeme, bytes_of, Fits, IsCut}
use Rattle.fut_tokens.specs.Ended.{IsEnded}
use Rattle.fut_tokens.specs.Lexed.{tokens_of, places_of, place_after, has_comment, IsTokensOf, HasComments}
use Rattle.fut_tokens.specs.Lexing.{tokens_in, places_in, is_comment, IsBegun}
use Rattle.fut_tokens.specs.Parts.{IsPart, IsSort}
use Rattle.fut_tokens.proofs.Cuts.{cut_once}
use Rattle.fut_tokens.proofs.Never.{ended}

pub begun_start : (text : List ℕ) (tokens : List Token) (places : List Position) → tokens ≡ [] → places ≡ [] → IsBegun text 0 tokens places false
begun_start text tokens places a b = record {
  goes = λ ps c. record { pieces = ps; cut = c; are = ap (λ q. q ++ tokens_of ps) a; stand = ap (λ q. q ++ places_of [] ps) b };
  told = λ ps c qs d. ap has_comment (cut_once qs ps text d c);
}

cut_on : (text : List ℕ) (at n : ℕ) (p : Piece) (ps : List Piece) → bytes_of p ≡ take n (drop at text) → Fits p (drop n (drop at text))
    → IsCut (drop (at + n) text) ps → IsCut (drop at text) (p ∷ ps)
cut_on text at n p ps b f c = (
  drop n (drop at text),
  sym (take-append-drop n (drop at text)) ∙ ap (λ q. q ++ drop n (drop at text)) (sym b),
  f,
  subst (λ (r : List ℕ). IsCut r ps) (sym (drop-drop n at text)) c,
)

tokens_on : (x : Part) (p : Piece) (ps : List Piece) → IsSort x p → tokens_of (p ∷ ps) ≡ tokens_in x ++ tokens_of ps
tokens_on part.Space p ps s = ap (λ q. tokens_of (q ∷ ps)) s.1
tokens_on part.Comment p ps s = ap (λ q. tokens_of (q ∷ ps)) s.1
tokens_on (part.Lexeme x) p ps s = ap (λ q. tokens_of (q ∷ ps)) s.1

places_on : (place : Position) (before : List ℕ) (x : Part) (p : Piece) (ps : List Piece) → place ≡ place_after before → IsSort x p
    → places_of before (p ∷ ps) ≡ places_in place x ++ places_of (before ++ bytes_of p) ps
places_on place before part.Space p ps e s = ap (λ q. places_of before (q ∷ ps)) s.1 ∙ ap (λ q. places_of (before ++ bytes_of q) ps) (sym s.1)
places_on place before part.Comment p ps e s = ap (λ q. places_of before (q ∷ ps)) s.1 ∙ ap (λ q. places_of (before ++ bytes_of q) ps) (sym s.1)
places_on place before (part.Lexeme x) p ps e s =
    ap (λ q. places_of before (q ∷ ps)) s.1
    ∙ ap (λ q. place_after before ∷ places_of (before ++ bytes_of q) ps) (sym s.1)
    ∙ ap (λ q. q ∷ places_of (before ++ bytes_of p) ps) (sym e)

comment_on : (x : Part) (p : Piece) (ps : List Piece) → IsSort x p → has_comment (p ∷ ps) ≡ (is_comment x || has_comment ps)
comment_on part.Space p ps s = ap (λ q. has_comment (q ∷ ps)) s.1
comment_on part.Comment p ps s = ap (λ q. has_comment (q ∷ ps)) s.1
comment_on (part.Lexeme x) p ps s = ap (λ q. has_comment (q ∷ ps)) s.1

-- one part more
pub begun_on : (text : List ℕ) (at n : ℕ) (x : Part) (place : Position) (tokens tokens' : List Token) (places places' : List Position)
    (comments comments' : Bool) → IsPart (drop at text) x n → IsBegun text at tokens places comments → place ≡ place_after (take at text)
    → tokens' ≡ tokens ++ tokens_in x → places' ≡ places ++ places_in place x → comments' ≡ (comments || is_comment x)
    → IsBegun text (at + n) tokens' places' comments'
begun_on text at n x place tokens tokens' places places' comments comments' p b e et ep ec = record {
  goes = λ ps c.
      let h = b.goes (p.piece ∷ ps) (cut_on text at n p.piece ps p.bytes p.fits c) in
      record {
        pieces = h.pieces;
        cut = h.cut;
        are = ap (λ q. q ++ tokens_of ps) et ∙ append_assoc tokens (tokens_in x) (tokens_of ps) ∙ ap (λ q. tokens ++ q) (sym (tokens_on x p.piece ps p.sort))
            ∙ h.are;
        stand =
            ap (λ q. q ++ places_of (take (at + n) text) ps) ep
            ∙ append_assoc places (places_in place x) (places_of (take (at + n) text) ps)
            ∙ ap (λ q. places ++ (places_in place x ++ places_of q ps)) (take-add at n text ∙ ap (λ q. take at text ++ q) (sym p.bytes))
            ∙ ap (λ q. places ++ q) (sym (places_on place (take at text) x p.piece ps e p.sort))
            ∙ h.stand;
      };
  told = λ ps c qs d.
      b.told (p.piece ∷ ps) (cut_on text at n p.piece ps p.bytes p.fits c) qs d
      ∙ ap (λ q. comments || q) (comment_on x p.piece ps p.sort)
      ∙ sym (or_assoc comments (is_comment x) (has_comment ps))
      ∙ ap (λ q. q || has_comment ps) (sym ec);
}

-- each token has its place
same_length : (before : List ℕ) (ps : List Piece) → length (places_of before ps) ≡ length (tokens_of ps)
same_length before [] = refl
same_length before (Space b ∷ ps) = same_length (before ++ b ∷ []) ps
same_length before (Comment c ∷ ps) = same_length (before ++ 47 ∷ 47 ∷ c) ps
same_length before (Lexeme bs x ∷ ps) = ap (λ n. suc n) (same_length (before ++ bs) ps)

-- the whole text was cut
pub record IsWhole (text : List ℕ) (tokens : List Token) (places : List Position) (comments : Bool) : Type 0 where
  pub of : IsTokensOf text tokens places
  pub ends : IsEnded tokens
  pub paired : length places ≡ length tokens
  pub told : HasComments text comments

tokens_end : (text : List ℕ) (tokens : List Token) (places : List Position) → IsTokensOf text tokens places → IsEnded tokens
tokens_end text tokens places h = subst IsEnded (sym h.are) (ended h.pieces text h.cut)

pub begun_end : (text : List ℕ) (at : ℕ) (place : Position) (tokens tokens' : List Token) (places places' : List Position) (comments comments' : Bool)
    → length text ≤ at → IsBegun text at tokens places comments → place ≡ place_after (take at text) → tokens' ≡ tokens ++ t.End ∷ []
    → places' ≡ places ++ place ∷ [] → comments' ≡ comments → IsWhole text tokens' places' comments'
begun_end text at place tokens tokens' places places' comments comments' past b e et ep ec =
    let h = b.goes [] (drop_all at text past) in
    let of : IsTokensOf text tokens' places' = record {
      pieces = h.pieces;
      cut = h.cut;
      are = et ∙ h.are;
      stand = ep ∙ ap (λ q. places ++ q ∷ []) e ∙ h.stand;
    } in
    record {
      of = of;
      ends = tokens_end text tokens' places' of;
      paired = ap length of.stand ∙ same_length [] of.pieces ∙ ap length (sym of.are);
      told = λ qs d. b.told [] (drop_all at text past) qs d ∙ or-false comments ∙ sym ec;
    }
