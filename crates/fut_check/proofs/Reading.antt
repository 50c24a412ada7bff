-- What is read of a text can be checked.
use Rattle.std.proofs.Common.{◌≡◌, ℕ, ◌+◌, ◌<◌, ◌≤◌, List, [], ◌∷◌, ◌++◌, length, refl, sym, ap, ◌∙◌, subst, arith, length-append}
use Rattle.std.specs.Prelude.{◌^◌, Some, Ok}
use Rattle.fut_tokens.specs.declared.token.Token.{Token}
use Rattle.fut_syntax.specs.declared.tree.Program as declared
use Rattle.fut_tokens.specs.Cut.{Piece, Space, Comment, Lexeme, IsCut, token_of}
use Rattle.fut_tokens.specs.Lexed.{tokens_of, places_of}
use Rattle.fut_syntax.specs.Texts.{Parses}
use Rattle.fut_tokens.proofs.Cuts.{tokens_once}
use Rattle.fut_check.specs.Checks.{HasPlaces}
use Rattle.fut_check.proofs.Numbers.{AreInRange, cut_in_range, fit_program}

some_bytes : (bs : List ℕ) (x : Token) → token_of bs ≡ Some x → 0 < length bs
some_bytes [] x h = cc
some_bytes (b ∷ bs) x h = omega arith

few_tokens : (ps : List Piece) (bytes : List ℕ) → IsCut bytes ps → length (tokens_of ps) ≤ length bytes + 1
few_tokens [] bytes h = omega arith
few_tokens (Space b ∷ ps) bytes (rest, is, fits, cut) = omega (arith, few_tokens ps rest cut, ap length is)
few_tokens (Comment c ∷ ps) bytes (rest, is, fits, cut) = omega (arith, few_tokens ps rest cut, ap length is, length-append c rest)
few_tokens (Lexeme bs x ∷ ps) bytes (rest, is, fits, cut) = omega (arith, few_tokens ps rest cut, ap length is, length-append bs rest, some_bytes bs x fits.0)

paired : (ps : List Piece) (before : List ℕ) → length (places_of before ps) ≡ length (tokens_of ps)
paired [] before = refl
paired (Space b ∷ ps) before = paired ps (before ++ b ∷ [])
paired (Comment c ∷ ps) before = paired ps (before ++ 47 ∷ 47 ∷ c)
paired (Lexeme bs x ∷ ps) before = omega (arith, paired ps (before ++ bs))

pub read_can_be_checked : (text : List ℕ) (p : declared.Program) → length text + 1 < 2 ^ 32 → Parses text (Ok p) → HasPlaces p
read_can_be_checked text p small ((P, is, program), (tokens, cut), comments) =
    let count : length p.places ≡ length tokens = ap length cut.stand ∙ paired cut.pieces [] ∙ ap length (sym cut.are) in
    let same = tokens_once text program.tokens tokens program.places p.places program.cut cut in
    record {
      tree = P;
      is = is;
      places = count ∙ ap length (sym same.0) ∙ ap length (sym program.whole.0);
      few = omega (arith, count, ap length cut.are, few_tokens cut.pieces text cut.cut);
      numbers = fit_program P (subst AreInRange (sym (program.whole.0 ∙ (same.0 ∙ cut.are))) (cut_in_range cut.pieces text cut.cut));
    }
