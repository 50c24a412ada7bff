use Rattle.std.proofs.Common.{◌≡◌, ℕ, ◌-◌, List, ◌∷◌, length, get_or, ◌∙◌, ap, subst, arith, length-append, refl}
use Rattle.std.proofs.lemmas.Option.{slice_get_read}
use Rattle.fut_tokens.specs.declared.token.Token.{Token}
use Rattle.fut_tokens.specs.declared.token.Position.{Position}
use Rattle.fut_syntax.specs.Faults.{IsFault}
use Rattle.fut_tokens.specs.Lexed.{IsTokensOf}
use Rattle.fut_syntax.specs.Texts.{IsFaultPlace}
use Rattle.fut_syntax.proofs.program.parse.Goals as goal

-- the place behind which as many others stand as tokens behind the fault is the fault's
place_of_fault : (bytes : List ℕ) (tokens : List Token) (places : List Position) (left n : ℕ) (place : Position) → IsTokensOf bytes tokens places
    → IsFault tokens left → n ≡ length tokens → length places ≡ length tokens → place ≡ get_or places (n - 1 - left) place → IsFaultPlace bytes place
place_of_fault bytes tokens places left n place cut f count paired is =
    let whole = ap length f.whole ∙ length-append f.before (f.token ∷ f.behind) in
    let at : n - 1 - left ≡ length f.before = omega (arith, whole, count, f.left_is) in
    record {
      tokens = tokens;
      places = places;
      left = left;
      cut = cut;
      fault = f;
      stands = slice_get_read places (length places) (length f.before) place refl (omega (arith, whole, paired))
          (subst (λ i. place ≡ get_or places i place) at is);
    }

pub returns-in-Err-Syntax : goal.returns-in-Err-Syntax
returns-in-Err-Syntax c =
    let lexed = c.in-Ok.lexed in
    let fault : IsFault lexed.tokens.items c.in-Err-Syntax.left = rw c.in-Err-Syntax.field-0-is at c.in-Err-Syntax.ensures in
    let count : c.len.result ≡ length lexed.tokens.items = omega (arith, c.len.ensures, lexed.places.ok.0, c.in-Ok.ensures.paired) in
    place_of_fault _ lexed.tokens.items lexed.places.items c.in-Err-Syntax.left c.len.result c.index.result.now c.in-Ok.ensures.tokens fault count
    c.in-Ok.ensures.paired c.index.ensures
