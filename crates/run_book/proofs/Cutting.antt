-- Hands are made.
use Rattle.std.proofs.Common.{◌≡◌, ℕ, ◌+◌, List, [], ◌∷◌, ◌++◌, length, ◌∙◌, arith}
use Rattle.std.proofs.lemmas.List.{length-append}
use Rattle.run_counts.specs.Counted.{Handed, Counted, HasCut}
use Rattle.run_book.specs.Books.{AllNew, HasCutMany}

-- a list of new hands, and one more
pub one_more : (hs : List Handed) (h : Handed) → AllNew hs → h ≡ record { given = 0; taken = 0 } → AllNew (hs ++ h ∷ [])
one_more [] h all new = (new, tt)
one_more (x ∷ hs) h all new = (all.0, one_more hs h all.1 new)

pub cut_more : (old middle new : Counted) (n : ℕ) → HasCutMany old n middle → HasCut middle new → HasCutMany old (n + 1) new
cut_more old middle new n many one =
    let before = many.parts in
    let after = one.parts in
    record {
      parts = omega (arith, before, after);
      rest = (one.rest.0 ∙ many.rest.0, one.rest.1 ∙ many.rest.1);
      tasks = (one.tasks.0 ∙ many.tasks.0, one.tasks.1 ∙ many.tasks.1, one.tasks.2 ∙ many.tasks.2);
    }

pub one_longer : (hs : List Handed) (h : Handed) (n : ℕ) → length hs ≡ n → length (hs ++ h ∷ []) ≡ n + 1
one_longer hs h n size = let more = length-append hs (h ∷ []) in omega (arith, more, size)
