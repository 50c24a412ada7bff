use Rattle.merge_laws.proofs.Allowing.{book_allows}
use Rattle.merge_laws.proofs.laws.book_allows.Goals as goal

pub returns : goal.returns
returns c = book_allows
