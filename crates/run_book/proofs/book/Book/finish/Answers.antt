use Rattle.run_book.proofs.Leaving.{lines_open}
use Rattle.run_book.proofs.book.Book.finish.Goals as goal

pub invariant_of-result : goal.invariant_of-result
invariant_of-result g c = lines_open g.J.Run.code _ _ c.self.invariant.listed.lines
