use Rattle.std.proofs.Common.{◌≡◌, ◌+◌, List, [], ◌∷◌, ◌++◌, ap, sym, ◌∙◌}
use Rattle.run_counts.specs.Counted.{Counted}
use Rattle.run_book.specs.Lines.{LineNow}
use Rattle.run_book.proofs.Making.{new_book}
use Rattle.run_book.proofs.book.Book.make.Goals as goal

pub invariant_of-book : goal.invariant_of-book
invariant_of-book g c =
    let cut = c.in_ok-all.ensures.counts in
    let opened = c.open-counts.ensures.counts in
    let lines = c.in_ok-push.ensures.items ∙ ap (λ (ls : List LineNow). ls ++ c.line_of.result ∷ []) c.new-lines.ensures.items ∙ ap (λ (l : LineNow). l ∷ []) c.line_of.ensures in
    new_book g.J.Run.clock g.J.Run.orders g.J.Run.code g.J.Run.limits c.args.limits c.args.holder c.args.writer c.push.new.self.items c.make.result.items
    c.cut_hands.new.counts c.open-counts.result.1 c.requires.limits.0 c.requires.limits.1 c.requires.limits.2 c.requires.holder c.requires.writer lines (ap (λ l. l.items) c.make.ensures)
    (cut.tasks.0 ∙ ap (λ (k : Counted). k.events) opened) (cut.tasks.1 ∙ ap (λ (k : Counted). k.running) opened) (cut.tasks.2 ∙ ap (λ (k : Counted). k.waiting) opened)
    (cut.rest.0 ∙ ap (λ (k : Counted). k.rest.given) opened, cut.rest.1 ∙ ap (λ (k : Counted). k.rest.taken) opened) c.open-counts.ensures.pace
