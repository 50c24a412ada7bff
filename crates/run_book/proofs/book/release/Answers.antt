use Rattle.std.proofs.Common.{◌∙◌}
use Rattle.run_place.specs.Placed.{AreAlike, book_of}
use Rattle.run_book.proofs.Releasing.{alike_of, place_given}
use Rattle.run_book.proofs.book.release.Goals as goal

pub make-requires : goal.make-requires
make-requires g c =
    let view = c.args.holder.now.view in
    let alike : AreAlike (book_of view) c.note.result.log =
    alike_of (book_of view) c.note.result.log c.args.writer.now.lists.english.order c.args.writer.now.lists.hebrew.order c.requires.orders.0 c.requires.orders.1
    c.note.ensures.english c.note.ensures.hebrew c.note.ensures.count in
    place_given g.J.Run.clock g.J.Run.orders c.args.held.at c.args.held.reach c.note-pass.result c.join.new.reader view c.number.result c.requires.knew.0
    c.args.held.reader.log c.note.result.log (c.note-pass.ensures.clock.1 ∙ c.requires.home.0) c.note-pass.ensures.pass (c.join.ensures.home ∙ c.requires.home.2)
    alike c.requires.knew.1 c.requires.knew.2 c.requires.strand.0 c.requires.strand.1 c.join.ensures.knew c.join.ensures.other_knew c.join.ensures.either
