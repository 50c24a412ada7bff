use Rattle.std.proofs.Common.{◌≡◌, ap, refl, ◌∙◌}
use Rattle.order_query.specs.Reading.{Reading}
use Rattle.run_place.specs.Placed.{AreAlike, book_of}
use Rattle.run_book.proofs.Releasing.{alike_of, place_noted}
use Rattle.run_book.proofs.book.begin.Goals as goal

pub make-requires : goal.make-requires
make-requires g c =
    let view = c.args.holder.now.view in
    let alike : AreAlike (book_of view) c.note-reader.result.log =
    alike_of (book_of view) c.note-reader.result.log c.args.writer.now.lists.english.order c.args.writer.now.lists.hebrew.order c.requires.orders.0 c.requires.orders.1
    c.note-reader.ensures.english c.note-reader.ensures.hebrew c.note-reader.ensures.count in
    place_noted g.J.Run.clock g.J.Run.orders c.args.at c.args.reach c.note-pass.result c.note-reader.result view c.number.result c.note-reader.result.log
    (c.note-pass.ensures.clock.1 ∙ c.requires.home.0) c.note-pass.ensures.pass (ap (λ (r : Reading). r.home) c.note-reader.ensures.reader ∙ c.requires.run.1) alike
    refl c.requires.strand.0 c.requires.strand.1
