use Rattle.std.proofs.Common.{◌≡◌, ap, sym, subst, refl}
use Rattle.event_clock.specs.declared.view.View.{View}
use Rattle.event_clock.specs.Rule.{IsJoin}
use Rattle.event_clock.specs.Seated.{Seated}
use Rattle.order_query.specs.Reading.{Reading}
use Rattle.run_place.specs.Placed.{book_of}
use Rattle.run_place.proofs.Learning.{book_is, learned}
use Rattle.run_shard.proofs.access.tell.Goals as goal

pub returns-clause-alike : goal.returns-clause-alike
returns-clause-alike g c =
    let v = c.args.holder.now.view in
    let w = c.split-pass.result.0.view in
    let b = c.tell.new.holder.view in
    let told : IsJoin v w b = c.tell.ensures.told in
    learned (book_of v) (book_of w) (book_of b) c.args.reader.now.log c.split-pass.result.1.log c.join.new.reader.log c.requires.alike c.split-pass.ensures.alike
    (told.first 0) (told.second 0) (book_is v w b told) c.join.ensures.knew c.join.ensures.other_knew c.join.ensures.either
