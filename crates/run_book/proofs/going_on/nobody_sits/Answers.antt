use Rattle.std.proofs.Common.{◌≡◌, ap, sym, ◌∙◌}
use Rattle.std.specs.Prelude.{Some, None}
use Rattle.std.proofs.lemmas.Option.{get_or_from_slice_get}
use Rattle.run_book.specs.Lines.{LineNow}
use Rattle.run_book.proofs.Sitting.{no_second}
use Rattle.run_book.proofs.going_on.nobody_sits.Goals as goal

pub unreachable-requires : goal.unreachable-requires
unreachable-requires g c =
    let l = c.requires.line.0 in
    let at = get_or_from_slice_get c.args.lines.now c.args.task l c.index-lines-task.result c.requires.line.1 in
    let waits : l.waiter ≡ Some c.in-Some.other = ap (λ (x : LineNow). x.waiter) (sym at) ∙ sym c.in-Some.ensures.0 in
    no_second c.args.holder.now.view c.in-Some.other.place.pass.view c.hold.new.holder.view c.args.task c.in-Some.other.task.number _ c.hold.ensures.told
    c.hold.ensures.was.carried (c.requires.line.2 c.in-Some.other waits) c.requires.carried

pub returns-clause-nobody : goal.returns-clause-nobody
returns-clause-nobody g c = λ l e.
    let at = get_or_from_slice_get c.args.lines.now c.args.task l c.index-lines-task.result e in
    ap (λ (x : LineNow). x.waiter) (sym at) ∙ sym c.in-None.ensures.0
