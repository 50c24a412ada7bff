use Rattle.std.proofs.Common.{◌≡◌, ◌∙◌, ap, refl, subst, length, arith}
use Rattle.std.specs.Prelude.{slice_get, Some}
use Rattle.std.proofs.lemmas.Option.{slice_get_read}
use Rattle.run_replay.specs.Ready.{links_of}
use Rattle.run_replay.proofs.Rings.{none_first, some_first}
use Rattle.run_replay.proofs.ready.Ring.first.Goals as goal

pub returns-then-next-eq0 : goal.returns-then-next-eq0
returns-then-next-eq0 c = λ tasks order ring.
    let next = c.in-Some.next.now in
    let there = slice_get_read c.deref.result.now (length c.deref.result.now) 0 next refl c.in-Some.ensures.lookup.3.0 (c.in-Some.ensures.lookup.3.1 next) in
    let read = subst (λ xs. slice_get xs 0 ≡ Some next) c.deref.ensures.value there in
    none_first (links_of c.args.self.now) order ring.leads (read ∙ ap Some c.if-next-eq0.true)

pub returns : goal.returns
returns c = λ tasks order ring.
    let next = c.in-Some.next.now in
    let there = slice_get_read c.deref.result.now (length c.deref.result.now) 0 next refl c.in-Some.ensures.lookup.3.0 (c.in-Some.ensures.lookup.3.1 next) in
    let read = subst (λ xs. slice_get xs 0 ≡ Some next) c.deref.ensures.value there in
    let some = c.if-next-eq0.false in
    some_first (links_of c.args.self.now) order next ring.leads read (omega (arith, some))
