use Rattle.std.proofs.Common.{◌≡◌, ℕ, ◌+◌, ◌<◌, [], ◌∷◌, inl, inr, subst, ap, sym, refl, ◌∙◌, arith}
use Rattle.std.specs.Prelude.{Option, Some, None, unwrap_or}
use Rattle.task_code.specs.Flat.{Compiled}
use Rattle.event_clock.specs.Views.{carries}
use Rattle.event_clock.specs.Seated.{Seated}
use Rattle.run_book.specs.Books.{BookNow, IsNewBook}
use Rattle.run_book.proofs.Rooting.{root_task, as_root, new_carries, root_job, root_left}
use Rattle.run_book.proofs.book.Book.root.Goals as goal

pub note-pass-requires-clause-carried : goal.note-pass-requires-clause-carried
note-pass-requires-clause-carried g c =
    let new = subst IsNewBook (sym c.self.view_is) c.requires.new in
    let tasks = new_carries g.J.Run.clock g.J.Run.orders g.J.Run.code g.J.Run.limits _ c.self.invariant new in
    subst (λ cs. 0 < carries 0 cs) (sym tasks) (omega arith)

pub invariant_of-result : goal.invariant_of-result
invariant_of-result g c =
    let new = subst IsNewBook (sym c.self.view_is) c.requires.new in
    let tasks = new_carries g.J.Run.clock g.J.Run.orders g.J.Run.code g.J.Run.limits _ c.self.invariant new in
    let pass = ap (λ (s : Seated). s.view) c.root-place.ensures.knows.0 ∙ c.note-pass.ensures.pass in
    let one : c.in-Some.pace ≡ 1 = ap (λ (o : Option ℕ). unwrap_or o 0) (sym c.in-Some.is ∙ c.take.ensures.value ∙ new.first) in
    let begins = c.in_ok-task.ensures.begins in
    let main = ap (λ (k : Compiled). k.main) c.requires.run.2 in
    root_job g.J.Run.clock g.J.Run.orders g.J.Run.code c.in_ok-task.task c.root-place.result c.in-Some.pace c.self.inside.holder.view c.is_placed.ensures pass
    (c.self.invariant.listed.known ∙ new.entries) tasks c.root-place.ensures.strand.0 begins.0 (begins.1 ∙ c.main.ensures ∙ main) begins.2 begins.3 one (c.requires.program.0, c.requires.program.2)
    (as_root g.J.Run.code c.args.code.now c.main.result c.make-none.result.items c.in_ok-task.task c.requires.run.2 c.main.ensures (ap (λ l. l.items) c.make-none.ensures) c.in_ok-task.ensures.state)

pub invariant_of-self : goal.invariant_of-self
invariant_of-self g c =
    let new = subst IsNewBook (sym c.self.view_is) c.requires.new in
    root_left g.J.Run.clock g.J.Run.orders g.J.Run.code g.J.Run.limits _ c.note-pass.new.holder c.note-reader.new.writer c.take.new.self c.self.invariant new
    c.note-pass.ensures.clock.0 c.note-pass.ensures.holder c.note-reader.ensures.same c.take.ensures.after
