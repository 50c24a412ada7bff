use Rattle.std.proofs.Common.{◌≡◌, ◌<◌, subst, ap, sym, ◌∙◌}
use Rattle.std.specs.Prelude.{◌↔◌, ◌⊎◌, Some, slice_get, slice_set}
use Rattle.std.proofs.lemmas.Option.{get_or_from_slice_get}
use Rattle.fut_base.specs.Dag.{Among}
use Rattle.run_counts.specs.Counted.{Counted}
use Rattle.run_book.specs.Jobs.{JobNow}
use Rattle.run_book.specs.Books.{BookNow, entries_of, jobs_in}
use Rattle.run_book.proofs.Sitting.{seated, sat_book, sat_lines}
use Rattle.run_book.proofs.book.Book.sit.Goals as goal

pub invariant_of-self : goal.invariant_of-self
invariant_of-self g c =
    let there = subst (λ (x : BookNow). slice_get x.lines c.args.task ≡ Some c.requires.line.0) (sym c.self.view_is) c.requires.line.1 in
    let some = subst (λ (x : BookNow). 0 < x.counts.running) (sym c.self.view_is) c.requires.running in
    let at = get_or_from_slice_get c.self.inside.lines.items c.args.task c.requires.line.0 c.index_mut.result.now there in
    let now : c.sit.new.self ≡ seated c.args.job c.requires.line.0 = c.sit.ensures ∙ ap (seated c.args.job) (c.index_mut.ensures.value ∙ at) in
    sat_book g.J.Run.clock g.J.Run.orders g.J.Run.code g.J.Run.limits _ c.args.task c.requires.line.0 c.args.job c.sit.new.self c.wait.new.self c.self.invariant there
    c.requires.line.2 c.requires.line.3 c.requires.job.0 c.requires.job.1 c.requires.job.2 some now c.wait.ensures.counts

pub returns : goal.returns
returns g c =
    let there = subst (λ (x : BookNow). slice_get x.lines c.args.task ≡ Some c.requires.line.0) (sym c.self.view_is) c.requires.line.1 in
    let at = get_or_from_slice_get c.self.inside.lines.items c.args.task c.requires.line.0 c.index_mut.result.now there in
    let now : c.sit.new.self ≡ seated c.args.job c.requires.line.0 = c.sit.ensures ∙ ap (seated c.args.job) (c.index_mut.ensures.value ∙ at) in
    let jobs = sat_lines c.self.inside.lines.items c.args.task c.requires.line.0 c.args.job c.sit.new.self there c.requires.line.2 now in (
      ap (λ (x : BookNow). entries_of x) c.self.view_is,
      subst (λ (x : BookNow). (k : JobNow) → Among k (jobs_in (slice_set c.self.inside.lines.items c.args.task c.sit.new.self)) ↔ (Among k (jobs_in x.lines) ⊎ (k ≡ c.args.job)))
          c.self.view_is jobs,
      c.wait.ensures.hand,
      ap (λ (k : Counted). k.rest.parts) c.wait.ensures.counts ∙ ap (λ (x : BookNow). x.counts.rest.parts) c.self.view_is,
    )
