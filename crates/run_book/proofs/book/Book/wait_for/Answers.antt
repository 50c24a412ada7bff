use Rattle.std.proofs.Common.{◌≡◌, ℕ, ◌<◌, List, length, refl, sym, ap, ◌∙◌, subst}
use Rattle.std.specs.Prelude.{◌↔◌, ◌⊎◌, Some, None, slice_get, slice_set}
use Rattle.std.proofs.lemmas.Option.{same_Some, slice_get_read, slice_get_within}
use Rattle.fut_base.specs.Dag.{Among}
use Rattle.run_counts.specs.Counted.{Counted}
use Rattle.run_book.specs.Jobs.{JobNow}
use Rattle.run_book.specs.Lines.{LineNow}
use Rattle.run_book.specs.Books.{BookNow, IsBook, entries_of, jobs_in}
use Rattle.run_book.proofs.Queueing.{queued_book, queued_all, set_same}
use Rattle.run_book.proofs.book.Book.wait_for.Goals as goal

pub invariant_of-self : goal.invariant_of-self
invariant_of-self g c =
    let lines = c.self.inside.lines.items in
    let l = c.index_mut.result.now in
    let P : BookNow → Type 0 = λ b. (x : LineNow) × (slice_get b.lines c.args.future ≡ Some x) × (x.value ≡ None) × (x.parent ≡ None) in
    let line = subst P (sym c.self.view_is) c.requires.line in
    let low = slice_get_within lines c.args.future line.0 line.1 in
    let there : slice_get lines c.args.future ≡ Some l = slice_get_read lines (length lines) c.args.future l refl low c.index_mut.ensures.value in
    let same : line.0 ≡ l = same_Some line.0 l (sym line.1 ∙ there) in
    let some = subst (λ (b : BookNow). 0 < b.counts.running) (sym c.self.view_is) c.requires.running in
    queued_book g.J.Run.clock g.J.Run.orders g.J.Run.code g.J.Run.limits _ c.args.future l c.wait.new.self c.args.job c.wait-in-Ok.new.self c.self.invariant
    there
    (subst (λ (x : LineNow). x.value ≡ None) same line.2) (subst (λ (x : LineNow). x.parent ≡ None) same line.3) c.requires.job.0 c.requires.job.1 some
    c.in-Ok.ensures.kept c.wait-in-Ok.ensures.counts

pub invariant_of-self-in-Err : goal.invariant_of-self-in-Err
invariant_of-self-in-Err g c =
    let lines = c.self.inside.lines.items in
    let l = c.index_mut.result.now in
    let P : BookNow → Type 0 = λ b. (x : LineNow) × (slice_get b.lines c.args.future ≡ Some x) × (x.value ≡ None) × (x.parent ≡ None) in
    let line = subst P (sym c.self.view_is) c.requires.line in
    let low = slice_get_within lines c.args.future line.0 line.1 in
    let there : slice_get lines c.args.future ≡ Some l = slice_get_read lines (length lines) c.args.future l refl low c.index_mut.ensures.value in
    let b : BookNow = record {
      limits = c.self.inside.limits;
      holder = c.self.inside.holder;
      writer = c.self.inside.writer;
      lines = lines;
      traces = c.self.inside.traces.items;
      creates = c.self.inside.creates;
      counts = c.self.inside.counts;
      first = c.self.inside.first;
    } in
    let set : slice_set lines c.args.future c.wait.new.self ≡ lines =
    ap (λ (x : LineNow). slice_set lines c.args.future x) c.in-Err.ensures.back.1 ∙ set_same c.args.future lines l there in
    subst (λ (ls : List LineNow). IsBook g.J.Run.clock g.J.Run.orders g.J.Run.code g.J.Run.limits (record b { lines = ls })) (sym set) c.self.invariant

pub returns-in-Ok : goal.returns-in-Ok
returns-in-Ok g c =
    let lines = c.self.inside.lines.items in
    let l = c.index_mut.result.now in
    let P : BookNow → Type 0 = λ b. (x : LineNow) × (slice_get b.lines c.args.future ≡ Some x) × (x.value ≡ None) × (x.parent ≡ None) in
    let line = subst P (sym c.self.view_is) c.requires.line in
    let low = slice_get_within lines c.args.future line.0 line.1 in
    let there : slice_get lines c.args.future ≡ Some l = slice_get_read lines (length lines) c.args.future l refl low c.index_mut.ensures.value in
    let new : List LineNow = slice_set lines c.args.future c.wait.new.self in
    let all = queued_all lines c.args.future l c.wait.new.self c.args.job there c.in-Ok.ensures.kept in
    let same = c.self.view_is in (
      ap (λ (b : BookNow). entries_of b) same,
      subst (λ (b : BookNow). (k : JobNow) → Among k (jobs_in new) ↔ (Among k (jobs_in b.lines) ⊎ (k ≡ c.args.job))) same all,
      c.wait-in-Ok.ensures.hand,
      ap (λ (n : Counted). n.rest.parts) c.wait-in-Ok.ensures.counts ∙ ap (λ (b : BookNow). b.counts.rest.parts) same,
    )
