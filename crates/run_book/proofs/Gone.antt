-- What a sync and a get answer.
use Rattle.std.proofs.Common.{◌≡◌, ℕ, ◌+◌, ◌<◌, List, [], ◌∷◌, ◌++◌, ◌⊎◌, inl, inr, refl, sym, ap, ◌∙◌, subst}
use Rattle.fut_base.specs.declared.record.Entry.{Entry}
use Rattle.fut_base.specs.declared.record.Finish.{Finish}
use Rattle.fut_base.specs.declared.record.Finish.TheVariants as finish
use Rattle.fut_base.specs.declared.record.Limits.{Limits}
use Rattle.fut_base.specs.declared.event.Event.{Event}
use Rattle.fut_base.specs.Dag.{Among}
use Rattle.fut_base.proofs.Members.{among_right}
use Rattle.task_machine.specs.State.{Answers}
use Rattle.task_code.specs.Flat.{Compiled}
use Rattle.event_clock.specs.declared.view.View.{View}
use Rattle.event_clock.specs.declared.view.Carried.{Carried}
use Rattle.event_clock.specs.Views.{own_list, first_entries}
use Rattle.event_clock.specs.Seated.{Seated}
use Rattle.order_query.specs.Reading.{Writing}
use Rattle.run_counts.specs.Counted.{Counted, Handed}
use Rattle.run_counts.specs.Moves.{turned, gone_on}
use Rattle.run_place.specs.Placed.{Placed}
use Rattle.run_book.specs.Drawn.{drawn_of, past_in}
use Rattle.run_book.specs.Jobs.{JobNow, Stands, IsFree}
use Rattle.run_book.specs.Books.{BookNow, entries_of}
use Rattle.run_book.specs.Steps.{IsSameTask, IsBack, HasGone, IsRefused, IsSpent}
use Rattle.run_book.proofs.Carrying.{carried_task}
use Rattle.run_book.proofs.Going.{HasDrawn}

-- the job that was held is the job of the call, but for room and local steps of its task
pub record IsOfCall (job j : JobNow) : Type 0 where
  pub task : IsSameTask job.task j.task
  pub place : j.place ≡ job.place
  pub pace : j.pace ≡ job.pace

-- a ticket that was drawn is later than those of the job of the call
pub later_of_call : (code : Compiled) (limits : Limits) (old : BookNow) (job j : JobNow) (v : View) (k : ℕ) (e : Event) → HasDrawn code limits old j v k e
    → IsOfCall job j → (x : ℕ × Event) → Among x (entries_of old) ⊎ Among x (drawn_of job.task.trace.items) → x.0 < k
later_of_call code limits old job j v k e d same x a =
    let mine : Carried = carried_task j.task.number (drawn_of j.task.trace.items) in
    let there : Among mine v.tasks = subst (λ cs. Among mine cs) (sym d.known.tasks_are) (among_right mine old.holder.view.tasks (mine ∷ []) (inl refl)) in
    elim a [
      | inl known ↦ d.above.known 0 x (subst (Among x) (sym d.known.known) known)
      | inr own ↦ d.above.traces mine x there (subst (λ (l : List (ℕ × Entry)). Among x (drawn_of l)) (sym same.task.trace) own)
    ]

-- the job of the call goes on
pub has_gone : (code : Compiled) (limits : Limits) (old new : BookNow) (hand after : Handed) (job j next : JobNow) (jobs : List JobNow) (v : View) (k : ℕ)
    (e : Event)
    → HasDrawn code limits old j v k e → IsOfCall job j → Stands code job.task (λ P w. Answers w e.action) → entries_of new ≡ entries_of old ++ (k, e) ∷ []
    → jobs ≡ next ∷ [] → next.task.number ≡ j.task.number → next.task.which ≡ j.task.which
    → drawn_of next.task.trace.items ≡ drawn_of j.task.trace.items ++ (k, e) ∷ [] → next.pace ≡ 1 → new.counts ≡ gone_on old.counts → after ≡ turned 1 hand
    → HasGone code limits.events old new hand after job jobs
has_gone code limits old new hand after job j next jobs v k e d same stands entries one number which trace pace counts turn =
    record {
      event = e;
      made = record {
        ticket = k;
        below = d.below;
        later = later_of_call code limits old job j v k e d same;
        kept = entries;
        own = (d.own.0 ∙ same.task.number, d.own.1 ∙ ap (λ (p : Placed). p.at.number) same.place);
        follows = d.follows;
        answers = stands;
        parts = ap (λ (c : Counted). c.rest.parts) counts;
      };
      next = next;
      one = one;
      fed = record {
        number = number ∙ same.task.number;
        which = which ∙ same.task.which;
        trace = trace ∙ ap (λ (l : List (ℕ × Entry)). drawn_of l ++ (k, e) ∷ []) same.task.trace;
      };
      pace = pace;
      hand = turn;
    }
