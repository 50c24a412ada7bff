-- A fork, stage by stage: the lines got room, the job is held, a ticket is drawn.
use Rattle.std.proofs.Common.{◌≡◌, ℕ, ◌<◌, List, [], ◌∷◌, refl, sym, ap, ◌∙◌, subst}
use Rattle.atomic_table.specs.Seated.{TableId}
use Rattle.fut_base.specs.declared.record.Finish.{Finish}
use Rattle.fut_base.specs.declared.record.Finish.TheVariants as finish
use Rattle.fut_base.specs.declared.record.Limits.{Limits}
use Rattle.fut_base.specs.declared.record.Value.{Value}
use Rattle.fut_base.specs.declared.event.Event.{Event}
use Rattle.fut_base.specs.declared.event.Action.{Action}
use Rattle.task_machine.specs.State.{Answers}
use Rattle.task_code.specs.Flat.{Compiled}
use Rattle.event_clock.specs.declared.view.View.{View}
use Rattle.event_clock.specs.declared.clock.Drawn.TheVariants.{Spent}
use Rattle.event_clock.specs.declared.view.Size.{Size}
use Rattle.event_clock.specs.Rule.{IsJoin}
use Rattle.event_clock.specs.Views.{numbers_of, number_of, own_list, first_entries, after_note, IsAbove, MayAskFor}
use Rattle.event_clock.specs.Seated.{Ticking, Seated, IsDraw}
use Rattle.order_query.specs.Reading.{Writing}
use Rattle.run_counts.specs.Counted.{Handed}
use Rattle.run_book.specs.Drawn.{past_in}
use Rattle.run_book.specs.Jobs.{JobNow, IsJob, IsFree, Stands}
use Rattle.run_book.specs.Lines.{LineNow}
use Rattle.run_book.specs.Turns.{AreSameLines}
use Rattle.run_book.specs.Books.{BookNow, IsBook, entries_of}
use Rattle.run_book.specs.Steps.{IsBack, IsSpent, IsRefused}
use Rattle.run_book.proofs.Knowing.{IsKnown, job_known}
use Rattle.run_book.proofs.Rooming.{roomy_book}
use Rattle.run_book.proofs.Turning.{turned_book, turned_spent}
use Rattle.run_book.proofs.Going.{HasDrawn}
use Rattle.run_book.proofs.Forked.{IsFork, event_by, fork_asks, fork_drawn}

module _ (clock : Ticking) (orders : TableId) (code : Compiled) (limits : Limits) (b : BookNow) (lines : List LineNow)
    (is : IsBook clock orders code limits b) (same : AreSameLines b.lines lines) where
  -- the book with the lines that got room
  pub roomy : IsBook clock orders code limits (record b { lines = lines })
  roomy = roomy_book clock orders code limits b lines is same

  -- a job is handed back for want of memory
  pub refused_roomy : (hand : Handed) (job back : JobNow) → IsBack job back → IsRefused b (record b { lines = lines }) hand hand job back
  refused_roomy hand job back is_back = record { still = record { entries = refl; counts = refl; hand = refl }; back_is = is_back }

  module _ (j : JobNow) (told : Seated) (is_job : IsJob clock orders code j) (join : IsJoin b.holder.view j.place.pass.view told.view)
      (own : told.view.own ≡ b.holder.view.own) (one : numbers_of told.view.own ≡ number_of told.view ∷ []) where
    -- the job is held
    pub held_known : IsKnown code (entries_of b) j b.holder.view.tasks told.view
    held_known = job_known clock orders code limits (record b { lines = lines }) j told.view roomy is_job join own one

    module _ (a : Action) (which child kid : ℕ) (args : List Value) (fork : IsFork (past_in (entries_of b)) j.task.number a which child kid args) where
      -- a ticket is asked for
      pub stage_asks : MayAskFor told.view (event_by j a)
      stage_asks = fork_asks clock orders code limits (record b { lines = lines }) j told.view a which child kid args roomy held_known fork

      -- a ticket was drawn
      pub stage_drawn : (k : ℕ) → Stands code j.task (λ P w. Answers w a) → k < limits.events → IsAbove k told.view
          → HasDrawn code limits (record b { lines = lines }) j told.view k (event_by j a)
      stage_drawn k answers below above =
          fork_drawn clock orders code limits (record b { lines = lines }) j told.view a which child kid args roomy held_known fork k answers one below above

    -- no ticket was left, and the job was given out again
    module _ (size : Size) (e : Event) (drew h : Seated) (w : Writing) (t : ℕ) (told_clock : told.clock ≡ b.holder.clock) (drew_clock : drew.clock ≡ told.clock)
        (draw : IsDraw size e told.view (Spent t) drew.view) (clock_is : h.clock ≡ drew.clock) (view_is : h.view ≡ after_note j.task.number drew.view)
        (writer : w ≡ b.writer) where
      pub spent_book : IsBook clock orders code limits (record b { lines = lines; holder = h; writer = w })
      spent_book =
          turned_book clock orders code limits (record b { lines = lines }) j told.view h w roomy held_known own
          (turned_spent size e (record b { lines = lines }) j told drew h t told_clock drew_clock draw clock_is view_is) writer

      pub spent_fork : (hand : Handed) (job back : JobNow) (f : Finish) (bound : ℕ) → IsBack job back → f ≡ finish.Events bound
          → Stands code job.task (λ P w. IsFree (past_in (entries_of b)) job.task.number w)
          → IsSpent code bound b (record b { lines = lines; holder = h; writer = w }) hand hand job back f
      spent_fork hand job back f bound is_back finish_is free =
          record {
            finish_is = finish_is;
            still = record {
              entries = ap (λ (x : View). own_list x) view_is ∙ ap (λ (x : View). own_list x) draw.1 ∙ ap first_entries own;
              counts = refl;
              hand = refl;
            };
            back_is = is_back;
            late = ap (λ (x : View). x.late) view_is ∙ ap (λ (x : View). x.late) draw.1;
            free = free;
          }
