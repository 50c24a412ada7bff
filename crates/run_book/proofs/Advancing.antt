-- A job's task makes local steps, or gets room in its trace.
use Rattle.std.proofs.Common.{◌≡◌, ℕ, ◌+◌, ◌<◌, ◌≤◌, false, List, [], ◌∷◌, inl, inr, refl, sym, ap, ◌∙◌, subst, arith}
use Rattle.std.specs.Prelude.{Some}
use Rattle.std.proofs.lemmas.Bool.{cases_lt}
use Rattle.atomic_table.specs.Seated.{TableId}
use Rattle.fut_base.specs.declared.limits.TheConstants.{MOST_LOCAL_STEPS}
use Rattle.fut_base.specs.declared.record.Entry.{Entry}
use Rattle.fut_base.specs.declared.record.Value.{Value}
use Rattle.fut_base.specs.declared.event.Event.{Event}
use Rattle.fut_base.specs.Dag.{Among}
use Rattle.fut_base.specs.Sound.{current}
use Rattle.fut_syntax.specs.Trees as tree
use Rattle.fut_check.specs.Items.{IsWellTyped}
use Rattle.task_machine.specs.State.{TaskState, Wish, ToRead, ToWrite, ToSpawn, ToCreate, ToSync, ToGet, ToEnd, wish_of}
use Rattle.task_machine.specs.Runs.{Steps, StandsAt, IsStateAfter}
use Rattle.task_machine.proofs.Stepping.{stands_at_one, stands_or_goes_on}
use Rattle.task_types.specs.Typed.{IsTypedState, any_future}
use Rattle.task_code.specs.Flat.{Compiled, IsCodeOf, code_of}
use Rattle.task_code.specs.declared.task.Spot.{Spot}
use Rattle.task_code.specs.declared.task.Wish as declared
use Rattle.task_code.specs.declared.task.Wish.TheVariants as wish
use Rattle.task_code.specs.Tasks.{TaskNow, IsIn, IsTaskOf, IsStill, IsSomeTask, IsTold, Wishes, trace_events}
use Rattle.task_code.proofs.Tasking.{stands, stands_there, goes_on}
use Rattle.event_clock.specs.declared.view.Carried.{Carried}
use Rattle.event_clock.specs.Seated.{Ticking}
use Rattle.run_place.specs.Placed.{events_in}
use Rattle.run_book.specs.Drawn.{drawn_of, past_in}
use Rattle.run_book.specs.Jobs.{JobNow, IsJob, IsStarted, IsTraceBy, IsFree, MayWait, Stands, StartsAs, known_to}
use Rattle.run_book.specs.Steps.{IsSameTask}

-- ---- the wish

-- what a wish tells holds of the event at which the task stands
pub told_at : (P : tree.Program) (s stop : TaskState) (w : declared.Wish) → Wishes P MOST_LOCAL_STEPS s w → StandsAt s stop → IsTold w (wish_of P stop)
told_at P s stop (wish.Read cell) h at =
    subst (λ x. wish_of P x ≡ ToRead cell) (stands_at_one s h.0 stop (MOST_LOCAL_STEPS, refl, h.1) at) h.2
told_at P s stop (wish.Write cell value) h at =
    subst (λ x. wish_of P x ≡ ToWrite cell value) (stands_at_one s h.0 stop (MOST_LOCAL_STEPS, refl, h.1) at) h.2
told_at P s stop (wish.Spawn which) h at =
    (h.1, subst (λ x. wish_of P x ≡ ToSpawn which h.1) (stands_at_one s h.0 stop (MOST_LOCAL_STEPS, refl, h.2) at) h.3)
told_at P s stop (wish.Create which) h at =
    (h.1, subst (λ x. wish_of P x ≡ ToCreate which h.1) (stands_at_one s h.0 stop (MOST_LOCAL_STEPS, refl, h.2) at) h.3)
told_at P s stop wish.Sync h at = subst (λ x. wish_of P x ≡ ToSync) (stands_at_one s h.0 stop (MOST_LOCAL_STEPS, refl, h.1) at) h.2
told_at P s stop (wish.Get future) h at =
    subst (λ x. wish_of P x ≡ ToGet future) (stands_at_one s h.0 stop (MOST_LOCAL_STEPS, refl, h.1) at) h.2
told_at P s stop (wish.End value) h at =
    subst (λ x. wish_of P x ≡ ToEnd value) (stands_at_one s h.0 stop (MOST_LOCAL_STEPS, refl, h.1) at) h.2
told_at P s stop wish.Long h at = absurd (stands_or_goes_on s stop at (MOST_LOCAL_STEPS, refl, h))

-- a job's task is one of some program
pub is_some_task : (clock : Ticking) (orders : TableId) (code : Compiled) (j : JobNow) → IsJob clock orders code j → IsSomeTask code j.task
is_some_task clock orders code j is =
    let of = is.program.1 in
    let s = is.started is.program.0 of.typed of in
    (is.program.0, s.0, s.1, of, s.3)

-- ---- local steps

-- a task made local steps, up to the event at which it stands
pub record HasAdvanced (code : Compiled) (old new : TaskNow) : Type 0 where
  pub number : new.number ≡ old.number
  pub which : new.which ≡ old.which
  pub running : new.spot.ended ≡ false
  pub trace : new.trace ≡ old.trace
  pub state : (P : tree.Program) (args : List Value) (s : TaskState) → IsCodeOf P code → IsTaskOf P code args old s → IsTaskOf P code args new s
  pub still : IsStill code new

-- it stands at the wish at which it stood
pub stands_advanced : (code : Compiled) (book : List (ℕ × Event)) (old new : TaskNow) (holds : tree.Program → Wish → Type 0) → HasAdvanced code old new
    → IsStarted code book old → Stands code old holds → Stands code new holds
stands_advanced code book old new holds moved started is = λ P args s typed of x.
    let first = started P typed of in
    let here = is P first.0 first.1 typed of first.3 in
    let now = moved.state P first.0 first.1 of first.3 in
    let a = stands P code first.0 new first.1 of moved.running now moved.still in
    let b = stands P code args new s of moved.running x moved.still in
    let same : a.at ≡ here.0 = stands_there P code first.0 new first.1 here.0 a here.1 in
    let wish_is : wish_of P b.at ≡ wish_of P here.0 = b.wish ∙ sym a.wish ∙ ap (λ u. wish_of P u) same in
    let few : new.spot.steps < MOST_LOCAL_STEPS =
    elim (cases_lt new.spot.steps MOST_LOCAL_STEPS) [
      | inl lt ↦ lt
      | inr ge ↦ absurd (stands_or_goes_on first.1 here.0 here.1 (MOST_LOCAL_STEPS, refl, goes_on P code first.0 MOST_LOCAL_STEPS new first.1 moved.running now ge))
    ] in
    (b.at, (MOST_LOCAL_STEPS, refl, (new.spot.steps, few, b.steps, b.stop)), subst (λ w. holds P w) (sym wish_is) here.2)

-- ---- jobs with another task in their place

abbrev one_task : ℕ → List (ℕ × Event) → List Carried
one_task n trace = record { task = n; trace = trace } ∷ []

-- a job of which the task is as it was, but for room and local steps
pub job_moved : (clock : Ticking) (orders : TableId) (code : Compiled) (j : JobNow) (new : TaskNow) → IsJob clock orders code j → IsSameTask j.task new
    → new.spot.ended ≡ false
    → ((P : tree.Program) (args : List Value) (s : TaskState) → IsCodeOf P code → IsTaskOf P code args j.task s → IsTaskOf P code args new s)
    → (Stands code j.task (λ P w. MayWait w × IsFree (past_in (known_to j)) j.task.number w)
    → Stands code new (λ P w. MayWait w × IsFree (past_in (known_to j)) j.task.number w))
    → IsJob clock orders code (record { task = new; place = j.place; pace = j.pace })
job_moved clock orders code j new is same running state keeps =
    let drawn : drawn_of new.trace.items ≡ drawn_of j.task.trace.items = ap drawn_of same.trace in
    record {
      program = is.program;
      running = running;
      unended = λ x a. is.unended x (subst (λ l. Among x l) drawn a);
      carried = is.carried ∙ ap (λ n. one_task n (drawn_of j.task.trace.items)) (sym same.number) ∙ ap (λ l. one_task new.number l) (sym drawn);
      fits = is.fits;
      started = λ P typed of.
          let s = is.started P typed of in (
            s.0,
            s.1,
            subst (λ n. StartsAs P (events_in (known_to j)) n new.which s.0) (sym same.number)
                (subst (λ k. StartsAs P (events_in (known_to j)) j.task.number k s.0) (sym same.which) s.2),
            state P s.0 s.1 of s.3,
          );
      trace = subst (λ n. IsTraceBy (known_to j) n (drawn_of new.trace.items)) (sym same.number)
          (subst (λ l. IsTraceBy (known_to j) j.task.number l) (sym drawn) is.trace);
      place = is.place;
      strand = subst (λ n. current (past_in (known_to j)) n ≡ Some j.place.at.number) (sym same.number) is.strand;
      few = is.few;
      paced = λ zero.
          subst (λ n. Stands code new (λ P w. MayWait w × IsFree (past_in (known_to j)) n w)) (sym same.number) (keeps (is.paced zero));
    }

-- a job of which the task made local steps
pub job_advanced : (clock : Ticking) (orders : TableId) (code : Compiled) (j : JobNow) (new : TaskNow) → IsJob clock orders code j → HasAdvanced code j.task new
    → IsJob clock orders code (record { task = new; place = j.place; pace = j.pace })
job_advanced clock orders code j new is moved =
    job_moved clock orders code j new is (record { number = moved.number; which = moved.which; trace = ap (λ t. t.items) moved.trace }) moved.running moved.state
    (stands_advanced code (known_to j) j.task new (λ P w. MayWait w × IsFree (past_in (known_to j)) j.task.number w) moved is.started)

-- ---- room

-- a task got room in its trace
pub record HasRoomNow (old new : TaskNow) : Type 0 where
  pub number : new.number ≡ old.number
  pub which : new.which ≡ old.which
  pub spot : new.spot ≡ old.spot
  pub held : new.held ≡ old.held
  pub trace : new.trace.items ≡ old.trace.items

pub room_back : (old new : TaskNow) → HasRoomNow old new → HasRoomNow new old
room_back old new r = record { number = sym r.number; which = sym r.which; spot = sym r.spot; held = sym r.held; trace = sym r.trace }

-- it is in the state in which it was
pub same_state : (P : tree.Program) (code : Compiled) (args : List Value) (old new : TaskNow) (s : TaskState) → HasRoomNow old new
    → IsTaskOf P code args old s → IsTaskOf P code args new s
same_state P code args old new s r x =
    let was : new.spot.ended ≡ false → old.spot.ended ≡ false = λ e. ap (λ (p : Spot). p.ended) (sym r.spot) ∙ e in
    record {
      state = subst (λ n. IsStateAfter P n args (trace_events new.trace.items) s) (sym r.which)
          (subst (λ l. IsStateAfter P old.which args (trace_events l) s) (sym r.trace) x.state);
      typed = λ e. subst (λ n. IsTypedState any_future P n s) (sym r.which) (x.typed (was e));
      place = λ e.
          let p = x.place (was e) in (
            p.0,
            subst (λ (q : Spot). Steps q.steps s p.0) (sym r.spot) p.1,
            subst (λ n. IsIn P (code_of code.tasks n) new.spot new.held p.0) (sym r.which)
                (subst (λ q. IsIn P (code_of code.tasks old.which) q new.held p.0) (sym r.spot)
                (subst (λ f. IsIn P (code_of code.tasks old.which) old.spot f p.0) (sym r.held) p.2)),
          );
    }

pub stands_same : (code : Compiled) (old new : TaskNow) (holds : tree.Program → Wish → Type 0) → HasRoomNow old new → Stands code old holds → Stands code new holds
stands_same code old new holds r is = λ P args s typed of x. is P args s typed of (same_state P code args new old s (room_back old new r) x)

-- a job of which the task got room in its trace
pub job_reserved : (clock : Ticking) (orders : TableId) (code : Compiled) (j : JobNow) (new : TaskNow) → IsJob clock orders code j → HasRoomNow j.task new
    → IsJob clock orders code (record { task = new; place = j.place; pace = j.pace })
job_reserved clock orders code j new is r =
    job_moved clock orders code j new is (record { number = r.number; which = r.which; trace = r.trace }) (ap (λ (p : Spot). p.ended) r.spot ∙ is.running)
    (λ P args s of x. same_state P code args j.task new s r x)
    (stands_same code j.task new (λ P w. MayWait w × IsFree (past_in (known_to j)) j.task.number w) r)
