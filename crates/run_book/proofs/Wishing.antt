-- What a job's task wishes.
use Rattle.std.proofs.Common.{◌≡◌, ℕ, List, ap, sym, subst}
use Rattle.std.specs.Prelude.{false}
use Rattle.atomic_table.specs.Seated.{TableId}
use Rattle.fut_base.specs.declared.record.Value.{Value}
use Rattle.fut_base.specs.declared.event.Event.{Event}
use Rattle.fut_syntax.specs.Trees as tree
use Rattle.fut_check.specs.Items.{IsWellTyped}
use Rattle.task_machine.specs.State.{TaskState, Wish, ToRead, ToWrite, ToSpawn, ToCreate, ToSync, ToGet, ToEnd}
use Rattle.task_machine.specs.Runs.{IsMost}
use Rattle.task_machine.proofs.Stepping.{stands_or_goes_on}
use Rattle.task_code.specs.Flat.{Compiled, IsCodeOf}
use Rattle.task_code.specs.declared.task.Wish as declared
use Rattle.task_code.specs.declared.task.Wish.TheVariants as wish
use Rattle.task_code.specs.Tasks.{TaskNow, IsTaskOf, IsStill, StopsAt, Wishes}
use Rattle.event_clock.specs.Seated.{Ticking}
use Rattle.run_place.specs.Placed.{events_in}
use Rattle.run_book.specs.Jobs.{JobNow, IsJob, IsStarted, StartsAs, Stands, MayWait, IsFree, known_to}
use Rattle.run_book.specs.Drawn.{past_in}
use Rattle.run_book.specs.Steps.{AsksFor}
use Rattle.run_book.proofs.Advancing.{HasAdvanced, stands_advanced, job_advanced, job_moved}

-- what the end of the local steps tells
pub record HasAsked (code : Compiled) (old new : TaskNow) (limit : ℕ) (w : declared.Wish) : Type 0 where
  pub most : IsMost limit
  pub number : new.number ≡ old.number
  pub which : new.which ≡ old.which
  pub running : new.spot.ended ≡ false
  pub trace : new.trace ≡ old.trace
  pub state : (P : tree.Program) (args : List Value) (s : TaskState) → IsCodeOf P code → IsTaskOf P code args old s → IsTaskOf P code args new s
  pub stops : StopsAt code new w
  pub wish : (P : tree.Program) (args : List Value) (s : TaskState) → IsCodeOf P code → IsTaskOf P code args old s → Wishes P limit s w

moved : (code : Compiled) (old new : TaskNow) (limit : ℕ) (w : declared.Wish) → HasAsked code old new limit w → IsStill code new → HasAdvanced code old new
moved code old new limit w h still =
    record { number = h.number; which = h.which; running = h.running; trace = h.trace; state = h.state; still = still }

-- where it came to an event, it stands there
module _ (code : Compiled) (old : TaskNow) (j : JobNow) (limit : ℕ) where
  pub asks_for : (w : declared.Wish) → HasAsked code old j.task limit w → IsStarted code (known_to j) old → AsksFor code j w
  asks_for (wish.Read cell) h started =
      stands_advanced code (known_to j) old j.task (λ P x. x ≡ ToRead cell) (moved code old j.task limit (wish.Read cell) h h.stops) started
      (λ P args s typed of x. let k = h.wish P args s of x in (k.0, (limit, h.most, k.1), k.2))
  asks_for (wish.Write cell value) h started =
      stands_advanced code (known_to j) old j.task (λ P x. x ≡ ToWrite cell value) (moved code old j.task limit (wish.Write cell value) h h.stops) started
      (λ P args s typed of x. let k = h.wish P args s of x in (k.0, (limit, h.most, k.1), k.2))
  asks_for (wish.Spawn which) h started =
      stands_advanced code (known_to j) old j.task (λ P x. (n : ℕ) × (args : List Value) × (x ≡ ToSpawn n args)) (moved code old j.task limit (wish.Spawn which) h h.stops) started
      (λ P args s typed of x. let k = h.wish P args s of x in (k.0, (limit, h.most, k.2), (which, k.1, k.3)))
  asks_for (wish.Create which) h started =
      stands_advanced code (known_to j) old j.task (λ P x. (n : ℕ) × (args : List Value) × (x ≡ ToCreate n args)) (moved code old j.task limit (wish.Create which) h h.stops) started
      (λ P args s typed of x. let k = h.wish P args s of x in (k.0, (limit, h.most, k.2), (which, k.1, k.3)))
  asks_for wish.Sync h started =
      stands_advanced code (known_to j) old j.task (λ P x. x ≡ ToSync) (moved code old j.task limit wish.Sync h h.stops) started
      (λ P args s typed of x. let k = h.wish P args s of x in (k.0, (limit, h.most, k.1), k.2))
  asks_for (wish.Get future) h started =
      stands_advanced code (known_to j) old j.task (λ P x. (n : ℕ) × (x ≡ ToGet n)) (moved code old j.task limit (wish.Get future) h h.stops) started
      (λ P args s typed of x. let k = h.wish P args s of x in (k.0, (limit, h.most, k.1), (future, k.2)))
  asks_for (wish.End value) h started =
      stands_advanced code (known_to j) old j.task (λ P x. (v : Value) × (x ≡ ToEnd v)) (moved code old j.task limit (wish.End value) h h.stops) started
      (λ P args s typed of x. let k = h.wish P args s of x in (k.0, (limit, h.most, k.1), (value, k.2)))
  asks_for wish.Long h started = λ P typed of.
      let first = started P typed of in (
        first.0,
        first.1,
        subst (λ n. StartsAs P (events_in (known_to j)) n j.task.which first.0) (sym h.number)
            (subst (λ k. StartsAs P (events_in (known_to j)) old.number k first.0) (sym h.which) first.2),
        h.state P first.0 first.1 of first.3,
        (limit, h.most, h.wish P first.0 first.1 of first.3),
      )

-- where it is out of steps it stands at no event
stands_nowhere : (code : Compiled) (book : List (ℕ × Event)) (old new : TaskNow) (limit : ℕ) (holds : tree.Program → Wish → Type 0) → HasAsked code old new limit wish.Long
    → IsStarted code book old → Stands code old holds → Stands code new holds
stands_nowhere code book old new limit holds h started is = λ P args s typed of x.
    let first = started P typed of in
    let here = is P first.0 first.1 typed of first.3 in
    absurd (stands_or_goes_on first.1 here.0 here.1 (limit, h.most, h.wish P first.0 first.1 of first.3))

-- it is a job still
module _ (clock : Ticking) (orders : TableId) (code : Compiled) (j : JobNow) (new : TaskNow) (limit : ℕ) (is : IsJob clock orders code j) where
  abbrev after : JobNow
  after = record { task = new; place = j.place; pace = j.pace }

  still_job : (w : declared.Wish) → HasAsked code j.task new limit w → IsStill code new → IsJob clock orders code after
  still_job w h still = job_advanced clock orders code j new is (moved code j.task new limit w h still)

  pub job_asked : (w : declared.Wish) → HasAsked code j.task new limit w → IsJob clock orders code after
  job_asked (wish.Read cell) h = still_job (wish.Read cell) h h.stops
  job_asked (wish.Write cell value) h = still_job (wish.Write cell value) h h.stops
  job_asked (wish.Spawn which) h = still_job (wish.Spawn which) h h.stops
  job_asked (wish.Create which) h = still_job (wish.Create which) h h.stops
  job_asked wish.Sync h = still_job wish.Sync h h.stops
  job_asked (wish.Get future) h = still_job (wish.Get future) h h.stops
  job_asked (wish.End value) h = still_job (wish.End value) h h.stops
  job_asked wish.Long h =
      job_moved clock orders code j new is (record { number = h.number; which = h.which; trace = ap (λ t. t.items) h.trace }) h.running h.state
      (stands_nowhere code (known_to j) j.task new limit (λ P w. MayWait w × IsFree (past_in (known_to j)) j.task.number w) h is.started)
