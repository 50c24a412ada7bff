-- Why a job that is left makes no further event. Lists of events called `past` have the newest event first.
use Rattle.std.specs.Prelude.{◌≡◌, ℕ, ◌<◌, List, [], ◌⊎◌}
use Rattle.atomic_table.specs.Seated.{TableId}
use Rattle.fut_base.specs.declared.record.Finish.{Finish}
use Rattle.fut_base.specs.declared.record.Finish.TheVariants as finish
use Rattle.fut_base.specs.declared.record.Limits.{Limits}
use Rattle.fut_base.specs.declared.record.Value.{Value}
use Rattle.fut_base.specs.Dag.{Among}
use Rattle.task_machine.specs.State.{ToCreate}
use Rattle.task_code.specs.Flat.{Compiled}
use Rattle.event_clock.specs.Seated.{Ticking, Seated}
use Rattle.run_book.specs.Drawn.{past_in}
use Rattle.run_book.specs.Jobs.{JobNow, IsJob, IsFree, Stands, known_to}
use Rattle.run_book.specs.Books.{BookNow, entries_of}
use Rattle.run_book.specs.Steps.{IsBack, WishesCreate, RunsOut}

-- the cause by which a job's task makes no further event, by the entries of the book; `holders` are those of the clock
abbrev pub IsCause : Compiled → Limits → BookNow → List Seated → JobNow → Finish → Type 0
IsCause code limits b holders j finish.Whole = ⊥
IsCause code limits b holders j (finish.Events bound) =
    (bound ≡ limits.events) × ((h : Seated) × Among h holders × (h.view.late ≡ 1))
    × Stands code j.task (λ P w. IsFree (past_in (entries_of b)) j.task.number w
    × ((which : ℕ) (args : List Value) → w ≡ ToCreate which args → b.creates < limits.futures))
IsCause code limits b holders j (finish.Futures t) = (t ≡ j.task.number) × (b.creates ≡ limits.futures) × WishesCreate code j
IsCause code limits b holders j (finish.Local t) = (t ≡ j.task.number) × RunsOut code (known_to j) j.task

-- a job was handed back for this cause
pub record IsHalted (clock : Ticking) (orders : TableId) (code : Compiled) (limits : Limits) (b : BookNow) (holders : List Seated)
    (back : JobNow) (f : Finish) : Type 0
  where
    pub job : JobNow
    pub is : IsJob clock orders code job
    pub back_is : IsBack job back
    pub cause : IsCause code limits b holders job f

-- the turns of a run's jobs ceased: none of them was left, or one was handed back for this cause
abbrev pub HaveCeased : Ticking → TableId → Compiled → Limits → BookNow → List Seated → List JobNow → Finish → Type 0
HaveCeased clock orders code limits b holders left f =
    ((f ≡ finish.Whole) × (left ≡ [])) ⊎ ((back : JobNow) × Among back left × IsHalted clock orders code limits b holders back f)
