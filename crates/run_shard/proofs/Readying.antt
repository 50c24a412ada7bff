-- A task that comes to the event at which it stands.
use Rattle.std.proofs.Common.{◌≡◌, ℕ, ◌<◌, ◌≤◌, false, List, inl, inr, subst, ap, sym, refl, ◌∙◌, arith}
use Rattle.atomic_table.specs.Seated.{TableId}
use Rattle.fut_base.specs.declared.record.Value.{Value}
use Rattle.fut_base.specs.declared.event.Event.{Event}
use Rattle.fut_base.specs.declared.event.Action.{Action}
use Rattle.fut_base.specs.declared.event.Action.TheVariants.{Reads, Writes}
use Rattle.fut_syntax.specs.Trees as tree
use Rattle.task_machine.specs.State.{TaskState, Wish, ToRead, ToWrite, wish_of, Answers}
use Rattle.task_machine.specs.Runs.{IsMost}
use Rattle.task_machine.proofs.Stepping.{stands_or_goes_on}
use Rattle.task_code.specs.Flat.{Compiled, IsCodeOf}
use Rattle.task_code.specs.declared.task.Wish as declared
use Rattle.task_code.specs.declared.task.Wish.TheVariants as wish
use Rattle.task_code.specs.Tasks.{TaskNow, IsTaskOf, IsStill, StopsAt, Wishes}
use Rattle.event_clock.specs.Seated.{Ticking}
use Rattle.run_place.specs.Placed.{Placed}
use Rattle.run_book.specs.Jobs.{JobNow, IsJob, IsStarted, Stands, known_to}
use Rattle.run_book.specs.Steps.{IsSameTask}
use Rattle.run_book.proofs.Advancing.{HasAdvanced, HasRoomNow, stands_advanced, stands_same, job_advanced, job_reserved}
use Rattle.run_book.proofs.Fetching.{still_room}
use Rattle.run_book.proofs.Wishing.{HasAsked}
use Rattle.run_shard.specs.Turns.{AreOfJob}

module _ (clock : Ticking) (orders : TableId) (code : Compiled) (old moved new : TaskNow) (place : Placed) (limit : ℕ) (w : declared.Wish) (a : Action)
    (is : AreOfJob clock orders code old place) (stands : Stands code old (λ P w. Answers w a)) (asked : HasAsked code old moved limit w)
    (room : HasRoomNow moved new) where
  -- it is out of steps nowhere
  still_by : (x : declared.Wish) → StopsAt code moved x
      → ((P : tree.Program) (args : List Value) (s : TaskState) → IsCodeOf P code → IsTaskOf P code args old s → Wishes P limit s x) → IsStill code moved
  still_by (wish.Read _) stops tells = stops
  still_by (wish.Write _ _) stops tells = stops
  still_by (wish.Spawn _) stops tells = stops
  still_by (wish.Create _) stops tells = stops
  still_by wish.Sync stops tells = stops
  still_by (wish.Get _) stops tells = stops
  still_by (wish.End _) stops tells = stops
  still_by wish.Long stops tells =
      let P = is.program.0 in
      let of = is.program.1 in
      let s = is.started P of.typed of in
      let at = stands P s.0 s.1 of.typed of s.3 in
      absurd (stands_or_goes_on s.1 at.0 at.1 (limit, asked.most, tells P s.0 s.1 of s.3))

  advanced : HasAdvanced code old moved
  advanced =
      record { number = asked.number; which = asked.which; running = asked.running; trace = asked.trace; state = asked.state; still = still_by w asked.stops asked.wish }

  pub ready_still : IsStill code new
  ready_still = still_room code moved new room advanced.still

  pub ready_job : AreOfJob clock orders code new place
  ready_job =
      job_reserved clock orders code (record { task = moved; place = place; pace = 1 }) new
      (job_advanced clock orders code (record { task = old; place = place; pace = 1 }) moved is advanced) room

  pub ready_same : IsSameTask old new
  ready_same = record {
    number = room.number ∙ asked.number;
    which = room.which ∙ asked.which;
    trace = room.trace ∙ ap (λ t. t.items) asked.trace;
  }

  pub ready_stands : Stands code new (λ P w. Answers w a)
  ready_stands =
      stands_same code moved new (λ P w. Answers w a) room
      (stands_advanced code (known_to (record { task = old; place = place; pace = 1 })) old moved (λ P w. Answers w a) advanced is.started stands)
