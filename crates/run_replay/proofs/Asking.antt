-- A task is asked for its wish.
use Rattle.std.proofs.Common.{◌≡◌, ℕ, Bool, false, List, refl, sym, ◌∙◌, subst}
use Rattle.std.specs.Prelude.{Some, None, is_some, slice_get}
use Rattle.std.proofs.lemmas.Option.{same_Some}
use Rattle.fut_base.specs.declared.limits.TheConstants.{MOST_LOCAL_STEPS}
use Rattle.fut_base.specs.declared.record.Value.{Value}
use Rattle.fut_base.specs.declared.event.Event.{Event}
use Rattle.fut_syntax.specs.Trees as tree
use Rattle.task_machine.specs.State.{TaskState}
use Rattle.task_machine.specs.Machine.{Machine, Running}
use Rattle.fut_base.specs.declared.event.Action.{Action}
use Rattle.fut_base.specs.declared.event.Action.TheVariants.{Reads, Writes, Spawns, Creates, Syncs, Gets, Ends}
use Rattle.fut_base.specs.declared.record.Entry.{Entry}
use Rattle.fut_base.specs.Listed.{Listed}
use Rattle.fut_base.specs.Sound.{value_by}
use Rattle.task_machine.specs.Runs.{IsStateAfter}
use Rattle.task_code.specs.declared.task.Spot.{Spot}
use Rattle.task_code.specs.declared.task.Wish.TheVariants as wish
use Rattle.task_frame.specs.Frames.{Held}
use Rattle.task_code.specs.Flat.{Compiled, code_of}
use Rattle.task_code.specs.Tasks.{TaskNow, IsTaskOf, IsSomeTask, IsStill, StopsAt, Wishes, ended_after, moves, trace_events}
use Rattle.task_code.specs.declared.task.Wish as asked
use Rattle.run_replay.specs.declared.line.TaskLine.{TaskLine}
use Rattle.run_replay.specs.Replays.{ReplayNow, IsEvent, IsReplayOf, IsSomeReplay, RunsAt}
use Rattle.run_replay.proofs.Lining.{task_of_line}

pub some_task : (code : Compiled) (now : ReplayNow) (t : ℕ) (x : TaskLine) → IsSomeReplay code now → slice_get now.lines t ≡ Some x → IsSomeTask code x.task
some_task code now t x (P, h, m, k) present =
    let found = task_of_line P code now.lines m.tasks t x k.lines present in
    (P, found.2.args, found.0.state, k.code_is, found.2.task)

pub still_runs : (lines : List TaskLine) (t : ℕ) (x : TaskLine) → RunsAt lines t → slice_get lines t ≡ Some x → x.task.spot.ended ≡ false
still_runs lines t x (line, present, runs) e = subst (λ (l : TaskLine). l.task.spot.ended ≡ false) (same_Some line x (sym present ∙ e)) runs

pub wishes_of : (P : tree.Program) (code : Compiled) (h : List Event) (now : ReplayNow) (m : Machine) (t : ℕ) (x : TaskLine) (r : Running) (w : asked.Wish)
    → IsReplayOf P code h now m → slice_get now.lines t ≡ Some x → slice_get m.tasks t ≡ Some r
    → ((args : List Value) (s : TaskState) → IsTaskOf P code args x.task s → Wishes P MOST_LOCAL_STEPS s w) → Wishes P MOST_LOCAL_STEPS r.state w
wishes_of P code h now m t x r w k present is wishes =
    let found = task_of_line P code now.lines m.tasks t x k.lines present in
    let same : found.0 ≡ r = same_Some found.0 r (sym found.1 ∙ is) in
    subst (λ (q : Running). Wishes P MOST_LOCAL_STEPS q.state w) same (wishes found.2.args found.0.state found.2.task)

-- where a task tells an event it stands there
pub stops_still : (code : Compiled) (task : TaskNow) (w : asked.Wish) → StopsAt code task w → IsEvent w → IsStill code task
stops_still code task (wish.Read _) s e = s
stops_still code task (wish.Write _ _) s e = s
stops_still code task (wish.Spawn _) s e = s
stops_still code task (wish.Create _) s e = s
stops_still code task wish.Sync s e = s
stops_still code task (wish.Get _) s e = s
stops_still code task (wish.End _) s e = s
stops_still code task wish.Long s e = absurd e

-- tasks that show the same but for the room of their trace are in the same states
pub same_state : (P : tree.Program) (code : Compiled) (args : List Value) (old new : TaskNow) (s : TaskState) → new.which ≡ old.which → new.spot ≡ old.spot
    → new.held ≡ old.held → new.trace.items ≡ old.trace.items → IsTaskOf P code args old s → IsTaskOf P code args new s
same_state P code args old new s which spot held trace x =
    subst (λ w. IsTaskOf P code args (shows new.number w new.spot new.held new.trace) s) (sym which)
    (subst (λ p. IsTaskOf P code args (shows new.number old.which p new.held new.trace) s) (sym spot)
    (subst (λ f. IsTaskOf P code args (shows new.number old.which old.spot f new.trace) s) (sym held)
    (record {
      state = subst (λ l. IsStateAfter P old.which args (trace_events l) s) (sym trace) x.state;
      typed = x.typed;
      place = x.place;
    })))
  where
    shows : ℕ → ℕ → Spot → Held → Listed (ℕ × Entry) → TaskNow
    shows n w p f l = record { number = n; which = w; spot = p; held = f; trace = l }

pub same_still : (code : Compiled) (old new : TaskNow) → new.which ≡ old.which → new.spot ≡ old.spot → new.held ≡ old.held → IsStill code old → IsStill code new
same_still code old new which spot held x =
    subst (λ w. moves new.held (slice_get (code_of code.tasks w).instructions new.spot.place) ≡ None) (sym which)
    (subst (λ (p : Spot). moves new.held (slice_get (code_of code.tasks old.which).instructions p.place) ≡ None) (sym spot)
    (subst (λ f. moves f (slice_get (code_of code.tasks old.which).instructions old.spot.place) ≡ None) (sym held) x))

-- only its end ends a task
pub ended_by : (a : Action) (b : Bool) → b ≡ false → ended_after b a ≡ is_some (value_by a None)
ended_by (Reads _ _) b e = e
ended_by (Writes _ _) b e = e
ended_by (Spawns _ _ _ _ _) b e = e
ended_by (Creates _ _ _ _ _) b e = e
ended_by (Syncs _) b e = e
ended_by (Gets _ _ _) b e = e
ended_by (Ends _) b e = refl
