-- The machine lets a task do one thing: an entry that is a step is the one that it may do.
use Rattle.std.proofs.Common.{◌≡◌, ℕ, ◌+◌, List, length, refl, sym, ap, ◌∙◌, subst}
use Rattle.std.specs.Prelude.{Option, Some, None, option_map, slice_get, ℤ, false}
use Rattle.std.proofs.lemmas.Option.{same_Some}
use Rattle.fut_base.specs.declared.limits.TheConstants.{MOST_LOCAL_STEPS}
use Rattle.fut_base.specs.declared.record.Value.{Value}
use Rattle.fut_base.specs.declared.event.Event.{Event}
use Rattle.fut_base.specs.declared.event.Action.{Action}
use Rattle.fut_base.specs.declared.event.Action.TheVariants.{Reads, Writes, Spawns, Creates, Syncs, Gets, Ends}
use Rattle.fut_syntax.specs.Trees as tree
use Rattle.task_machine.specs.State.{Wish, ToRead, ToWrite, ToSpawn, ToCreate, ToSync, ToGet, ToEnd, wish_of, Answers}
use Rattle.task_machine.specs.Machine.{Machine, Running, ended_with, Permits, IsStep, IsRunning}
use Rattle.task_machine.proofs.Stepping.{stands_at_one, stands_or_goes_on}
use Rattle.task_code.specs.Flat.{Compiled}
use Rattle.task_code.specs.Tasks.{Wishes}
use Rattle.task_code.specs.declared.task.Wish as asked
use Rattle.task_code.specs.declared.task.Wish.TheVariants as wish
use Rattle.run_replay.specs.Replays.{ReplayNow, IsReplayOf, Takes, CanAct, IsBarred, IsOn, StillAt, is_running}
use Rattle.run_replay.specs.Steps.{HasMade, IsNoStep}
use Rattle.run_replay.proofs.Lining.{task_of_line, line_of_task}
use Rattle.run_replay.proofs.Acting.{takes_step}
use Rattle.run_replay.proofs.Answering.{idle, waiting}

-- the one action that answers a wish
abbrev action_for : Machine → Wish → Option Action
action_for m (ToRead cell) = option_map (λ value. Reads cell value) (slice_get m.cells cell)
action_for m (ToWrite cell value) = Some (Writes cell value)
action_for m (ToSpawn code args) = Some (Spawns code (length m.tasks) m.strands (m.strands + 1) args)
action_for m (ToCreate code args) = Some (Creates code (length m.tasks) m.strands (m.strands + 1) args)
action_for m ToSync = Some (Syncs m.strands)
action_for m (ToGet future) = option_map (λ value. Gets future value m.strands) (ended_with m future)
action_for m (ToEnd value) = Some (Ends value)
action_for m _ = None

is_for : (m : Machine) (r : Running) (w : Wish) (a : Action) → Answers w a → Permits m r a → action_for m w ≡ Some a
is_for m r w (Reads cell value) is may = ap (action_for m) is ∙ ap (λ (o : Option ℤ). option_map (λ v. Reads cell v) o) may
is_for m r w (Writes cell value) is may = ap (action_for m) is
is_for m r w (Spawns code child kid cont args) is (c, k, n) =
    ap (action_for m) is
    ∙
    (ap (λ x. Some (Spawns code x m.strands (m.strands + 1) args)) (sym c)
    ∙ (ap (λ x. Some (Spawns code child x (m.strands + 1) args)) (sym k) ∙ ap (λ x. Some (Spawns code child kid x args)) (sym n)))
is_for m r w (Creates code child kid cont args) is (c, k, n) =
    ap (action_for m) is
    ∙
    (ap (λ x. Some (Creates code x m.strands (m.strands + 1) args)) (sym c)
    ∙ (ap (λ x. Some (Creates code child x (m.strands + 1) args)) (sym k) ∙ ap (λ x. Some (Creates code child kid x args)) (sym n)))
is_for m r w (Syncs strand) is may = ap (action_for m) is ∙ ap (λ x. Some (Syncs x)) (sym may.0)
is_for m r w (Gets future value strand) is may =
    ap (action_for m) is ∙ (ap (λ (o : Option Value). option_map (λ v. Gets future v m.strands) o) may.1 ∙ ap (λ x. Some (Gets future value x)) (sym may.0))
is_for m r w (Ends value) is may = ap (action_for m) is

pub one_action : (P : tree.Program) (m : Machine) (r : Running) (a b : Action) → CanAct P m r a → CanAct P m r b → a ≡ b
one_action P m r a b x y =
    let same = stands_at_one r.state x.stop y.stop x.stands y.stands in
    same_Some a b
    (sym (is_for m r (wish_of P x.stop) a x.answers x.permits)
    ∙ (ap (λ s. action_for m (wish_of P s)) same ∙ is_for m r (wish_of P y.stop) b y.answers y.permits))

-- an event that is a step is of its task, which may do it
pub steps_can : (P : tree.Program) (m n : Machine) (e : Event) (r : Running) → IsRunning m e.task r → IsStep P m e n
    → CanAct P m r e.action × (r.strand ≡ e.strand)
steps_can P m n e r run step =
    let same : step.task ≡ r = same_Some step.task r (sym step.present ∙ run.0) in
    subst (λ (q : Running). CanAct P m q e.action × (q.strand ≡ e.strand)) same
    (record { stop = step.stop; stands = step.stands; answers = step.answers; permits = step.permits }, step.strand)

module _ (P : tree.Program) (code : Compiled) (h : List Event) (now : ReplayNow) (m : Machine) (x : IsReplayOf P code h now m) (e : Event) where
  pub none_runs : is_running (slice_get now.lines e.task) ≡ false → IsNoStep P m e
  none_runs is n step = idle P code h now m e.task step.task x is (step.present, step.running)

  pub other_strand : (IsOn now.lines e.task e.strand → ⊥) → IsNoStep P m e
  other_strand off n step =
      let l = line_of_task P code now.lines m.tasks e.task step.task x.lines step.present in
      off (l.0, l.1, l.2.strand ∙ step.strand)

pub too_long : (P : tree.Program) (m : Machine) (e : Event) (r : Running) → IsRunning m e.task r → Wishes P MOST_LOCAL_STEPS r.state wish.Long → IsNoStep P m e
too_long P m e r run w n step =
    let can = (steps_can P m n e r run step).0 in
    stands_or_goes_on r.state can.stop can.stands (MOST_LOCAL_STEPS, refl, w)

pub must_wait : (P : tree.Program) (m : Machine) (e : Event) (r : Running) (w : asked.Wish) (o : Option ℕ) → IsRunning m e.task r
    → Wishes P MOST_LOCAL_STEPS r.state w → IsBarred m r w o → IsNoStep P m e
must_wait P m e r w o run wishes b n step = (waiting P m e.task r w o run wishes b).barred (e, refl, n, step)

pub other_action : (P : tree.Program) (m : Machine) (e : Event) (r : Running) (a : Action) → IsRunning m e.task r → CanAct P m r a → (a ≡ e.action → ⊥)
    → IsNoStep P m e
other_action P m e r a run can differ n step = differ (one_action P m r a e.action can (steps_can P m n e r run step).0)

pub has_made : (P : tree.Program) (code : Compiled) (h : List Event) (m : Machine) (first old new : ReplayNow) (e own : Event) (a : Action) (r : Running)
    → IsReplayOf P code h first m → IsReplayOf P code h old m → IsRunning m e.task r → IsOn first.lines e.task e.strand → StillAt code old.lines e.task
    → CanAct P m r a → a ≡ e.action → Takes code old new e.task a own → HasMade P code h m e new
has_made P code h m first old new e own a r x y run on st can same k =
    let given = task_of_line P code first.lines m.tasks e.task on.0 x.lines on.1 in
    let strand : r.strand ≡ e.strand = ap (λ (q : Running). q.strand) (same_Some r given.0 (sym run.0 ∙ given.1)) ∙ (sym given.2.strand ∙ on.2) in
    let found = task_of_line P code old.lines m.tasks e.task k.before y.lines k.present in
    let held : k.before.strand ≡ r.strand = found.2.strand ∙ ap (λ (q : Running). q.strand) (same_Some found.0 r (sym found.1 ∙ run.0)) in
    let is : own ≡ e = k.event ∙ (ap (λ s. at e.task s a) (held ∙ strand) ∙ ap (λ b. at e.task e.strand b) same) in
    subst (λ (d : Event). HasMade P code h m d new) is (takes_step P code h m old new e.task a own r y k st run.0 run.1 can)
  where
    at : ℕ → ℕ → Action → Event
    at t s b = record { task = t; strand = s; action = b }
