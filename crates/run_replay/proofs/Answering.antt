-- The answers on the next event of a task.
use Rattle.std.proofs.Common.{◌≡◌, ℕ, ◌+◌, ◌<◌, true, false, List, length, refl, sym, ap, ◌∙◌, subst, arith}
use Rattle.std.specs.Prelude.{Option, Some, None, IsSome, is_some, not, slice_get, Result, Ok, Err, IfOk}
use Rattle.std.proofs.lemmas.Bool.{false≢true}
use Rattle.std.proofs.lemmas.Option.{same_Some}
use Rattle.fut_base.specs.declared.limits.TheConstants.{MOST_LOCAL_STEPS}
use Rattle.fut_base.specs.declared.record.Value.{Value}
use Rattle.fut_base.specs.declared.record.Limits.{Limits}
use Rattle.fut_base.specs.declared.event.Event.{Event}
use Rattle.fut_base.specs.declared.event.Action.{Action}
use Rattle.fut_base.specs.declared.event.Action.TheVariants.{Reads, Writes, Spawns, Creates, Syncs, Gets, Ends}
use Rattle.fut_syntax.specs.Trees as tree
use Rattle.task_machine.specs.State.{TaskState, Wish, ToRead, ToWrite, ToSpawn, ToCreate, ToSync, ToGet, ToEnd, wish_of, Answers}
use Rattle.task_machine.specs.Runs.{StandsAt}
use Rattle.task_machine.specs.Machine.{Machine, Running, ended_with, AllHaveEnded, Permits, IsAllowed, IsRunning, creates, create_count, WishesCreate}
use Rattle.task_machine.proofs.Stepping.{stands_at_one, stands_or_goes_on}
use Rattle.task_code.specs.Flat.{Compiled}
use Rattle.task_code.specs.Tasks.{Wishes}
use Rattle.task_code.specs.declared.task.Wish as asked
use Rattle.task_code.specs.declared.task.Wish.TheVariants as wish
use Rattle.run_replay.specs.declared.line.TaskLine.{TaskLine}
use Rattle.run_replay.specs.declared.replay.Next.{Next}
use Rattle.run_replay.specs.declared.replay.Next.TheVariants as next
use Rattle.run_replay.specs.Replays.{ReplayNow, IsReplayOf, IsSomeReplay, Takes, CanAct, IsEvent, IsFree, IsBarred, RunsAt, StillAt, is_running}
use Rattle.run_replay.specs.Next.{is_create, WaitsFor, IsWaiting, IsFull, IsMade, Goes, MayGo, IsBar, IsNext}
use Rattle.run_replay.proofs.Lining.{task_of_line, line_of_task}
use Rattle.run_replay.proofs.Acting.{takes_step, can_step}
use Rattle.run_replay.proofs.Waiting.{at_event, cell_there}

pub if_ok : {X E : Type 0} (r : Result X E) (P Q : X → Type 0) → ((x : X) → P x → Q x) → IfOk r P → IfOk r Q
if_ok (Ok x) P Q f h = f x h
if_ok (Err e) P Q f h = tt

-- ---- a wish to create

pub create_of : (P : tree.Program) (r : Running) (w : asked.Wish) → is_create w ≡ true → Wishes P MOST_LOCAL_STEPS r.state w → WishesCreate P r
create_of P r (wish.Create which) c w = (w.0, which, w.1, at_event r.state w.0 w.2, w.3)
create_of P r (wish.Read _) c w = absurd (false≢true c)
create_of P r (wish.Write _ _) c w = absurd (false≢true c)
create_of P r (wish.Spawn _) c w = absurd (false≢true c)
create_of P r wish.Sync c w = absurd (false≢true c)
create_of P r (wish.Get _) c w = absurd (false≢true c)
create_of P r (wish.End _) c w = absurd (false≢true c)
create_of P r wish.Long c w = absurd (false≢true c)

-- a task stands at one wish
one_wish : (P : tree.Program) (s t u : TaskState) (v w : Wish) → StandsAt s t → StandsAt s u → wish_of P t ≡ v → wish_of P u ≡ w → v ≡ w
one_wish P s t u v w a b x y = sym x ∙ (ap (wish_of P) (stands_at_one s t u a b) ∙ y)

-- only this wish is to create
pub only_create : (P : tree.Program) (r : Running) (w : asked.Wish) (stop : TaskState) (code : ℕ) (args : List Value) → StandsAt r.state stop
    → wish_of P stop ≡ ToCreate code args → Wishes P MOST_LOCAL_STEPS r.state w → is_create w ≡ true
only_create P r (wish.Create which) stop code args at is w = refl
only_create P r (wish.Read cell) stop code args at is w =
    absurd (let e = one_wish P r.state stop w.0 (ToCreate code args) (ToRead cell) at (at_event r.state w.0 w.1) is w.2 in cc)
only_create P r (wish.Write cell value) stop code args at is w =
    absurd (let e = one_wish P r.state stop w.0 (ToCreate code args) (ToWrite cell value) at (at_event r.state w.0 w.1) is w.2 in cc)
only_create P r (wish.Spawn which) stop code args at is w =
    absurd (let e = one_wish P r.state stop w.0 (ToCreate code args) (ToSpawn which w.1) at (at_event r.state w.0 w.2) is w.3 in cc)
only_create P r wish.Sync stop code args at is w =
    absurd (let e = one_wish P r.state stop w.0 (ToCreate code args) ToSync at (at_event r.state w.0 w.1) is w.2 in cc)
only_create P r (wish.Get future) stop code args at is w =
    absurd (let e = one_wish P r.state stop w.0 (ToCreate code args) (ToGet future) at (at_event r.state w.0 w.1) is w.2 in cc)
only_create P r (wish.End value) stop code args at is w =
    absurd (let e = one_wish P r.state stop w.0 (ToCreate code args) (ToEnd value) at (at_event r.state w.0 w.1) is w.2 in cc)
only_create P r wish.Long stop code args at is w = absurd (stands_or_goes_on r.state stop at (MOST_LOCAL_STEPS, refl, w))

acts_create : (P : tree.Program) (m : Machine) (r : Running) (w : asked.Wish) (a : Action) → CanAct P m r a → Wishes P MOST_LOCAL_STEPS r.state w
    → creates a ≡ true → is_create w ≡ true
acts_create P m r w (Creates code child kid cont args) can wishes c = only_create P r w can.stop code args can.stands can.answers wishes
acts_create P m r w (Reads _ _) can wishes c = absurd (false≢true c)
acts_create P m r w (Writes _ _) can wishes c = absurd (false≢true c)
acts_create P m r w (Spawns _ _ _ _ _) can wishes c = absurd (false≢true c)
acts_create P m r w (Syncs _) can wishes c = absurd (false≢true c)
acts_create P m r w (Gets _ _ _) can wishes c = absurd (false≢true c)
acts_create P m r w (Ends _) can wishes c = absurd (false≢true c)

pub goes : (P : tree.Program) (code : Compiled) (h : List Event) (m : Machine) (old new : ReplayNow) (t : ℕ) (w : asked.Wish) (a : Action) (e : Event)
    (r : Running) → IsReplayOf P code h old m → IsRunning m t r → Wishes P MOST_LOCAL_STEPS r.state w → CanAct P m r a → StillAt code old.lines t
    → Takes code old new t a e → Goes P code h m t w e new
goes P code h m old new t w a e r x run wishes can st k =
    let n = takes_step P code h m old new t a e r x k st run.0 run.1 can in
    record {
      task = ap (λ (d : Event). d.task) k.event;
      next = n.0;
      step = n.1;
      create = λ c. acts_create P m r w a can wishes (sym (ap (λ (d : Event). creates d.action) k.event) ∙ c);
      run = n.2;
    }

-- ---- a wish that waits

same_task : (m : Machine) (t : ℕ) (r q : Running) → IsRunning m t r → slice_get m.tasks t ≡ Some q → q ≡ r
same_task m t r q run e = same_Some q r (sym e ∙ run.0)

waits_sync : (m : Machine) (r : Running) (w : Wish) (a : Action) → w ≡ ToSync → Answers w a → Permits m r a → AllHaveEnded m r.block
waits_sync m r w (Syncs strand) is answers may = may.1
waits_sync m r w (Reads _ _) is answers may = cc
waits_sync m r w (Writes _ _) is answers may = cc
waits_sync m r w (Spawns _ _ _ _ _) is answers may = cc
waits_sync m r w (Creates _ _ _ _ _) is answers may = cc
waits_sync m r w (Gets _ _ _) is answers may = cc
waits_sync m r w (Ends _) is answers may = cc

waits_get : (m : Machine) (r : Running) (w : Wish) (a : Action) (future : ℕ) → w ≡ ToGet future → Answers w a → Permits m r a
    → (v : Value) × (ended_with m future ≡ Some v)
waits_get m r w (Gets f value strand) future is answers may =
    (value, (let e : ToGet f ≡ ToGet future = sym answers ∙ is in let same : f ≡ future = cc in subst (λ n. ended_with m n ≡ Some value) same may.1))
waits_get m r w (Reads _ _) future is answers may = cc
waits_get m r w (Writes _ _) future is answers may = cc
waits_get m r w (Spawns _ _ _ _ _) future is answers may = cc
waits_get m r w (Creates _ _ _ _ _) future is answers may = cc
waits_get m r w (Syncs _) future is answers may = cc
waits_get m r w (Ends _) future is answers may = cc

-- a step of a task answers the wish at which it stands
answered : (P : tree.Program) (m : Machine) (t : ℕ) (r : Running) (stop : TaskState) → IsRunning m t r → StandsAt r.state stop → IsAllowed P m t
    → (a : Action) × Answers (wish_of P stop) a × Permits m r a
answered P m t r stop run at (e, is, n, step) =
    let same : step.task ≡ r = same_task m t r step.task run (subst (λ k. slice_get m.tasks k ≡ Some step.task) is step.present) in
    let stands = subst (λ (q : Running). StandsAt q.state step.stop) same step.stands in (
      e.action,
      subst (λ s. Answers (wish_of P s) e.action) (stands_at_one r.state step.stop stop stands at) step.answers,
      subst (λ q. Permits m q e.action) same step.permits,
    )

pub waiting : (P : tree.Program) (m : Machine) (t : ℕ) (r : Running) (w : asked.Wish) (future : Option ℕ) → IsRunning m t r
    → Wishes P MOST_LOCAL_STEPS r.state w → IsBarred m r w future → IsWaiting P m t future
waiting P m t r wish.Sync future run w b =
    let at = at_event r.state w.0 w.1 in
    record {
      task = r;
      stop = w.0;
      running = run;
      stands = at;
      wish = subst (λ o. WaitsFor (wish_of P w.0) o) (sym b.0) w.2;
      barred = λ allowed. (let a = answered P m t r w.0 run at allowed in b.1 (waits_sync m r (wish_of P w.0) a.0 w.2 a.1 a.2));
    }
waiting P m t r (wish.Get f) future run w b =
    let at = at_event r.state w.0 w.1 in
    record {
      task = r;
      stop = w.0;
      running = run;
      stands = at;
      wish = subst (λ o. WaitsFor (wish_of P w.0) o) (sym b.0) w.2;
      barred =
          λ allowed.
          (let a = answered P m t r w.0 run at allowed in let v = waits_get m r (wish_of P w.0) a.0 f w.2 a.1 a.2 in let none = b.1 in let some = v.1 in cc);
    }
waiting P m t r (wish.Read _) future run w b = absurd b
waiting P m t r (wish.Write _ _) future run w b = absurd b
waiting P m t r (wish.Spawn _) future run w b = absurd b
waiting P m t r (wish.Create _) future run w b = absurd b
waiting P m t r (wish.End _) future run w b = absurd b
waiting P m t r wish.Long future run w b = absurd b

pub not_full : (P : tree.Program) (limits : Limits) (h : List Event) (m : Machine) (t : ℕ) (r : Running) (w : asked.Wish) → IsRunning m t r
    → Wishes P MOST_LOCAL_STEPS r.state w → (is_create w ≡ true → create_count h < limits.futures) → IsFull P limits h m t → ⊥
not_full P limits h m t r w run wishes few full =
    let same = same_task m t r full.task run full.running.0 in
    let c = full.wishes in
    let lt = few (only_create P r w c.0 c.1 c.2 (subst (λ (q : Running). StandsAt q.state c.0) same c.3) c.4 wishes) in
    let le = full.many in
    omega (arith, lt, le)

-- ---- a wish that waits for nothing is allowed

allow : (P : tree.Program) (m : Machine) (t : ℕ) (r : Running) (a : Action) → IsRunning m t r → CanAct P m r a → IsAllowed P m t
allow P m t r a run can = (record { task = t; strand = r.strand; action = a }, refl, _, can_step P m t r a run.0 run.1 can)

pub allowed : (P : tree.Program) (code : Compiled) (h : List Event) (now : ReplayNow) (m : Machine) (t : ℕ) (r : Running) (w : asked.Wish)
    → IsReplayOf P code h now m → IsRunning m t r → IsEvent w → IsFree m r w → Wishes P MOST_LOCAL_STEPS r.state w → IsAllowed P m t
allowed P code h now m t r (wish.Read cell) x run is free w =
    let v = cell_there P code h now m x r w.0 cell w.2 in
    allow P m t r (Reads cell v.0) run (record { stop = w.0; stands = at_event r.state w.0 w.1; answers = w.2; permits = v.1 })
allowed P code h now m t r (wish.Write cell value) x run is free w =
    allow P m t r (Writes cell value) run (record { stop = w.0; stands = at_event r.state w.0 w.1; answers = w.2; permits = tt })
allowed P code h now m t r (wish.Spawn which) x run is free w =
    allow P m t r (Spawns which (length m.tasks) m.strands (m.strands + 1) w.1) run
    (record { stop = w.0; stands = at_event r.state w.0 w.2; answers = w.3; permits = (refl, refl, refl) })
allowed P code h now m t r (wish.Create which) x run is free w =
    allow P m t r (Creates which (length m.tasks) m.strands (m.strands + 1) w.1) run
    (record { stop = w.0; stands = at_event r.state w.0 w.2; answers = w.3; permits = (refl, refl, refl) })
allowed P code h now m t r wish.Sync x run is free w =
    allow P m t r (Syncs m.strands) run (record { stop = w.0; stands = at_event r.state w.0 w.1; answers = w.2; permits = (refl, free) })
allowed P code h now m t r (wish.Get future) x run is free w =
    let v = value (ended_with m future) free in
    allow P m t r (Gets future v.0 m.strands) run (record { stop = w.0; stands = at_event r.state w.0 w.1; answers = w.2; permits = (refl, v.1) })
  where
    value : (o : Option Value) → IsSome o → (v : Value) × (o ≡ Some v)
    value None e = absurd (false≢true e)
    value (Some v) e = (v, refl)
allowed P code h now m t r (wish.End value) x run is free w =
    allow P m t r (Ends value) run (record { stop = w.0; stands = at_event r.state w.0 w.1; answers = w.2; permits = tt })
allowed P code h now m t r wish.Long x run is free w = absurd is

-- ---- whether a task runs

not_value : (o : Option Value) → not (is_some o) ≡ true → o ≡ None
not_value None h = refl
not_value (Some v) h = absurd (false≢true h)

running_line : (o : Option TaskLine) → is_running o ≡ true → (line : TaskLine) × (o ≡ Some line) × (line.value ≡ None)
running_line None h = absurd (false≢true h)
running_line (Some line) h = (line, refl, not_value line.value h)

pub running_task : (P : tree.Program) (code : Compiled) (h : List Event) (now : ReplayNow) (m : Machine) (t : ℕ) → IsReplayOf P code h now m
    → is_running (slice_get now.lines t) ≡ true → (r : Running) × IsRunning m t r
running_task P code h now m t x is =
    let l = running_line (slice_get now.lines t) is in
    let found = task_of_line P code now.lines m.tasks t l.0 x.lines l.1 in
    (found.0, (found.1, sym found.2.value ∙ l.2))

pub runs_at : (code : Compiled) (now : ReplayNow) (t : ℕ) → IsSomeReplay code now → is_running (slice_get now.lines t) ≡ true → RunsAt now.lines t
runs_at code now t (P, h, m, x) is =
    let l = running_line (slice_get now.lines t) is in
    let found = task_of_line P code now.lines m.tasks t l.0 x.lines l.1 in
    (l.0, l.1, found.2.ended ∙ ap (λ (o : Option Value). is_some o) (sym found.2.value ∙ l.2))

pub idle : (P : tree.Program) (code : Compiled) (h : List Event) (now : ReplayNow) (m : Machine) (t : ℕ) (r : Running) → IsReplayOf P code h now m
    → is_running (slice_get now.lines t) ≡ false → IsRunning m t r → ⊥
idle P code h now m t r x is run =
    let l = line_of_task P code now.lines m.tasks t r x.lines run.0 in
    let yes : is_running (slice_get now.lines t) ≡ true = ap is_running l.1 ∙ ap (λ (o : Option Value). not (is_some o)) (l.2.value ∙ run.1) in
    false≢true (sym is ∙ yes)

pub bar_next : (P : tree.Program) (code : Compiled) (limits : Limits) (h : List Event) (m : Machine) (t : ℕ) (new : ReplayNow) (n : Next)
    → IsReplayOf P code h new m → IsBar P limits h m t n → IsNext P code limits h m t new n
bar_next P code limits h m t new (next.Waits future) x b = (b, x)
bar_next P code limits h m t new (next.Spent finish) x b = (b, x)
bar_next P code limits h m t new (next.Made entry) x b = absurd b
bar_next P code limits h m t new next.Idle x b = absurd b
bar_next P code limits h m t new next.NoMemory x b = absurd b

pub made_of : (P : tree.Program) (code : Compiled) (limits : Limits) (h : List Event) (m : Machine) (t : ℕ) (r : Running) (w : asked.Wish) (e : Event)
    (new : ReplayNow) → MayGo limits h m r w → Goes P code h m t w e new → IsMade P code limits h m t e new
made_of P code limits h m t r w e new may g =
    record { task = g.task; next = g.next; step = g.step; few = may.few; creates_few = λ c. may.creates_few (g.create c); run = g.run }
