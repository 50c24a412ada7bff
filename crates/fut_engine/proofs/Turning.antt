-- What a turn does to the value behind the lock.
use Rattle.std.proofs.Common.{◌≡◌, ℕ, zero, suc, ◌+◌, ◌<◌, ◌≤◌, List, [], ◌∷◌, ◌++◌, length, inl, inr, refl, sym, ap, ◌∙◌, subst, arith, length-append}
use Rattle.std.specs.Prelude.{Option, Some, None, slice_get}
use Rattle.fut_base.specs.declared.limits.TheConstants.{MOST_ENTRIES}
use Rattle.fut_base.specs.declared.record.Value.{Value}
use Rattle.fut_base.specs.declared.record.Limits.{Limits}
use Rattle.fut_base.specs.declared.event.Event.{Event}
use Rattle.fut_base.specs.declared.event.Action.{Action}
use Rattle.fut_base.specs.declared.event.Action.TheVariants.{Reads, Writes, Spawns, Creates, Syncs, Gets, Ends}
use Rattle.fut_base.specs.Dag.{Among, block_after}
use Rattle.fut_base.specs.Sound.{value_by}
use Rattle.fut_syntax.specs.Trees as tree
use Rattle.task_machine.specs.Texts.{main_of}
use Rattle.task_machine.specs.Machine.{Machine, Running, opening, begins, child_of, ended_with, IsStep, IsRunning, Leads, create_count}
use Rattle.task_code.specs.Flat.{Compiled}
use Rattle.run_replay.specs.Replays.{ReplayNow, IsReplayOf}
use Rattle.run_replay.specs.Next.{IsMade, IsWaiting}
use Rattle.run_replay.proofs.Acting.{longer}
use Rattle.fut_engine.specs.declared.seat.Seat.{Seat}
use Rattle.fut_engine.specs.Seats.{went_for, waits_for, Settles, CanTell, CanSettle, MaySettle, MayPark, Parks}
use Rattle.fut_engine.specs.declared.made.Made.{Made}
use Rattle.fut_engine.specs.Going.{AlwaysGoes}
use Rattle.fut_engine.specs.Turns.{WholeNow, CanTurn, IsReady, HasGone, HasParked, AlwaysTurns, KeepsTurning}
use Rattle.fut_engine.specs.Wholes.{still, unended, IsSeat, AreSeated, Holds, AlwaysHolds, IsNamed, IsKept}
use Rattle.fut_engine.proofs.Lists.{some_same}
use Rattle.fut_engine.proofs.Steps.{places, ran, future_is}
use Rattle.fut_engine.proofs.Seating.{waits_in, seat_of, task_of}
use Rattle.fut_engine.proofs.Settling.{plain, synced, created, spawned}
use Rattle.fut_engine.proofs.Ending.{ended, no_one}
use Rattle.fut_engine.proofs.Parking.{may_park, parked}
use Rattle.fut_engine.proofs.Going.{more_creates, goes_first}

abbrev pub seen : List Event → List Seat → WholeNow
seen h seats = record { history = h; seats = seats }

-- ---- blocks are short

abbrev AreShort : Machine → ℕ → Type 0
AreShort m k = (t : ℕ) (r : Running) → slice_get m.tasks t ≡ Some r → length r.block ≤ k

block_by : (a : Action) (block : List ℕ) → length (block_after a block) ≤ length block + 1
block_by (Spawns code child kid cont args) block = let l = length-append block (child ∷ []) in omega (arith, l)
block_by (Creates _ _ _ _ _) block = omega arith
block_by (Reads _ _) block = omega arith
block_by (Writes _ _) block = omega arith
block_by (Syncs _) block = omega arith
block_by (Gets _ _ _) block = omega arith
block_by (Ends _) block = omega arith

child_block : (P : tree.Program) (r : Running) (a : Action) (k : ℕ) (q : Running) → slice_get (child_of P r a) k ≡ Some q → q.block ≡ []
child_block P r (Spawns code child kid cont args) zero q h = subst (λ (x : Running). x.block ≡ []) (some_same (begins P code args kid r.future) q h) refl
child_block P r (Spawns code child kid cont args) (suc k) q h = cc
child_block P r (Creates code child kid cont args) zero q h = subst (λ (x : Running). x.block ≡ []) (some_same (begins P code args kid child) q h) refl
child_block P r (Creates code child kid cont args) (suc k) q h = cc
child_block P r (Reads _ _) k q h = cc
child_block P r (Writes _ _) k q h = cc
child_block P r (Syncs _) k q h = cc
child_block P r (Gets _ _ _) k q h = cc
child_block P r (Ends _) k q h = cc

short_step : (P : tree.Program) (m : Machine) (e : Event) (n : Machine) (k : ℕ) → IsStep P m e n → AreShort m k → AreShort n (k + 1)
short_step P m e n k step short u q there =
    elim (places P m e n step u q there) [
      | inl own ↦ (
          let le = short e.task step.task step.present in
          let by = block_by e.action step.task.block in
          subst (λ (z : Running). length z.block ≤ k + 1) own.1 (omega (arith, le, by)))
      | inr more ↦ elim more [
        | inl kept ↦ (let le = short u q kept.1 in omega (arith, le))
        | inr born ↦ (let none = ap length (child_block P step.task e.action born.0 q born.2) in omega (arith, none))
      ]
    ]

short_leads : (P : tree.Program) (m : Machine) (h : List Event) (n : Machine) (k : ℕ) → Leads P m h n → AreShort m k → AreShort n (k + length h)
short_leads P m [] n k l short = subst (λ (z : Machine). AreShort z (k + 0)) l (λ u q there. let le = short u q there in omega (arith, le))
short_leads P m (e ∷ h) n k (next, step, rest) short = λ u q there. let le =
    short_leads P next h n (k + 1) rest (short_step P m e next k step short) u q there in omega (arith, le)

short_first : (P : tree.Program) → AreShort (opening P) 0
short_first P zero r there = subst (λ (z : Running). length z.block ≤ 0) (some_same (begins P (main_of P) [] 0 0) r there) (omega arith)
short_first P (suc t) r there = cc

still_one : (o : Option Value) → still o ≤ 1
still_one None = omega arith
still_one (Some v) = omega arith

few_unended : (m : Machine) (cs : List ℕ) → unended m cs ≤ length cs
few_unended m [] = omega arith
few_unended m (c ∷ cs) = let one = still_one (ended_with m c) in let rest = few_unended m cs in omega (arith, one, rest)

some_unended : (m : Machine) (t : ℕ) (cs : List ℕ) → Among t cs → ended_with m t ≡ None → 0 < unended m cs
some_unended m t [] i none = absurd i
some_unended m t (c ∷ cs) (inl same) none = let one : still (ended_with m c) ≡ 1 = ap (λ z. still (ended_with m z)) same ∙ ap still none in omega (arith, one)
some_unended m t (c ∷ cs) (inr i) none = let rest = some_unended m t cs i none in omega (arith, rest)

-- ---- an event is made

module _ (P : tree.Program) (h : List Event) (m n : Machine) (e : Event) (step : IsStep P m e n) (l : Leads P (opening P) h m) (seats : List Seat)
    (a : AreSeated P m seats) (few : length h < MOST_ENTRIES) where
  own_seat : (s : Seat) × (slice_get seats e.task ≡ Some s) × IsSeat P m seats e.task step.task s
  own_seat = seat_of P m seats a e.task step.task step.present

  -- who has a parent has no handle, so nobody waits for its value
  can_tell : (o : Option ℕ) → own_seat.0.parent ≡ o → CanTell seats e.task own_seat.0.awaited.waiters o
  can_tell None is = tt
  can_tell (Some p) is =
      let x = own_seat.2 in
      let held = x.held p is step.running in
      let q = seat_of P m seats a p held.0 held.1 in
      let count = q.2.count in
      let some = some_unended m e.task held.0.block held.2 (ran P m e n step) in
      let child = x.child p is in (
        (q.0, q.1, omega (arith, count, some)),
        child.0,
        no_one own_seat.0.awaited.waiters (λ u i. waits u (slice_get seats u) refl ((x.awaits u step.running).0 i) child.1),
      )
    where
      waits : (u : ℕ) (o : Option Seat) → slice_get seats u ≡ o → went_for seats u ≡ Some (Some e.task) → step.task.future < e.task → ⊥
      waits u None there went lt = (let bad : None ≡ Some (Some e.task) = sym (ap waits_in there) ∙ went in cc)
      waits u (Some z) there went lt =
          let r = task_of P m seats a u z there in
          let f = future_is P m u r.0 r.1 h l e.task (r.2.wants (Some e.task) (sym (ap waits_in there) ∙ went)) in
          let same : f.0 ≡ step.task = some_same f.0 step.task (sym f.1 ∙ step.present) in
          let root : step.task.future ≡ e.task = sym (ap (λ (k : Running). k.future) same) ∙ f.2 in
          absurd (omega (arith, root, lt))

  can_settle : (b : Action) → e.action ≡ b → CanSettle seats e.task own_seat.0 b
  can_settle (Spawns _ _ _ _ _) does =
      let count = own_seat.2.count in
      let some = few_unended m step.task.block in
      let short = short_leads P (opening P) h m 0 l (short_first P) e.task step.task step.present in
      omega (arith, count, some, short, few)
  can_settle (Ends v) does = (own_seat.2.value ∙ step.running, can_tell own_seat.0.parent refl)
  can_settle (Reads _ _) does = tt
  can_settle (Writes _ _) does = tt
  can_settle (Creates _ _ _ _ _) does = tt
  can_settle (Syncs _) does = tt
  can_settle (Gets _ _ _) does = tt

  pub may_settle : MaySettle seats e.task e.action
  may_settle = (own_seat.0, own_seat.1, can_settle e.action refl)

  settled : (free : waits_for seats e.task ≡ None) (new : List Seat) (ready : List ℕ) (b : Action) → e.action ≡ b → Settles seats e.task b new ready
      → AreSeated P n new × IsReady P n seats e.task b ready
  settled free new ready (Reads c v) does (x, is) = (
    plain P h m n e step l seats new a x.before x.present free x.is (ap (λ b. value_by b step.task.value) does)
        (ap (λ b. block_after b step.task.block) does) (ap (child_of P step.task) does),
    is,
  )
  settled free new ready (Writes c v) does (x, is) = (
    plain P h m n e step l seats new a x.before x.present free x.is (ap (λ b. value_by b step.task.value) does)
        (ap (λ b. block_after b step.task.block) does) (ap (child_of P step.task) does),
    is,
  )
  settled free new ready (Gets f v strand) does (x, is) = (
    plain P h m n e step l seats new a x.before x.present free x.is (ap (λ b. value_by b step.task.value) does)
        (ap (λ b. block_after b step.task.block) does) (ap (child_of P step.task) does),
    is,
  )
  settled free new ready (Syncs strand) does (x, is) = (synced P h m n e step l seats new a x.before x.present free x.is strand does, is)
  settled free new ready (Spawns code child kid cont args) does ((s, at, is), goes) =
      (spawned P h m n e step l seats new a s at free is code child kid cont args does, goes)
  settled free new ready (Creates code child kid cont args) does ((s, at, is), goes) =
      (created P h m n e step l seats new a s at free is code child kid cont args does, goes)
  settled free new ready (Ends v) does x = ended P h m n e step v does l seats a x.before x.present free new ready x

module _ (P : tree.Program) (code : Compiled) (limits : Limits) (h : List Event) (run : ReplayNow) (seats : List Seat) (x : Holds P code limits h run seats)
    (t : ℕ) where
  pub settles_now : (events : limits.events ≤ MOST_ENTRIES) (now : ReplayNow) (e : Event) → IsMade P code limits h x.machine t e now
      → MaySettle seats t e.action
  settles_now events now e made =
      subst (λ k. MaySettle seats k e.action) made.task
      (may_settle P h x.machine made.next e made.step x.replay.leads seats x.seated (let few = made.few in omega (arith, few, events)))

  -- an event was made
  pub gone : (events : limits.events ≤ MOST_ENTRIES) (now : ReplayNow) (g : List Event) (new : List Seat) (e : Event) (ready : List ℕ) (r : Running)
      → IsRunning x.machine t r → waits_for seats t ≡ None → IsMade P code limits h x.machine t e now
      → Settles seats t e.action new ready → g ≡ h ++ e ∷ [] → Holds P code limits g now new
      × (CanTurn x.machine seats t × HasGone P limits x.machine (seen h seats) t (seen g new) ready)
  gone events now g new e ready r running free made settles is =
      let few = made.few in
      let below : length h < MOST_ENTRIES = omega (arith, few, events) in
      let both = settled P h x.machine made.next e made.step x.replay.leads seats x.seated below
      (subst (λ k. waits_for seats k ≡ None) (sym made.task) free) new ready e.action refl
      (subst (λ k. Settles seats k e.action new ready) (sym made.task) settles) in
      let more = longer h e in
      let length_is = ap length is in (
        record {
          machine = made.next;
          replay = subst (λ k. IsReplayOf P code k now made.next) (sym is) made.run;
          few = omega (arith, more, few, length_is);
          creates_few = subst (λ k. create_count k ≤ limits.futures) (sym is) (more_creates h e limits.futures made.creates_few x.creates_few);
          seated = both.0;
        },
        (
          record { task = r; running = running; free = free },
          record {
            event = e;
            task = made.task;
            next = made.next;
            step = made.step;
            few = few;
            creates_few = made.creates_few;
            history = is;
            ready_are = subst (λ k. IsReady P made.next seats k e.action ready) made.task both.1;
            settles = settles;
          },
        ),
      )

  -- nothing was changed
  pub same : (now : ReplayNow) (g : List Event) (new : List Seat) → IsReplayOf P code h now x.machine → g ≡ h → new ≡ seats
      → Holds P code limits g now new × (seen g new ≡ seen h seats)
  same now g new k is kept = (
    subst (λ z. Holds P code limits z now new) (sym is)
        (subst (λ z. Holds P code limits h now z) (sym kept)
        (record { machine = x.machine; replay = k; few = x.few; creates_few = x.creates_few; seated = x.seated })),
    cc,
  )

  pub parks_now : (r : Running) → IsRunning x.machine t r → waits_for seats t ≡ None → (o : Option ℕ) → IsWaiting P x.machine t o → MayPark seats t o
  parks_now r running free o w =
      let s = seat_of P x.machine seats x.seated t r running.0 in
      may_park P h x.machine x.replay.leads seats x.seated t r running.0 s.0 s.1 free o w

  -- the task has gone to wait
  pub waits : (now : ReplayNow) (g : List Event) (new : List Seat) (r : Running) → IsRunning x.machine t r → waits_for seats t ≡ None → (o : Option ℕ)
      → IsWaiting P x.machine t o → IsReplayOf P code h now x.machine → g ≡ h → Parks seats t o new
      → Holds P code limits g now new × (CanTurn x.machine seats t × HasParked P x.machine (seen h seats) t (seen g new))
  waits now g new r running free o w k is parks =
      let s = seat_of P x.machine seats x.seated t r running.0 in
      let p = parked P h x.machine x.replay.leads seats x.seated t r running.0 s.0 s.1 free new o w parks in (
        subst (λ z. Holds P code limits z now new) (sym is)
            (record { machine = x.machine; replay = k; few = x.few; creates_few = x.creates_few; seated = p.seated }),
        (
          record { task = r; running = running; free = free },
          record { future = o; waiting = w; waits = p.waits; others = p.others; history = is; parks = parks },
        ),
      )

-- ---- the value behind the lock

module _ (code own : Compiled) (named limits : Limits) (h : List Event) (run : ReplayNow) (seats : List Seat) (e : code ≡ own)
    (kept : IsKept own named limits h run seats) where
  -- it is named so by the code that is lent
  pub named_so : IsNamed code limits
  named_so = subst (λ k. IsNamed k limits) (sym e) (subst (IsNamed own) (sym kept.limits_are) kept.name)

  pub holds_so : AlwaysHolds code limits h run seats
  holds_so = subst (λ k. AlwaysHolds k limits h run seats) (sym e) (subst (λ k. AlwaysHolds own k h run seats) (sym kept.limits_are) kept.holds)

  pub goes_so : AlwaysGoes code limits h h run
  goes_so = λ P typed of. let x = holds_so P typed of in goes_first P code limits h run x.machine x.replay x.few x.creates_few

  module _ (t : ℕ) (g : List Event) (now : ReplayNow) (new : List Seat) (made : Made) (turns : KeepsTurning code limits h run seats t g now new made) where
    pub kept_so : IsKept own named limits g now new
    kept_so =
        record {
          limits_are = kept.limits_are;
          name = kept.name;
          holds = subst (λ k. AlwaysHolds k named g now new) e
              (subst (λ k. AlwaysHolds code k g now new) kept.limits_are (λ P typed of. (turns P typed of (holds_so P typed of)).0));
        }

    pub turns_so : AlwaysTurns code named (seen h seats) t (seen g new) made
    turns_so =
        subst (λ k. AlwaysTurns code k (seen h seats) t (seen g new) made) kept.limits_are
        (λ P typed of. let x = holds_so P typed of in (x.machine, x.replay.leads, (turns P typed of x).1))
