use Rattle.std.proofs.Common.{◌≡◌, ◌∙◌, ap, refl, sym, subst, inl, inr, true, false}
use Rattle.std.specs.Prelude.{map, Option, Some, None, is_some}
use Rattle.std.proofs.lemmas.Bool.{false≢true}
use Rattle.fut_base.specs.Events.{action_of, event_of, events_of}
use Rattle.run_replay.proofs.Answering.{idle, running_task}
use Rattle.run_replay.proofs.Serially.{event_added}
use Rattle.fut_engine.specs.Seats.{waits_for, MaySettle, MayPark, Settles, Parks}
use Rattle.fut_engine.proofs.Turning.{settles_now, gone, same, parks_now, waits}
use Rattle.fut_engine.proofs.turn.turn.Goals as goal

some_of : {X : Type 0} (o : Option X) → is_some o ≡ true → (x : X) × (o ≡ Some x)
some_of None h = absurd (false≢true h)
some_of (Some x) h = (x, refl)

none_of : {X : Type 0} (o : Option X) → is_some o ≡ false → o ≡ None
none_of None h = refl
none_of (Some x) h = absurd (false≢true (sym h))

pub returns-then-not-runs : goal.returns-then-not-runs
returns-then-not-runs c = λ P typed of x. (
  x,
  (
    inl
        (λ r run. idle P c.args.code.now (events_of c.args.history.now) c.args.run.now x.machine c.args.task r x.replay
        (sym c.runs.ensures ∙ c.if-not-runs.true) run),
    refl,
  ),
)

pub returns-then-is_some : goal.returns-then-is_some
returns-then-is_some c = λ P typed of x.
    let o = some_of c.wait_of.result (sym c.is_some.ensures ∙ c.if-is_some.true) in
    (x, (inr (o.0, sym (c.wait_of.ensures ∙ ap (λ s. waits_for s c.args.task) c.as_slice.ensures.value) ∙ o.1), refl))

pub returns-in_default : goal.returns-in_default
returns-in_default c = λ P typed of x.
    let h = events_of c.args.history.now in
    let r = running_task P c.args.code.now h c.args.run.now x.machine c.args.task x.replay (sym c.runs.ensures ∙ c.if-not-runs.false) in
    let free = sym (c.wait_of.ensures ∙ ap (λ s. waits_for s c.args.task) c.as_slice.ensures.value)
    ∙ none_of c.wait_of.result (sym c.is_some.ensures ∙ c.if-is_some.false) in
    let k = same P c.args.code.now c.args.limits h c.args.run.now c.args.seats.now.items x c.args.task c.args.run.now
    (events_of c.make_room.new.history) c.make_room.new.seats.items x.replay (ap (map event_of) c.make_room.ensures.same.0) c.make_room.ensures.same.1 in
    (k.0, (record { task = r.0; running = r.1; free = free }, k.1))

pub settle-ready-requires-clause-may : goal.settle-ready-requires-clause-may
settle-ready-requires-clause-may c =
    let (P, typed, of) = c.requires.name.program in
    let h = events_of c.args.history.now in
    let x = c.requires.holds P typed of in
    let made = c.in-Made.ensures P h x.machine x.replay in
    subst (λ s. MaySettle s c.args.task (action_of c.in-Made.entry.act)) (sym c.make_room.ensures.same.1)
    (settles_now P c.args.code.now c.args.limits h c.args.run.now c.args.seats.now.items x c.args.task c.requires.name.events c.event.new.self
    (event_of c.in-Made.entry) made)

pub returns-in-Made : goal.returns-in-Made
returns-in-Made c = λ P typed of x.
    let h = events_of c.args.history.now in
    let r = running_task P c.args.code.now h c.args.run.now x.machine c.args.task x.replay (sym c.runs.ensures ∙ c.if-not-runs.false) in
    let free = sym (c.wait_of.ensures ∙ ap (λ s. waits_for s c.args.task) c.as_slice.ensures.value)
    ∙ none_of c.wait_of.result (sym c.is_some.ensures ∙ c.if-is_some.false) in
    let made = c.in-Made.ensures P h x.machine x.replay in
    let added =
    event_added c.args.history.now.items c.make_room.new.history.items c.push.new.self.items c.in-Made.entry c.make_room.ensures.same.0
    c.push.ensures.items in
    gone P c.args.code.now c.args.limits h c.args.run.now c.args.seats.now.items x c.args.task c.requires.name.events c.event.new.self
    (events_of c.push.new.self) c.settle-ready.new.seats.items (event_of c.in-Made.entry) c.settle-ready.result.items r.0 r.1 free made
    (subst
    (λ s. Settles s c.args.task
    (action_of c.in-Made.entry.act) c.settle-ready.new.seats.items c.settle-ready.result.items) c.make_room.ensures.same.1 c.settle-ready.ensures) added

pub park-requires : goal.park-requires
park-requires c =
    let (P, typed, of) = c.requires.name.program in
    let h = events_of c.args.history.now in
    let x = c.requires.holds P typed of in
    let r = running_task P c.args.code.now h c.args.run.now x.machine c.args.task x.replay (sym c.runs.ensures ∙ c.if-not-runs.false) in
    let free = sym (c.wait_of.ensures ∙ ap (λ s. waits_for s c.args.task) c.as_slice.ensures.value)
    ∙ none_of c.wait_of.result (sym c.is_some.ensures ∙ c.if-is_some.false) in
    subst (λ s. MayPark s c.args.task c.in-Waits.future) (sym c.make_room.ensures.same.1)
    (parks_now P c.args.code.now c.args.limits h c.args.run.now c.args.seats.now.items x c.args.task r.0 r.1 free c.in-Waits.future
    (c.in-Waits.ensures P h x.machine x.replay).0.0)

pub returns-in-Ok-park : goal.returns-in-Ok-park
returns-in-Ok-park c = λ P typed of x.
    let h = events_of c.args.history.now in
    let r = running_task P c.args.code.now h c.args.run.now x.machine c.args.task x.replay (sym c.runs.ensures ∙ c.if-not-runs.false) in
    let free = sym (c.wait_of.ensures ∙ ap (λ s. waits_for s c.args.task) c.as_slice.ensures.value)
    ∙ none_of c.wait_of.result (sym c.is_some.ensures ∙ c.if-is_some.false) in
    let told = c.in-Waits.ensures P h x.machine x.replay in
    waits P c.args.code.now c.args.limits h c.args.run.now c.args.seats.now.items x c.args.task c.event.new.self
    (events_of c.make_room.new.history) c.park.new.seats.items r.0 r.1 free c.in-Waits.future told.0.0 told.1
    (ap (map event_of) c.make_room.ensures.same.0)
    (subst (λ s. Parks s c.args.task c.in-Waits.future c.park.new.seats.items) c.make_room.ensures.same.1 c.in-Ok-park.ensures.parked)

pub returns-in-Waits : goal.returns-in-Waits
returns-in-Waits c = λ P typed of x.
    let h = events_of c.args.history.now in
    let r = running_task P c.args.code.now h c.args.run.now x.machine c.args.task x.replay (sym c.runs.ensures ∙ c.if-not-runs.false) in
    let free = sym (c.wait_of.ensures ∙ ap (λ s. waits_for s c.args.task) c.as_slice.ensures.value)
    ∙ none_of c.wait_of.result (sym c.is_some.ensures ∙ c.if-is_some.false) in
    let told = c.in-Waits.ensures P h x.machine x.replay in
    let k = same P c.args.code.now c.args.limits h c.args.run.now c.args.seats.now.items x c.args.task c.event.new.self
    (events_of c.make_room.new.history) c.park.new.seats.items told.1 (ap (map event_of) c.make_room.ensures.same.0)
    (c.in-Err.ensures.unchanged ∙ c.make_room.ensures.same.1) in
    (k.0, (record { task = r.0; running = r.1; free = free }, k.1))

pub returns-in-Spent : goal.returns-in-Spent
returns-in-Spent c = λ P typed of x.
    let h = events_of c.args.history.now in
    let r = running_task P c.args.code.now h c.args.run.now x.machine c.args.task x.replay (sym c.runs.ensures ∙ c.if-not-runs.false) in
    let free = sym (c.wait_of.ensures ∙ ap (λ s. waits_for s c.args.task) c.as_slice.ensures.value)
    ∙ none_of c.wait_of.result (sym c.is_some.ensures ∙ c.if-is_some.false) in
    let told = c.in-Spent.ensures P h x.machine x.replay in
    let k = same P c.args.code.now c.args.limits h c.args.run.now c.args.seats.now.items x c.args.task c.event.new.self
    (events_of c.make_room.new.history) c.make_room.new.seats.items told.1 (ap (map event_of) c.make_room.ensures.same.0) c.make_room.ensures.same.1 in
    (k.0, (record { task = r.0; running = r.1; free = free }, told.0, k.1))
