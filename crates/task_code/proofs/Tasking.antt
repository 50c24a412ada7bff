-- Tasks of flat code are in the states of the definition.
use Rattle.std.proofs.Common.{◌≡◌, ℕ, zero, suc, ◌+◌, ◌<◌, ◌≤◌, ◌⊎◌, inl, inr, Bool, true, false, List, [], ◌∷◌, ◌++◌, refl, sym, ap, ◌∙◌, subst, arith}
use Rattle.std.specs.Prelude.{ℤ, Option, Some, None, slice_get}
use Rattle.std.proofs.lemmas.List.{map-append, append-nil}
use Rattle.fut_base.specs.declared.record.Value.{Value}
use Rattle.fut_base.specs.declared.record.Value.TheVariants.{Int, Fut}
use Rattle.fut_base.specs.declared.record.Entry.{Entry}
use Rattle.fut_base.specs.declared.event.Event.{Event}
use Rattle.fut_base.specs.declared.event.Action.{Action}
use Rattle.fut_base.specs.declared.event.Action.TheVariants.{Reads, Writes, Spawns, Creates, Syncs, Gets, Ends}
use Rattle.fut_base.specs.Dag.{ends}
use Rattle.fut_base.specs.Events.{event_of, action_of}
use Rattle.fut_syntax.specs.Trees as tree
use Rattle.fut_syntax.specs.Trees.{items_of}
use Rattle.task_machine.specs.Variables.{Slot, bound}
use Rattle.task_machine.specs.Texts.{CellArray, TaskText, cell_arrays, tasks_of, task_at, stmts_of}
use Rattle.task_machine.specs.State.{TaskState, Wish, started, read_of, write_of, get_of, end_of, NoWish}
use Rattle.task_machine.specs.State.{ToSpawn, ToCreate, local_step, wish_of, effect_of, start_state, Answers}
use Rattle.task_machine.specs.Runs.{Steps, StandsWithin, GoesOn, StandsAt, Follows, IsStateAfter}
use Rattle.task_types.specs.Typed.{IsTypedState, ArgsFit, ActionFits, any_future}
use Rattle.task_types.proofs.Calling.{start_typed}
use Rattle.task_types.proofs.Wishing.{effect_stays}
use Rattle.task_types.proofs.Wishes.{typed_has_wish}
use Rattle.task_types.proofs.Stepping.{steps_stay}
use Rattle.task_code.specs.declared.code.TaskCode.{TaskCode}
use Rattle.task_frame.specs.declared.instruction.Instruction.{Instruction}
use Rattle.task_frame.specs.declared.instruction.Instruction.TheVariants.{Set, Store, Branch, Spawn, Sync, Return}
use Rattle.task_frame.specs.declared.instruction.Source.{Source}
use Rattle.task_frame.specs.declared.instruction.Source.TheVariants as source
use Rattle.task_code.specs.declared.task.Spot.{Spot}
use Rattle.task_frame.specs.Names.{Holds, rooms_by}
use Rattle.task_code.specs.declared.task.Wish.TheVariants as wish
use Rattle.task_code.specs.declared.task.Wish as declared
use Rattle.task_code.specs.Flat.{Compiled, AreGiven, AreCodesOf, IsCodeOf, code_of}
use Rattle.task_code.specs.Tasks.{TaskNow, Moved, moves, wished, wished_source, passed_by, passed_by_source, where_of, Does, IsEnd, IsIn, IsTaskOf}
use Rattle.task_code.specs.Tasks.{IsTold, Turned, Told, IsStill, StopsAt, Wishes, instruction_of, trace_events, slots_after, spot_after, ended_after}
use Rattle.task_machine.proofs.Stepping.{same_stop}
use Rattle.task_code.proofs.Simulating.{Followed, followed, does_append}
use Rattle.task_code.proofs.Feeding.{fed_in}

-- ---- steps

steps_more : (n : ℕ) (s t u : TaskState) → Steps n s t → local_step t ≡ Some u → Steps (n + 1) s u
steps_more zero s t u h e = (u, subst (λ x. local_step x ≡ Some u) (sym h) e, refl)
steps_more (suc n) s t u (v, first, rest) e =
    subst (λ m. Steps m s u) (let q : suc (n + 1) ≡ suc n + 1 = omega arith in q) (v, first, steps_more n v t u rest e)

steps_before : (limit n : ℕ) (s t : TaskState) → limit ≤ n → Steps n s t → GoesOn limit s
steps_before zero n s t le h = (s, refl)
steps_before (suc limit) zero s t le h = absurd (omega arith)
steps_before (suc limit) (suc n) s t le (v, first, rest) = let r = steps_before limit n v t (omega arith) rest in (r.0, (v, first, r.1))

-- ---- a turn

follows_in : (P : tree.Program) (t : TaskCode) (spot : _) (held : _) (s : TaskState) → IsIn P t spot held s
    → Followed P t s.is_open held s (slice_get t.instructions spot.place) (moves held (slice_get t.instructions spot.place))
follows_in P t spot held s x = followed P t s.is_open held s.vars s.todo spot.place x.vars x.rooms x.todo

pub turned : (P : tree.Program) (code : Compiled) (args : List Value) (old new : TaskNow) (s : TaskState) → old.spot.ended ≡ false
    → IsTaskOf P code args old s → Turned code old new → IsTaskOf P code args new s
turned P code args old new s running x turn =
    let tc = code_of code.tasks old.which in
    let place = x.place running in
    let f = follows_in P tc old.spot old.held place.0 place.2 in
    let m : Moved = record { next = new.spot.place; slots = new.held.slots } in
    let g = subst (Followed P tc place.0.is_open old.held place.0 (instruction_of code old)) turn.moves f in
    record {
      state = subst (λ w. IsStateAfter P w args (trace_events new.trace.items) s) (sym turn.which)
          (subst (λ tr. IsStateAfter P old.which args (trace_events tr.items) s) (sym turn.trace) x.state);
      typed = λ e. subst (λ w. IsTypedState any_future P w s) (sym turn.which) (x.typed running);
      place = λ e. (
        g.0,
        subst (λ n. Steps n s g.0) (sym turn.steps) (steps_more old.spot.steps s place.0 g.0 place.1 g.1),
        subst (λ w. IsIn P (code_of code.tasks w) new.spot new.held g.0) (sym turn.which)
            (record { vars = g.2; rooms = turn.rooms ∙ place.2.rooms; is_open = turn.is_open ∙ place.2.is_open ∙ sym g.4; todo = g.3 }),
      );
    }

-- where a task is still, it stands at an event, and wishes what its instruction does
pub record Stands (P : tree.Program) (code : Compiled) (task : TaskNow) (s : TaskState) : Type 0 where
  pub at : TaskState
  pub steps : Steps task.spot.steps s at
  pub inside : IsIn P (code_of code.tasks task.which) task.spot task.held at
  pub stop : local_step at ≡ None
  pub wish : wish_of P at ≡ wished code.arrays task.held.slots task.spot.is_open (instruction_of code task)

pub stands : (P : tree.Program) (code : Compiled) (args : List Value) (task : TaskNow) (s : TaskState) → IsCodeOf P code → task.spot.ended ≡ false
    → IsTaskOf P code args task s → IsStill code task → Stands P code task s
stands P code args task s is running x still =
    let tc = code_of code.tasks task.which in
    let place = x.place running in
    let g = subst (Followed P tc place.0.is_open task.held place.0 (instruction_of code task)) still (follows_in P tc task.spot task.held place.0 place.2) in
    record {
      at = place.0;
      steps = place.1;
      inside = place.2;
      stop = g.0;
      wish = g.1 ∙ ap (λ b. wished (cell_arrays P) task.held.slots b (instruction_of code task)) (sym place.2.is_open)
          ∙ ap (λ xs. wished xs task.held.slots task.spot.is_open (instruction_of code task)) (sym is.arrays);
    }

pub never_stuck : (P : tree.Program) (code : Compiled) (args : List Value) (task : TaskNow) (s : TaskState) → IsCodeOf P code → task.spot.ended ≡ false
    → IsTaskOf P code args task s → IsStill code task
    → wished code.arrays task.held.slots task.spot.is_open (instruction_of code task) ≡ NoWish → ⊥
never_stuck P code args task s is running x still none =
    let a = stands P code args task s is running x still in
    typed_has_wish any_future P task.which a.at is.typed (steps_stay any_future P task.which task.spot.steps s a.at is.typed (x.typed running) a.steps) a.stop
    (a.wish ∙ none)

-- ---- wishes

told_wishes : (P : tree.Program) (limit : ℕ) (s t : TaskState) (w : declared.Wish) → StandsWithin limit s t → IsTold w (wish_of P t) → Wishes P limit s w
told_wishes P limit s t (wish.Read cell) h e = (t, h, e)
told_wishes P limit s t (wish.Write cell value) h e = (t, h, e)
told_wishes P limit s t (wish.Spawn which) h e = (t, e.0, h, e.1)
told_wishes P limit s t (wish.Create which) h e = (t, e.0, h, e.1)
told_wishes P limit s t wish.Sync h e = (t, h, e)
told_wishes P limit s t (wish.Get future) h e = (t, h, e)
told_wishes P limit s t (wish.End value) h e = (t, h, e)
told_wishes P limit s t wish.Long h e = absurd e

pub wishes : (P : tree.Program) (code : Compiled) (args : List Value) (limit : ℕ) (task : TaskNow) (s : TaskState) (w : declared.Wish) → IsCodeOf P code
    → task.spot.ended ≡ false → IsTaskOf P code args task s → task.spot.steps < limit → Told code task w → Wishes P limit s w
wishes P code args limit task s w is running x below told =
    let a = stands P code args task s is running x told.still in
    told_wishes P limit s a.at w (task.spot.steps, below, a.steps, a.stop) (subst (IsTold w) (sym a.wish) told.wish)

pub goes_on : (P : tree.Program) (code : Compiled) (args : List Value) (limit : ℕ) (task : TaskNow) (s : TaskState) → task.spot.ended ≡ false
    → IsTaskOf P code args task s → limit ≤ task.spot.steps → GoesOn limit s
goes_on P code args limit task s running x le = let place = x.place running in steps_before limit task.spot.steps s place.0 le place.1

pub stops_at : (code : Compiled) (task : TaskNow) (w : declared.Wish) → Told code task w → StopsAt code task w
stops_at code task (wish.Read cell) t = t.still
stops_at code task (wish.Write cell value) t = t.still
stops_at code task (wish.Spawn which) t = t.still
stops_at code task (wish.Create which) t = t.still
stops_at code task wish.Sync t = t.still
stops_at code task (wish.Get future) t = t.still
stops_at code task (wish.End value) t = t.still
stops_at code task wish.Long t = tt

-- the event at which a task stands is the one of its instruction
pub stands_there : (P : tree.Program) (code : Compiled) (args : List Value) (task : TaskNow) (s t : TaskState) → (a : Stands P code task s) → StandsAt s t
    → a.at ≡ t
stands_there P code args task s t a (limit, most, (n, below, steps, stop)) = same_stop task.spot.steps n s a.at t a.steps a.stop steps stop

-- ---- the beginning

starts_at : (P : tree.Program) (texts : List TaskText) (codes : List TaskCode) (n : ℕ) (args : List Value) (slots : List Slot)
    → AreCodesOf (items_of P) texts codes
    → ((ps : List tree.Param) → AreGiven (code_of codes n).names 0 ps (code_of codes n).params → Holds (code_of codes n).names (bound ps args) slots)
    → Holds (code_of codes n).names (started (slice_get texts n) args).vars slots
    × Does (where_of P (code_of codes n)) (code_of codes n).instructions (code_of codes n).entry (started (slice_get texts n) args).todo
starts_at P [] [] n args slots d h = (h [] tt, tt)
starts_at P [] (c ∷ codes) n args slots d h = absurd d
starts_at P (t ∷ texts) [] n args slots d h = absurd d
starts_at P (t ∷ texts) (c ∷ codes) zero args slots d h = (
  h t.params d.0.given,
  subst (λ todo. Does (where_of P c) c.instructions c.entry todo) (append-nil (stmts_of t.body))
      (does_append (where_of P c) c.instructions t.body 0 c.entry [] d.0.does (subst IsEnd (sym d.0.ends) refl)),
)
starts_at P (t ∷ texts) (c ∷ codes) (suc n) args slots d h = starts_at P texts codes n args slots d.1 h

closed : (o : Option TaskText) (args : List Value) → false ≡ (started o args).is_open
closed None args = refl
closed (Some t) args = refl

pub begins : (P : tree.Program) (code : Compiled) (args : List Value) (task : TaskNow) → IsCodeOf P code → ArgsFit any_future P task.which args
    → task.spot ≡ record { place = (code_of code.tasks task.which).entry; is_open = false; ended = false; steps = 0 } → task.trace.items ≡ []
    → task.held.rooms ≡ rooms_by (code_of code.tasks task.which).names →
    ((ps : List tree.Param) → AreGiven (code_of code.tasks task.which).names 0 ps (code_of code.tasks task.which).params
    → Holds (code_of code.tasks task.which).names (bound ps args) task.held.slots)
    → IsTaskOf P code args task (start_state P task.which args)
begins P code args task is fit spot trace rooms holds =
    let s = start_state P task.which args in
    let tc = code_of code.tasks task.which in
    let d = starts_at P (tasks_of P) code.tasks task.which args task.held.slots is.tasks holds in
    record {
      state = subst (λ xs. IsStateAfter P task.which args (trace_events xs) s) (sym trace) refl;
      typed = λ e. start_typed any_future P task.which args is.typed fit;
      place = λ e. (
        s,
        subst (λ (q : Spot). Steps q.steps s s) (sym spot) refl,
        record {
          vars = d.0;
          rooms = rooms;
          is_open = ap (λ (q : Spot). q.is_open) spot ∙ closed (task_at P task.which) args;
          todo = subst (λ (q : Spot). Does (where_of P tc) tc.instructions q.place s.todo) (sym spot) d.1;
        },
      );
    }

-- ---- an entry

follows_more : (P : tree.Program) (s : TaskState) (trace : List Event) (t stop : TaskState) (e : Event) → Follows P s trace t → StandsAt t stop
    → Answers (wish_of P stop) e.action → Follows P s (trace ++ e ∷ []) (effect_of stop e.action)
follows_more P s [] t stop e f at answers = (stop, subst (λ q. StandsAt q stop) (sym f) at, answers, refl)
follows_more P s (x ∷ trace) t stop e (first, there, answered, f) at answers =
    (first, there, answered, follows_more P (effect_of first x.action) trace t stop e f at answers)

not_ended : (ended : Bool) (a : Action) → ended ≡ false → ended_after ended a ≡ false → ends a ≡ false
not_ended ended (Reads c v) h e = refl
not_ended ended (Writes c v) h e = refl
not_ended ended (Spawns n c k t args) h e = refl
not_ended ended (Creates n c k t args) h e = refl
not_ended ended (Syncs t) h e = refl
not_ended ended (Gets f v t) h e = refl
not_ended ended (Ends v) h e = absurd (cc)

pub fed : (P : tree.Program) (code : Compiled) (args : List Value) (old new : TaskNow) (s t : TaskState) (ticket : ℕ) (entry : Entry) → new.which ≡ old.which
    → new.spot ≡ spot_after old.spot (instruction_of code old) (action_of entry.act)
    → new.held.slots ≡ slots_after old.held (instruction_of code old) (action_of entry.act) → new.held.rooms ≡ old.held.rooms
    → new.trace.items ≡ old.trace.items ++ (ticket, entry) ∷ []
    → IsCodeOf P code → IsStill code old → IsTaskOf P code args old s → old.spot.ended ≡ false → StandsAt s t → Answers (wish_of P t) (action_of entry.act)
    → ActionFits any_future P old.which t (action_of entry.act)
    → IsTaskOf P code args new (effect_of t (action_of entry.act))
fed P code args old new s t ticket entry which spot slots rooms trace is still x running at answers fit =
    let a = action_of entry.act in
    let st = stands P code args old s is running x still in
    let same : st.at ≡ t = stands_there P code args old s t st at in
    let stop : local_step t ≡ None = subst (λ q. local_step q ≡ None) same st.stop in
    let inside : IsIn P (code_of code.tasks old.which) old.spot old.held t =
    subst (λ q. IsIn P (code_of code.tasks old.which) old.spot old.held q) same st.inside in
    let kept : IsTypedState any_future P old.which t =
    subst (λ q. IsTypedState any_future P old.which q) same
    (steps_stay any_future P old.which old.spot.steps s st.at is.typed (x.typed running) st.steps) in
    let events : trace_events new.trace.items ≡ trace_events old.trace.items ++ event_of entry ∷ [] =
    ap trace_events trace ∙ map-append (λ (p : ℕ × Entry). event_of p.1) old.trace.items ((ticket, entry) ∷ []) in
    record {
      state =
          subst (λ w. IsStateAfter P w args (trace_events new.trace.items) (effect_of t a)) (sym which)
          (subst (λ es. IsStateAfter P old.which args es (effect_of t a)) (sym events)
          (follows_more P (start_state P old.which args) (trace_events old.trace.items) s t (event_of entry) x.state at answers));
      typed = λ e. subst (λ w. IsTypedState any_future P w (effect_of t a)) (sym which)
          (effect_stays any_future P old.which t a is.typed kept stop answers
          (not_ended old.spot.ended a running (subst (λ (q : Spot). q.ended ≡ false) spot e)) fit);
      place = λ e. (
          let y = fed_in P (code_of code.tasks old.which) old.spot old.held t a inside answers (subst (λ (q : Spot). q.ended ≡ false) spot e) in
          let z =
          subst
          (λ (q : Spot). IsIn P (code_of code.tasks old.which) q
          (record { slots = slots_after old.held (instruction_of code old) a; rooms = old.held.rooms }) (effect_of t a)) (sym spot) y in (
            effect_of t a,
            subst (λ (q : Spot). Steps q.steps (effect_of t a) (effect_of t a)) (sym spot) refl,
            subst (λ w. IsIn P (code_of code.tasks w) new.spot new.held (effect_of t a)) (sym which)
                (record {
                  vars = subst (Holds (code_of code.tasks old.which).names (effect_of t a).vars) (sym slots) z.vars;
                  rooms = rooms ∙ z.rooms;
                  is_open = z.is_open;
                  todo = z.todo;
                }),
          ));
    }

-- ---- arguments

-- a wish to begin a task with these arguments
abbrev Begins : Wish → ℕ → List Value → Type 0
Begins w n args = (w ≡ ToSpawn n args) ⊎ (w ≡ ToCreate n args)

end_begins_not : (b : Bool) (v : Value) (n : ℕ) (args : List Value) → Begins (end_of b v) n args → ⊥
end_begins_not true v n args (inl h) = cc
end_begins_not true v n args (inr h) = cc
end_begins_not false v n args (inl h) = cc
end_begins_not false v n args (inr h) = cc

read_begins_not : (o : Option ℕ) (n : ℕ) (args : List Value) → Begins (read_of o) n args → ⊥
read_begins_not None n args (inl h) = cc
read_begins_not None n args (inr h) = cc
read_begins_not (Some c) n args (inl h) = cc
read_begins_not (Some c) n args (inr h) = cc

write_begins_not : (o : Option ℕ) (z : ℤ) (n : ℕ) (args : List Value) → Begins (write_of o z) n args → ⊥
write_begins_not None z n args (inl h) = cc
write_begins_not None z n args (inr h) = cc
write_begins_not (Some c) z n args (inl h) = cc
write_begins_not (Some c) z n args (inr h) = cc

get_begins_not : (v : Value) (n : ℕ) (args : List Value) → Begins (get_of v) n args → ⊥
get_begins_not (Int z) n args (inl h) = cc
get_begins_not (Int z) n args (inr h) = cc
get_begins_not (Fut f) n args (inl h) = cc
get_begins_not (Fut f) n args (inr h) = cc

source_begins : (arrays : List CellArray) (slots : List Slot) (x : Source) (n : ℕ) (args : List Value) → Begins (wished_source arrays slots x) n args
    → passed_by_source slots x ≡ args
source_begins arrays slots (source.Value t) n args (inl h) = absurd (cc)
source_begins arrays slots (source.Value t) n args (inr h) = absurd (cc)
source_begins arrays slots (source.Element v a t) n args h = absurd (read_begins_not _ n args h)
source_begins arrays slots (source.Get v) n args h = absurd (get_begins_not _ n args h)
source_begins arrays slots (source.Create m ts) n args (inl h) = absurd (cc)
source_begins arrays slots (source.Create m ts) n args (inr h) = cc

begins_with : (arrays : List CellArray) (slots : List Slot) (b : Bool) (o : Option Instruction) (n : ℕ) (args : List Value)
    → Begins (wished arrays slots b o) n args → passed_by slots o ≡ args
begins_with arrays slots b None n args h = absurd (end_begins_not b _ n args h)
begins_with arrays slots b (Some (Set t s next)) n args h = source_begins arrays slots s n args h
begins_with arrays slots b (Some (Store v a e g next)) n args h = absurd (write_begins_not _ _ n args h)
begins_with arrays slots b (Some (Branch t here otherwise)) n args (inl h) = absurd (cc)
begins_with arrays slots b (Some (Branch t here otherwise)) n args (inr h) = absurd (cc)
begins_with arrays slots b (Some (Spawn m ts next)) n args (inl h) = cc
begins_with arrays slots b (Some (Spawn m ts next)) n args (inr h) = absurd (cc)
begins_with arrays slots b (Some (Sync next)) n args (inl h) = absurd (cc)
begins_with arrays slots b (Some (Sync next)) n args (inr h) = absurd (cc)
begins_with arrays slots b (Some (Return t)) n args h = absurd (end_begins_not b _ n args h)

pub passes : (P : tree.Program) (code : Compiled) (given : List Value) (task : TaskNow) (s t : TaskState) (which : ℕ) (args : List Value) → IsCodeOf P code
    → task.spot.ended ≡ false → IsTaskOf P code given task s → IsStill code task → StandsAt s t
    → (wish_of P t ≡ ToSpawn which args) ⊎ (wish_of P t ≡ ToCreate which args) → passed_by task.held.slots (instruction_of code task) ≡ args
passes P code given task s t which args is running x still at h =
    let a = stands P code given task s is running x still in
    let same : wish_of P t ≡ wished code.arrays task.held.slots task.spot.is_open (instruction_of code task) =
    ap (wish_of P) (sym (stands_there P code given task s t a at)) ∙ a.wish in
    begins_with code.arrays task.held.slots task.spot.is_open (instruction_of code task) which args (subst (λ w. Begins w which args) same h)
