-- A task holds the handles in its variables, by the entries of the book; so its next event may follow.
use Rattle.std.proofs.Common.{◌≡◌, ◌≢◌, ℕ, ◌+◌, ◌<◌, Bool, true, false, ◌==◌, ◌||◌, List, [], ◌∷◌, ◌++◌, inl, inr, refl, sym, ap, ◌∙◌, subst, arith, eq-eqb, true≢false}
use Rattle.std.specs.Prelude.{◌&&◌, Option, Some, None}
use Rattle.std.proofs.lemmas.Bool.{and_from, or_left, or_right, cases_Bool}
use Rattle.fut_base.specs.declared.record.Value.{Value}
use Rattle.fut_base.specs.declared.record.Value.TheVariants.{Int, Fut}
use Rattle.fut_base.specs.declared.record.Entry.{Entry}
use Rattle.fut_base.specs.declared.event.Event.{Event}
use Rattle.fut_base.specs.declared.event.Action.{Action}
use Rattle.fut_base.specs.declared.event.Action.TheVariants.{Reads, Writes, Spawns, Creates, Syncs, Gets, Ends}
use Rattle.fut_base.specs.Events.{structural, event_of}
use Rattle.fut_base.specs.Dag.{Among, ends, last_of, block_of, block_after}
use Rattle.fut_base.specs.Sound.{holds_by, holds_handle, is_handle, has_handle, HoldsValue, HoldsValues, IsSoundPast, IsSound, AllEnded, MayAct, MayFollow, next_task, next_strand, current, value_of}
use Rattle.fut_syntax.specs.Trees as tree
use Rattle.task_machine.specs.Texts.{TaskText, task_at}
use Rattle.task_machine.specs.State.{TaskState, Wish, ToGet, ToEnd, started, start_state, wish_of, effect_of, Answers}
use Rattle.task_machine.specs.Runs.{StandsAt, Follows, IsStateAfter}
use Rattle.task_machine.proofs.Stepping.{receives_open}
use Rattle.task_code.specs.Flat.{Compiled}
use Rattle.task_code.specs.Tasks.{TaskNow, trace_events}
use Rattle.strand_tree.specs.declared.strand.Strand.{Strand}
use Rattle.strand_laws.proofs.Links.{if_self, if_off, ev}
use Rattle.run_laws.proofs.Mirrored.{NotMade}
use Rattle.run_laws.proofs.Handles.{Each, InAll, HandsOut, brings, each_more, all_more, start_all, stands_all, wish_all, effect_all}
use Rattle.run_laws.proofs.Holding.{is_filled, numbers}
use Rattle.run_place.specs.Placed.{events_in}
use Rattle.run_book.specs.Drawn.{drawn_of, structural_in, past_in}
use Rattle.run_book.specs.Jobs.{Makes, StartsAs, Stands, IsTraceBy, NoneEnds, IsTaskIn}
use Rattle.run_book.proofs.Drawn.{among_filter, filter_among, reverse_among, past_event, event_drawn, drawn_event, block_by, block_in, block_structural}
use Rattle.run_book.proofs.Starting.{acting_below, acts_below, made_range, starts_in, not_ended}

-- ---- what is held stays held

pub not_made : (past : List Event) (by : ℕ) (a : Action) (t : ℕ) → MayAct past by a → t < next_task past → NotMade a t
not_made past by (Reads _ _) t may below = tt
not_made past by (Writes _ _) t may below = tt
not_made past by (Spawns _ child _ _ _) t may below = λ e. omega (arith, below, e, may.0)
not_made past by (Creates _ child _ _ _) t may below = λ e. omega (arith, below, e, may.0)
not_made past by (Syncs _) t may below = tt
not_made past by (Gets _ _ _) t may below = tt
not_made past by (Ends _) t may below = tt

held_on : (by t f : ℕ) (a : Action) (old : Bool) → NotMade a t → old ≡ true → holds_by by a t f old ≡ true
held_on by t f (Reads _ _) old nm h = h
held_on by t f (Writes _ _) old nm h = h
held_on by t f (Spawns _ child _ _ args) old nm h = if_off t child (has_handle f args) old nm ∙ h
held_on by t f (Creates _ child _ _ args) old nm h =
    if_off t child (has_handle f args) (((t == by) && (f == child)) || old) nm ∙ or_right ((t == by) && (f == child)) old h
held_on by t f (Syncs _) old nm h = h
held_on by t f (Gets _ value _) old nm h = or_right ((t == by) && is_handle f value) old h
held_on by t f (Ends _) old nm h = h

value_on : (past : List Event) (e : Event) (t : ℕ) → MayFollow past e → t < next_task past → (v : Value) → HoldsValue past t v → HoldsValue (e ∷ past) t v
value_on past e t may below (Int z) h = tt
value_on past e t may below (Fut f) h = held_on e.task t f e.action (holds_handle past t f) (not_made past e.task e.action t may.acts below) h

-- ---- what an event brings its task is held

got : (past : List Event) (t s f : ℕ) (v : Value) (x : ℕ) → HoldsValue (ev t s (Gets f v x) ∷ past) t v
got past t s f (Int z) x = tt
got past t s f (Fut g) x = or_left ((t == t) && (g == g)) (holds_handle past t g) (and_from (t == t) (g == g) (eq-eqb t t refl) (eq-eqb g g refl))

brought : (past : List Event) (t s : ℕ) (a : Action) → NotMade a t → HoldsValue (ev t s a ∷ past) t (brings a)
brought past t s (Reads _ _) nm = tt
brought past t s (Writes _ _) nm = tt
brought past t s (Spawns _ _ _ _ _) nm = tt
brought past t s (Creates _ child _ _ args) nm =
    if_off t child (has_handle child args) (((t == t) && (child == child)) || holds_handle past t child) nm
    ∙ or_left ((t == t) && (child == child)) (holds_handle past t child) (and_from (t == t) (child == child) (eq-eqb t t refl) (eq-eqb child child refl))
brought past t s (Syncs _) nm = tt
brought past t s (Gets f value x) nm = got past t s f value x
brought past t s (Ends _) nm = tt

brought_in : (past : List Event) → IsSoundPast past → (e : Event) → Among e past → HoldsValue past e.task (brings e.action)
brought_in [] sound e a = absurd a
brought_in (d ∷ past) sound e (inl same) =
    subst (λ (z : Event). HoldsValue (d ∷ past) z.task (brings z.action)) same
    (brought past d.task d.strand d.action (not_made past d.task d.action d.task sound.1.acts (acting_below past sound.0 d sound.1)))
brought_in (d ∷ past) sound e (inr a) = value_on past d e.task sound.1 (acts_below past sound.0 e a) (brings e.action) (brought_in past sound.0 e a)

-- ---- a task that begins holds its arguments

abbrev Given : List Value → Value → Type 0
Given args v = (f : ℕ) → is_handle f v ≡ true → has_handle f args ≡ true

given : (args : List Value) → Each (Given args) args
given [] = tt
given (v ∷ args) = (
  (λ f h. or_left (is_handle f v) (has_handle f args) h),
  each_more (Given args) (Given (v ∷ args)) (λ w g f h. or_right (is_handle f v) (has_handle f args) (g f h)) args (given args),
)

spawn_given : (past : List Event) (by s code child kid cont : ℕ) (args : List Value) (v : Value) → Given args v
    → HoldsValue (ev by s (Spawns code child kid cont args) ∷ past) child v
spawn_given past by s code child kid cont args (Int z) g = tt
spawn_given past by s code child kid cont args (Fut f) g = if_self child (has_handle f args) (holds_handle past child f) ∙ g f (eq-eqb f f refl)

create_given : (past : List Event) (by s code child kid cont : ℕ) (args : List Value) (v : Value) → Given args v
    → HoldsValue (ev by s (Creates code child kid cont args) ∷ past) child v
create_given past by s code child kid cont args (Int z) g = tt
create_given past by s code child kid cont args (Fut f) g =
    if_self child (has_handle f args) (((child == by) && (f == child)) || holds_handle past child f) ∙ g f (eq-eqb f f refl)

made_given : (past : List Event) (by s : ℕ) (a : Action) (t which : ℕ) (args : List Value) → Makes a t which args → Each (HoldsValue (ev by s a ∷ past) t) args
made_given past by s (Reads _ _) t which args m = absurd m
made_given past by s (Writes _ _) t which args m = absurd m
made_given past by s (Spawns code child kid cont xs) t which args (child_is, code_is, args_is) =
    let now : List Event = ev by s (Spawns code child kid cont xs) ∷ past in
    subst (λ z. Each (HoldsValue now z) args) child_is
    (subst (λ vs. Each (HoldsValue now child) vs) args_is
    (each_more (Given xs) (HoldsValue now child) (spawn_given past by s code child kid cont xs) xs (given xs)))
made_given past by s (Creates code child kid cont xs) t which args (child_is, code_is, args_is) =
    let now : List Event = ev by s (Creates code child kid cont xs) ∷ past in
    subst (λ z. Each (HoldsValue now z) args) child_is
    (subst (λ vs. Each (HoldsValue now child) vs) args_is
    (each_more (Given xs) (HoldsValue now child) (create_given past by s code child kid cont xs) xs (given xs)))
made_given past by s (Syncs _) t which args m = absurd m
made_given past by s (Gets _ _ _) t which args m = absurd m
made_given past by s (Ends _) t which args m = absurd m

given_in : (past : List Event) → IsSoundPast past → (e : Event) → Among e past → (t which : ℕ) (args : List Value) → Makes e.action t which args
    → Each (HoldsValue past t) args
given_in [] sound e a t which args m = absurd a
given_in (d ∷ past) sound e (inl same) t which args m =
    made_given past d.task d.strand d.action t which args (subst (λ (z : Event). Makes z.action t which args) (sym same) m)
given_in (d ∷ past) sound e (inr a) t which args m =
    each_more (HoldsValue past t) (HoldsValue (d ∷ past) t) (value_on past d t sound.1 (made_range past sound.0 e a t which args m).1) args
    (given_in past sound.0 e a t which args m)

starts_given : (P : tree.Program) (past : List Event) → IsSoundPast past → (t which : ℕ) (args : List Value) → StartsAs P past t which args
    → Each (HoldsValue past t) args
starts_given P past sound t which args (inl x) = subst (λ vs. Each (HoldsValue past t) vs) (sym x.2) tt
starts_given P past sound t which args (inr (e, a, m)) = given_in past sound e a t which args m

-- ---- the state of a task

-- a task's variables have no handle that it does not hold, and it knows whether its block is open
pub record IsHolding (past : List Event) (t : ℕ) (block : List ℕ) (s : TaskState) : Type 0 where
  pub is_open : s.is_open ≡ is_filled block
  pub vars : InAll (HoldsValue past t) s.vars

filled_end : (b : List ℕ) (c : ℕ) → true ≡ is_filled (b ++ c ∷ [])
filled_end [] c = refl
filled_end (x ∷ b) c = refl

effect_open : (s : TaskState) (a : Action) (block : List ℕ) → s.is_open ≡ is_filled block → (effect_of s a).is_open ≡ is_filled (block_after a block)
effect_open s (Reads _ value) block h = receives_open s s.todo (Int value) ∙ h
effect_open s (Writes _ _) block h = h
effect_open s (Spawns _ child _ _ _) block h = filled_end block child
effect_open s (Creates _ child _ _ _) block h = receives_open s s.todo (Fut child) ∙ h
effect_open s (Syncs _) block h = refl
effect_open s (Gets _ value _) block h = receives_open s s.todo value ∙ h
effect_open s (Ends _) block h = h

holding_at : (past : List Event) (t : ℕ) (block : List ℕ) (s at : TaskState) → StandsAt s at → IsHolding past t block s → IsHolding past t block at
holding_at past t block s at stands h =
    let k = stands_all (HoldsValue past t) (numbers past t) s at h.vars stands in record { is_open = k.0 ∙ h.is_open; vars = k.1 }

holding_follows : (P : tree.Program) (past : List Event) (t : ℕ) (trace : List (ℕ × Event)) (block : List ℕ)
    → ((x : ℕ × Event) → Among x trace → HoldsValue past t (brings x.1.action)) → (s u : TaskState) → IsHolding past t block s
    → Follows P s (events_in trace) u → IsHolding past t (block_by block trace) u
holding_follows P past t [] block f s u h way = subst (λ z. IsHolding past t block z) way h
holding_follows P past t (x ∷ xs) block f s u h (at, stands, answers, rest) =
    let k = holding_at past t block s at stands h in
    holding_follows P past t xs (block_after x.1.action block) (λ y a. f y (inr a)) (effect_of at x.1.action) u
    (record {
      is_open = effect_open at x.1.action block k.is_open;
      vars = effect_all (HoldsValue past t) (numbers past t) at x.1.action k.vars (f x (inl refl));
    })
    rest

started_open : (o : Option TaskText) (args : List Value) → (started o args).is_open ≡ false
started_open None args = refl
started_open (Some t) args = refl

brings_none : (past : List Event) (t : ℕ) (a : Action) → structural a ≡ false → HoldsValue past t (brings a)
brings_none past t (Reads _ _) off = tt
brings_none past t (Writes _ _) off = tt
brings_none past t (Spawns _ _ _ _ _) off = tt
brings_none past t (Creates _ _ _ _ _) off = absurd (true≢false off)
brings_none past t (Syncs _) off = tt
brings_none past t (Gets _ _ _) off = absurd (true≢false off)
brings_none past t (Ends _) off = tt

-- a structural entry of a task's trace is in the book
pub in_book : (book : List (ℕ × Event)) (t : ℕ) (trace : List (ℕ × Event)) → IsTraceBy book t trace → (x : ℕ × Event) → Among x trace
    → structural x.1.action ≡ true → Among x book
in_book book t trace traced x a st =
    (filter_among (λ (y : ℕ × Event). y.1.task == t) x book
    (subst (Among x) (sym traced.structural) (among_filter (λ (y : ℕ × Event). structural y.1.action) x trace a st))).0

module _ (P : tree.Program) (book : List (ℕ × Event)) (sound : IsSound (events_in book)) (t which : ℕ) (args : List Value) (trace : List (ℕ × Event))
    (traced : IsTraceBy book t trace) (starts : StartsAs P (events_in book) t which args) where
  trace_brings : (x : ℕ × Event) → Among x trace → HoldsValue (past_in book) t (brings x.1.action)
  trace_brings x a = elim (cases_Bool (structural x.1.action)) [
    | inl on ↦
        subst (λ (n : ℕ). HoldsValue (past_in book) n (brings x.1.action)) (traced.entries x a).own
        (brought_in (past_in book) sound x.1 (past_event x.1 book (drawn_event x book (in_book book t trace traced x a on))))
    | inr off ↦ brings_none (past_in book) t x.1.action off
  ]

  -- the state of a task after its trace has only handles that it holds by the book
  pub holding_in : (s : TaskState) → IsStateAfter P which args (events_in trace) s → IsHolding (past_in book) t (block_of (past_in book) t) s
  holding_in s way =
      let past : List Event = past_in book in
      let begins : StartsAs P past t which args = starts_in P (events_in book) past t which args (λ e a. past_event e book a) starts in
      let first : IsHolding past t [] (start_state P which args) = record {
        is_open = started_open (task_at P which) args;
        vars = start_all (HoldsValue past t) (numbers past t) P which args (starts_given P past sound t which args begins);
      } in
      let block : block_of past t ≡ block_by [] trace = block_in t book ∙ ap (λ l. block_by [] l) traced.structural ∙ block_structural [] trace in
      subst (λ l. IsHolding past t l s) (sym block) (holding_follows P past t trace [] trace_brings (start_state P which args) s first way)

-- ---- its next event

-- the numbers in an action are the next ones, and what it waits for has ended
abbrev pub IsNext : List Event → ℕ → Action → Type 0
IsNext past t (Spawns _ child kid cont _) = (child ≡ next_task past) × (kid ≡ next_strand past) × (cont ≡ kid + 1)
IsNext past t (Creates _ child kid cont _) = (child ≡ next_task past) × (kid ≡ next_strand past) × (cont ≡ kid + 1)
IsNext past t (Syncs strand) = (strand ≡ next_strand past) × AllEnded past (block_of past t)
IsNext past t (Gets future value strand) = (strand ≡ next_strand past) × (value_of past future ≡ Some value)
IsNext past t _ = Unit {0}

each_held : (past : List Event) (t : ℕ) (vs : List Value) → Each (HoldsValue past t) vs → HoldsValues past t vs
each_held past t [] h = tt
each_held past t (v ∷ vs) h = (h.0, each_held past t vs h.1)

not_filled : (b : List ℕ) → is_filled b ≡ false → b ≡ []
not_filled [] h = refl
not_filled (x ∷ b) h = absurd (true≢false h)

may_act : (past : List Event) (t : ℕ) (b : Bool) → b ≡ is_filled (block_of past t) → (w : Wish) → HandsOut (HoldsValue past t) b w → (a : Action)
    → structural a ≡ true → Answers w a → IsNext past t a → MayAct past t a
may_act past t b closed w out (Reads _ _) st is next = absurd (true≢false (sym st))
may_act past t b closed w out (Writes _ _) st is next = absurd (true≢false (sym st))
may_act past t b closed w out (Spawns code child kid cont args) st is next = (
  next.0,
  next.1,
  next.2,
  each_held past t args (subst (λ (z : Wish). HandsOut (HoldsValue past t) b z) is out),
)
may_act past t b closed w out (Creates code child kid cont args) st is next = (
  next.0,
  next.1,
  next.2,
  each_held past t args (subst (λ (z : Wish). HandsOut (HoldsValue past t) b z) is out),
)
may_act past t b closed w out (Syncs strand) st is next = next
may_act past t b closed w out (Gets future value strand) st is next = (
  next.0,
  next.1,
  subst (λ (z : Wish). HandsOut (HoldsValue past t) b z) is out,
)
may_act past t b closed w out (Ends value) st is next =
    let o : HandsOut (HoldsValue past t) b (ToEnd value) = subst (λ (z : Wish). HandsOut (HoldsValue past t) b z) is out in
    (not_filled (block_of past t) (sym closed ∙ o.1), o.0)

-- the events of a trace
pub events_drawn : (items : List (ℕ × Entry)) → events_in (drawn_of items) ≡ trace_events items
events_drawn [] = refl
events_drawn (x ∷ items) = ap (λ l. event_of x.1 ∷ l) (events_drawn items)

-- a task with no end in its trace has not ended by the book
pub runs_by : (book : List (ℕ × Event)) (t : ℕ) (trace : List (ℕ × Event)) → IsTraceBy book t trace → NoneEnds trace → last_of (past_in book) t ≡ None
runs_by book t trace traced none =
    not_ended (past_in book) t
    (λ e a own. (
    let d = event_drawn e book (reverse_among e (events_in book) a) in
    let mine : d.0.1.task ≡ t = ap (λ (z : Event). z.task) d.2 ∙ own in
    let there : Among d.0 (structural_in trace) =
    subst (Among d.0) traced.structural (among_filter (λ (y : ℕ × Event). y.1.task == t) d.0 book d.1 (eq-eqb d.0.1.task t mine)) in
    subst (λ (z : Event). ends z.action ≡ false) d.2 (none d.0 (filter_among (λ (y : ℕ × Event). structural y.1.action) d.0 trace there).0)))

-- an event of a task that stands at the wish which it answers may follow the book
pub may_follow : (code : Compiled) (book : List (ℕ × Event)) (task : TaskNow) (at : Strand) (table : List Strand) (pace : ℕ) (e : Event)
    → IsSound (events_in book) → IsTaskIn code book task at table pace → e.task ≡ task.number → e.strand ≡ at.number → structural e.action ≡ true
    → IsNext (past_in book) task.number e.action → Stands code task (λ P w. Answers w e.action) → MayFollow (past_in book) e
may_follow code book task at table pace e sound is own on st next stands =
    let past : List Event = past_in book in
    let n : ℕ = task.number in
    let P : tree.Program = is.program.0 in
    let (args, s, starts, state) = is.started P is.program.1.typed is.program.1 in
    let (stop, at_event, answers) = stands P args s is.program.1.typed is.program.1 state in
    let trace : List (ℕ × Event) = drawn_of task.trace.items in
    let way : IsStateAfter P task.which args (events_in trace) s =
    subst (λ (l : List Event). IsStateAfter P task.which args l s) (sym (events_drawn task.trace.items)) state.state in
    let h = holding_at past n (block_of past n) s stop at_event (holding_in P book sound n task.which args trace is.trace starts s way) in
    let out : HandsOut (HoldsValue past n) stop.is_open (wish_of P stop) = wish_all (HoldsValue past n) (numbers past n) P stop h.vars in
    let acts : MayAct past n e.action = may_act past n stop.is_open h.is_open (wish_of P stop) out e.action st answers next in
    record {
      stands = subst (λ t. current past t ≡ Some e.strand) (sym own) (is.strand ∙ ap (λ v. Some v) (sym on));
      running = subst (λ t. last_of past t ≡ None) (sym own) (runs_by book n trace is.trace is.unended);
      acts = subst (λ t. MayAct past t e.action) (sym own) acts;
    }

-- a task holds the handle of the future that it wishes to get
pub get_held : (code : Compiled) (book : List (ℕ × Event)) (task : TaskNow) (at : Strand) (table : List Strand) (pace future : ℕ) → IsSound (events_in book)
    → IsTaskIn code book task at table pace → Stands code task (λ P w. w ≡ ToGet future) → holds_handle (past_in book) task.number future ≡ true
get_held code book task at table pace future sound is stands =
    let past : List Event = past_in book in
    let n : ℕ = task.number in
    let P : tree.Program = is.program.0 in
    let (args, s, starts, state) = is.started P is.program.1.typed is.program.1 in
    let (stop, at_event, wish_is) = stands P args s is.program.1.typed is.program.1 state in
    let trace : List (ℕ × Event) = drawn_of task.trace.items in
    let way : IsStateAfter P task.which args (events_in trace) s =
    subst (λ (l : List Event). IsStateAfter P task.which args l s) (sym (events_drawn task.trace.items)) state.state in
    let h = holding_at past n (block_of past n) s stop at_event (holding_in P book sound n task.which args trace is.trace starts s way) in
    let out : HandsOut (HoldsValue past n) stop.is_open (wish_of P stop) = wish_all (HoldsValue past n) (numbers past n) P stop h.vars in
    subst (λ (z : Wish). HandsOut (HoldsValue past n) stop.is_open z) wish_is out
