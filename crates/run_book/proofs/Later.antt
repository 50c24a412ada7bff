-- Further events of other tasks.
use Rattle.std.proofs.Common.{◌≡◌, ◌≢◌, ℕ, ◌+◌, ◌<◌, ◌≤◌, ◌==◌, Bool, true, false, ◌&&◌, if◌then◌else◌, List, [], ◌∷◌, ◌++◌, inl, inr, refl, sym, ap, ◌∙◌, subst, arith}
use Rattle.std.specs.Prelude.{Option, Some, None, IsSome, nat_lt, filter}
use Rattle.fut_base.specs.declared.record.Value.{Value}
use Rattle.fut_base.specs.declared.event.Event.{Event}
use Rattle.fut_base.specs.declared.event.Action.{Action}
use Rattle.fut_base.specs.declared.event.Action.TheVariants.{Reads, Writes, Spawns, Creates, Syncs, Gets, Ends}
use Rattle.fut_base.specs.Events.{structural}
use Rattle.fut_base.specs.Dag.{Among, ends, last_of, block_after, block_of}
use Rattle.fut_base.specs.Sound.{IsSound, IsSoundPast, MayAct, AllEnded, current, current_by, next_task, value_of, value_by}
use Rattle.fut_base.proofs.Cases.{by_eq}
use Rattle.fut_base.proofs.Members.{among_right}
use Rattle.strand_laws.proofs.Links.{if_off, linked}
use Rattle.event_clock.specs.Rule.{Rises}
use Rattle.run_place.specs.Placed.{events_in}
use Rattle.run_book.specs.Drawn.{of_task, structural_in, past_in, past_below}
use Rattle.run_book.proofs.Tickets.{in_filter, of_filter, rises_across, to_past, of_past}

-- an action of another task moves no task that there was
moves_none : (past : List Event) (by t s : ℕ) (a : Action) → t ≢ by → t < next_task past → MayAct past by a → current_by by a t (Some s) ≡ Some s
moves_none past by t s (Reads _ _) ne lt may = refl
moves_none past by t s (Writes _ _) ne lt may = refl
moves_none past by t s (Spawns _ child kid cont _) ne lt may =
    if_off t by (Some cont) (if t == child then Some kid else Some s) ne ∙ if_off t child (Some kid) (Some s) (λ e. omega (arith, lt, e, may.0))
moves_none past by t s (Creates _ child kid cont _) ne lt may =
    if_off t by (Some cont) (if t == child then Some kid else Some s) ne ∙ if_off t child (Some kid) (Some s) (λ e. omega (arith, lt, e, may.0))
moves_none past by t s (Syncs x) ne lt may = if_off t by (Some x) (Some s) ne
moves_none past by t s (Gets _ _ x) ne lt may = if_off t by (Some x) (Some s) ne
moves_none past by t s (Ends _) ne lt may = refl

last_off : (q t : ℕ) (b : Bool) (x y : Option ℕ) → q ≢ t → (if (q == t) && b then x else y) ≡ y
last_off q t b x y ne = by_eq (λ z. (if z && b then x else y) ≡ y) q t (λ e. absurd (ne e)) (λ _. refl)

-- events of other tasks
abbrev pub AreOfOthers : List Event → ℕ → Type 0
AreOfOthers later t = (d : Event) → Among d later → d.task ≢ t

pub current_later : (later past : List Event) (t s : ℕ) → IsSoundPast (later ++ past) → AreOfOthers later t → current past t ≡ Some s
    → current (later ++ past) t ≡ Some s
current_later [] past t s sound other is = is
current_later (d ∷ later) past t s sound other is =
    let ih = current_later later past t s sound.0 (λ y a. other y (inr a)) is in
    let below : t < next_task (later ++ past) = ((linked (later ++ past) sound.0).cur t s ih).0 in
    let ne : t ≢ d.task = λ e. other d (inl refl) (sym e) in
    ap (λ o. current_by d.task d.action t o) ih ∙ moves_none (later ++ past) d.task t s d.action ne below sound.1.acts

pub last_later : (later past : List Event) (t : ℕ) → AreOfOthers later t → last_of (later ++ past) t ≡ last_of past t
last_later [] past t other = refl
last_later (d ∷ later) past t other =
    last_off t d.task (ends d.action) (Some d.strand) (last_of (later ++ past) t) (λ e. other d (inl refl) (sym e))
    ∙ last_later later past t (λ y a. other y (inr a))

pub block_later : (later past : List Event) (t : ℕ) → AreOfOthers later t → block_of (later ++ past) t ≡ block_of past t
block_later [] past t other = refl
block_later (d ∷ later) past t other =
    if_off t d.task (block_after d.action (block_of (later ++ past) t)) (block_of (later ++ past) t) (λ e. other d (inl refl) (sym e))
    ∙ block_later later past t (λ y a. other y (inr a))

-- ---- what has ended stays so

some_if : {X : Type 0} (b : Bool) (x y : Option X) → IsSome x → IsSome y → IsSome (if b then x else y)
some_if true x y h k = h
some_if false x y h k = k

some_by : (a : Action) (o : Option Value) → IsSome o → IsSome (value_by a o)
some_by (Reads _ _) o h = h
some_by (Writes _ _) o h = h
some_by (Spawns _ _ _ _ _) o h = h
some_by (Creates _ _ _ _ _) o h = h
some_by (Syncs _) o h = h
some_by (Gets _ _ _) o h = h
some_by (Ends _) o h = refl

pub last_more : (later past : List Event) (t : ℕ) → IsSome (last_of past t) → IsSome (last_of (later ++ past) t)
last_more [] past t h = h
last_more (d ∷ later) past t h = some_if ((t == d.task) && ends d.action) (Some d.strand) (last_of (later ++ past) t) refl (last_more later past t h)

pub value_more : (later past : List Event) (t : ℕ) → IsSome (value_of past t) → IsSome (value_of (later ++ past) t)
value_more [] past t h = h
value_more (d ∷ later) past t h =
    let ih = value_more later past t h in
    some_if (t == d.task) (value_by d.action (value_of (later ++ past) t)) (value_of (later ++ past) t) (some_by d.action (value_of (later ++ past) t) ih) ih

pub all_more : (later past : List Event) (ts : List ℕ) → AllEnded past ts → AllEnded (later ++ past) ts
all_more later past [] all = tt
all_more later past (t ∷ ts) all = (last_more later past t all.0, all_more later past ts all.1)

-- ---- a longer list

-- an action of a sound list is structural
acts_structural : (past : List Event) (t : ℕ) (a : Action) → MayAct past t a → structural a ≡ true
acts_structural past t (Reads _ _) may = absurd may
acts_structural past t (Writes _ _) may = absurd may
acts_structural past t (Spawns _ _ _ _ _) may = refl
acts_structural past t (Creates _ _ _ _ _) may = refl
acts_structural past t (Syncs _) may = refl
acts_structural past t (Gets _ _ _) may = refl
acts_structural past t (Ends _) may = refl

past_structural : (past : List Event) (e : Event) → IsSoundPast past → Among e past → structural e.action ≡ true
past_structural [] e sound a = absurd a
past_structural (d ∷ past) e sound (inl same) = subst (λ (x : Event). structural x.action ≡ true) same (acts_structural past d.task d.action sound.1.acts)
past_structural (d ∷ past) e sound (inr a) = past_structural past e sound.0 a

pub all_structural : (book : List (ℕ × Event)) (x : ℕ × Event) → IsSound (events_in book) → Among x book → structural x.1.action ≡ true
all_structural book x sound a = past_structural (past_in book) x.1 sound (to_past x book a)

-- where a trace has all entries of its task, and the known ones are its structural entries, there are no further ones
pub no_more : (known more trace : List (ℕ × Event)) (t : ℕ) → Rises (known ++ more) → IsSound (events_in (known ++ more))
    → of_task t known ≡ structural_in trace → ((x : ℕ × Event) → Among x (known ++ more) → x.1.task ≡ t → Among x trace)
    → (x : ℕ × Event) → Among x more → x.1.task ≢ t
no_more known more trace t rises sound same has x a = λ own.
    let there = among_right x known more a in
    let kept = in_filter (λ (y : ℕ × Event). structural y.1.action) x trace (has x there own) (all_structural (known ++ more) x sound there) in
    let old = of_filter (λ (y : ℕ × Event). y.1.task == t) x known (subst (λ l. Among x l) (sym same) kept) in
    let less = rises_across known more x x rises old.0 a in
    omega (arith, less)

-- entries of other tasks are events of others
pub others_in : (more : List (ℕ × Event)) (t : ℕ) → ((x : ℕ × Event) → Among x more → x.1.task ≢ t) → AreOfOthers (past_in more) t
others_in more t other d a = λ e. let x = of_past d more a in other x.0 x.1 (ap (λ (y : Event). y.task) x.2 ∙ e)

-- the same of those below a ticket
pub others_below : (k : ℕ) (more : List (ℕ × Event)) (t : ℕ) → ((x : ℕ × Event) → Among x more → x.1.task ≢ t) → AreOfOthers (past_below k more) t
others_below k more t other =
    others_in (filter (λ (x : ℕ × Event). nat_lt x.0 k) more) t (λ x a. other x (of_filter (λ (y : ℕ × Event). nat_lt y.0 k) x more a).0)
