-- The values in the entries of the book fit the program, and go on to fit with one more entry.
use Rattle.std.proofs.Common.{◌≡◌, ℕ, ◌<◌, ◌==◌, Bool, true, false, ◌||◌, List, [], ◌∷◌, ◌++◌, ◌⊎◌, inl, inr, refl, sym, ap, ◌∙◌, subst, eqb-true, eq-eqb, true≢false}
use Rattle.std.specs.Prelude.{◌&&◌, Option, Some, None, reverse}
use Rattle.std.proofs.lemmas.Option.{same_Some}
use Rattle.std.proofs.lemmas.Bool.{and_from, or_left, or_right, cases_Bool}
use Rattle.fut_base.proofs.Members.{among_left, among_right, among_split}
use Rattle.fut_base.specs.declared.record.Value.{Value}
use Rattle.fut_base.specs.declared.event.Event.{Event}
use Rattle.fut_base.specs.declared.event.Action.{Action}
use Rattle.fut_base.specs.declared.event.Action.TheVariants.{Reads, Writes, Spawns, Creates, Syncs, Gets, Ends}
use Rattle.fut_base.specs.Events.{structural}
use Rattle.fut_base.specs.Dag.{Among, ends}
use Rattle.fut_base.specs.Sound.{IsSound, MayFollow, MayAct, next_task, value_of}
use Rattle.fut_syntax.specs.Trees as tree
use Rattle.fut_check.specs.Items.{IsWellTyped}
use Rattle.task_machine.specs.Texts.{main_of}
use Rattle.task_machine.specs.State.{TaskState, ToSpawn, ToCreate, ToGet, ToEnd, local_step, start_state, wish_of, effect_of, Answers}
use Rattle.task_machine.specs.Runs.{StandsAt, Follows, IsStateAfter}
use Rattle.task_types.specs.Typed.{Text, text_at, Fits, ArgsFit, ActionFits, IsTypedState}
use Rattle.task_types.specs.Running.{has_depth, Grows, Passes}
use Rattle.task_types.proofs.Growing.{fits_on, args_on}
use Rattle.task_types.proofs.Mains.{main_fits}
use Rattle.task_types.proofs.Stepping.{steps_stay}
use Rattle.task_types.proofs.Calling.{start_typed}
use Rattle.task_types.proofs.Wishing.{effect_stays}
use Rattle.task_types.proofs.Wishes.{wished_args_fit, wished_end_fits, wished_get_fits}
use Rattle.run_place.specs.Placed.{events_in}
use Rattle.run_book.specs.Jobs.{Makes, StartsAs, gives_by, gives_in, IsResultOf, FitsProgram, IsTraceBy, NoneEnds}
use Rattle.run_book.proofs.Drawn.{among_reverse, reverse_among, drawn_event, last_or}
use Rattle.run_book.proofs.Starting.{acting_below, acts_below, starts_one, starts_less, ended_as, got_below}
use Rattle.run_book.proofs.Handles.{in_book}

-- ---- what a future gives

-- a future of which some events say that it gives values of this depth is a task that starts so
pub record IsGiven (P : tree.Program) (events : List Event) (f d : ℕ) : Type 0 where
  pub which : ℕ
  pub args : List Value
  pub starts : StartsAs P events f which args
  pub text : Text
  pub is : text_at P which ≡ Some text
  pub depth : text.depth ≡ d

depth_is : (d : ℕ) (o : Option Text) → has_depth d o ≡ true → (t : Text) × (o ≡ Some t) × (t.depth ≡ d)
depth_is d None h = absurd (true≢false (sym h))
depth_is d (Some t) h = (t, refl, eqb-true t.depth d h)

both_true : (a b : Bool) → (a && b) ≡ true → (a ≡ true) × (b ≡ true)
both_true true true h = (refl, refl)
both_true true false h = absurd (true≢false (sym h))
both_true false b h = absurd (true≢false (sym h))

either_true : (a b : Bool) → (a || b) ≡ true → (a ≡ true) ⊎ (b ≡ true)
either_true true b h = inl refl
either_true false b h = inr h

given_here : (P : tree.Program) (events : List Event) (e : Event) (a : Action) (f d : ℕ) → Among e events → e.action ≡ a → gives_by P a f d ≡ true
    → IsGiven P events f d
given_here P events e (Reads _ _) f d there is h = absurd (true≢false (sym h))
given_here P events e (Writes _ _) f d there is h = absurd (true≢false (sym h))
given_here P events e (Spawns _ _ _ _ _) f d there is h = absurd (true≢false (sym h))
given_here P events e (Creates code child kid cont args) f d there is h =
    let k = both_true (child == f) (has_depth d (text_at P code)) h in
    let t = depth_is d (text_at P code) k.1 in
    let made : Makes e.action f code args = subst (λ (x : Action). Makes x f code args) (sym is) (eqb-true child f k.0, refl, refl) in
    record { which = code; args = args; starts = inr (e, there, made); text = t.0; is = t.1; depth = t.2 }
given_here P events e (Syncs _) f d there is h = absurd (true≢false (sym h))
given_here P events e (Gets _ _ _) f d there is h = absurd (true≢false (sym h))
given_here P events e (Ends _) f d there is h = absurd (true≢false (sym h))

given_among : (P : tree.Program) (all events : List Event) → ((e : Event) → Among e events → Among e all) → (f d : ℕ) → gives_in P events f d ≡ true
    → IsGiven P all f d
given_among P all [] sub f d h = absurd (true≢false (sym h))
given_among P all (e ∷ events) sub f d h = elim (either_true (gives_by P e.action f d) (gives_in P events f d) h) [
  | inl now ↦ given_here P all e e.action f d (sub e (inl refl)) refl now
  | inr old ↦ given_among P all events (λ x a. sub x (inr a)) f d old
]

pub is_given : (P : tree.Program) (events : List Event) (f d : ℕ) → gives_in P events f d ≡ true → IsGiven P events f d
is_given P events f d h = given_among P events events (λ e a. a) f d h

-- a future that an event creates gives what its text says
pub created_gives : (P : tree.Program) (events : List Event) (e : Event) (code child kid cont : ℕ) (args : List Value) (t : Text) → Among e events
    → e.action ≡ Creates code child kid cont args → text_at P code ≡ Some t → gives_in P events child t.depth ≡ true
created_gives P [] e code child kid cont args t a is text = absurd a
created_gives P (d ∷ events) e code child kid cont args t (inl same) is text =
    or_left (gives_by P d.action child t.depth) (gives_in P events child t.depth)
    (ap (λ x. gives_by P x child t.depth) (ap (λ (z : Event). z.action) same ∙ is)
    ∙ and_from (child == child) (has_depth t.depth (text_at P code)) (eq-eqb child child refl)
    (ap (has_depth t.depth) text ∙ eq-eqb t.depth t.depth refl))
created_gives P (d ∷ events) e code child kid cont args t (inr a) is text =
    or_right (gives_by P d.action child t.depth) (gives_in P events child t.depth) (created_gives P events e code child kid cont args t a is text)

pub gives_more : (P : tree.Program) (xs ys : List Event) → Grows (gives_in P xs) (gives_in P (xs ++ ys))
gives_more P [] ys f d h = absurd (true≢false (sym h))
gives_more P (x ∷ xs) ys f d h = elim (either_true (gives_by P x.action f d) (gives_in P xs f d) h) [
  | inl now ↦ or_left (gives_by P x.action f d) (gives_in P (xs ++ ys) f d) now
  | inr old ↦ or_right (gives_by P x.action f d) (gives_in P (xs ++ ys) f d) (gives_more P xs ys f d old)
]

-- ---- the state of a task

-- what a get of a future gives fits, where the value is one that the future's task may end with
pub get_fits : (P : tree.Program) (events : List Event) (which : ℕ) (at : TaskState) (f : ℕ) (v : Value) (strand : ℕ) → IsWellTyped P
    → IsTypedState (gives_in P events) P which at → local_step at ≡ None → wish_of P at ≡ ToGet f → IsResultOf P events f v
    → ActionFits (gives_in P events) P which at (Gets f v strand)
get_fits P events which at f v strand typed state stop wish result = λ d depth. (
    let g = is_given P events f d (wished_get_fits (gives_in P events) P which at f d typed state stop wish depth) in
    subst (λ n. Fits (gives_in P events) n v) g.depth (result g.which g.args g.text g.starts g.is))

-- what an action gives its task fits, where it is in the list if it is structural
action_fits : (P : tree.Program) (events : List Event) → FitsProgram P events → IsWellTyped P → (e : Event) (a : Action) → e.action ≡ a
    → (structural a ≡ true → Among e events) → (which : ℕ) (at : TaskState) → IsTypedState (gives_in P events) P which at → local_step at ≡ None
    → Answers (wish_of P at) a → ActionFits (gives_in P events) P which at a
action_fits P events fits typed e (Reads _ _) is there which at state stop answers = tt
action_fits P events fits typed e (Writes _ _) is there which at state stop answers = tt
action_fits P events fits typed e (Spawns _ _ _ _ _) is there which at state stop answers = tt
action_fits P events fits typed e (Creates code child kid cont args) is there which at state stop answers =
    λ t text. created_gives P events e code child kid cont args t (there refl) is text
action_fits P events fits typed e (Syncs _) is there which at state stop answers = tt
action_fits P events fits typed e (Gets f v strand) is there which at state stop answers =
    get_fits P events which at f v strand typed state stop answers (fits.got e f v strand (there refl) is)
action_fits P events fits typed e (Ends _) is there which at state stop answers = tt

pub typed_at : (P : tree.Program) (gives : ℕ → ℕ → Bool) (which : ℕ) (s at : TaskState) → IsWellTyped P → StandsAt s at → IsTypedState gives P which s
    → IsTypedState gives P which at × (local_step at ≡ None)
typed_at P gives which s at typed (limit, most, (n, below, steps, stop)) state = (steps_stay gives P which n s at typed state steps, stop)

typed_follows : (P : tree.Program) (events : List Event) → FitsProgram P events → IsWellTyped P → (which : ℕ) (trace : List (ℕ × Event))
    → ((x : ℕ × Event) → Among x trace → structural x.1.action ≡ true → Among x.1 events) → NoneEnds trace
    → (s u : TaskState) → IsTypedState (gives_in P events) P which s → Follows P s (events_in trace) u → IsTypedState (gives_in P events) P which u
typed_follows P events fits typed which [] there none s u state way = subst (λ z. IsTypedState (gives_in P events) P which z) way state
typed_follows P events fits typed which (x ∷ xs) there none s u state (at, stands, answers, rest) =
    let k = typed_at P (gives_in P events) which s at typed stands state in
    typed_follows P events fits typed which xs (λ y a. there y (inr a)) (λ y a. none y (inr a)) (effect_of at x.1.action) u
    (effect_stays (gives_in P events) P which at x.1.action typed k.0 k.1 answers (none x (inl refl))
    (action_fits P events fits typed x.1 x.1.action refl (λ st. there x (inl refl) st) which at k.0 k.1 answers))
    rest

-- the arguments with which a task starts fit
pub starts_fit : (P : tree.Program) (events : List Event) → FitsProgram P events → IsWellTyped P → (t which : ℕ) (args : List Value)
    → StartsAs P events t which args → ArgsFit (gives_in P events) P which args
starts_fit P events fits typed t which args (inl x) =
    subst (λ w. ArgsFit (gives_in P events) P w args) x.1 (subst (λ vs. ArgsFit (gives_in P events) P (main_of P) vs) (sym x.2) (main_fits (gives_in P events) P typed))
starts_fit P events fits typed t which args (inr (e, a, m)) = fits.passed e which args a (passes e.action m)
  where
    passes : (b : Action) → Makes b t which args → Passes b which args
    passes (Reads _ _) h = absurd h
    passes (Writes _ _) h = absurd h
    passes (Spawns _ _ _ _ _) h = (h.1, h.2)
    passes (Creates _ _ _ _ _) h = (h.1, h.2)
    passes (Syncs _) h = absurd h
    passes (Gets _ _ _) h = absurd h
    passes (Ends _) h = absurd h

-- the state of a task keeps the type rules, by the futures that the book creates
pub typed_in : (P : tree.Program) (book : List (ℕ × Event)) → FitsProgram P (events_in book) → IsWellTyped P → (t which : ℕ) (args : List Value)
    (trace : List (ℕ × Event)) → IsTraceBy book t trace → NoneEnds trace → StartsAs P (events_in book) t which args → (s : TaskState)
    → IsStateAfter P which args (events_in trace) s → IsTypedState (gives_in P (events_in book)) P which s
typed_in P book fits typed t which args trace traced none starts s way =
    let gives = gives_in P (events_in book) in
    typed_follows P (events_in book) fits typed which trace (λ x a st. drawn_event x book (in_book book t trace traced x a st)) none (start_state P which args) s
    (start_typed gives P which args typed (starts_fit P (events_in book) fits typed t which args starts)) way

-- ---- one more event

module _ (P : tree.Program) (s : List Event) (e : Event) (sound : IsSound s) (may : MayFollow (reverse s) e) where
  -- what a task that was there may end with, it may still
  result_on : (t : ℕ) (v : Value) → t < next_task (reverse s) → IsResultOf P s t v → IsResultOf P (s ++ e ∷ []) t v
  result_on t v below result =
      λ which args text starts is.
      fits_on (gives_in P s) (gives_in P (s ++ e ∷ [])) text.depth v (gives_more P s (e ∷ [])) (result which args text (starts_less P s e t which args may below starts) is)

  -- the end of a future's task gives the value that a get gives
  pub ended_result : FitsProgram P s → (f : ℕ) (v : Value) → value_of (reverse s) f ≡ Some v → IsResultOf P s f v
  ended_result fits f v is =
      let k = ended_as (reverse s) f v is in
      subst (λ (n : ℕ). IsResultOf P s n v) k.2 (fits.ended k.0 v (reverse_among k.0 s k.1) k.3)

  passed_fit : (which : ℕ) (at : TaskState) → IsWellTyped P → IsTypedState (gives_in P s) P which at → local_step at ≡ None → (a : Action)
      → Answers (wish_of P at) a → (code : ℕ) (args : List Value) → Passes a code args → ArgsFit (gives_in P s) P code args
  passed_fit which at typed state stop (Reads _ _) answers code args h = absurd h
  passed_fit which at typed state stop (Writes _ _) answers code args h = absurd h
  passed_fit which at typed state stop (Spawns c _ _ _ given) answers code args h =
      subst (λ n. ArgsFit (gives_in P s) P n args) h.0
      (subst (ArgsFit (gives_in P s) P c) h.1 (wished_args_fit (gives_in P s) P which at c given typed state stop (inl answers)))
  passed_fit which at typed state stop (Creates c _ _ _ given) answers code args h =
      subst (λ n. ArgsFit (gives_in P s) P n args) h.0
      (subst (ArgsFit (gives_in P s) P c) h.1 (wished_args_fit (gives_in P s) P which at c given typed state stop (inr answers)))
  passed_fit which at typed state stop (Syncs _) answers code args h = absurd h
  passed_fit which at typed state stop (Gets _ _ _) answers code args h = absurd h
  passed_fit which at typed state stop (Ends _) answers code args h = absurd h

  pub fits_next : FitsProgram P s → IsWellTyped P → (which : ℕ) (args : List Value) (at : TaskState) → StartsAs P s e.task which args
      → IsTypedState (gives_in P s) P which at → local_step at ≡ None → Answers (wish_of P at) e.action → FitsProgram P (s ++ e ∷ [])
  fits_next fits typed which args at starts state stop answers =
      let grows : Grows (gives_in P s) (gives_in P (s ++ e ∷ [])) = gives_more P s (e ∷ []) in
      let here : e.task < next_task (reverse s) = acting_below (reverse s) sound e may in
      record {
        passed = λ d code given a h. elim (last_or d e s a) [
          | inl old ↦ args_on (gives_in P s) (gives_in P (s ++ e ∷ [])) P code given grows (fits.passed d code given old h)
          | inr same ↦
              args_on (gives_in P s) (gives_in P (s ++ e ∷ [])) P code given grows
              (passed_fit which at typed state stop e.action answers code given (subst (λ (z : Event). Passes z.action code given) (sym same) h))
        ];
        ended = λ d v a h. elim (last_or d e s a) [
          | inl old ↦ result_on d.task v (acts_below (reverse s) sound d (among_reverse d s old)) (fits.ended d v old h)
          | inr same ↦
              subst (λ (z : Event). IsResultOf P (s ++ e ∷ []) z.task v) same
              (λ w vs text begins is. (
              let k = starts_one P s sound e.task which w args vs starts (starts_less P s e e.task w vs may here begins) in
              let ends : wish_of P at ≡ ToEnd v = subst (λ x. Answers (wish_of P at) x) (ap (λ (z : Event). z.action) same ∙ h) answers in
              fits_on (gives_in P s) (gives_in P (s ++ e ∷ [])) text.depth v grows
              (wished_end_fits (gives_in P s) P which at v text typed state stop ends (subst (λ n. text_at P n ≡ Some text) (sym k.0) is))))
        ];
        got = λ d f v strand a h. elim (last_or d e s a) [
          | inl old ↦ result_on f v (got_below (reverse s) sound d f v strand (among_reverse d s old) h) (fits.got d f v strand old h)
          | inr same ↦ (
              let acts : MayAct (reverse s) e.task (Gets f v strand) = subst (λ x. MayAct (reverse s) e.task x) (ap (λ (z : Event). z.action) same ∙ h) may.acts in
              let k = ended_as (reverse s) f v acts.1 in
              let l = acts_below (reverse s) sound k.0 k.1 in
              let below : f < next_task (reverse s) = subst (λ (n : ℕ). n < next_task (reverse s)) k.2 l in
              result_on f v below (ended_result fits f v acts.1))
        ];
      }
