-- What the book has of a task after the task's own entry, and of the task that the entry begins.
use Rattle.std.proofs.Common.{◌≡◌, ◌≢◌, ℕ, ◌<◌, ◌≤◌, ◌==◌, Bool, true, false, if◌then◌else◌, List, [], ◌∷◌, ◌++◌, inl, inr, refl, sym, ap, ◌∙◌, subst, arith, true≢false}
use Rattle.std.specs.Prelude.{Option, Some, None, reverse}
use Rattle.fut_base.proofs.Members.{among_last}
use Rattle.fut_base.specs.declared.record.Entry.{Entry}
use Rattle.fut_base.specs.declared.record.Value.{Value}
use Rattle.fut_base.specs.declared.event.Event.{Event}
use Rattle.fut_base.specs.declared.event.Action.{Action}
use Rattle.fut_base.specs.declared.event.Action.TheVariants.{Reads, Writes, Spawns, Creates, Syncs, Gets, Ends}
use Rattle.fut_base.specs.Events.{structural}
use Rattle.fut_base.specs.Dag.{Among, ends, last_of}
use Rattle.fut_base.specs.Sound.{IsSound, MayFollow, MayAct, current, current_by, next_task}
use Rattle.fut_syntax.specs.Trees as tree
use Rattle.fut_check.specs.Items.{IsWellTyped}
use Rattle.task_machine.specs.State.{TaskState, local_step, start_state, wish_of, effect_of, Answers}
use Rattle.task_machine.specs.Runs.{StandsAt, IsStateAfter}
use Rattle.task_machine.specs.Machine.{strand_after}
use Rattle.task_types.specs.Typed.{ArgsFit, ActionFits, IsTypedState, any_future}
use Rattle.task_types.specs.Running.{Grows, Passes}
use Rattle.task_types.proofs.Growing.{args_on, action_on}
use Rattle.task_code.specs.Flat.{Compiled, IsCodeOf}
use Rattle.task_code.specs.Tasks.{TaskNow, IsTaskOf, ended_after}
use Rattle.strand_tree.specs.declared.strand.Strand.{Strand}
use Rattle.strand_tree.specs.Placing.{IsStrandOf}
use Rattle.reach_table.specs.Telling.{HasTable}
use Rattle.strand_laws.proofs.Links.{if_self, if_off, if_on}
use Rattle.run_place.specs.Placed.{events_in}
use Rattle.run_book.specs.Drawn.{drawn_of, past_in, past_below}
use Rattle.run_book.specs.Jobs.{Makes, StartsAs, Stands, gives_in, FitsProgram, IsEntryOf, IsTraceBy, NoneEnds, IsStarted, IsTaskIn}
use Rattle.run_book.proofs.Drawn.{last_or, past_event, drawn_event, events_one, past_one, own_one, other_one, structural_one, below_one, all_past, none_of}
use Rattle.run_book.proofs.Starting.{acting_below, acts_below, starts_more}
use Rattle.run_book.proofs.Handles.{events_drawn}
use Rattle.run_book.proofs.Fitting.{typed_at, typed_in, fits_next, get_fits, ended_result}

to_any : (gives : ℕ → ℕ → Bool) → Grows gives any_future
to_any gives f d h = refl

-- ---- traces

-- the trace of a task, after its own entry
pub traced_own : (book : List (ℕ × Event)) (t : ℕ) (trace : List (ℕ × Event)) (k : ℕ) (e : Event) → IsTraceBy book t trace
    → ((x : ℕ × Event) → Among x book → x.0 < k) → ((x : ℕ × Event) → Among x trace → x.0 < k) → IsEntryOf (past_in book) t e → structural e.action ≡ true
    → IsTraceBy (book ++ (k, e) ∷ []) t (trace ++ (k, e) ∷ [])
traced_own book t trace k e is low early entry st =
    record {
      structural = own_one book k e t entry.own ∙ ap (λ l. l ++ (k, e) ∷ []) is.structural ∙ sym (structural_one trace k e st);
      entries = λ x a. elim (last_or x (k, e) trace a) [
        | inl old ↦
            subst (λ l. IsEntryOf l t x.1) (sym (below_one book k e x.0 (let l = early x old in omega (arith, l)))) (is.entries x old)
        | inr same ↦
            subst (λ (x : ℕ × Event). IsEntryOf (past_below x.0 (book ++ (k, e) ∷ [])) t x.1) same
            (subst (λ l. IsEntryOf l t e) (sym (below_one book k e k (omega arith) ∙ all_past k book low)) entry)
      ];
    }

-- that of another task
pub traced_other : (book : List (ℕ × Event)) (t : ℕ) (trace : List (ℕ × Event)) (k : ℕ) (e : Event) → IsTraceBy book t trace → e.task ≢ t
    → ((x : ℕ × Event) → Among x trace → x.0 < k) → IsTraceBy (book ++ (k, e) ∷ []) t trace
traced_other book t trace k e is ne early =
    record {
      structural = other_one book k e t ne ∙ is.structural;
      entries = λ x a. subst (λ l. IsEntryOf l t x.1) (sym (below_one book k e x.0 (let l = early x a in omega (arith, l)))) (is.entries x a);
    }

-- that of a task that begins
pub traced_new : (book : List (ℕ × Event)) (t : ℕ) → IsSound (events_in book) → next_task (past_in book) ≡ t → (k : ℕ) (e : Event) → MayFollow (past_in book) e
    → IsTraceBy (book ++ (k, e) ∷ []) t []
traced_new book t sound next k e may =
    let here = acting_below (past_in book) sound e may in
    record {
      structural = other_one book k e t (λ same. omega (arith, here, next, same)) ∙ none_of t book
          (λ x a same. (let l = acts_below (past_in book) sound x.1 (past_event x.1 book (drawn_event x book a)) in omega (arith, l, next, same)));
      entries = λ x a. absurd a;
    }

none_more : (trace : List (ℕ × Event)) (k : ℕ) (e : Event) → NoneEnds trace → ends e.action ≡ false → NoneEnds (trace ++ (k, e) ∷ [])
none_more trace k e none goes x a = elim (last_or x (k, e) trace a) [
  | inl old ↦ none x old
  | inr same ↦ subst (λ (y : ℕ × Event). ends y.1.action ≡ false) same goes
]

-- ---- states

-- what an event of a task that stands at the wish which it answers gives the task fits
pub action_fits_any : (P : tree.Program) (events : List Event) (e : Event) (a : Action) → e.action ≡ a → IsSound events → MayFollow (reverse events) e
    → FitsProgram P events → IsWellTyped P → (which : ℕ) (at : TaskState) → IsTypedState (gives_in P events) P which at → local_step at ≡ None
    → Answers (wish_of P at) a → ActionFits any_future P which at a
action_fits_any P events e (Reads _ _) is sound may fits typed which at state stop answers = tt
action_fits_any P events e (Writes _ _) is sound may fits typed which at state stop answers = tt
action_fits_any P events e (Spawns _ _ _ _ _) is sound may fits typed which at state stop answers = tt
action_fits_any P events e (Creates _ _ _ _ _) is sound may fits typed which at state stop answers = λ t text. refl
action_fits_any P events e (Syncs _) is sound may fits typed which at state stop answers = tt
action_fits_any P events e (Gets f v strand) is sound may fits typed which at state stop answers =
    let acts : MayAct (reverse events) e.task (Gets f v strand) = subst (λ x. MayAct (reverse events) e.task x) is may.acts in
    action_on (gives_in P events) any_future P which at (Gets f v strand) (to_any (gives_in P events))
    (get_fits P events which at f v strand typed state stop answers (ended_result P events e sound may fits f v acts.1))
action_fits_any P events e (Ends _) is sound may fits typed which at state stop answers = tt

-- ---- the strand of a task

-- the acting task goes on
cur_own : (t : ℕ) (a : Action) (old : ℕ) → current_by t a t (Some old) ≡ Some (strand_after a old)
cur_own t (Reads _ _) old = refl
cur_own t (Writes _ _) old = refl
cur_own t (Spawns _ child kid cont _) old = if_self t (Some cont) (if t == child then Some kid else Some old)
cur_own t (Creates _ child kid cont _) old = if_self t (Some cont) (if t == child then Some kid else Some old)
cur_own t (Syncs strand) old = if_self t (Some strand) (Some old)
cur_own t (Gets _ _ strand) old = if_self t (Some strand) (Some old)
cur_own t (Ends _) old = refl

-- an action begins a task on a strand
abbrev pub BeginsAt : Action → ℕ → ℕ → Type 0
BeginsAt (Spawns _ child kid _ _) t s = (child ≡ t) × (kid ≡ s)
BeginsAt (Creates _ child kid _ _) t s = (child ≡ t) × (kid ≡ s)
BeginsAt _ t s = ⊥

on_kid : (by t s child kid cont : ℕ) (old : Option ℕ) → child ≡ t → kid ≡ s → t ≢ by → (if t == by then Some cont else (if t == child then Some kid else old)) ≡ Some s
on_kid by t s child kid cont old child_is kid_is ne =
    if_off t by (Some cont) (if t == child then Some kid else old) ne ∙ if_on t child (Some kid) old (sym child_is) ∙ ap (λ n. Some n) kid_is

begun_at : (by : ℕ) (a : Action) (t s : ℕ) (old : Option ℕ) → BeginsAt a t s → t ≢ by → current_by by a t old ≡ Some s
begun_at by (Reads _ _) t s old begins ne = absurd begins
begun_at by (Writes _ _) t s old begins ne = absurd begins
begun_at by (Spawns _ child kid cont _) t s old begins ne = on_kid by t s child kid cont old begins.0 begins.1 ne
begun_at by (Creates _ child kid cont _) t s old begins ne = on_kid by t s child kid cont old begins.0 begins.1 ne
begun_at by (Syncs _) t s old begins ne = absurd begins
begun_at by (Gets _ _ _) t s old begins ne = absurd begins
begun_at by (Ends _) t s old begins ne = absurd begins

passes : (a : Action) (t which : ℕ) (args : List Value) → Makes a t which args → Passes a which args
passes (Reads _ _) t which args h = absurd h
passes (Writes _ _) t which args h = absurd h
passes (Spawns _ _ _ _ _) t which args h = (h.1, h.2)
passes (Creates _ _ _ _ _) t which args h = (h.1, h.2)
passes (Syncs _) t which args h = absurd h
passes (Gets _ _ _) t which args h = absurd h
passes (Ends _) t which args h = absurd h

ended_same : (a : Action) (b : Bool) → ends a ≡ false → ended_after b a ≡ b
ended_same (Reads _ _) b goes = refl
ended_same (Writes _ _) b goes = refl
ended_same (Spawns _ _ _ _ _) b goes = refl
ended_same (Creates _ _ _ _ _) b goes = refl
ended_same (Syncs _) b goes = refl
ended_same (Gets _ _ _) b goes = refl
ended_same (Ends _) b goes = absurd (true≢false goes)

-- ---- tasks

module _ (code : Compiled) (book : List (ℕ × Event)) (task : TaskNow) (at : Strand) (table : List Strand) (pace : ℕ) (is : IsTaskIn code book task at table pace)
    (fits : (P : tree.Program) → IsWellTyped P → IsCodeOf P code → FitsProgram P (events_in book)) where
  -- the state of the task keeps the type rules, by the futures that the book creates
  pub state_typed : (P : tree.Program) → IsWellTyped P → (of : IsCodeOf P code) → (args : List Value) (s stop : TaskState)
      → StartsAs P (events_in book) task.number task.which args → IsTaskOf P code args task s → StandsAt s stop
      → IsTypedState (gives_in P (events_in book)) P task.which stop × (local_step stop ≡ None)
  state_typed P typed of args s stop starts state stands =
      let way : IsStateAfter P task.which args (events_in (drawn_of task.trace.items)) s =
      subst (λ (l : List Event). IsStateAfter P task.which args l s) (sym (events_drawn task.trace.items)) state.state in
      typed_at P (gives_in P (events_in book)) task.which s stop typed stands
      (typed_in P book (fits P typed of) typed task.number task.which args (drawn_of task.trace.items) is.trace is.unended starts s way)

  -- the entries of the book fit the program with one more, an event of the task that answers its wish
  pub fits_more : (k : ℕ) (e : Event) → IsSound (events_in book) → MayFollow (past_in book) e → e.task ≡ task.number
      → Stands code task (λ P w. Answers w e.action) → (P : tree.Program) → IsWellTyped P → IsCodeOf P code → FitsProgram P (events_in (book ++ (k, e) ∷ []))
  fits_more k e sound may own stands P typed of =
      let (args, s, starts, state) = is.started P typed of in
      let (stop, at_event, answers) = stands P args s typed of state in
      let t = state_typed P typed of args s stop starts state at_event in
      subst (λ l. FitsProgram P l) (sym (events_one book k e))
      (fits_next P (events_in book) e sound may (fits P typed of) typed task.which args stop
      (subst (λ n. StartsAs P (events_in book) n task.which args) (sym own) starts) t.0 t.1 answers)

  -- the state of the task after its entry
  started_fed : (k : ℕ) (e : Event) (new : TaskNow) → IsSound (events_in book) → MayFollow (past_in book) e → Stands code task (λ P w. Answers w e.action)
      → new.number ≡ task.number → new.which ≡ task.which
      → ((P : tree.Program) (args : List Value) (s t : TaskState) → IsCodeOf P code → IsTaskOf P code args task s → StandsAt s t → Answers (wish_of P t) e.action
      → ActionFits any_future P task.which t e.action → IsTaskOf P code args new (effect_of t e.action))
      → IsStarted code (book ++ (k, e) ∷ []) new
  started_fed k e new sound may stands number which feeds = λ P typed of. (
      let (args, s, starts, state) = is.started P typed of in
      let (stop, at_event, answers) = stands P args s typed of state in
      let t = state_typed P typed of args s stop starts state at_event in
      let more : StartsAs P (events_in book ++ e ∷ []) task.number task.which args = starts_more P (events_in book) e task.number task.which args starts in
      let there : StartsAs P (events_in (book ++ (k, e) ∷ [])) task.number task.which args =
      subst (λ l. StartsAs P l task.number task.which args) (sym (events_one book k e)) more in
      let own : StartsAs P (events_in (book ++ (k, e) ∷ [])) new.number new.which args =
      subst (λ n. StartsAs P (events_in (book ++ (k, e) ∷ [])) n new.which args) (sym number)
      (subst (λ w. StartsAs P (events_in (book ++ (k, e) ∷ [])) task.number w args) (sym which) there) in (
        args,
        effect_of stop e.action,
        own,
        feeds P args s stop of state at_event answers
            (action_fits_any P (events_in book) e e.action refl sound may (fits P typed of) typed task.which stop t.0 t.1 answers),
      ))

  -- what the book has of the task after its entry, which is no end
  pub task_fed : (k : ℕ) (e : Event) (new : TaskNow) (at' : Strand) (table' : List Strand) (pace' : ℕ) → IsSound (events_in book) → MayFollow (past_in book) e
      → ((x : ℕ × Event) → Among x book → x.0 < k) → ((x : ℕ × Event) → Among x (drawn_of task.trace.items) → x.0 < k) → e.task ≡ task.number
      → structural e.action ≡ true → ends e.action ≡ false → Stands code task (λ P w. Answers w e.action)
      → new.number ≡ task.number → new.which ≡ task.which → new.spot.ended ≡ ended_after task.spot.ended e.action
      → drawn_of new.trace.items ≡ drawn_of task.trace.items ++ (k, e) ∷ []
      → ((P : tree.Program) (args : List Value) (s t : TaskState) → IsCodeOf P code → IsTaskOf P code args task s → StandsAt s t → Answers (wish_of P t) e.action
      → ActionFits any_future P task.which t e.action → IsTaskOf P code args new (effect_of t e.action))
      → at'.number ≡ strand_after e.action at.number
      → IsStrandOf (events_in (book ++ (k, e) ∷ [])) at' → HasTable (events_in (book ++ (k, e) ∷ [])) at'.number table' → pace' ≡ 1
      → IsTaskIn code (book ++ (k, e) ∷ []) new at' table' pace'
  task_fed k e new at' table' pace' sound may low early own st goes stands number which ended trace feeds next strand has one =
      let longer : List (ℕ × Event) = book ++ (k, e) ∷ [] in
      let old : List (ℕ × Event) = drawn_of task.trace.items in
      let here : current (past_in book) e.task ≡ Some at.number = subst (λ n. current (past_in book) n ≡ Some at.number) (sym own) is.strand in
      let entry : IsEntryOf (past_in book) task.number e = record {
        own = own;
        stands = subst (λ n. current (past_in book) n ≡ Some e.strand) own may.stands;
        running = subst (λ n. last_of (past_in book) n ≡ None) own may.running;
      } in
      let now : IsTraceBy longer task.number (old ++ (k, e) ∷ []) = traced_own book task.number old k e is.trace low early entry st in
      let stays : current (past_in longer) e.task ≡ Some at'.number =
      ap (λ l. current l e.task) (past_one book k e) ∙ ap (λ o. current_by e.task e.action e.task o) here ∙ cur_own e.task e.action at.number
      ∙ ap (λ n. Some n) (sym next) in
      record {
        program = is.program;
        running = ended ∙ ended_same e.action task.spot.ended goes ∙ is.running;
        unended = subst NoneEnds (sym trace) (none_more old k e is.unended goes);
        started = started_fed k e new sound may stands number which feeds;
        trace = subst (λ n. IsTraceBy longer n (drawn_of new.trace.items)) (sym number) (subst (λ l. IsTraceBy longer task.number l) (sym trace) now);
        strand = subst (λ n. current (past_in longer) n ≡ Some at'.number) (own ∙ sym number) stays;
        placed = (strand, has);
        few = omega (arith, one);
        paced = λ zero. absurd (omega (arith, zero, one));
      }

  -- what it has of the task that the entry begins
  pub task_begun : (k : ℕ) (e : Event) (child : TaskNow) (at' : Strand) (table' : List Strand) (pace' : ℕ) (args : List Value) → IsSound (events_in book)
      → MayFollow (past_in book) e → e.task ≡ task.number → Stands code task (λ P w. Answers w e.action)
      → child.number ≡ next_task (past_in book) → Makes e.action child.number child.which args → BeginsAt e.action child.number at'.number
      → child.spot.ended ≡ false → child.trace.items ≡ []
      → ((P : tree.Program) → IsCodeOf P code → ArgsFit any_future P child.which args → IsTaskOf P code args child (start_state P child.which args))
      → IsStrandOf (events_in (book ++ (k, e) ∷ [])) at' → HasTable (events_in (book ++ (k, e) ∷ [])) at'.number table' → pace' ≡ 1
      → IsTaskIn code (book ++ (k, e) ∷ []) child at' table' pace'
  task_begun k e child at' table' pace' args sound may own stands next makes begins runs empty state strand has one =
      let longer : List (ℕ × Event) = book ++ (k, e) ∷ [] in
      let last : Among e (events_in longer) = subst (Among e) (sym (events_one book k e)) (among_last e (events_in book)) in
      let before = acting_below (past_in book) sound e may in
      let stays : current (past_in longer) child.number ≡ Some at'.number =
      ap (λ l. current l child.number) (past_one book k e)
      ∙ begun_at e.task e.action child.number at'.number (current (past_in book) child.number) begins (λ same. omega (arith, before, next, same)) in
      record {
        program = is.program;
        running = runs;
        unended = subst (λ (l : List (ℕ × Entry)). NoneEnds (drawn_of l)) (sym empty) (λ x a. absurd a);
        started = λ P typed of. (
            let fit : ArgsFit (gives_in P (events_in longer)) P child.which args =
            (fits_more k e sound may own stands P typed of).passed e child.which args last (passes e.action child.number child.which args makes) in (
              args,
              start_state P child.which args,
              inr (e, last, makes),
              state P of
                  (args_on (gives_in P (events_in longer)) any_future P child.which args (to_any (gives_in P (events_in longer))) fit),
            ));
        trace = subst (λ (l : List (ℕ × Entry)). IsTraceBy longer child.number (drawn_of l)) (sym empty) (traced_new book child.number sound (sym next) k e may);
        strand = stays;
        placed = (strand, has);
        few = omega (arith, one);
        paced = λ zero. absurd (omega (arith, zero, one));
      }
