-- Entries of other tasks leave what is known of a trace as it is.
use Rattle.std.proofs.Common.{◌≡◌, ◌≢◌, ℕ, ◌<◌, ◌≤◌, Bool, true, false, cond, ◌==◌, if◌then◌else◌}
use Rattle.std.proofs.Common.{List, [], ◌∷◌, ◌++◌, inl, inr, refl, sym, ap, ◌∙◌, subst, arith}
use Rattle.fut_base.proofs.Members.{among_left, among_split}
use Rattle.fut_base.proofs.Cases.{by_eq}
use Rattle.std.proofs.lemmas.List.{reverse-append, map-append}
use Rattle.std.proofs.lemmas.List.Elements.{filter-append}
use Rattle.std.proofs.lemmas.Bool.{cases_lt, lt-ltb, ltb-true, false_from_ne_true}
use Rattle.std.specs.Prelude.{◌&&◌, Option, Some, nat_lt, reverse, filter}
use Rattle.fut_base.specs.declared.record.Value.{Value}
use Rattle.fut_base.specs.declared.event.Event.{Event}
use Rattle.fut_base.specs.declared.event.Action.{Action}
use Rattle.fut_base.specs.declared.event.Action.TheVariants.{Reads, Writes, Spawns, Creates, Syncs, Gets, Ends}
use Rattle.fut_base.specs.Dag.{Among, ends, last_of}
use Rattle.fut_base.specs.Sound.{IsSoundPast, MayAct, current_by, next_task}
use Rattle.fut_syntax.specs.Trees as tree
use Rattle.strand_laws.proofs.Links.{if_off, linked}
use Rattle.access_shards.specs.Histories.{IsStanding}
use Rattle.event_clock.specs.Rule.{Rises}
use Rattle.merge_laws.specs.Parts.{Drawn, events_in, StartsAs, past_below}
use Rattle.merge_laws.specs.Laws.{TracedByMore, TracedByOne, TracedAtStart}
use Rattle.task_machine.specs.State.{start_state, effect_of}
use Rattle.task_machine.specs.Runs.{IsStateAfter}
use Rattle.fut_base.specs.Events.{structural}
use Rattle.merge_laws.proofs.Machines.{follows_join}
use Rattle.merge_laws.proofs.Lists.{map_among, reverse_among, filter_among}

-- an action of another task moves no task that there was
moves_none : (past : List Event) (by t s : ℕ) (a : Action) → t ≢ by → t < next_task past → MayAct past by a → current_by by a t (Some s) ≡ Some s
moves_none past by t s (Reads _ _) ne lt may = refl
moves_none past by t s (Writes _ _) ne lt may = refl
moves_none past by t s (Spawns _ child kid cont _) ne lt may =
    if_off t by (Some cont) (if t == child then Some kid else Some s) ne ∙ if_off t child (Some kid) (Some s) (λ e. omega (arith, lt, e, may.0))
moves_none past by t s (Creates _ child kid cont _) ne lt may =
    if_off t by (Some cont) (if t == child then Some kid else Some s) ne ∙ if_off t child (Some kid) (Some s) (λ e. omega (arith, lt, e, may.0))
moves_none past by t s (Syncs x) ne lt may = if_off t by (Some x) (Some s) ne
moves_none past by t s (Gets _ _ x) ne lt may = if_off t by (Some x) (Some s) ne
moves_none past by t s (Ends _) ne lt may = refl

last_off : (q t : ℕ) (b : Bool) (x y : Option ℕ) → q ≢ t → (if (q == t) && b then x else y) ≡ y
last_off q t b x y ne = by_eq (λ z. (if z && b then x else y) ≡ y) q t (λ e. absurd (ne e)) (λ _. refl)

pub stands_on : (later past : List Event) (e : Event) → IsSoundPast (later ++ past) → ((d : Event) → Among d later → d.task ≢ e.task) → IsStanding past e
    → IsStanding (later ++ past) e
stands_on [] past e sound other x = x
stands_on (d ∷ later) past e sound other x =
    let ih : IsStanding (later ++ past) e = stands_on later past e sound.0 (λ y a. other y (inr a)) x in
    let below : e.task < next_task (later ++ past) = ((linked (later ++ past) sound.0).cur e.task e.strand ih.stands).0 in
    let ne : e.task ≢ d.task = λ s. other d (inl refl) (sym s) in
    record {
      stands = ap (λ o. current_by d.task d.action e.task o) ih.stands ∙ moves_none (later ++ past) d.task e.task e.strand d.action ne below sound.1.acts;
      running = last_off e.task d.task (ends d.action) (Some d.strand) (last_of (later ++ past) e.task) ne ∙ ih.running;
    }

sound_rest : (later past : List Event) → IsSoundPast (later ++ past) → IsSoundPast past
sound_rest [] past sound = sound
sound_rest (e ∷ later) past sound = sound_rest later past sound.0

none_below : (k : ℕ) (xs : List Drawn) → ((x : Drawn) → Among x xs → k ≤ x.0) → filter (λ (x : Drawn). nat_lt x.0 k) xs ≡ []
none_below k [] f = refl
none_below k (x ∷ xs) f =
    ap (λ t. cond t (x ∷ filter (λ (x : Drawn). nat_lt x.0 k) xs) (filter (λ (x : Drawn). nat_lt x.0 k) xs))
    (false_from_ne_true (nat_lt x.0 k) (λ e. (let l = ltb-true x.0 k e in let o = f x (inl refl) in omega (arith, l, o))))
    ∙ none_below k xs (λ y a. f y (inr a))

-- the entries with tickets below k stand in front
front : (k : ℕ) (xs : List Drawn) → Rises xs → (rest : List Drawn) × (filter (λ (x : Drawn). nat_lt x.0 k) xs ++ rest ≡ xs)
front k [] r = ([], refl)
front k (x ∷ xs) r = elim (cases_lt x.0 k) [
  | inl lt ↦ (
      let f = front k xs r.1 in (
        f.0,
        ap (λ t. cond t (x ∷ filter (λ (y : Drawn). nat_lt y.0 k) xs) (filter (λ (y : Drawn). nat_lt y.0 k) xs) ++ f.0) (lt-ltb x.0 k lt)
            ∙ ap (λ l. x ∷ l) f.1,
      ))
  | inr ge ↦ (
    x ∷ xs,
    ap (λ (l : List Drawn). l ++ x ∷ xs)
        (none_below k (x ∷ xs)
        (λ y a. elim a [
          | inl s ↦ (let e : x.0 ≡ y.0 = ap (λ (z : Drawn). z.0) s in omega (arith, e, ge))
          | inr b ↦
              (let l : x.0 < y.0 = r.0 y b in omega (arith, l, ge))
        ])),
  )
]

events_append : (xs ys : List Drawn) → events_in (xs ++ ys) ≡ events_in xs ++ events_in ys
events_append xs ys = map-append (λ (x : Drawn). x.1) xs ys

past_append : (k : ℕ) (book more : List Drawn) → past_below k (book ++ more) ≡ past_below k more ++ past_below k book
past_append k book more =
    ap (λ l. reverse (events_in l)) (filter-append (λ (x : Drawn). nat_lt x.0 k) book more)
    ∙ ap reverse (events_append (filter (λ (x : Drawn). nat_lt x.0 k) book) (filter (λ (x : Drawn). nat_lt x.0 k) more))
    ∙ reverse-append (events_in (filter (λ (x : Drawn). nat_lt x.0 k) book)) (events_in (filter (λ (x : Drawn). nat_lt x.0 k) more))

past_sound : (k : ℕ) (book : List Drawn) → Rises book → IsSoundPast (reverse (events_in book)) → IsSoundPast (past_below k book)
past_sound k book rising sound =
    let f = front k book rising in
    let low : List Drawn = filter (λ (x : Drawn). nat_lt x.0 k) book in
    let parts : reverse (events_in book) ≡ reverse (events_in f.0) ++ reverse (events_in low) =
    ap (λ l. reverse (events_in l)) (sym f.1) ∙ ap reverse (events_append low f.0) ∙ reverse-append (events_in low) (events_in f.0) in
    sound_rest (reverse (events_in f.0)) (reverse (events_in low)) (subst IsSoundPast parts sound)

starts_on : (P : tree.Program) (xs ys : List Event) (t which : ℕ) (args : List Value) → StartsAs P xs t which args → StartsAs P (xs ++ ys) t which args
starts_on P xs ys t which args (inl s) = inl s
starts_on P xs ys t which args (inr (e, a, m)) = inr (e, among_left e xs ys a, m)

pub traced_by_more : TracedByMore
traced_by_more P book more task trace rising sound own other x =
    record {
      which = x.which;
      args = x.args;
      state = x.state;
      starts = subst (λ (l : List Event). StartsAs P l task x.which x.args) (sym (events_append book more))
          (starts_on P (events_in book) (events_in more) task x.which x.args x.starts);
      leads = x.leads;
      stands = λ y a. (
          let k : ℕ = y.0 in
          let whole : IsSoundPast (past_below k more ++ past_below k book) =
          subst IsSoundPast (past_append k book more) (past_sound k (book ++ more) rising sound) in
          subst (λ (l : List Event). IsStanding l y.1) (sym (past_append k book more))
          (stands_on (past_below k more) (past_below k book) y.1 whole
          (λ d b e. (
          let f = map_among (λ (z : Drawn). z.1) d (filter (λ (z : Drawn). nat_lt z.0 k) more)
          (reverse_among d (events_in (filter (λ (z : Drawn). nat_lt z.0 k) more)) b) in
          other f.0 (filter_among (λ (z : Drawn). nat_lt z.0 k) f.0 more f.1).0 (ap (λ (z : Event). z.task) f.2 ∙ e ∙ own y a)))
          (x.stands y a)));
    }

-- ---- one more entry

one_below : (j k : ℕ) (e : Event) (b : Bool) → j ≤ k → past_below j (if b then (k, e) ∷ [] else []) ≡ []
one_below j k e true le =
    ap (λ l. reverse (events_in l))
    (none_below j ((k, e) ∷ []) (λ x a. elim a [ inl s ↦ (let t : k ≡ x.0 = ap (λ (z : Drawn). z.0) s in omega (arith, t, le)) | inr n ↦ absurd n ]))
one_below j k e false le = refl

all_below : (k : ℕ) (xs : List Drawn) → ((x : Drawn) → Among x xs → x.0 < k) → filter (λ (x : Drawn). nat_lt x.0 k) xs ≡ xs
all_below k [] f = refl
all_below k (x ∷ xs) f =
    ap (λ t. cond t (x ∷ filter (λ (x : Drawn). nat_lt x.0 k) xs) (filter (λ (x : Drawn). nat_lt x.0 k) xs)) (lt-ltb x.0 k (f x (inl refl)))
    ∙ ap (λ l. x ∷ l) (all_below k xs (λ y a. f y (inr a)))

pub traced_by_one : TracedByOne
traced_by_one P book task trace x k e stop low early stands answers here = (
  record {
    which = x.which;
    args = x.args;
    state = effect_of stop e.action;
    starts = subst (λ (l : List Event). StartsAs P l task x.which x.args) (sym (events_append book own))
        (starts_on P (events_in book) (events_in own) task x.which x.args x.starts);
    leads =
        subst (λ (l : List Event). IsStateAfter P x.which x.args l (effect_of stop e.action)) (sym (events_append trace ((k, e) ∷ [])))
        (follows_join P (start_state P x.which x.args) (events_in trace) (e ∷ []) x.state (effect_of stop e.action) x.leads (stop, stands, answers, refl));
    stands = λ y a. elim (among_split y trace ((k, e) ∷ []) a) [
      | inl old ↦ (
          let lt = early y old in
          subst (λ (l : List Event). IsStanding l y.1)
          (sym
          (past_append y.0 book own ∙ ap (λ (l : List Event). l ++ past_below y.0 book) (one_below y.0 k e (structural e.action) (omega (arith, lt)))))
          (x.stands y old))
      | inr new ↦ elim new [
        | inl same ↦ subst (λ (z : Drawn). IsStanding (past_below z.0 (book ++ own)) z.1) same (
            subst (λ (l : List Event). IsStanding l e)
            (sym
            (past_append k book own ∙ ap (λ (l : List Event). l ++ past_below k book) (one_below k k e (structural e.action) (omega arith))
            ∙ ap (λ l. reverse (events_in l)) (all_below k book low)))
            here)
        | inr none ↦ absurd none
      ]
    ];
  },
  refl,
)
  where
    own : List Drawn
    own = if structural e.action then (k, e) ∷ [] else []

pub traced_at_start : TracedAtStart
traced_at_start P book task which args starts = (
  record { which = which; args = args; state = start_state P which args; starts = starts; leads = refl; stands = λ x a. absurd a },
  refl,
)
