-- On which strands events stand: new ones are above all others, each is that of one task, and a strand that was left is left for good.
use Rattle.std.proofs.Common.{◌≡◌, ◌≢◌, ℕ, ◌+◌, ◌<◌, ◌≤◌, Bool, true, false, List, [], ◌∷◌, ◌++◌, cond, filter, reverse, ◌⊎◌, inl, inr, refl, sym, ap}
use Rattle.std.proofs.Common.{◌∙◌, subst, arith, append-nil}
use Rattle.std.specs.Prelude.{Option, Some, None, IsSome, ◌==◌, ◌&&◌, if◌then◌else◌}
use Rattle.std.proofs.lemmas.List.{reverse-append}
use Rattle.std.proofs.lemmas.List.Elements.{filter-append}
use Rattle.std.proofs.lemmas.Option.{same_Some}
use Rattle.fut_base.proofs.Cases.{by_eq}
use Rattle.fut_base.specs.declared.event.Event.{Event}
use Rattle.fut_base.specs.declared.event.Action.{Action}
use Rattle.fut_base.specs.declared.event.Action.TheVariants.{Reads, Writes, Spawns, Creates, Syncs, Gets, Ends}
use Rattle.fut_base.specs.Events.{structural}
use Rattle.fut_base.specs.Dag.{Among, last_of, ends}
use Rattle.fut_base.specs.Sound.{IsSoundPast, current, current_by, next_strand, strands_by}
use Rattle.race_origins.specs.Laws.{AreStanding, IsInStep}

abbrev pub ev : ℕ → ℕ → Action → Event
ev t s a = record { task = t; strand = s; action = a }

-- the strands that an action begins have the numbers from n on
abbrev pub IsFresh : ℕ → Action → Type 0
IsFresh n (Spawns _ _ kid cont _) = (kid ≡ n) × (cont ≡ kid + 1)
IsFresh n (Creates _ _ kid cont _) = (kid ≡ n) × (cont ≡ kid + 1)
IsFresh n (Syncs strand) = strand ≡ n
IsFresh n (Gets _ _ strand) = strand ≡ n
IsFresh n _ = Unit {0}

abbrev pub AreFresh : List Event → Type 0
AreFresh [] = Unit {0}
AreFresh (e ∷ past) = AreFresh past × IsFresh (next_strand past) e.action

-- ---- from the structure to the whole history

abbrev pub kept : List Event → List Event
kept past = filter (λ e. structural e.action) past

next_more : (past : List Event) (t s : ℕ) (a : Action) → next_strand (kept past) ≡ next_strand past
    → next_strand (kept (ev t s a ∷ past)) ≡ next_strand (ev t s a ∷ past)
next_more past t s (Reads _ _) h = omega (arith, h)
next_more past t s (Writes _ _) h = omega (arith, h)
next_more past t s (Spawns _ _ _ _ _) h = omega (arith, h)
next_more past t s (Creates _ _ _ _ _) h = omega (arith, h)
next_more past t s (Syncs _) h = omega (arith, h)
next_more past t s (Gets _ _ _) h = omega (arith, h)
next_more past t s (Ends _) h = omega (arith, h)

next_kept : (past : List Event) → next_strand (kept past) ≡ next_strand past
next_kept [] = refl
next_kept (e ∷ past) = next_more past e.task e.strand e.action (next_kept past)

fresh_more : (past : List Event) → (IsSoundPast (kept past) → AreFresh past) → (t s : ℕ) (a : Action) → IsSoundPast (kept (ev t s a ∷ past))
    → AreFresh (ev t s a ∷ past)
fresh_more past so_far t s (Reads _ _) h = (so_far h, tt)
fresh_more past so_far t s (Writes _ _) h = (so_far h, tt)
fresh_more past so_far t s (Spawns _ _ _ _ _) h = (so_far h.0, (h.1.acts.1 ∙ next_kept past, h.1.acts.2))
fresh_more past so_far t s (Creates _ _ _ _ _) h = (so_far h.0, (h.1.acts.1 ∙ next_kept past, h.1.acts.2))
fresh_more past so_far t s (Syncs _) h = (so_far h.0, h.1.acts.0 ∙ next_kept past)
fresh_more past so_far t s (Gets _ _ _) h = (so_far h.0, h.1.acts.0 ∙ next_kept past)
fresh_more past so_far t s (Ends _) h = (so_far h.0, tt)

fresh_past : (past : List Event) → IsSoundPast (kept past) → AreFresh past
fresh_past [] h = tt
fresh_past (e ∷ past) h = fresh_more past (fresh_past past) e.task e.strand e.action h

kept_last : (e : Event) (h : List Event) → reverse (kept h) ≡ kept (reverse h) → (b : Bool)
    → reverse (cond b (e ∷ kept h) (kept h)) ≡ kept (reverse h) ++ cond b (e ∷ []) []
kept_last e h so_far true = reverse-append (e ∷ []) (kept h) ∙ ap (λ l. l ++ e ∷ []) so_far
kept_last e h so_far false = so_far ∙ sym (append-nil (kept (reverse h)))

reverse_kept : (h : List Event) → reverse (kept h) ≡ kept (reverse h)
reverse_kept [] = refl
reverse_kept (e ∷ h) =
    kept_last e h (reverse_kept h) (structural e.action) ∙ sym (filter-append (λ x. structural x.action) (reverse h) (e ∷ []))
    ∙ ap kept (sym (reverse-append (e ∷ []) h))

pub fresh_in_step : (h : List Event) → IsInStep h → AreFresh (reverse h)
fresh_in_step h k = fresh_past (reverse h) (subst IsSoundPast (reverse_kept h) k.sound)

-- ---- where a task stands after one more event

-- the action begins the strand s, and the task t goes on there
abbrev pub IsNewAt : ℕ → Action → ℕ → ℕ → Type 0
IsNewAt by (Spawns _ child kid cont _) t s = ((t ≡ by) × (s ≡ cont)) ⊎ ((t ≡ child) × (s ≡ kid))
IsNewAt by (Creates _ child kid cont _) t s = ((t ≡ by) × (s ≡ cont)) ⊎ ((t ≡ child) × (s ≡ kid))
IsNewAt by (Syncs strand) t s = (t ≡ by) × (s ≡ strand)
IsNewAt by (Gets _ _ strand) t s = (t ≡ by) × (s ≡ strand)
IsNewAt by _ t s = ⊥

-- the action may leave a task where it stands
abbrev pub IsLeftAt : ℕ → Action → ℕ → Type 0
IsLeftAt by (Spawns _ _ _ _ _) t = t ≢ by
IsLeftAt by (Creates _ _ _ _ _) t = t ≢ by
IsLeftAt by (Syncs _) t = t ≢ by
IsLeftAt by (Gets _ _ _) t = t ≢ by
IsLeftAt by _ t = Unit {0}

step_cases : (t by x : ℕ) (old : Option ℕ) (s : ℕ) → (if t == by then Some x else old) ≡ Some s → ((t ≡ by) × (s ≡ x)) ⊎ ((t ≢ by) × (old ≡ Some s))
step_cases t by x old s =
    by_eq (λ b. (if b then Some x else old) ≡ Some s → ((t ≡ by) × (s ≡ x)) ⊎ ((t ≢ by) × (old ≡ Some s))) t by (λ e h. inl (e, sym (same_Some x s h)))
    (λ n h. inr (n, h))

fork_cases : (t by child kid cont : ℕ) (old : Option ℕ) (s : ℕ) → (if t == by then Some cont else (if t == child then Some kid else old)) ≡ Some s
    → (((t ≡ by) × (s ≡ cont)) ⊎ ((t ≡ child) × (s ≡ kid))) ⊎ ((t ≢ by) × (old ≡ Some s))
fork_cases t by child kid cont old s h =
    elim (step_cases t by cont (if t == child then Some kid else old) s h) [
      | inl at ↦ inl (inl at)
      | inr other ↦ elim (step_cases t child kid old s other.1) [ inl at ↦ inl (inr at) | inr rest ↦ inr (other.0, rest.1) ]
    ]

pub current_cases : (by : ℕ) (a : Action) (t : ℕ) (old : Option ℕ) (s : ℕ) → current_by by a t old ≡ Some s → IsNewAt by a t s ⊎ (IsLeftAt by a t × (old ≡ Some s))
current_cases by (Reads _ _) t old s h = inr (tt, h)
current_cases by (Writes _ _) t old s h = inr (tt, h)
current_cases by (Spawns _ child kid cont _) t old s h = fork_cases t by child kid cont old s h
current_cases by (Creates _ child kid cont _) t old s h = fork_cases t by child kid cont old s h
current_cases by (Syncs strand) t old s h = step_cases t by strand old s h
current_cases by (Gets _ _ strand) t old s h = step_cases t by strand old s h
current_cases by (Ends _) t old s h = inr (tt, h)

new_range : (n by : ℕ) (a : Action) (t s : ℕ) → IsFresh n a → IsNewAt by a t s → (n ≤ s) × (s < n + strands_by a)
new_range n by (Reads _ _) t s f h = absurd h
new_range n by (Writes _ _) t s f h = absurd h
new_range n by (Spawns _ _ _ _ _) t s f (inl at) = (omega (arith, f.0, f.1, at.1), omega (arith, f.0, f.1, at.1))
new_range n by (Spawns _ _ _ _ _) t s f (inr at) = (omega (arith, f.0, at.1), omega (arith, f.0, at.1))
new_range n by (Creates _ _ _ _ _) t s f (inl at) = (omega (arith, f.0, f.1, at.1), omega (arith, f.0, f.1, at.1))
new_range n by (Creates _ _ _ _ _) t s f (inr at) = (omega (arith, f.0, at.1), omega (arith, f.0, at.1))
new_range n by (Syncs _) t s f at = (omega (arith, f, at.1), omega (arith, f, at.1))
new_range n by (Gets _ _ _) t s f at = (omega (arith, f, at.1), omega (arith, f, at.1))
new_range n by (Ends _) t s f h = absurd h

fork_one : (by child kid cont t u s : ℕ) → cont ≡ kid + 1 → ((t ≡ by) × (s ≡ cont)) ⊎ ((t ≡ child) × (s ≡ kid))
    → ((u ≡ by) × (s ≡ cont)) ⊎ ((u ≡ child) × (s ≡ kid)) → t ≡ u
fork_one by child kid cont t u s f (inl a) (inl b) = a.0 ∙ sym b.0
fork_one by child kid cont t u s f (inl a) (inr b) = absurd (omega (arith, f, a.1, b.1))
fork_one by child kid cont t u s f (inr a) (inl b) = absurd (omega (arith, f, a.1, b.1))
fork_one by child kid cont t u s f (inr a) (inr b) = a.0 ∙ sym b.0

new_one : (n by : ℕ) (a : Action) (t u s : ℕ) → IsFresh n a → IsNewAt by a t s → IsNewAt by a u s → t ≡ u
new_one n by (Reads _ _) t u s f h k = absurd h
new_one n by (Writes _ _) t u s f h k = absurd h
new_one n by (Spawns _ child kid cont _) t u s f h k = fork_one by child kid cont t u s f.1 h k
new_one n by (Creates _ child kid cont _) t u s f h k = fork_one by child kid cont t u s f.1 h k
new_one n by (Syncs _) t u s f h k = h.0 ∙ sym k.0
new_one n by (Gets _ _ _) t u s f h k = h.0 ∙ sym k.0
new_one n by (Ends _) t u s f h k = absurd h

-- ---- what is known of all strands

pub record IsKnown (past : List Event) : Type 0 where
  pub below : (t s : ℕ) → current past t ≡ Some s → s < next_strand past
  pub own : (t u s : ℕ) → current past t ≡ Some s → current past u ≡ Some s → t ≡ u
  pub on : (e : Event) → Among e past → e.strand < next_strand past
  pub left : (e : Event) → Among e past → structural e.action ≡ true → (t : ℕ) → current past t ≡ Some e.strand → IsSome (last_of past t)

some_if : (b : Bool) (s : ℕ) (old : Option ℕ) → IsSome old → IsSome (if b then Some s else old)
some_if true s old h = refl
some_if false s old h = h

-- a task that stays on the strand of a structural action has ended
ended_here : (by s : ℕ) (a : Action) (t : ℕ) (old : Option ℕ) → structural a ≡ true → IsLeftAt by a t → t ≡ by
    → IsSome (if (t == by) && ends a then Some s else old)
ended_here by s (Reads _ _) t old st out same = cc
ended_here by s (Writes _ _) t old st out same = cc
ended_here by s (Spawns _ _ _ _ _) t old st out same = absurd (out same)
ended_here by s (Creates _ _ _ _ _) t old st out same = absurd (out same)
ended_here by s (Syncs _) t old st out same = absurd (out same)
ended_here by s (Gets _ _ _) t old st out same = absurd (out same)
ended_here by s (Ends _) t old st out same = by_eq (λ b. IsSome (if b && true then Some s else old)) t by (λ _. refl) (λ n. absurd (n same))

module _ (past : List Event) (k : IsKnown past) (e : Event) (stands : current past e.task ≡ Some e.strand) (fresh : IsFresh (next_strand past) e.action) where
  at_below : e.strand < next_strand past
  at_below = k.below e.task e.strand stands

  cases_of : (t s : ℕ) → current (e ∷ past) t ≡ Some s → IsNewAt e.task e.action t s ⊎ (IsLeftAt e.task e.action t × (current past t ≡ Some s))
  cases_of t s h = current_cases e.task e.action t (current past t) s h

  range : (t s : ℕ) → IsNewAt e.task e.action t s → (next_strand past ≤ s) × (s < next_strand past + strands_by e.action)
  range t s h = new_range (next_strand past) e.task e.action t s fresh h

  below_more : (t s : ℕ) → current (e ∷ past) t ≡ Some s → s < next_strand (e ∷ past)
  below_more t s h = elim (cases_of t s h) [ inl new ↦ (range t s new).1 | inr old ↦ (let lt = k.below t s old.1 in omega (arith, lt)) ]

  own_more : (t u s : ℕ) → current (e ∷ past) t ≡ Some s → current (e ∷ past) u ≡ Some s → t ≡ u
  own_more t u s h g =
      elim (cases_of t s h) [
        | inl new ↦ elim (cases_of u s g) [
          | inl new_2 ↦ new_one (next_strand past) e.task e.action t u s fresh new new_2
          | inr old_2 ↦ absurd (omega (arith, (range t s new).0, k.below u s old_2.1))
        ]
        | inr old ↦ elim (cases_of u s g) [
          | inl new_2 ↦ absurd (omega (arith, (range u s new_2).0, k.below t s old.1))
          | inr old_2 ↦ k.own t u s old.1 old_2.1
        ]
      ]

  on_more : (d : Event) → Among d (e ∷ past) → d.strand < next_strand (e ∷ past)
  on_more d (inl same) = subst (λ (x : Event). x.strand < next_strand (e ∷ past)) same (omega (arith, at_below))
  on_more d (inr old) = let lt = k.on d old in omega (arith, lt)

  left_here : structural e.action ≡ true → (t : ℕ) → current (e ∷ past) t ≡ Some e.strand → IsSome (last_of (e ∷ past) t)
  left_here st t h =
      elim (cases_of t e.strand h) [
        | inl new ↦ absurd (omega (arith, (range t e.strand new).0, at_below))
        | inr old ↦ ended_here e.task e.strand e.action t (last_of past t) st old.0 (k.own t e.task e.strand old.1 stands)
      ]

  left_more : (d : Event) → Among d (e ∷ past) → structural d.action ≡ true → (t : ℕ) → current (e ∷ past) t ≡ Some d.strand → IsSome (last_of (e ∷ past) t)
  left_more d (inl same) st t h =
      left_here (subst (λ (x : Event). structural x.action ≡ true) (sym same) st) t (subst (λ (x : Event). current (e ∷ past) t ≡ Some x.strand) (sym same) h)
  left_more d (inr old) st t h =
      elim (cases_of t d.strand h) [
        | inl new ↦ absurd (omega (arith, (range t d.strand new).0, k.on d old))
        | inr stays ↦ some_if ((t == e.task) && ends e.action) e.strand (last_of past t) (k.left d old st t stays.1)
      ]

  known_more : IsKnown (e ∷ past)
  known_more = record { below = below_more; own = own_more; on = on_more; left = left_more }

pub start_is : (t s : ℕ) → current [] t ≡ Some s → (t ≡ 0) × (s ≡ 0)
start_is t s = by_eq (λ b. (if b then Some 0 else None) ≡ Some s → (t ≡ 0) × (s ≡ 0)) t 0 (λ e h. (e, sym (same_Some 0 s h))) (λ n h. cc)

pub known : (past : List Event) → AreStanding past → AreFresh past → IsKnown past
known [] st f = record {
  below = λ t s h. (let z = (start_is t s h).1 in omega (arith, z));
  own = λ t u s h g. (start_is t s h).0 ∙ sym (start_is u s g).0;
  on = λ e h. absurd h;
  left = λ e h. absurd h;
}
known (e ∷ past) st f = known_more past (known past st.0 f.0) e st.1 f.1
