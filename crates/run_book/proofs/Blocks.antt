-- The children of a task's block, and how many of them have not ended. Lists of events have the newest event first.
use Rattle.std.proofs.Common.{◌≡◌, ◌≢◌, ℕ, ◌+◌, ◌<◌, ◌≤◌, ◌==◌, Bool, true, false, ◌&&◌, if◌then◌else◌, List, [], ◌∷◌, ◌++◌, ◌⊎◌, inl, inr}
use Rattle.std.proofs.Common.{subst, ap, sym, refl, ◌∙◌, arith}
use Rattle.std.specs.Prelude.{Option, Some, None, IsSome}
use Rattle.fut_base.specs.declared.record.Value.{Value}
use Rattle.fut_base.specs.declared.event.Event.{Event}
use Rattle.fut_base.specs.declared.event.Action.{Action}
use Rattle.fut_base.specs.declared.event.Action.TheVariants.{Reads, Writes, Spawns, Creates, Syncs, Gets, Ends}
use Rattle.fut_base.specs.Dag.{Among, ends, last_of, block_of, block_after}
use Rattle.fut_base.specs.Sound.{IsSoundPast, MayFollow, MayAct, AllEnded, current, next_task, tasks_by, value_of, value_by}
use Rattle.fut_base.proofs.Cases.{by_eq}
use Rattle.fut_base.proofs.Members.{among_split, among_left, among_right}
use Rattle.run_book.specs.Lines.{spawns_task, Spawned, still, unended}

-- ---- what an event changes

and_off : {A : Type 0} (b : Bool) (x y : A) → (if b && false then x else y) ≡ y
and_off true x y = refl
and_off false x y = refl

pub last_same : (past : List Event) (e : Event) (q : ℕ) → ends e.action ≡ false → last_of (e ∷ past) q ≡ last_of past q
last_same past e q f =
    subst (λ b. (if (q == e.task) && b then Some e.strand else last_of past q) ≡ last_of past q) (sym f)
    (and_off (q == e.task) (Some e.strand) (last_of past q))

pub last_other : (past : List Event) (e : Event) (q : ℕ) → q ≢ e.task → last_of (e ∷ past) q ≡ last_of past q
last_other past e q other =
    by_eq (λ z. (if z && ends e.action then Some e.strand else last_of past q) ≡ last_of past q) q e.task (λ same. absurd (other same)) (λ _. refl)

pub last_here : (past : List Event) (e : Event) (q : ℕ) → q ≡ e.task → ends e.action ≡ true → last_of (e ∷ past) q ≡ Some e.strand
last_here past e q same f = by_eq (λ z. (if z && ends e.action then Some e.strand else last_of past q) ≡ Some e.strand) q e.task
    (λ _. subst (λ b. (if b then Some e.strand else last_of past q) ≡ Some e.strand) (sym f) refl) (λ other. absurd (other same))

pub block_other : (past : List Event) (e : Event) (q : ℕ) → q ≢ e.task → block_of (e ∷ past) q ≡ block_of past q
block_other past e q other =
    by_eq (λ z. (if z then block_after e.action (block_of past q) else block_of past q) ≡ block_of past q) q e.task (λ same. absurd (other same)) (λ _. refl)

pub block_here : (past : List Event) (e : Event) (q : ℕ) → q ≡ e.task → block_of (e ∷ past) q ≡ block_after e.action (block_of past q)
block_here past e q same =
    by_eq (λ z. (if z then block_after e.action (block_of past q) else block_of past q) ≡ block_after e.action (block_of past q)) q e.task
    (λ _. refl) (λ other. absurd (other same))

pub value_other : (past : List Event) (e : Event) (q : ℕ) → q ≢ e.task → value_of (e ∷ past) q ≡ value_of past q
value_other past e q other =
    by_eq (λ z. (if z then value_by e.action (value_of past q) else value_of past q) ≡ value_of past q) q e.task (λ same. absurd (other same)) (λ _. refl)

pub value_here : (past : List Event) (e : Event) (q : ℕ) → q ≡ e.task → value_of (e ∷ past) q ≡ value_by e.action (value_of past q)
value_here past e q same = by_eq (λ z. (if z then value_by e.action (value_of past q) else value_of past q) ≡ value_by e.action (value_of past q)) q e.task
    (λ _. refl) (λ other. absurd (other same))

-- a task that has not ended had not ended before
last_from : (b : Bool) (x : ℕ) (old : Option ℕ) → ◌≡◌ {A = Option ℕ} (if b then Some x else old) None → old ≡ None
last_from true x old e = cc
last_from false x old e = e

pub last_before : (past : List Event) (e : Event) (q : ℕ) → last_of (e ∷ past) q ≡ None → last_of past q ≡ None
last_before past e q none = last_from ((q == e.task) && ends e.action) e.strand (last_of past q) none

-- ---- numbers of tasks

standing_one : (n t by a z : ℕ) (old : Option ℕ) → by < n → (old ≡ Some z → t < n) → (if t == by then Some a else old) ≡ Some z → t < n
standing_one n t by a z old low before =
    by_eq (λ v. (if v then Some a else old) ≡ Some z → t < n) t by (λ same _. omega (arith, same, low)) (λ _ h. before h)

standing_fork : (n t by child a b z : ℕ) (old : Option ℕ) → by < n → child ≡ n → (old ≡ Some z → t < n)
    → (if t == by then Some a else (if t == child then Some b else old)) ≡ Some z → t < n + 1
standing_fork n t by child a b z old low new before =
    by_eq (λ v. (if v then Some a else (if t == child then Some b else old)) ≡ Some z → t < n + 1) t by (λ same _. omega (arith, same, low))
    (λ _. by_eq (λ v. (if v then Some b else old) ≡ Some z → t < n + 1) t child (λ same _. omega (arith, same, new))
    (λ _ h. (let k = before h in omega (arith, k))))

more : (n t : ℕ) → t < n → t < n + 0
more n t h = omega (arith, h)

standing_by : (past : List Event) (by s : ℕ) (a : Action) → MayFollow past (record { task = by; strand = s; action = a })
    → ((t z : ℕ) → current past t ≡ Some z → t < next_task past) → (t z : ℕ) → current (record { task = by; strand = s; action = a } ∷ past) t ≡ Some z
    → t < next_task past + tasks_by a
standing_by past by s (Reads _ _) m before t z h = absurd m.acts
standing_by past by s (Writes _ _) m before t z h = absurd m.acts
standing_by past by s (Spawns _ child kid cont _) m before t z h =
    standing_fork (next_task past) t by child cont kid z (current past t) (before by s m.stands) m.acts.0 (before t z) h
standing_by past by s (Creates _ child kid cont _) m before t z h =
    standing_fork (next_task past) t by child cont kid z (current past t) (before by s m.stands) m.acts.0 (before t z) h
standing_by past by s (Syncs x) m before t z h =
    more (next_task past) t (standing_one (next_task past) t by x z (current past t) (before by s m.stands) (before t z) h)
standing_by past by s (Gets _ _ x) m before t z h =
    more (next_task past) t (standing_one (next_task past) t by x z (current past t) (before by s m.stands) (before t z) h)
standing_by past by s (Ends _) m before t z h = more (next_task past) t (before t z h)

first_stands : (t z : ℕ) → (if t == 0 then Some 0 else None) ≡ Some z → t < 1
first_stands t z = by_eq (λ v. (if v then Some 0 else None) ≡ Some z → t < 1) t 0 (λ same _. omega (arith, same)) (λ _ h. cc)

-- a task that stands anywhere was begun
pub stands_task : (past : List Event) → IsSoundPast past → (t s : ℕ) → current past t ≡ Some s → t < next_task past
stands_task [] sound t s h = first_stands t s h
stands_task (e ∷ past) sound t s h = standing_by past e.task e.strand e.action sound.1 (stands_task past sound.0) t s h

-- a task that was not begun has no events
pub unborn : (past : List Event) → IsSoundPast past → (t : ℕ) → next_task past ≤ t → (block_of past t ≡ []) × (value_of past t ≡ None) × (last_of past t ≡ None)
unborn [] sound t late = (refl, refl, refl)
unborn (e ∷ past) sound t late =
    let low = stands_task past sound.0 e.task e.strand sound.1.stands in
    let later : next_task past ≤ t = omega (arith, late) in
    let other : t ≢ e.task = λ same. omega (arith, same, low, later) in
    let before = unborn past sound.0 t later in
    (block_other past e t other ∙ before.0, value_other past e t other ∙ before.1, last_other past e t other ∙ before.2)

-- ---- who spawned whom

pub new_task : (past : List Event) (by t : ℕ) (a : Action) → MayAct past by a → spawns_task t a → (t ≡ next_task past) × (tasks_by a ≡ 1)
new_task past by t (Reads _ _) m s = absurd s
new_task past by t (Writes _ _) m s = absurd s
new_task past by t (Spawns _ child _ _ _) m s = (sym s ∙ m.0, refl)
new_task past by t (Creates _ _ _ _ _) m s = absurd s
new_task past by t (Syncs _) m s = absurd s
new_task past by t (Gets _ _ _) m s = absurd s
new_task past by t (Ends _) m s = absurd s

-- the newest event spawned a task, or an older one did
newest : (past : List Event) (e : Event) (p t : ℕ) → Spawned (e ∷ past) p t → ((e.task ≡ p) × spawns_task t e.action) ⊎ Spawned past p t
newest past e p t s = elim s.1 [
  | inl same ↦ inl (ap (λ (x : Event). x.task) same ∙ s.2, subst (λ (x : Event). spawns_task t x.action) (sym same) s.3)
  | inr older ↦ inr (s.0, older, s.2, s.3)
]

pub spawned_task : (past : List Event) → IsSoundPast past → (p t : ℕ) → Spawned past p t → (p < next_task past) × (t < next_task past)
spawned_task [] sound p t s = absurd s.1
spawned_task (e ∷ past) sound p t s = elim (newest past e p t s) [
  | inl now ↦ (
      let new = new_task past e.task t e.action sound.1.acts now.1 in
      let low = stands_task past sound.0 e.task e.strand sound.1.stands in
      (omega (arith, now.0, low), omega (arith, new.0, new.1)))
  | inr older ↦ (let before = spawned_task past sound.0 p t older in (omega (arith, before.0), omega (arith, before.1)))
]

-- a parent has a lesser number
pub parent_before : (past : List Event) → IsSoundPast past → (p t : ℕ) → Spawned past p t → p < t
parent_before [] sound p t s = absurd s.1
parent_before (e ∷ past) sound p t s = elim (newest past e p t s) [
  | inl now ↦ (
      let new = new_task past e.task t e.action sound.1.acts now.1 in
      let low = stands_task past sound.0 e.task e.strand sound.1.stands in
      omega (arith, now.0, low, new.0))
  | inr older ↦ parent_before past sound.0 p t older
]

pub one_parent : (past : List Event) → IsSoundPast past → (p q t : ℕ) → Spawned past p t → Spawned past q t → p ≡ q
one_parent [] sound p q t s r = absurd s.1
one_parent (e ∷ past) sound p q t s r = elim (newest past e p t s) [
  | inl now ↦ elim (newest past e q t r) [
    | inl again ↦ sym now.0 ∙ again.0
    | inr older ↦ absurd (
        let new = new_task past e.task t e.action sound.1.acts now.1 in
        let low = spawned_task past sound.0 q t older in
        omega (arith, new.0, low.1))
  ]
  | inr older ↦ elim (newest past e q t r) [
    | inl again ↦ absurd (
        let new = new_task past e.task t e.action sound.1.acts again.1 in
        let low = spawned_task past sound.0 p t older in
        omega (arith, new.0, low.1))
    | inr both ↦ one_parent past sound.0 p q t older both
  ]
]

-- ---- blocks

after_out : (a : Action) (q : ℕ) (block : List ℕ) → Among q (block_after a block) → Among q block ⊎ spawns_task q a
after_out (Reads _ _) q block h = inl h
after_out (Writes _ _) q block h = inl h
after_out (Spawns _ child _ _ _) q block h = elim (among_split q block (child ∷ []) h) [
  | inl old ↦ inl old
  | inr new ↦ elim new [ inl same ↦ inr same | inr none ↦ absurd none ]
]
after_out (Creates _ _ _ _ _) q block h = inl h
after_out (Syncs _) q block h = absurd h
after_out (Gets _ _ _) q block h = inl h
after_out (Ends _) q block h = inl h

pub block_spawned : (past : List Event) (t q : ℕ) → Among q (block_of past t) → Spawned past t q
block_spawned [] t q = λ h. absurd h
block_spawned (e ∷ past) t q =
    by_eq (λ z. Among q (if z then block_after e.action (block_of past t) else block_of past t) → Spawned (e ∷ past) t q) t e.task
    (λ same h. elim (after_out e.action q (block_of past t) h) [
      | inl old ↦ (let s = block_spawned past t q old in (s.0, inr s.1, s.2, s.3))
      | inr new ↦ (e, inl refl, sym same, new)
    ])
    (λ _ h. (let s = block_spawned past t q h in (s.0, inr s.1, s.2, s.3)))

none_some : IsSome {T = ℕ} None → ⊥
none_some e = cc

pub ended_in : (past : List Event) (ts : List ℕ) (q : ℕ) → AllEnded past ts → Among q ts → IsSome (last_of past q)
ended_in past [] q all h = absurd h
ended_in past (t ∷ ts) q all (inl same) = subst (λ u. IsSome (last_of past u)) same all.0
ended_in past (t ∷ ts) q all (inr h) = ended_in past ts q all.1 h

spawn_in : (a : Action) (q : ℕ) (block : List ℕ) → spawns_task q a → Among q (block_after a block)
spawn_in (Reads _ _) q block s = absurd s
spawn_in (Writes _ _) q block s = absurd s
spawn_in (Spawns _ child _ _ _) q block s = among_right q block (child ∷ []) (inl s)
spawn_in (Creates _ _ _ _ _) q block s = absurd s
spawn_in (Syncs _) q block s = absurd s
spawn_in (Gets _ _ _) q block s = absurd s
spawn_in (Ends _) q block s = absurd s

stays_in : (past : List Event) (p q : ℕ) (a : Action) → MayAct past p a → last_of past q ≡ None → Among q (block_of past p)
    → Among q (block_after a (block_of past p))
stays_in past p q (Reads _ _) m none h = h
stays_in past p q (Writes _ _) m none h = h
stays_in past p q (Spawns _ child _ _ _) m none h = among_left q (block_of past p) (child ∷ []) h
stays_in past p q (Creates _ _ _ _ _) m none h = h
stays_in past p q (Syncs _) m none h = absurd (none_some (subst (λ (o : Option ℕ). IsSome o) none (ended_in past (block_of past p) q m.1 h)))
stays_in past p q (Gets _ _ _) m none h = h
stays_in past p q (Ends _) m none h = h

-- a child that has not ended is in its parent's block
pub still_in : (past : List Event) → IsSoundPast past → (p q : ℕ) → Spawned past p q → last_of past q ≡ None → Among q (block_of past p)
still_in [] sound p q s none = absurd s.1
still_in (e ∷ past) sound p q s none = elim (newest past e p q s) [
  | inl now ↦ subst (Among q) (sym (block_here past e p (sym now.0))) (spawn_in e.action q (block_of past p) now.1)
  | inr older ↦ (
      let before = last_before past e q none in
      let was = still_in past sound.0 p q older before in
      by_eq (λ z. Among q (if z then block_after e.action (block_of past p) else block_of past p)) p e.task
      (λ same. stays_in past p q e.action (subst (λ u. MayAct past u e.action) (sym same) sound.1.acts) before was) (λ _. was))
]

-- no number stands twice
abbrev pub AreOnce : List ℕ → Type 0
AreOnce [] = Unit {0}
AreOnce (x ∷ xs) = (Among x xs → ⊥) × AreOnce xs

once_more : (n : ℕ) (xs : List ℕ) → AreOnce xs → ((x : ℕ) → Among x xs → x < n) → AreOnce (xs ++ n ∷ [])
once_more n [] once low = ((λ h. h), tt)
once_more n (x ∷ xs) once low = (
  (λ h. elim (among_split x xs (n ∷ []) h) [
    | inl old ↦ once.0 old
    | inr new ↦ elim new [ inl same ↦ (let l = low x (inl refl) in omega (arith, same, l)) | inr none ↦ none ]
  ]),
  once_more n xs once.1 (λ y h. low y (inr h)),
)

once_after : (past : List Event) → (by p : ℕ) (a : Action) → MayAct past by a → ((x : ℕ) → Among x (block_of past p) → x < next_task past)
    → AreOnce (block_of past p) → AreOnce (block_after a (block_of past p))
once_after past by p (Reads _ _) m low once = once
once_after past by p (Writes _ _) m low once = once
once_after past by p (Spawns _ child _ _ _) m low once =
    once_more child (block_of past p) once (λ x h. (let l = low x h in let new = m.0 in omega (arith, l, new)))
once_after past by p (Creates _ _ _ _ _) m low once = once
once_after past by p (Syncs _) m low once = tt
once_after past by p (Gets _ _ _) m low once = once
once_after past by p (Ends _) m low once = once

pub block_once : (past : List Event) → IsSoundPast past → (t : ℕ) → AreOnce (block_of past t)
block_once [] sound t = tt
block_once (e ∷ past) sound t =
    by_eq (λ z. AreOnce (if z then block_after e.action (block_of past t) else block_of past t)) t e.task
    (λ _. once_after past e.task t e.action sound.1.acts (λ x h. (spawned_task past sound.0 t x (block_spawned past t x h)).1) (block_once past sound.0 t))
    (λ _. block_once past sound.0 t)

-- ---- how many have not ended

pub unended_same : (past : List Event) (e : Event) (ts : List ℕ) → ((t : ℕ) → Among t ts → last_of (e ∷ past) t ≡ last_of past t)
    → unended (e ∷ past) ts ≡ unended past ts
unended_same past e [] same = refl
unended_same past e (t ∷ ts) same =
    let here : still (last_of (e ∷ past) t) ≡ still (last_of past t) = ap still (same t (inl refl)) in
    let rest = unended_same past e ts (λ u h. same u (inr h)) in
    omega (arith, here, rest)

pub unended_append : (past : List Event) (ts : List ℕ) (t : ℕ) → unended past (ts ++ t ∷ []) ≡ unended past ts + still (last_of past t)
unended_append past [] t = omega arith
unended_append past (u ∷ ts) t = let rest = unended_append past ts t in omega (arith, rest)

-- one of them ends
pub unended_less : (past : List Event) (e : Event) (ts : List ℕ) → AreOnce ts → Among e.task ts → ends e.action ≡ true → last_of past e.task ≡ None
    → unended (e ∷ past) ts + 1 ≡ unended past ts
unended_less past e [] once h f none = absurd h
unended_less past e (t ∷ ts) once (inl same) f none =
    let now : still (last_of (e ∷ past) t) ≡ 0 = ap still (last_here past e t same f) in
    let was : still (last_of past t) ≡ 1 = ap still (ap (last_of past) same ∙ none) in
    let rest = unended_same past e ts (λ u h. last_other past e u (λ s. once.0 (subst (λ v. Among v ts) (s ∙ sym same) h))) in
    omega (arith, now, was, rest)
unended_less past e (t ∷ ts) once (inr h) f none =
    let here : still (last_of (e ∷ past) t) ≡ still (last_of past t) = ap still (last_other past e t (λ s. once.0 (subst (λ v. Among v ts) (sym s) h))) in
    let rest = unended_less past e ts once.1 h f none in
    omega (arith, here, rest)

has_ended : (o : Option ℕ) (n : ℕ) → still o + n ≡ 0 → IsSome o × (n ≡ 0)
has_ended None n e = absurd (omega (arith, e))
has_ended (Some x) n e = (refl, omega (arith, e))

pub none_unended : (past : List Event) (ts : List ℕ) → unended past ts ≡ 0 → AllEnded past ts
none_unended past [] e = tt
none_unended past (t ∷ ts) e = let k = has_ended (last_of past t) (unended past ts) e in (k.0, none_unended past ts k.1)

some_none : (o : Option ℕ) → IsSome o → still o ≡ 0
some_none None s = absurd (none_some s)
some_none (Some x) s = refl

pub all_ended_none : (past : List Event) (ts : List ℕ) → AllEnded past ts → unended past ts ≡ 0
all_ended_none past [] all = refl
all_ended_none past (t ∷ ts) all =
    let here = some_none (last_of past t) all.0 in
    let rest = all_ended_none past ts all.1 in
    omega (arith, here, rest)

pub not_all_ended : (past : List Event) (ts : List ℕ) → 0 < unended past ts → AllEnded past ts → ⊥
not_all_ended past ts some all = let none = all_ended_none past ts all in omega (arith, some, none)

-- ---- values and ends

value_step : (a : Action) (here : Bool) (s : ℕ) (last : Option ℕ) (value : Option Value) → (last ≡ None → value ≡ None)
    → ◌≡◌ {A = Option ℕ} (if here && ends a then Some s else last) None → (if here then value_by a value else value) ≡ None
value_step a false s last value before h = before h
value_step (Reads _ _) true s last value before h = before h
value_step (Writes _ _) true s last value before h = before h
value_step (Spawns _ _ _ _ _) true s last value before h = before h
value_step (Creates _ _ _ _ _) true s last value before h = before h
value_step (Syncs _) true s last value before h = before h
value_step (Gets _ _ _) true s last value before h = before h
value_step (Ends _) true s last value before h = cc

-- a task that has not ended has no value
pub last_none : (past : List Event) (t : ℕ) → last_of past t ≡ None → value_of past t ≡ None
last_none [] t h = refl
last_none (e ∷ past) t h = value_step e.action (t == e.task) e.strand (last_of past t) (value_of past t) (last_none past t) h
