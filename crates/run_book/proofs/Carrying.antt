-- What the book's holder carries.
use Rattle.std.proofs.Common.{◌≡◌, ◌≢◌, ℕ, ◌+◌, ◌<◌, ◌≤◌, ◌==◌, Bool, true, false, if◌then◌else◌, List, [], ◌∷◌, ◌++◌, inl, inr, ◌⊎◌, refl, sym, ap, ◌∙◌, subst, arith}
use Rattle.std.proofs.lemmas.Bool.{cases_Bool, eqb-true, ne_eqb, eq-eqb, both_ways}
use Rattle.fut_base.specs.declared.event.Event.{Event}
use Rattle.fut_base.specs.Dag.{Among}
use Rattle.event_clock.specs.declared.view.Carried.{Carried}
use Rattle.event_clock.specs.Views.{carries, with_entry, without_task, only_task}

-- a task with its trace
abbrev pub carried_task : ℕ → List (ℕ × Event) → Carried
carried_task t trace = record { task = t; trace = trace }

-- ---- tasks that are not carried

-- another task in front is another one
not_first : (t : ℕ) (c : Carried) (cs : List Carried) → carries t (c ∷ cs) ≡ 0 → ((c.task == t) ≡ false) × (carries t cs ≡ 0)
not_first t c cs none =
    elim (cases_Bool (c.task == t)) [
      | inl y ↦
          let two : 1 + carries t cs ≡ 0 = subst (λ b. (if b then 1 else 0) + carries t cs ≡ 0) y none in
          absurd (omega (arith, two))
      | inr f ↦
          let rest : 0 + carries t cs ≡ 0 = subst (λ b. (if b then 1 else 0) + carries t cs ≡ 0) f none in
          (f, omega (arith, rest))
    ]

turned_false : (a b : ℕ) → (a == b) ≡ false → (b == a) ≡ false
turned_false a b f =
    elim (cases_Bool (b == a)) [
      | inl y ↦ absurd (both_ways (a == b) f (eq-eqb a b (sym (eqb-true b a y))))
      | inr n ↦ n
    ]

pub entry_off : (x : ℕ × Event) (cs : List Carried) → carries x.1.task cs ≡ 0 → with_entry x cs ≡ cs
entry_off x [] none = refl
entry_off x (c ∷ cs) none =
    let off = not_first x.1.task c cs none in
    ap (λ b. (if b then carried_task c.task (c.trace ++ x ∷ []) else c) ∷ with_entry x cs) (turned_false c.task x.1.task off.0)
    ∙ ap (λ (ds : List Carried). c ∷ ds) (entry_off x cs off.1)

pub without_off : (t : ℕ) (cs : List Carried) → carries t cs ≡ 0 → without_task t cs ≡ cs
without_off t [] none = refl
without_off t (c ∷ cs) none =
    let off = not_first t c cs none in
    ap (λ b. if b then without_task t cs else c ∷ without_task t cs) off.0 ∙ ap (λ (ds : List Carried). c ∷ ds) (without_off t cs off.1)

pub only_off : (t : ℕ) (cs : List Carried) → carries t cs ≡ 0 → only_task t cs ≡ []
only_off t [] none = refl
only_off t (c ∷ cs) none =
    let off = not_first t c cs none in
    ap (λ b. if b then c ∷ only_task t cs else only_task t cs) off.0 ∙ only_off t cs off.1

-- ---- two lists of tasks

pub entry_append : (x : ℕ × Event) (cs ds : List Carried) → with_entry x (cs ++ ds) ≡ with_entry x cs ++ with_entry x ds
entry_append x [] ds = refl
entry_append x (c ∷ cs) ds =
    ap (λ (es : List Carried). (if x.1.task == c.task then carried_task c.task (c.trace ++ x ∷ []) else c) ∷ es) (entry_append x cs ds)

if_append : (b : Bool) (c : Carried) (cs ds : List Carried) → (if b then cs ++ ds else c ∷ (cs ++ ds)) ≡ (if b then cs else c ∷ cs) ++ ds
if_append true c cs ds = refl
if_append false c cs ds = refl

append_if : (b : Bool) (c : Carried) (cs ds : List Carried) → (if b then c ∷ (cs ++ ds) else cs ++ ds) ≡ (if b then c ∷ cs else cs) ++ ds
append_if true c cs ds = refl
append_if false c cs ds = refl

pub without_append : (t : ℕ) (cs ds : List Carried) → without_task t (cs ++ ds) ≡ without_task t cs ++ without_task t ds
without_append t [] ds = refl
without_append t (c ∷ cs) ds =
    ap (λ (es : List Carried). if c.task == t then es else c ∷ es) (without_append t cs ds) ∙ if_append (c.task == t) c (without_task t cs) (without_task t ds)

pub only_append : (t : ℕ) (cs ds : List Carried) → only_task t (cs ++ ds) ≡ only_task t cs ++ only_task t ds
only_append t [] ds = refl
only_append t (c ∷ cs) ds =
    ap (λ (es : List Carried). if c.task == t then c ∷ es else es) (only_append t cs ds) ∙ append_if (c.task == t) c (only_task t cs) (only_task t ds)

-- ---- one task behind others

self_true : (t : ℕ) → (t == t) ≡ true
self_true t = eq-eqb t t refl

-- the entry of the last task is added beside it
pub entry_last : (x : ℕ × Event) (cs : List Carried) (t : ℕ) (trace : List (ℕ × Event)) → x.1.task ≡ t → carries t cs ≡ 0
    → with_entry x (cs ++ carried_task t trace ∷ []) ≡ cs ++ carried_task t (trace ++ x ∷ []) ∷ []
entry_last x cs t trace own none =
    let off : carries x.1.task cs ≡ 0 = subst (λ n. carries n cs ≡ 0) (sym own) none in
    let hit : (x.1.task == t) ≡ true = subst (λ n. (n == t) ≡ true) (sym own) (self_true t) in
    entry_append x cs (carried_task t trace ∷ [])
    ∙ ap (λ (ds : List Carried). ds ++ with_entry x (carried_task t trace ∷ [])) (entry_off x cs off)
    ∙ ap (λ b. cs ++ (if b then carried_task t (trace ++ x ∷ []) else carried_task t trace) ∷ []) hit

append_none : (cs : List Carried) → cs ++ [] ≡ cs
append_none [] = refl
append_none (c ∷ cs) = ap (λ (ds : List Carried). c ∷ ds) (append_none cs)

-- the last task is given out
pub without_last : (t : ℕ) (cs : List Carried) (trace : List (ℕ × Event)) → carries t cs ≡ 0 → without_task t (cs ++ carried_task t trace ∷ []) ≡ cs
without_last t cs trace none =
    without_append t cs (carried_task t trace ∷ [])
    ∙ ap (λ (ds : List Carried). ds ++ without_task t (carried_task t trace ∷ [])) (without_off t cs none)
    ∙ ap (λ b. cs ++ (if b then [] else carried_task t trace ∷ [])) (self_true t) ∙ append_none cs

pub only_last : (t : ℕ) (cs : List Carried) (trace : List (ℕ × Event)) → carries t cs ≡ 0
    → only_task t (cs ++ carried_task t trace ∷ []) ≡ carried_task t trace ∷ []
only_last t cs trace none =
    only_append t cs (carried_task t trace ∷ [])
    ∙ ap (λ (ds : List Carried). ds ++ only_task t (carried_task t trace ∷ [])) (only_off t cs none)
    ∙ ap (λ b. if b then carried_task t trace ∷ [] else []) (self_true t)

-- the first task is given out
pub without_first : (t : ℕ) (trace : List (ℕ × Event)) (cs : List Carried) → carries t cs ≡ 0 → without_task t (carried_task t trace ∷ cs) ≡ cs
without_first t trace cs none =
    ap (λ b. if b then without_task t cs else carried_task t trace ∷ without_task t cs) (self_true t) ∙ without_off t cs none

pub only_first : (t : ℕ) (trace : List (ℕ × Event)) (cs : List Carried) → carries t cs ≡ 0
    → only_task t (carried_task t trace ∷ cs) ≡ carried_task t trace ∷ []
only_first t trace cs none =
    ap (λ b. if b then carried_task t trace ∷ only_task t cs else only_task t cs) (self_true t)
    ∙ ap (λ (ds : List Carried). carried_task t trace ∷ ds) (only_off t cs none)
