-- By a sound list of events each task starts in one way, and acts after that.
use Rattle.std.proofs.Common.{◌≡◌, ◌≢◌, ℕ, ◌+◌, ◌<◌, ◌≤◌, ◌==◌, false, if◌then◌else◌, List, [], ◌∷◌, ◌++◌, inl, inr, ◌⊎◌, refl, sym, ap, ◌∙◌, subst, arith}
use Rattle.std.specs.Prelude.{◌&&◌, Option, Some, None, reverse}
use Rattle.std.proofs.lemmas.Option.{same_Some}
use Rattle.fut_base.proofs.Cases.{by_eq}
use Rattle.fut_base.proofs.Members.{among_left, among_split}
use Rattle.fut_base.specs.declared.record.Value.{Value}
use Rattle.fut_base.specs.declared.event.Event.{Event}
use Rattle.fut_base.specs.declared.event.Action.{Action}
use Rattle.fut_base.specs.declared.event.Action.TheVariants.{Reads, Writes, Spawns, Creates, Syncs, Gets, Ends}
use Rattle.fut_base.specs.Dag.{Among, ends, last_of}
use Rattle.fut_base.specs.Sound.{IsSoundPast, IsSound, MayAct, MayFollow, next_task, tasks_by, value_of, value_by}
use Rattle.fut_syntax.specs.Trees as tree
use Rattle.strand_laws.proofs.Links.{linked}
use Rattle.run_book.specs.Jobs.{Makes, StartsAs}
use Rattle.run_book.proofs.Drawn.{among_reverse}

-- the task that an action makes has the next number
pub makes_next : (past : List Event) (by : ℕ) (a : Action) (t which : ℕ) (args : List Value) → MayAct past by a → Makes a t which args
    → (t ≡ next_task past) × (tasks_by a ≡ 1)
makes_next past by (Reads _ _) t which args may m = absurd m
makes_next past by (Writes _ _) t which args may m = absurd m
makes_next past by (Spawns _ _ _ _ _) t which args may m = (sym m.0 ∙ may.0, refl)
makes_next past by (Creates _ _ _ _ _) t which args may m = (sym m.0 ∙ may.0, refl)
makes_next past by (Syncs _) t which args may m = absurd m
makes_next past by (Gets _ _ _) t which args may m = absurd m
makes_next past by (Ends _) t which args may m = absurd m

pub some_tasks : (past : List Event) → 0 < next_task past
some_tasks [] = omega arith
some_tasks (e ∷ past) = let k = some_tasks past in omega (arith, k)

pub acting_below : (past : List Event) → IsSoundPast past → (e : Event) → MayFollow past e → e.task < next_task past
acting_below past s e may = ((linked past s).cur e.task e.strand may.stands).0

-- a task that acts was there
pub acts_below : (past : List Event) → IsSoundPast past → (e : Event) → Among e past → e.task < next_task past
acts_below [] s e a = absurd a
acts_below (d ∷ past) s e (inl same) =
    let k = acting_below past s.0 d s.1 in
    let t : d.task ≡ e.task = ap (λ (z : Event). z.task) same in
    omega (arith, k, t)
acts_below (d ∷ past) s e (inr a) = let k = acts_below past s.0 e a in omega (arith, k)

-- so is one that was made
pub made_range : (past : List Event) → IsSoundPast past → (e : Event) → Among e past → (t which : ℕ) (args : List Value) → Makes e.action t which args
    → (0 < t) × (t < next_task past)
made_range [] s e a t which args m = absurd a
made_range (d ∷ past) s e (inl same) t which args m =
    let n = makes_next past d.task d.action t which args s.1.acts (subst (λ (z : Event). Makes z.action t which args) (sym same) m) in
    let k = some_tasks past in
    (omega (arith, n.0, k), omega (arith, n.0, n.1))
made_range (d ∷ past) s e (inr a) t which args m =
    let k = made_range past s.0 e a t which args m in
    (k.0, omega (arith, k.1))

same_makes : (a : Action) (t w v : ℕ) (args given : List Value) → Makes a t w args → Makes a t v given → (w ≡ v) × (args ≡ given)
same_makes (Reads _ _) t w v args given m n = absurd m
same_makes (Writes _ _) t w v args given m n = absurd m
same_makes (Spawns _ _ _ _ _) t w v args given m n = (sym m.1 ∙ n.1, sym m.2 ∙ n.2)
same_makes (Creates _ _ _ _ _) t w v args given m n = (sym m.1 ∙ n.1, sym m.2 ∙ n.2)
same_makes (Syncs _) t w v args given m n = absurd m
same_makes (Gets _ _ _) t w v args given m n = absurd m
same_makes (Ends _) t w v args given m n = absurd m

made_once : (past : List Event) → IsSoundPast past → (e d : Event) → Among e past → Among d past → (t w v : ℕ) (args given : List Value)
    → Makes e.action t w args → Makes d.action t v given → (w ≡ v) × (args ≡ given)
made_once [] s e d a b t w v args given m n = absurd a
made_once (x ∷ past) s e d (inl p) (inl q) t w v args given m n =
    same_makes x.action t w v args given (subst (λ (z : Event). Makes z.action t w args) (sym p) m) (subst (λ (z : Event). Makes z.action t v given) (sym q) n)
made_once (x ∷ past) s e d (inl p) (inr b) t w v args given m n =
    let k = makes_next past x.task x.action t w args s.1.acts (subst (λ (z : Event). Makes z.action t w args) (sym p) m) in
    let l = made_range past s.0 d b t v given n in
    absurd (omega (arith, k.0, l.1))
made_once (x ∷ past) s e d (inr a) (inl q) t w v args given m n =
    let k = makes_next past x.task x.action t v given s.1.acts (subst (λ (z : Event). Makes z.action t v given) (sym q) n) in
    let l = made_range past s.0 e a t w args m in
    absurd (omega (arith, k.0, l.1))
made_once (x ∷ past) s e d (inr a) (inr b) t w v args given m n = made_once past s.0 e d a b t w v args given m n

-- a start by some events is one by all
pub starts_in : (P : tree.Program) (xs ys : List Event) (t which : ℕ) (args : List Value) → ((e : Event) → Among e xs → Among e ys)
    → StartsAs P xs t which args → StartsAs P ys t which args
starts_in P xs ys t which args f (inl s) = inl s
starts_in P xs ys t which args f (inr (e, a, m)) = inr (e, f e a, m)

starts_once : (P : tree.Program) (past : List Event) → IsSoundPast past → (t w v : ℕ) (args given : List Value) → StartsAs P past t w args
    → StartsAs P past t v given → (w ≡ v) × (args ≡ given)
starts_once P past s t w v args given (inl x) (inl y) = (sym x.1 ∙ y.1, x.2 ∙ sym y.2)
starts_once P past s t w v args given (inl x) (inr (e, a, m)) = let k = made_range past s e a t v given m in absurd (omega (arith, k.0, x.0))
starts_once P past s t w v args given (inr (e, a, m)) (inl y) = let k = made_range past s e a t w args m in absurd (omega (arith, k.0, y.0))
starts_once P past s t w v args given (inr (e, a, m)) (inr (d, b, n)) = made_once past s e d a b t w v args given m n

pub starts_one : (P : tree.Program) (s : List Event) → IsSound s → (t w v : ℕ) (args given : List Value) → StartsAs P s t w args → StartsAs P s t v given
    → (w ≡ v) × (args ≡ given)
starts_one P s sound t w v args given x y =
    let turned : (e : Event) → Among e s → Among e (reverse s) = λ e a. among_reverse e s a in
    starts_once P (reverse s) sound t w v args given (starts_in P s (reverse s) t w args turned x) (starts_in P s (reverse s) t v given turned y)

pub starts_more : (P : tree.Program) (s : List Event) (e : Event) (t which : ℕ) (args : List Value) → StartsAs P s t which args → StartsAs P (s ++ e ∷ []) t which args
starts_more P s e t which args x = starts_in P s (s ++ e ∷ []) t which args (λ d a. among_left d s (e ∷ []) a) x

-- a task that was there was not started by the last event
pub starts_less : (P : tree.Program) (s : List Event) (e : Event) (t which : ℕ) (args : List Value) → MayFollow (reverse s) e → t < next_task (reverse s)
    → StartsAs P (s ++ e ∷ []) t which args → StartsAs P s t which args
starts_less P s e t which args may below (inl x) = inl x
starts_less P s e t which args may below (inr (d, a, m)) = elim (among_split d s (e ∷ []) a) [
  | inl old ↦ inr (d, old, m)
  | inr new ↦ elim new [
    | inl same ↦
        absurd (
        let n = makes_next (reverse s) e.task e.action t which args may.acts (subst (λ (z : Event). Makes z.action t which args) (sym same) m) in
        omega (arith, n.0, below))
    | inr none ↦ absurd none
  ]
]

-- ---- ends

ends_as : (a : Action) (old : Option Value) (v : Value) → value_by a old ≡ Some v → (a ≡ Ends v) ⊎ (old ≡ Some v)
ends_as (Reads _ _) old v h = inr h
ends_as (Writes _ _) old v h = inr h
ends_as (Spawns _ _ _ _ _) old v h = inr h
ends_as (Creates _ _ _ _ _) old v h = inr h
ends_as (Syncs _) old v h = inr h
ends_as (Gets _ _ _) old v h = inr h
ends_as (Ends w) old v h = inl (ap Ends (same_Some w v h))

-- the value of a task is that of its end
pub ended_as : (past : List Event) (t : ℕ) (v : Value) → value_of past t ≡ Some v → (e : Event) × Among e past × (e.task ≡ t) × (e.action ≡ Ends v)
ended_as [] t v h = cc
ended_as (e ∷ past) t v h =
    by_eq
    (λ b. (if b then value_by e.action (value_of past t) else value_of past t) ≡ Some v → (d : Event) × Among d (e ∷ past) × (d.task ≡ t) × (d.action ≡ Ends v))
    t e.task
    (λ same now. elim (ends_as e.action (value_of past t) v now) [
      | inl is ↦ (e, inl refl, sym same, is)
      | inr old ↦ (let k = ended_as past t v old in (k.0, inr k.1, k.2, k.3))
    ])
    (λ ne now. (let k = ended_as past t v now in (k.0, inr k.1, k.2, k.3)))
    h

-- a future that was got is of a task that was there
pub got_below : (past : List Event) → IsSoundPast past → (e : Event) (f : ℕ) (v : Value) (strand : ℕ) → Among e past → e.action ≡ Gets f v strand → f < next_task past
got_below [] s e f v strand a is = absurd a
got_below (d ∷ past) s e f v strand (inl same) is =
    let acts : MayAct past d.task (Gets f v strand) = subst (λ z. MayAct past d.task z) (ap (λ (z : Event). z.action) same ∙ is) s.1.acts in
    let k = ended_as past f v acts.1 in
    let l = acts_below past s.0 k.0 k.1 in
    let t : k.0.task ≡ f = k.2 in
    omega (arith, l, t)
got_below (d ∷ past) s e f v strand (inr a) is = let k = got_below past s.0 e f v strand a is in omega (arith, k)

-- a task of which no event is an end has not ended
pub not_ended : (past : List Event) (t : ℕ) → ((e : Event) → Among e past → e.task ≡ t → ends e.action ≡ false) → last_of past t ≡ None
not_ended [] t f = refl
not_ended (e ∷ past) t f =
    let rest : last_of past t ≡ None = not_ended past t (λ d a same. f d (inr a) same) in
    by_eq (λ z. (if z && ends e.action then Some e.strand else last_of past t) ≡ None) t e.task
    (λ same. ap (λ b. if b then Some e.strand else last_of past t) (f e (inl refl) (sym same)) ∙ rest)
    (λ _. rest)
