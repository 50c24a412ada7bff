-- What the machine after the merge has: the states of the traces, and the values that the book gives.
use Rattle.std.proofs.Common.{◌≡◌, ℕ, zero, suc, ◌<◌, List, [], ◌∷◌, inl, inr, refl, sym, ap, ◌∙◌, subst, arith}
use Rattle.std.proofs.lemmas.Option.{same_Some}
use Rattle.std.specs.Prelude.{Option, Some, IsSome, reverse, slice_get}
use Rattle.fut_base.specs.declared.record.Value.{Value}
use Rattle.fut_base.specs.declared.event.Event.{Event}
use Rattle.fut_base.specs.Dag.{Among}
use Rattle.fut_base.specs.Sound.{IsSoundPast, next_task, value_of}
use Rattle.fut_syntax.specs.Trees as tree
use Rattle.task_machine.specs.Runs.{IsStateAfter}
use Rattle.task_machine.specs.Machine.{Machine, Running, opening, Leads, EachEnded}
use Rattle.task_machine.proofs.Places.{get_below}
use Rattle.run_laws.specs.Laws.{Mirrors}
use Rattle.run_laws.proofs.Pasts.{came, kept_of}
use Rattle.run_laws.proofs.Mirrored.{came_mirrors}
use Rattle.merge_laws.specs.Parts.{Drawn, events_in, StartsAs, IsTraced, IsMerge, IsSharedRun}
use Rattle.merge_laws.specs.Laws.{TracesGiveStates, WholeByBook}
use Rattle.merge_laws.proofs.Machines.{acts_of, follows_one, came_states}
use Rattle.merge_laws.proofs.Starts.{starts_one, starts_kept, some_tasks, made_range}
use Rattle.merge_laws.proofs.Steps.{get_some}
use Rattle.merge_laws.proofs.Merging.{book_kept, structure_sound, book_starts, trace_acts, legal}

-- a task that starts is one of the structure
starts_below : (P : tree.Program) (past : List Event) → IsSoundPast past → (t which : ℕ) (args : List Value) → StartsAs P past t which args → t < next_task past
starts_below P past s t which args (inl x) = let k = some_tasks past in omega (arith, k, x.0)
starts_below P past s t which args (inr (e, a, m)) = (made_range past s e a t which args m).1

each_ended : (rs : List Running) → ((t : ℕ) (r : Running) → slice_get rs t ≡ Some r → IsSome r.value) → EachEnded rs
each_ended [] f = tt
each_ended (r ∷ rs) f = (f 0 r refl, each_ended rs (λ t q h. f (suc t) q h))

ended_each : (rs : List Running) → EachEnded rs → (t : ℕ) (r : Running) → slice_get rs t ≡ Some r → IsSome r.value
ended_each [] e t r h = cc
ended_each (q ∷ rs) e zero r h = subst (λ (x : Running). IsSome x.value) (same_Some q r h) e.0
ended_each (q ∷ rs) e (suc t) r h = ended_each rs e.1 t r h

module _ (P : tree.Program) (n : ℕ) (place : ℕ → ℕ) (book : List Drawn) (shards : List (List Drawn)) (traces : List (ℕ × List Drawn)) (h : List Event)
    (run : IsSharedRun P n place book shards traces) (merge : IsMerge (book ∷ shards) h) (m : Machine) (leads : Leads P (opening P) h m) where
  pub kept : reverse (events_in book) ≡ kept_of (reverse h)
  kept = book_kept P n place book shards traces h run merge

  sound : IsSoundPast (kept_of (reverse h))
  sound = structure_sound P n place book shards traces h run merge

  pub mirrors : Mirrors (kept_of (reverse h)) m
  mirrors = came_mirrors P (reverse h) m (came P h m leads)

  pub task_there : (t : ℕ) → t < next_task (kept_of (reverse h)) → (q : Running) × (slice_get m.tasks t ≡ Some q) × (value_of (kept_of (reverse h)) t ≡ q.value)
  task_there t lt =
      let k = get_some m.tasks t (let e = mirrors.tasks in omega (arith, e, lt)) in
      (k.0, k.1, (mirrors.each t k.0 k.1).value)

  pub state_there : (r : ℕ × List Drawn) → Among r traces → (x : IsTraced P book r.0 r.1)
      → (q : Running) × (slice_get m.tasks r.0 ≡ Some q) × (q.state ≡ x.state) × (q.value ≡ value_of (reverse (events_in book)) r.0)
  state_there r a x =
      let starts = book_starts P n place book shards traces h run merge r.0 x.which x.args x.starts in
      let k = task_there r.0 (starts_below P (kept_of (reverse h)) sound r.0 x.which x.args starts) in
      let q : Running = k.0 in
      let s = came_states P (reverse h) m (came P h m leads) r.0 q k.1 in
      let one = starts_one P (kept_of (reverse h)) sound r.0 q.which x.which s.0 x.args (starts_kept P (reverse h) r.0 q.which s.0 s.1) starts in
      let own : IsStateAfter P x.which x.args (acts_of r.0 (reverse h)) q.state =
      subst (λ w. IsStateAfter P w x.args (acts_of r.0 (reverse h)) q.state) one.0
      (subst (λ (vs : List Value). IsStateAfter P q.which vs (acts_of r.0 (reverse h)) q.state) one.1 s.2) in
      let other : IsStateAfter P x.which x.args (acts_of r.0 (reverse h)) x.state =
      subst (λ (l : List Event). IsStateAfter P x.which x.args l x.state) (trace_acts P n place book shards traces h run merge r a) x.leads in
      (q, k.1, follows_one P _ (acts_of r.0 (reverse h)) q.state x.state own other, sym k.2 ∙ ap (λ (l : List Event). value_of l r.0) (sym kept))

  pub whole_there : ((t : ℕ) → t < next_task (reverse (events_in book)) → IsSome (value_of (reverse (events_in book)) t)) → EachEnded m.tasks
  whole_there f =
      each_ended m.tasks (λ t r got. (
      let below : t < next_task (reverse (events_in book)) =
      (let l = get_below m.tasks t r got in let e = mirrors.tasks in let o = ap next_task kept in omega (arith, l, e, o)) in
      subst (λ (v : Option Value). IsSome v) (ap (λ (l : List Event). value_of l t) kept ∙ (mirrors.each t r got).value) (f t below)))

  pub ended_there : EachEnded m.tasks → (t : ℕ) → t < next_task (reverse (events_in book)) → IsSome (value_of (reverse (events_in book)) t)
  ended_there e t lt =
      let k = task_there t (let o = ap next_task kept in omega (arith, o, lt)) in
      subst (λ (v : Option Value). IsSome v) (sym k.2 ∙ ap (λ (l : List Event). value_of l t) (sym kept)) (ended_each m.tasks e t k.0 k.1)

pub traces_give_states : TracesGiveStates
traces_give_states P n place book shards traces h run merge r a x m leads = state_there P n place book shards traces h run merge m leads r a x

pub whole_by_book : WholeByBook
whole_by_book P n place book shards traces h some run merge = (
  (λ w. ended_there P n place book shards traces h run merge w.0 w.1 w.2),
  (λ f. (let l = legal P n place book shards traces h run merge some in (l.0, l.1, whole_there P n place book shards traces h run merge l.0 l.1 f))),
)
