-- Of each task that has an entry there is a trace, and each trace is one by the whole book.
use Rattle.std.proofs.Common.{◌≡◌, ◌≢◌, ℕ, ◌+◌, ◌<◌, true, false, List, [], ◌∷◌, ◌++◌, length, inl, inr, refl, sym, ap, ◌∙◌, subst, arith}
use Rattle.std.specs.Prelude.{◌==◌, ◌||◌, reverse}
use Rattle.std.proofs.lemmas.Bool.{eqb-true, or_cases, or_right, both_ways}
use Rattle.fut_base.specs.declared.record.Value.{Value}
use Rattle.fut_base.specs.declared.event.Event.{Event}
use Rattle.fut_base.specs.declared.event.Action.{Action}
use Rattle.fut_base.specs.declared.event.Action.TheVariants.{Reads, Writes, Spawns, Creates, Syncs, Gets, Ends}
use Rattle.fut_base.specs.Dag.{Among}
use Rattle.fut_base.specs.Sound.{IsSound, next_task}
use Rattle.fut_base.proofs.Members.{among_right}
use Rattle.fut_syntax.specs.Trees as tree
use Rattle.event_clock.specs.Views.{is_child, has_child}
use Rattle.event_clock.specs.Rule.{own_of, is_task, IsOrderly, Rises}
use Rattle.event_clock.proofs.Lists.{picked_traced, child_of_first}
use Rattle.event_clock.proofs.Parted.{picked_is, picked_rises}
use Rattle.merge_laws.specs.Parts.{Drawn, events_in, Makes, StartsAs, IsTraced}
use Rattle.merge_laws.specs.Logs.{AreOfHolders}
use Rattle.merge_laws.specs.Gathered.{IsGathered, IsKnownTrace, GatheredGivesRun, tasks_of}
use Rattle.merge_laws.proofs.Fewest.{all_there}
use Rattle.merge_laws.proofs.Lists.{among_reverse, among_map, map_among}
use Rattle.merge_laws.proofs.Merging.{sound_structural}
use Rattle.merge_laws.proofs.More.{traced_by_more}
use Rattle.merge_laws.proofs.Starts.{some_tasks, made_range}

abbrev Draw : Type 0
Draw = ℕ × Event

-- ---- tasks

of_holders : (n : ℕ) (log : List Draw) → IsOrderly n log → AreOfHolders n log
of_holders n [] order x a = absurd a
of_holders n (y ∷ log) order x (inl same) = subst (λ (z : Draw). z.0 < n) same order.0.holder
of_holders n (y ∷ log) order x (inr a) = of_holders n log order.1 x a

task_stays : (t : ℕ) (y : Draw) (log : List Draw) → is_task t log ≡ true → is_task t (y ∷ log) ≡ true
task_stays t y log is =
    elim (or_cases (t == 0) (has_child t log) is) [
      | inl first ↦ ap (λ b. b || has_child t (y ∷ log)) first
      | inr made ↦ or_right (t == 0) (has_child t (y ∷ log)) (or_right (is_child t y.1.action) (has_child t log) made)
    ]

drew_task : (n : ℕ) (log : List Draw) → IsOrderly n log → (x : Draw) → Among x log → is_task x.1.task log ≡ true
drew_task n [] order x a = absurd a
drew_task n (y ∷ log) order x (inl same) = task_stays x.1.task y log (subst (λ (z : Draw). is_task z.1.task log ≡ true) same order.0.task)
drew_task n (y ∷ log) order x (inr a) = task_stays x.1.task y log (drew_task n log order.1 x a)

child_made : (t : ℕ) (xs : List Draw) → has_child t xs ≡ true → (x : Draw) × Among x xs × (is_child t x.1.action ≡ true)
child_made t [] made = absurd (both_ways false refl made)
child_made t (x ∷ xs) made =
    elim (or_cases (is_child t x.1.action) (has_child t xs) made) [
      | inl here ↦ (x, inl refl, here)
      | inr there ↦ (let r = child_made t xs there in (r.0, inr r.1, r.2))
    ]

makes_child : (t : ℕ) (a : Action) → is_child t a ≡ true → (which : ℕ) × (args : List Value) × Makes a t which args
makes_child t (Reads _ _) is = absurd (both_ways false refl is)
makes_child t (Writes _ _) is = absurd (both_ways false refl is)
makes_child t (Spawns code child kid cont args) is = (code, args, (eqb-true child t is, refl, refl))
makes_child t (Creates code child kid cont args) is = (code, args, (eqb-true child t is, refl, refl))
makes_child t (Syncs _) is = absurd (both_ways false refl is)
makes_child t (Gets _ _ _) is = absurd (both_ways false refl is)
makes_child t (Ends _) is = absurd (both_ways false refl is)

started_below : (P : tree.Program) (own : List Drawn) → IsSound (events_in own) → (t which : ℕ) (args : List Value)
    → StartsAs P (events_in own) t which args → t < next_task (reverse (events_in own))
started_below P own sound t which args (inl first) = let k = some_tasks (reverse (events_in own)) in omega (arith, k, first.0)
started_below P own sound t which args (inr (e, a, makes)) =
    (made_range (reverse (events_in own)) sound e (among_reverse e (events_in own) a) t which args makes).1

task_below : (n : ℕ) (log : List Draw) → IsOrderly n log → IsSound (events_in (own_of 0 log)) → (t : ℕ) → is_task t log ≡ true
    → t < next_task (reverse (events_in (own_of 0 log)))
task_below n log order sound t is =
    let own : List Drawn = own_of 0 log in
    elim (or_cases (t == 0) (has_child t log) is) [
      | inl first ↦ (let k = some_tasks (reverse (events_in own)) in let z = eqb-true t 0 first in omega (arith, k, z))
      | inr made ↦ (
          let c = child_made t own (child_of_first n t log order made) in
          let m = makes_child t c.0.1.action c.2 in
          let e : Event = c.0.1 in
          (made_range (reverse (events_in own)) sound e (among_reverse e (events_in own) (among_map (λ (y : Drawn). y.1) c.0 own c.1)) t m.0 m.1 m.2).1)
    ]

-- ---- lists that rise

apart : (xs ys : List Drawn) → Rises (xs ++ ys) → (x y : Drawn) → Among x xs → Among y ys → x.0 < y.0
apart [] ys up x y a b = absurd a
apart (z ∷ xs) ys up x y (inl same) b = subst (λ (k : Drawn). k.0 < y.0) same (up.0 y (among_right y xs ys b))
apart (z ∷ xs) ys up x y (inr a) b = apart xs ys up.1 x y a b

-- ---- the run

module _ (P : tree.Program) (n : ℕ) (place : ℕ → ℕ) (log : List Draw) (traces : List (ℕ × List Drawn)) (g : IsGathered P n place log traces) where
  abbrev book : List Drawn
  book = own_of 0 log

  of_task : (r : ℕ × List Drawn) → Among r traces → (x : Drawn) → Among x r.1 → x.1.task ≡ r.0
  of_task r a x b =
      let d = picked_is (λ (y : Draw). y.1.task == r.0) log x (subst (λ (l : List Drawn). Among x l) (g.whole r a) b) in
      ap (λ (e : Event). e.task) (sym d.3) ∙ eqb-true d.0.1.task r.0 d.2

  -- an entry of a task in the book is one of what is known of it
  is_known : (r : ℕ × List Drawn) → Among r traces → (k : IsKnownTrace P book r.0 r.1) → (x : Drawn) → Among x book → x.1.task ≡ r.0 → Among x k.known
  is_known r a k x b same =
      let mine : Among x r.1 = subst (λ (l : List Drawn). Among x l) (sym (g.whole r a)) (picked_traced (λ (y : Draw). y.0 == 0) log r.0 x same b) in
      k.own x mine (sound_structural (reverse (events_in book)) g.sound x.1 (among_reverse x.1 (events_in book) (among_map (λ (y : Drawn). y.1) x book b)))

  traced : (r : ℕ × List Drawn) → Among r traces → IsTraced P book r.0 r.1
  traced r a =
      let k = g.known r a in
      let more : List Drawn = k.begins.0 in
      let whole : k.known ++ more ≡ book = k.begins.1 in
      let up : Rises (k.known ++ more) = subst (λ (l : List Drawn). Rises l) (sym whole) (picked_rises (λ (y : Draw). y.0 == 0) log) in
      let sound : IsSound (events_in (k.known ++ more)) = subst (λ (l : List Drawn). IsSound (events_in l)) (sym whole) g.sound in
      let other : (x : Drawn) → Among x more → x.1.task ≢ r.0 =
      (λ x b same. (
      let there : Among x book = subst (λ (l : List Drawn). Among x l) whole (among_right x k.known more b) in
      let twice = apart k.known more up x x (is_known r a k x there same) b in
      omega (arith, twice))) in
      subst (λ (l : List Drawn). IsTraced P l r.0 r.1) whole (traced_by_more P k.known more r.0 r.1 up sound (of_task r a) other k.traced)

  tasks_below : (t : ℕ) → Among t (tasks_of traces) → t < next_task (reverse (events_in book))
  tasks_below t a =
      let r = map_among (λ (r : ℕ × List Drawn). r.0) t traces a in
      let x = traced r.0 r.1 in
      subst (λ i. i < next_task (reverse (events_in book))) r.2 (started_below P book g.sound r.0.0 x.which x.args x.starts)

  count : (l : List (ℕ × List Drawn)) → length (tasks_of l) ≡ length l
  count [] = refl
  count (x ∷ l) = let r = count l in omega (arith, r)

  has_trace : (x : Draw) → Among x log → (trace : List Drawn) × Among (x.1.task, trace) traces
  has_trace x a =
      let below = task_below (n + 1) log g.orderly g.sound x.1.task (drew_task (n + 1) log g.orderly x a) in
      let there = all_there (next_task (reverse (events_in book))) (tasks_of traces) g.once tasks_below (count traces ∙ g.many) x.1.task below in
      let r = map_among (λ (r : ℕ × List Drawn). r.0) x.1.task traces there in
      (r.0.1, subst (λ t. Among (t, r.0.1) traces) r.2 r.1)

pub gathered_gives_run : GatheredGivesRun
gathered_gives_run P n place log traces g =
    record {
      holders = of_holders (n + 1) log g.orderly;
      sound = g.sound;
      shared = g.shared;
      tasks = has_trace P n place log traces g;
      whole = g.whole;
      traced = traced P n place log traces g;
    }
