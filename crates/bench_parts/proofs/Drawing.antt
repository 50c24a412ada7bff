-- Holders that may draw: after a pass was made and told again, after a spawn, and as a clock is made.
use Rattle.std.proofs.lemmas.List.{same_from_push}
use Rattle.std.proofs.lemmas.Bool.{cases_Bool, eqb-true, ne_eqb, eq-eqb, both_ways}
use Rattle.fut_base.proofs.Members.{among_left, among_last}
use Rattle.std.proofs.Common.{◌≡◌, ◌≢◌, ℕ, zero, suc, ◌+◌, ◌<◌, ◌≤◌, ◌==◌, Bool, true, false, ◌||◌, if◌then◌else◌, List, [], ◌∷◌, ◌++◌, inl, inr, ap, sym}
use Rattle.std.proofs.Common.{subst, refl, arith, ◌∙◌, map}
use Rattle.atomic_table.specs.Seated.{TableId}
use Rattle.fut_base.specs.declared.event.Event.{Event}
use Rattle.fut_base.specs.Dag.{Among}
use Rattle.event_clock.specs.declared.view.View.{View}
use Rattle.event_clock.specs.declared.view.Carried.{Carried}
use Rattle.event_clock.specs.declared.view.Own.{Own}
use Rattle.event_clock.specs.declared.view.Size.{Size}
use Rattle.event_clock.specs.Views.{carries, has_child, is_child, own_list, number_of, first_number, first_entries, add_own, without_task, only_task}
use Rattle.event_clock.specs.Views.{with_child, with_entry, after_note, noted, after_split, split_off, joined, drawn, below}
use Rattle.event_clock.specs.Seated.{Seated, Ticking, IsDraw, fresh}
use Rattle.event_clock.specs.declared.clock.Drawn.{Drawn}
use Rattle.event_clock.proofs.Carrying.{still_carried}
use Rattle.event_clock.specs.Closing.{AreOf}
use Rattle.event_clock.proofs.Lists.{carries_append, carries_cut, carries_child, carries_entry}
use Rattle.bench_parts.specs.Drawing.{CanDraw, CanSpawn}

-- of tasks from which one was taken and then added as often as they carried it
pub told_again : (t : ℕ) (cs : List Carried) → carries t (without_task t cs ++ only_task t cs) ≡ carries t cs
told_again t cs = carries_append t (without_task t cs) (only_task t cs) ∙ carries_cut t t cs

-- a task alone is carried as before, and no other is
pub only_same : (t : ℕ) (cs : List Carried) → carries t (only_task t cs) ≡ carries t cs
only_same t [] = refl
only_same t (c ∷ cs) = elim (cases_Bool (c.task == t)) [ inl e ↦ rw e (rw e (omega (arith, only_same t cs))) | inr f ↦ rw f (omega (arith, only_same t cs)) ]

pub only_other : (t u : ℕ) (cs : List Carried) → (u == t) ≡ false → carries t (only_task u cs) ≡ 0
only_other t u [] ne = refl
only_other t u (c ∷ cs) ne =
    elim (cases_Bool (c.task == u)) [
      | inl e ↦ rw e (rw (subst (λ n. (n == t) ≡ false) (sym (eqb-true c.task u e)) ne) (omega (arith, only_other t u cs ne)))
      | inr f ↦ rw f (only_other t u cs ne)
    ]

-- own entries after one was added
number_added : (x : ℕ × Event) (os : List Own) → first_number (add_own x os) ≡ first_number os
number_added x [] = refl
number_added x (p ∷ os) = refl

none_appended : (t : ℕ) (x : ℕ × Event) (xs : List (ℕ × Event)) → has_child t xs ≡ false → is_child t x.1.action ≡ false → has_child t (xs ++ x ∷ []) ≡ false
none_appended t x [] none other = rw other refl
none_appended t x (y ∷ xs) none other =
    elim (cases_Bool (is_child t y.1.action)) [
      | inl e ↦ absurd (both_ways _ none (rw e refl))
      | inr f ↦ rw f (none_appended t x xs (subst (λ b. (b || has_child t xs) ≡ false) f none) other)
    ]

none_added : (t : ℕ) (x : ℕ × Event) (os : List Own) → has_child t (first_entries os) ≡ false → is_child t x.1.action ≡ false
    → has_child t (first_entries (add_own x os)) ≡ false
none_added t x [] none other = none
none_added t x (p ∷ os) none other = none_appended t x p.entries none other

-- the holders of a new clock belong to it, and the last one is holder 0
pub of_popped : (id : TableId) (all us : List Seated) (u : Seated) → all ≡ us ++ u ∷ [] → AreOf id all → AreOf id us × (u.clock ≡ id)
of_popped id all us u parts are =
    let here : AreOf id (us ++ u ∷ []) = subst (λ l. AreOf id l) parts are in
    ((λ w there. here w (among_left w us (u ∷ []) there)), here u (among_last u us))

fresh_clock : (id : TableId) (size : Size) (n : ℕ) → (fresh id size n).clock ≡ id
fresh_clock id size zero = refl
fresh_clock id size (suc n) = refl

record Dealt (id : TableId) (size : Size) (n : ℕ) : Type 0 where
  others : List Seated
  are : AreOf id others
  all : map (fresh id size) (below (suc n)) ≡ others ++ fresh id size 0 ∷ []

dealt : (id : TableId) (size : Size) (n : ℕ) → Dealt id size n
dealt id size zero = record { others = []; are = λ u there. absurd there; all = refl }
dealt id size (suc n) =
    let d = dealt id size n in
    record {
      others = fresh id size (suc n) ∷ d.others;
      are = λ u there. elim there [ inl e ↦ subst (λ w. w.clock ≡ id) e (fresh_clock id size (suc n)) | inr more ↦ d.are u more ];
      all = ap (λ us. fresh id size (suc n) ∷ us) d.all;
    }

pub record Begun (clock : Ticking) (first : Seated) (others : List Seated) : Type 0 where
  pub spawns : CanSpawn clock first 1
  pub are : AreOf clock.id others

pub begun : (clock : Ticking) (n : ℕ) (all others : List Seated) (first : Seated) → 0 < n → all ≡ map (fresh clock.id clock.size) (below n)
    → all ≡ others ++ first ∷ [] → Begun clock first others
begun clock zero all others first some _ _ = absurd (omega (arith, some))
begun clock (suc n) all others first some made parts =
    let d = dealt clock.id clock.size n in
    let same = same_from_push others d.others first (fresh clock.id clock.size 0) (sym parts ∙ made ∙ d.all) in
    rw same.0 (rw same.1 record {
      spawns = record { draws = record { clock_is = refl; carried = omega arith }; number = refl; new = λ t above. refl };
      are = d.are;
    })

pub still_draws : (clock : Ticking) (old new : Seated) (t : ℕ) (e : Event) (answer : Drawn) → CanDraw clock old t → new.clock ≡ old.clock
    → IsDraw clock.size e old.view answer new.view → CanDraw clock new t
still_draws clock old new t e answer can same draw =
    record { clock_is = same ∙ can.clock_is; carried = still_carried clock.size e old.view new.view t answer draw can.carried }

-- a holder that told itself what its pass of the task knew, and one whose pass was split and joined meanwhile
pub note_draws : (clock : Ticking) (old new : Seated) (t : ℕ) (v w : View) → CanDraw clock old t → new.clock ≡ clock.id → v ≡ after_note t old.view
    → w ≡ noted t old.view → new.view ≡ joined v w → CanDraw clock new t
note_draws clock old new t v w can same left noted is =
    record { clock_is = same; carried = rw is (rw left (rw noted (subst (λ n. 0 < n) (sym (told_again t old.view.tasks)) can.carried))) }

pub split_draws : (clock : Ticking) (old new : Seated) (t : ℕ) (v w p q r : View) → CanDraw clock old t → new.clock ≡ clock.id → v ≡ after_note t old.view
    → w ≡ noted t old.view → p ≡ after_split w → q ≡ split_off w → r ≡ joined p q → new.view ≡ joined v r → CanDraw clock new t
split_draws clock old new t v w p q r can same left noted old_pass new_pass both is =
    let carried = subst (λ n. 0 < n) (sym (told_again t old.view.tasks)) can.carried in
    record { clock_is = same; carried = rw is (rw left (rw both (rw old_pass (rw new_pass (rw noted carried))))) }

-- the first holder after it drew for a spawn and made a pass of the child, and the other one that was told
pub spawned_first : (clock : Ticking) (old new : Seated) (child n : ℕ) (e : Event) (mid : View) → CanSpawn clock old child → 0 < child
    → ((t : ℕ) → is_child t e.action ≡ (child == t)) → mid ≡ drawn n e old.view → new.clock ≡ clock.id → new.view ≡ after_note child mid
    → CanSpawn clock new (child + 1)
spawned_first clock old new child n e mid can some made drew same is =
    let tasks = with_child e.action (with_entry (n, e) old.view.tasks) in
    let cut = carries_cut 0 child tasks in
    let none = only_other 0 child tasks (ne_eqb child 0 (λ zero. omega (arith, some, zero))) in
    let grew = carries_child 0 e.action (with_entry (n, e) old.view.tasks) in
    let entry = carries_entry 0 (n, e) old.view.tasks in
    record {
      draws = record { clock_is = same; carried = rw is (rw drew (omega (arith, cut, none, grew, entry, can.draws.carried))) };
      number = rw is (rw drew (number_added (n, e) old.view.own ∙ can.number));
      new = λ t above.
          rw is (rw drew (none_added t (n, e) old.view.own (can.new t (omega (arith, above))) (made t ∙ ne_eqb child t (λ at. omega (arith, above, at)))));
    }

pub spawned_other : (clock : Ticking) (old new : Seated) (child n : ℕ) (e : Event) (v mid w : View) → ((t : ℕ) → is_child t e.action ≡ (child == t))
    → mid ≡ drawn n e v → w ≡ noted child mid → new.clock ≡ clock.id → new.view ≡ joined old.view w → CanDraw clock new child
spawned_other clock old new child n e v mid w made drew passed same is =
    let tasks = with_child e.action (with_entry (n, e) v.tasks) in
    let both = carries_append child old.view.tasks (only_task child tasks) in
    let only = only_same child tasks in
    let grew = carries_child child e.action (with_entry (n, e) v.tasks) in
    let one = ap {B = ℕ} (λ b. if b then 1 else 0) (made child ∙ eq-eqb child child refl) in
    record { clock_is = same; carried = rw is (rw passed (rw drew (omega (arith, both, only, grew, one)))) }
