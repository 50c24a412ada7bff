-- A spawn or a create is asked of the clock, and made.
use Rattle.std.proofs.Common.{◌≡◌, ◌≢◌, ℕ, ◌+◌, ◌<◌, ◌==◌, Bool, true, false, ◌||◌, List, [], ◌∷◌, ◌++◌, ◌⊎◌, inl, inr, refl, sym, ap, ◌∙◌, subst, arith, eqb-true, true≢false}
use Rattle.std.proofs.lemmas.Bool.{false_from_ne_true}
use Rattle.fut_base.specs.declared.record.Value.{Value}
use Rattle.fut_base.specs.declared.event.Event.{Event}
use Rattle.fut_base.specs.declared.event.Action.{Action}
use Rattle.fut_base.specs.declared.event.Action.TheVariants.{Reads, Writes, Spawns, Creates, Syncs, Gets, Ends}
use Rattle.fut_base.specs.Dag.{Among}
use Rattle.fut_base.specs.Sound.{IsSound, MayFollow, next_task}
use Rattle.event_clock.specs.declared.view.View.{View}
use Rattle.event_clock.specs.declared.view.Carried.{Carried}
use Rattle.event_clock.specs.Views.{is_child, has_child, carries, number_of, own_list, list_at, IsAbove, MayAskFor}
use Rattle.task_code.specs.Flat.{Compiled}
use Rattle.run_place.specs.Placed.{book_of, events_in}
use Rattle.run_book.specs.Drawn.{drawn_of, past_in}
use Rattle.run_book.specs.Jobs.{Makes, JobNow, Stands}
use Rattle.run_book.specs.Books.{BookNow, entries_of}
use Rattle.run_book.specs.Steps.{IsEventOf}
use Rattle.task_machine.specs.State.{Answers}
use Rattle.run_book.proofs.Drawn.{past_event, drawn_event}
use Rattle.run_book.proofs.Starting.{made_range, some_tasks}

-- ---- what is asked of the clock

-- an action that makes a child starts a task
child_made : (t : ℕ) (a : Action) → is_child t a ≡ true → (which : ℕ) × (args : List Value) × Makes a t which args
child_made t (Reads _ _) h = absurd (true≢false (sym h))
child_made t (Writes _ _) h = absurd (true≢false (sym h))
child_made t (Spawns code child _ _ args) h = (code, args, (eqb-true child t h, refl, refl))
child_made t (Creates code child _ _ args) h = (code, args, (eqb-true child t h, refl, refl))
child_made t (Syncs _) h = absurd (true≢false (sym h))
child_made t (Gets _ _ _) h = absurd (true≢false (sym h))
child_made t (Ends _) h = absurd (true≢false (sym h))

either : (a b : Bool) → (a || b) ≡ true → (a ≡ true) ⊎ (b ≡ true)
either true b h = inl refl
either false b h = inr h

has_made : (t : ℕ) (book : List (ℕ × Event)) → has_child t book ≡ true → (x : ℕ × Event) × Among x book × (is_child t x.1.action ≡ true)
has_made t [] h = absurd (true≢false (sym h))
has_made t (x ∷ xs) h = elim (either (is_child t x.1.action) (has_child t xs) h) [
  | inl now ↦ (x, inl refl, now)
  | inr old ↦ (let k = has_made t xs old in (k.0, inr k.1, k.2))
]

-- no entry of the book made the next task
pub no_child : (book : List (ℕ × Event)) (t : ℕ) → IsSound (events_in book) → t ≡ next_task (past_in book) → has_child t book ≡ false
no_child book t sound next =
    false_from_ne_true (has_child t book) (λ h. (
    let k = has_made t book h in
    let m = child_made t k.0.1.action k.2 in
    let r = made_range (past_in book) sound k.0.1 (past_event k.0.1 book (drawn_event k.0 book k.1)) t m.0 m.1 m.2 in
    omega (arith, r.1, next)))

not_root : (book : List (ℕ × Event)) (t : ℕ) → t ≡ next_task (past_in book) → (t == 0) ≡ false
not_root book t next = false_from_ne_true (t == 0) (λ h. (let e : t ≡ 0 = eqb-true t 0 h in let k = some_tasks (past_in book) in omega (arith, e, k, next)))

-- an action makes no child, or the next task
abbrev pub MakesNext : List Event → Action → Type 0
MakesNext past (Spawns _ child _ _ _) = child ≡ next_task past
MakesNext past (Creates _ child _ _ _) = child ≡ next_task past
MakesNext past _ = Unit {0}

makes_which : (past : List Event) (a : Action) (t : ℕ) → MakesNext past a → is_child t a ≡ true → t ≡ next_task past
makes_which past (Reads _ _) t next h = absurd (true≢false (sym h))
makes_which past (Writes _ _) t next h = absurd (true≢false (sym h))
makes_which past (Spawns _ child _ _ _) t next h = sym (eqb-true child t h) ∙ next
makes_which past (Creates _ child _ _ _) t next h = sym (eqb-true child t h) ∙ next
makes_which past (Syncs _) t next h = absurd (true≢false (sym h))
makes_which past (Gets _ _ _) t next h = absurd (true≢false (sym h))
makes_which past (Ends _) t next h = absurd (true≢false (sym h))

-- the book's holder may ask for a ticket for an event of a task that it carries
pub may_ask : (v : View) (e : Event) → IsSound (events_in (own_list v)) → number_of v ≡ 0 → 0 < carries e.task v.tasks → MakesNext (past_in (own_list v)) e.action
    → MayAskFor v e
may_ask v e sound first carried next =
    record {
      carried = carried;
      child = λ t h. (
          let is : t ≡ next_task (past_in (own_list v)) = makes_which (past_in (own_list v)) e.action t next h in
          (first, not_root (own_list v) t is, no_child (own_list v) t sound is));
    }

-- ---- the event that was made

pub event_of_job : (code : Compiled) (bound : ℕ) (old new : BookNow) (job : JobNow) (v : View) (k : ℕ) (e : Event)
    → list_at v.known 0 ≡ entries_of old → Among (record { task = job.task.number; trace = drawn_of job.task.trace.items }) v.tasks → k < bound → IsAbove k v
    → entries_of new ≡ entries_of old ++ (k, e) ∷ [] → e.task ≡ job.task.number → e.strand ≡ job.place.at.number
    → MayFollow (past_in (entries_of old)) e → Stands code job.task (λ P w. Answers w e.action) → new.counts.rest.parts ≡ old.counts.rest.parts
    → IsEventOf code bound old new job e
event_of_job code bound old new job v k e known carried below above kept task strand follows answers parts =
    record {
      ticket = k;
      below = below;
      later = λ x a. elim a [
        | inl there ↦ above.known 0 x (subst (Among x) (sym known) there)
        | inr own ↦ above.traces (record { task = job.task.number; trace = drawn_of job.task.trace.items }) x carried own
      ];
      kept = kept;
      own = (task, strand);
      follows = follows;
      answers = answers;
      parts = parts;
    }
