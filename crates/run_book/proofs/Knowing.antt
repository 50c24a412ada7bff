-- What the book's holder has of a job when it was told what the job's pass knows.
use Rattle.std.proofs.Common.{◌≡◌, ◌≢◌, ℕ, ◌+◌, ◌<◌, ◌==◌, List, [], ◌∷◌, ◌++◌, inl, inr, refl, sym, ap, ◌∙◌, subst, arith}
use Rattle.std.specs.Prelude.{Some}
use Rattle.std.proofs.lemmas.Bool.{eqb-true, false_from_ne_true}
use Rattle.std.proofs.lemmas.List.{map-append, append-nil}
use Rattle.std.proofs.lemmas.List.Elements.{filter-append}
use Rattle.atomic_table.specs.Seated.{TableId}
use Rattle.fut_base.specs.declared.record.Value.{Value}
use Rattle.fut_base.specs.declared.record.Limits.{Limits}
use Rattle.fut_base.specs.declared.event.Event.{Event}
use Rattle.fut_base.specs.Events.{structural}
use Rattle.fut_base.specs.Dag.{Among, block_of}
use Rattle.fut_base.specs.Sound.{IsSound, IsSoundPast, AllEnded, current}
use Rattle.fut_base.proofs.Members.{among_left, among_right}
use Rattle.fut_syntax.specs.Trees as tree
use Rattle.strand_tree.specs.declared.strand.Strand.{Strand}
use Rattle.strand_tree.specs.Placing.{IsStrandOf}
use Rattle.reach_table.specs.Telling.{HasTable}
use Rattle.reach_table.proofs.Events.{tables_stay}
use Rattle.task_machine.specs.State.{Wish, ToSync, ToGet, wish_of}
use Rattle.task_code.specs.Flat.{Compiled}
use Rattle.task_code.specs.Tasks.{TaskNow}
use Rattle.event_clock.specs.declared.view.View.{View}
use Rattle.event_clock.specs.declared.view.Carried.{Carried}
use Rattle.event_clock.specs.declared.view.Own.{Own}
use Rattle.event_clock.specs.Views.{numbers_of, first_number, first_entries, number_of, own_list, list_at, carries}
use Rattle.event_clock.specs.Rule.{IsPrefix, IsJoin, Rises}
use Rattle.event_clock.specs.Seated.{Ticking}
use Rattle.event_clock.proofs.Lists.{carries_among}
use Rattle.run_place.specs.Placed.{book_of, events_in}
use Rattle.run_place.proofs.Learning.{strand_stays}
use Rattle.run_book.specs.Drawn.{drawn_of, of_task, past_in, past_below}
use Rattle.run_book.specs.Jobs.{JobNow, IsJob, IsTaskIn, IsEntryOf, IsFree, StartsAs, known_to}
use Rattle.run_book.specs.Books.{BookNow, IsBook, entries_of}
use Rattle.run_book.proofs.Tickets.{past_append, below_append, none_pass, sound_below}
use Rattle.run_book.proofs.Later.{AreOfOthers, current_later, last_later, block_later, value_more, all_more, no_more, others_in, others_below}

-- ---- a longer list

-- what a wish waits for has ended by more events, too
pub free_later : (later past : List Event) (t : ℕ) (w : Wish) → AreOfOthers later t → IsFree past t w → IsFree (later ++ past) t w
free_later later past t ToSync other free =
    subst (λ ts. AllEnded (later ++ past) ts) (sym (block_later later past t other)) (all_more later past (block_of past t) free)
free_later later past t (ToGet future) other free = value_more later past future free
free_later later past t _ other free = tt

pub starts_more : (P : tree.Program) (xs ys : List Event) (t which : ℕ) (args : List Value) → StartsAs P xs t which args → StartsAs P (xs ++ ys) t which args
starts_more P xs ys t which args (inl s) = inl s
starts_more P xs ys t which args (inr (e, a, m)) = inr (e, among_left e xs ys a, m)

-- an entry of a task stands so by a longer list, too
entry_later : (later past : List Event) (t : ℕ) (e : Event) → IsSoundPast (later ++ past) → AreOfOthers later t → IsEntryOf past t e
    → IsEntryOf (later ++ past) t e
entry_later later past t e sound other is =
    record { own = is.own; stands = current_later later past t e.strand sound other is.stands; running = last_later later past t other ∙ is.running }

-- what holds of a task by a list holds of it by a longer one, which has no further entry of the task
pub task_later : (code : Compiled) (known more : List (ℕ × Event)) (task : TaskNow) (at : Strand) (table : List Strand) (pace : ℕ)
    → Rises (known ++ more) → IsSound (events_in (known ++ more)) → ((x : ℕ × Event) → Among x more → x.1.task ≢ task.number)
    → IsTaskIn code known task at table pace → IsTaskIn code (known ++ more) task at table pace
task_later code known more task at table pace rises sound other is =
    let t = task.number in
    let more_past = past_append known more in
    let whole : IsSoundPast (past_in more ++ past_in known) = subst IsSoundPast more_past sound in
    let both : events_in (known ++ more) ≡ events_in known ++ events_in more = map-append (λ (x : ℕ × Event). x.1) known more in
    let good : IsSound (events_in known ++ events_in more) = subst IsSound both sound in
    let none = others_in more t other in
    record {
      program = is.program;
      running = is.running;
      unended = is.unended;
      started = λ P typed of.
          let s = is.started P typed of in
          (s.0, s.1, subst (λ es. StartsAs P es t task.which s.0) (sym both) (starts_more P (events_in known) (events_in more) t task.which s.0 s.2), s.3);
      trace = record {
        structural =
            filter-append (λ (x : ℕ × Event). x.1.task == t) known more
            ∙ ap (λ l. of_task t known ++ l)
            (none_pass (λ (x : ℕ × Event). x.1.task == t) more (λ x a. false_from_ne_true (x.1.task == t) (λ e. other x a (eqb-true x.1.task t e))))
            ∙ append-nil (of_task t known) ∙ is.trace.structural;
        entries = λ x a.
            let k : ℕ = x.0 in
            let parts = below_append k known more in
            let low : IsSoundPast (past_below k more ++ past_below k known) = subst IsSoundPast parts (sound_below k (known ++ more) rises sound) in
            subst (λ p. IsEntryOf p t x.1) (sym parts)
            (entry_later (past_below k more) (past_below k known) t x.1 low (others_below k more t other) (is.trace.entries x a));
      };
      strand = subst (λ p. current p t ≡ Some at.number) (sym more_past) (current_later (past_in more) (past_in known) t at.number whole none is.strand);
      placed = (
        subst (λ es. IsStrandOf es at) (sym both) (strand_stays (events_in known) (events_in more) at good is.placed.0),
        subst (λ es. HasTable es at.number table) (sym both) (tables_stay (events_in known) (events_in more) at.number table good is.placed.0.there is.placed.1),
      );
      few = is.few;
      paced = λ zero P args s typed of x.
          let w = is.paced zero P args s typed of x in
          (w.0, w.1, (w.2.0, subst (λ p. IsFree p t (wish_of P w.0)) (sym more_past) (free_later (past_in more) (past_in known) t (wish_of P w.0) none w.2.1)));
    }

-- ---- after a tell

-- what the book's holder has when it was told what a job's pass knows
pub record IsKnown (code : Compiled) (book : List (ℕ × Event)) (j : JobNow) (tasks : List Carried) (view : View) : Type 0 where
  pub entries : own_list view ≡ book
  pub known : book_of view ≡ book
  pub number : number_of view ≡ 0
  pub begins : IsPrefix (known_to j) book
  pub task : IsTaskIn code book j.task j.place.at j.place.table j.pace
  pub tasks_are : view.tasks ≡ tasks ++ record { task = j.task.number; trace = drawn_of j.task.trace.items } ∷ []
  pub apart : carries j.task.number tasks ≡ 0

-- a holder of one number knows all entries of its own list
pub whole_of : (os : List Own) (known : List (List (ℕ × Event))) → ((p : Own) → Among p os → list_at known p.number ≡ p.entries)
    → numbers_of os ≡ first_number os ∷ [] → first_number os ≡ 0 → list_at known 0 ≡ first_entries os
whole_of [] known whole one zero = absurd (cc)
whole_of (p ∷ ps) known whole one zero = ap (λ h. list_at known h) (sym zero) ∙ whole p (inl refl)

-- what holds of a job's task by what the job knows
pub job_task : (clock : Ticking) (orders : TableId) (code : Compiled) (j : JobNow) → IsJob clock orders code j
    → IsTaskIn code (known_to j) j.task j.place.at j.place.table j.pace
job_task clock orders code j is = record {
  program = is.program;
  running = is.running;
  unended = is.unended;
  started = is.started;
  trace = is.trace;
  strand = is.strand;
  placed = (is.place.strand, is.place.table);
  few = is.few;
  paced = is.paced;
}

pub job_known : (clock : Ticking) (orders : TableId) (code : Compiled) (limits : Limits) (b : BookNow) (j : JobNow) (view : View)
    → IsBook clock orders code limits b → IsJob clock orders code j → IsJoin b.holder.view j.place.pass.view view → view.own ≡ b.holder.view.own
    → numbers_of view.own ≡ number_of view ∷ [] → IsKnown code (entries_of b) j b.holder.view.tasks view
job_known clock orders code limits b j view is job join own one =
    let book = entries_of b in
    let t = j.task.number in
    let mine : Carried = record { task = t; trace = drawn_of j.task.trace.items } in
    let entries : own_list view ≡ book = ap first_entries own in
    let number : number_of view ≡ 0 = ap first_number own ∙ is.first_holder in
    let known : book_of view ≡ book = whole_of view.own view.known join.whole one number ∙ entries in
    let begins : IsPrefix (known_to j) book = subst (λ l. IsPrefix (known_to j) l) known (join.second 0) in
    let tasks : view.tasks ≡ b.holder.view.tasks ++ mine ∷ [] = ap (λ (v : View). v.tasks) join.view ∙ ap (λ cs. b.holder.view.tasks ++ cs) job.carried in
    let alone : 0 < carries t j.place.pass.view.tasks =
    subst (λ cs. 0 < carries t cs) (sym job.carried) (carries_among mine (mine ∷ []) (inl refl)) in
    let few = join.apart t in
    let there : Among mine view.tasks = subst (λ cs. Among mine cs) (sym tasks) (among_right mine b.holder.view.tasks (mine ∷ []) (inl refl)) in
    let has : (x : ℕ × Event) → Among x (known_to j ++ begins.0) → x.1.task ≡ t → Among x (drawn_of j.task.trace.items) =
    λ x a e. join.entries mine 0 x there (subst (λ l. Among x l) (begins.1 ∙ sym known) a) e in
    let rises : Rises (known_to j ++ begins.0) = subst Rises (sym begins.1) is.listed.rises in
    let sound : IsSound (events_in (known_to j ++ begins.0)) = subst (λ l. IsSound (events_in l)) (sym begins.1) is.listed.sound in
    let none = no_more (known_to j) begins.0 (drawn_of j.task.trace.items) t rises sound job.trace.structural has in
    record {
      entries = entries;
      known = known;
      number = number;
      begins = begins;
      task =
          subst (λ l. IsTaskIn code l j.task j.place.at j.place.table j.pace) begins.1
          (task_later code (known_to j) begins.0 j.task j.place.at j.place.table j.pace rises sound none (job_task clock orders code j job));
      tasks_are = tasks;
      apart = omega (arith, alone, few);
    }
