-- A job waits at a line.
use Rattle.std.proofs.Common.{◌≡◌, ℕ, ◌+◌, ◌-◌, ◌<◌, ◌≤◌, List, [], ◌∷◌, ◌++◌, length, inl, inr, ◌⊎◌, refl, sym, ap, ◌∙◌, subst, arith}
use Rattle.std.specs.Prelude.{◌↔◌, Option, Some, None, slice_get, slice_set}
use Rattle.std.proofs.lemmas.Option.{same_Some}
use Rattle.atomic_table.specs.Seated.{TableId}
use Rattle.fut_base.specs.declared.record.Limits.{Limits}
use Rattle.fut_base.specs.declared.event.Event.{Event}
use Rattle.fut_base.specs.Dag.{Among}
use Rattle.task_machine.specs.State.{ToSync}
use Rattle.task_code.specs.Flat.{Compiled}
use Rattle.event_clock.specs.declared.view.View.{View}
use Rattle.event_clock.specs.Views.{carries}
use Rattle.event_clock.specs.Rule.{IsJoin}
use Rattle.event_clock.specs.Seated.{Ticking}
use Rattle.event_clock.proofs.Lists.{carries_among}
use Rattle.run_counts.specs.Counted.{Counted}
use Rattle.run_counts.specs.Moves.{gone_to_wait}
use Rattle.run_book.specs.Jobs.{JobNow, Stands}
use Rattle.run_book.specs.Lines.{LineNow, IsLineOf}
use Rattle.run_book.specs.Turns.{change_at}
use Rattle.run_book.specs.Books.{BookNow, IsBook, entries_of, waiting_at, jobs_in}
use Rattle.run_book.proofs.Carrying.{carried_task}
use Rattle.run_book.proofs.Changing.{set_changed, changed_line, length_changed, waiting_changed, jobs_changed}

-- a task that a holder has is not one of a pass of which it is told
pub no_second : (v w told : View) (task number : ℕ) (trace : List (ℕ × Event)) → IsJoin v w told → w.tasks ≡ carried_task number trace ∷ [] → number ≡ task
    → 0 < carries task v.tasks → ⊥
no_second v w told task number trace join alone same has =
    let mine = carried_task number trace in
    let more : 0 < carries number w.tasks = subst (λ cs. 0 < carries number cs) (sym alone) (carries_among mine (mine ∷ []) (inl refl)) in
    let here : 0 < carries task w.tasks = subst (λ n. 0 < carries n w.tasks) same more in
    let few = join.apart task in
    omega (arith, has, here, few)

-- the book where one job more waits at a line
pub parked_book : (clock : Ticking) (orders : TableId) (code : Compiled) (limits : Limits) (b : BookNow) (t : ℕ) (f : LineNow → LineNow) (l : LineNow)
    → IsBook clock orders code limits b → slice_get b.lines t ≡ Some l → IsLineOf code (entries_of b) t (f l)
    → length (waiting_at (f l)) ≡ length (waiting_at l) + 1 → 0 < b.counts.running
    → IsBook clock orders code limits (record b { lines = change_at t f b.lines; counts = gone_to_wait b.counts })
parked_book clock orders code limits b t f l is there line one some =
    let size = length_changed t f b.lines in
    let waits = waiting_changed t f b.lines l there in
    let waiting = is.counted.waiting in
    let running = is.counted.running in
    record {
      home = is.home;
      first_holder = is.first_holder;
      limits_are = is.limits_are;
      within = is.within;
      small = is.small;
      creates_few = is.creates_few;
      room = is.room;
      listed = record {
        sound = is.listed.sound;
        fits = is.listed.fits;
        known = is.listed.known;
        rises = is.listed.rises;
        tasks = size ∙ is.listed.tasks;
        lines = λ u m e. elim (changed_line t u f b.lines m e) [
          | inl own ↦
              subst (λ n. IsLineOf code (entries_of b) n m) (sym own.0)
              (subst (λ n. IsLineOf code (entries_of b) t n) (ap f (same_Some l own.1.0 (sym there ∙ own.1.1)) ∙ own.1.2) line)
          | inr other ↦ is.listed.lines u m other.1
        ];
        orders = is.listed.orders;
        creates = is.listed.creates;
      };
      carried = is.carried;
      once = is.once;
      ended = is.ended;
      counted = record {
        events = is.counted.events;
        waiting = omega (arith, waiting, waits, one);
        running = omega (arith, running, size, some);
        rest = is.counted.rest;
      };
      is_new = is.is_new;
    }

-- a task waits at its own line
abbrev pub seated : JobNow → LineNow → LineNow
seated j l = record l { waiter = Some j }

pub seated_line : (code : Compiled) (book : List (ℕ × Event)) (t : ℕ) (l : LineNow) (j : JobNow) → IsLineOf code book t l → 0 < l.count → j.task.number ≡ t
    → j.pace ≡ 1 → Stands code j.task (λ P w. w ≡ ToSync) → IsLineOf code book t (seated j l)
seated_line code book t l j is some number pace stands = record {
  parent = is.parent;
  block = is.block;
  count = is.count;
  value = is.value;
  last = is.last;
  waiter = λ k e.
      subst (λ (x : JobNow). (x.task.number ≡ t) × (x.pace ≡ 1) × (0 < l.count) × Stands code x.task (λ P w. w ≡ ToSync)) (same_Some j k e)
      (number, pace, some, stands);
  waiters = is.waiters;
}

-- where nobody sat
pub seated_more : (l : LineNow) (j : JobNow) → l.waiter ≡ None → length (waiting_at (seated j l)) ≡ length (waiting_at l) + 1
seated_more l j none = go l.waiter none
  where
    go : (o : Option JobNow) → o ≡ None → length (waiting_at (seated j l)) ≡ length (waiting_at (record l { waiter = o })) + 1
    go None e = omega arith
    go (Some k) e = absurd (cc)

pub seated_jobs : (l : LineNow) (j : JobNow) → l.waiter ≡ None → (k : JobNow) → Among k (waiting_at (seated j l)) ↔ (Among k (waiting_at l) ⊎ (k ≡ j))
seated_jobs l j none k = go l.waiter none
  where
    go : (o : Option JobNow) → o ≡ None → Among k (waiting_at (seated j l)) ↔ (Among k (waiting_at (record l { waiter = o })) ⊎ (k ≡ j))
    go None e = (
      λ a. elim a [ inl same ↦ inr (sym same) | inr old ↦ inl old ],
      λ a. elim a [ inl old ↦ inr old | inr same ↦ inl (sym same) ],
    )
    go (Some m) e = absurd (cc)

-- the book after a job sat down, where nobody sat
pub sat_book : (clock : Ticking) (orders : TableId) (code : Compiled) (limits : Limits) (b : BookNow) (t : ℕ) (l : LineNow) (j : JobNow) (now : LineNow)
    (counts : Counted) → IsBook clock orders code limits b → slice_get b.lines t ≡ Some l → l.waiter ≡ None → 0 < l.count → j.task.number ≡ t → j.pace ≡ 1
    → Stands code j.task (λ P w. w ≡ ToSync) → 0 < b.counts.running → now ≡ seated j l → counts ≡ gone_to_wait b.counts
    → IsBook clock orders code limits (record b { lines = slice_set b.lines t now; counts = counts })
sat_book clock orders code limits b t l j now counts is there none some number pace stands runs is_now is_counts =
    let line = seated_line code (entries_of b) t l j (is.listed.lines t l there) some number pace stands in
    let lines : slice_set b.lines t now ≡ change_at t (seated j) b.lines = ap (λ n. slice_set b.lines t n) is_now ∙ set_changed t (seated j) b.lines l there in
    subst (λ (ls : List LineNow). IsBook clock orders code limits (record b { lines = ls; counts = counts })) (sym lines)
    (subst (λ (k : Counted). IsBook clock orders code limits (record b { lines = change_at t (seated j) b.lines; counts = k })) (sym is_counts)
    (parked_book clock orders code limits b t (seated j) l is there line (seated_more l j none) runs))

pub sat_lines : (lines : List LineNow) (t : ℕ) (l : LineNow) (j : JobNow) (now : LineNow) → slice_get lines t ≡ Some l → l.waiter ≡ None → now ≡ seated j l
    → (k : JobNow) → Among k (jobs_in (slice_set lines t now)) ↔ (Among k (jobs_in lines) ⊎ (k ≡ j))
sat_lines lines t l j now there none is_now k =
    let same : slice_set lines t now ≡ change_at t (seated j) lines = ap (λ n. slice_set lines t n) is_now ∙ set_changed t (seated j) lines l there in
    subst (λ (ls : List LineNow). Among k (jobs_in ls) ↔ (Among k (jobs_in lines) ⊎ (k ≡ j))) (sym same)
    (jobs_changed t (seated j) lines l j there (seated_jobs l j none) k)
