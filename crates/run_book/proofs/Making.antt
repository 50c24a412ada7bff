-- A new book.
use Rattle.std.proofs.Common.{◌≡◌, ℕ, zero, suc, ◌+◌, ◌*◌, ◌^◌, ◌<◌, ◌≤◌, ◌==◌, Bool, true, false, if◌then◌else◌, List, [], ◌∷◌, length, inl, inr, subst, ap, sym, refl, ◌∙◌, arith}
use Rattle.std.specs.Prelude.{◌↔◌, Option, Some, None, slice_get, unwrap_or}
use Rattle.std.proofs.lemmas.Bool.{cases_Bool}
use Rattle.atomic_table.specs.Seated.{TableId}
use Rattle.fut_base.specs.declared.event.Event.{Event}
use Rattle.fut_base.specs.declared.record.Entry.{Entry}
use Rattle.fut_base.specs.declared.record.Limits.{Limits}
use Rattle.fut_base.specs.Listed.{Listed}
use Rattle.fut_base.specs.Dag.{Among}
use Rattle.fut_base.specs.Sound.{IsSound, next_task}
use Rattle.fut_syntax.specs.Trees as tree
use Rattle.task_machine.specs.Machine.{create_count}
use Rattle.task_code.specs.Flat.{Compiled}
use Rattle.strand_tree.specs.Placing.{AreOrders}
use Rattle.event_clock.specs.declared.view.Carried.{Carried}
use Rattle.event_clock.specs.Views.{carries}
use Rattle.event_clock.specs.Rule.{Rises}
use Rattle.event_clock.specs.Seated.{Ticking, Seated}
use Rattle.order_query.specs.Reading.{Writing}
use Rattle.run_counts.specs.Counted.{Counted}
use Rattle.run_place.specs.Placed.{events_in}
use Rattle.run_book.specs.Drawn.{past_in}
use Rattle.run_book.specs.Jobs.{FitsProgram}
use Rattle.run_book.specs.Lines.{LineNow, new_line, IsLineOf}
use Rattle.run_book.specs.Books.{BookNow, IsBook, IsListed, IsFirstHolder, IsFirstWriter, carried_by, traces_of, entries_of, waiting_in}
use Rattle.run_book.proofs.Rooting.{root_task, none≢some}

first_line : (code : Compiled) → IsLineOf code [] 0 (new_line None)
first_line code = record {
  parent = λ p. ((λ e. absurd (none≢some e)), (λ s. absurd s.1));
  block = refl;
  count = refl;
  value = refl;
  last = refl;
  waiter = λ j e. absurd (none≢some e);
  waiters = λ j a. absurd a;
}

some_is : {A : Type 0} {x y : A} → ◌≡◌ {A = Option A} (Some x) (Some y) → x ≡ y
some_is {A} {x} {y} e = ap (λ (o : Option A). unwrap_or o x) e

lines_are : (code : Compiled) (t : ℕ) (l : LineNow) → slice_get (new_line None ∷ []) t ≡ Some l → IsLineOf code [] t l
lines_are code zero l e = subst (λ k. IsLineOf code [] 0 k) (some_is e) (first_line code)
lines_are code (suc t) l e = absurd (none≢some e)

once_at : (t : ℕ) → carries t (root_task ∷ []) ≤ 1
once_at t = elim (cases_Bool (0 == t)) [ inl e ↦ rw e (omega arith) | inr f ↦ rw f (omega arith) ]

pub new_book : (clock : Ticking) (orders : TableId) (code : Compiled) (limits given : Limits) (h : Seated) (w : Writing) (lines : List LineNow)
    (traces : List (Listed (ℕ × Entry))) (counts : Counted) (pace : ℕ)
    → given ≡ limits → clock.size.bound ≡ limits.events → limits.events + 1 < 2 ^ 31 → IsFirstHolder clock h → IsFirstWriter orders limits.events w → lines ≡ new_line None ∷ [] → traces ≡ []
    → counts.events ≡ 0 → counts.running ≡ 1 → counts.waiting ≡ 0 → (counts.rest.given ≡ 0) × (counts.rest.taken ≡ 0) → pace ≡ 1
    → IsBook clock orders code limits (record { limits = given; holder = h; writer = w; lines = lines; traces = traces; creates = 0; counts = counts; first = Some pace })
new_book clock orders code limits given h w lines traces counts pace same bound small first writes lines_is traces_is events running waiting rest one =
    let none = first.none.0 in
    let orders_is : AreOrders (events_in []) w.lists.english.order w.lists.hebrew.order = record { english_is = writes.alone.0; hebrew_is = writes.alone.1 } in
    let size = ap length writes.alone.0 in
    let items = ap length lines_is in
    let more = writes.room in
    let ends = ap length traces_is in
    record {
      home = (first.clock_is, writes.home);
      first_holder = first.number;
      limits_are = (same, bound);
      within = subst (λ e. length e ≤ limits.events) (sym none) (omega arith);
      small = small;
      creates_few = omega arith;
      room = omega (arith, size, more);
      listed = record {
        sound = subst (λ e. IsSound (events_in e)) (sym none) tt;
        fits = λ P typed of.
            subst (λ e. FitsProgram P (events_in e)) (sym none) (record { passed = λ e x xs a k. absurd a; ended = λ e v a k. absurd a; got = λ e f v s a k. absurd a });
        known = first.none.1 ∙ sym none;
        rises = subst Rises (sym none) tt;
        tasks = items ∙ ap (λ e. next_task (past_in e)) (sym none);
        lines = λ t l e. subst (λ b. IsLineOf code b t l) (sym none) (lines_are code t l (subst (λ ls. slice_get ls t ≡ Some l) lines_is e));
        orders = subst (λ e. AreOrders (events_in e) w.lists.english.order w.lists.hebrew.order) (sym none) orders_is;
        creates = ap (λ e. create_count (events_in e)) (sym none);
      };
      carried = first.root;
      once = λ t. subst (λ cs. carries t cs ≤ 1) (sym first.root) (once_at t);
      ended = λ trace a. absurd (subst (λ ts. Among trace (traces_of (record { limits = given; holder = h; writer = w; lines = lines; traces = ts; creates = 0; counts = counts; first = Some pace }))) traces_is a);
      counted = record {
        events = events ∙ ap length (sym none);
        waiting = waiting ∙ ap waiting_in (sym lines_is);
        running = omega (arith, running, waiting, ends, items);
        rest = rest;
      };
      is_new = λ p e. (none, sym (some_is e) ∙ one, traces_is);
    }
