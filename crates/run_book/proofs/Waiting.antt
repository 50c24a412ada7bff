-- The book after a job went to wait at a line.
use Rattle.std.proofs.Common.{◌≡◌, ℕ, ◌+◌, ◌<◌, length, inl, inr, subst, ap, sym, refl, ◌∙◌, arith}
use Rattle.std.specs.Prelude.{◌↔◌, ◌⊎◌, Option, Some, None, slice_get}
use Rattle.std.specs.Option.{option_to_list}
use Rattle.std.proofs.lemmas.Option.{same_Some}
use Rattle.std.proofs.lemmas.List.{length-append}
use Rattle.atomic_table.specs.Seated.{TableId}
use Rattle.fut_base.specs.declared.record.Limits.{Limits}
use Rattle.fut_base.specs.declared.event.Event.{Event}
use Rattle.fut_base.specs.Dag.{Among}
use Rattle.task_machine.specs.State.{ToSync}
use Rattle.task_code.specs.Flat.{Compiled}
use Rattle.event_clock.specs.Seated.{Ticking}
use Rattle.run_counts.specs.Moves.{gone_to_wait}
use Rattle.run_book.specs.Jobs.{JobNow, Stands}
use Rattle.run_book.specs.Lines.{LineNow, IsLineOf}
use Rattle.run_book.specs.Turns.{change_at, with_waiter}
use Rattle.run_book.specs.Books.{BookNow, IsBook, IsListed, entries_of, waiting_at}
use Rattle.run_book.proofs.Changing.{changed_line, length_changed, waiting_changed}

-- one more job waits at a line, and the rest is as it was
pub parked_book : (clock : Ticking) (orders : TableId) (code : Compiled) (limits : Limits) (b : BookNow) (t : ℕ) (f : LineNow → LineNow) (l : LineNow)
    → IsBook clock orders code limits b → slice_get b.lines t ≡ Some l → IsLineOf code (entries_of b) t (f l)
    → length (waiting_at (f l)) ≡ length (waiting_at l) + 1 → 0 < b.counts.running
    → IsBook clock orders code limits (record b { lines = change_at t f b.lines; counts = gone_to_wait b.counts })
parked_book clock orders code limits b t f l is at line more some =
    let size = length_changed t f b.lines in
    record {
      home = is.home;
      first_holder = is.first_holder;
      limits_are = is.limits_are;
      within = is.within;
      small = is.small;
      creates_few = is.creates_few;
      room = is.room;
      listed = record {
        sound = is.listed.sound;
        fits = is.listed.fits;
        known = is.listed.known;
        rises = is.listed.rises;
        tasks = size ∙ is.listed.tasks;
        lines = λ u m h. elim (changed_line t u f b.lines m h) [
          | inl own ↦
              subst (λ (x : LineNow). IsLineOf code (entries_of b) u x)
              (ap f (same_Some l own.1.0 (sym at ∙ own.1.1)) ∙ own.1.2) (subst (λ v. IsLineOf code (entries_of b) v (f l)) (sym own.0) line)
          | inr other ↦ is.listed.lines u m other.1
        ];
        orders = is.listed.orders;
        creates = is.listed.creates;
      };
      carried = is.carried;
      once = is.once;
      ended = is.ended;
      counted = record {
        events = is.counted.events;
        waiting = (
            let changed = waiting_changed t f b.lines l at in
            let was = is.counted.waiting in
            omega (arith, changed, was, more));
        running = (let was = is.counted.running in omega (arith, was, size, some));
        rest = is.counted.rest;
      };
      is_new = is.is_new;
    }
