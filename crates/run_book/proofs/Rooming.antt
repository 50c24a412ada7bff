-- Lines that got room are the book's lines.
use Rattle.std.proofs.Common.{◌≡◌, ℕ, List, sym, ◌∙◌, subst}
use Rattle.std.specs.Prelude.{Some, slice_get}
use Rattle.atomic_table.specs.Seated.{TableId}
use Rattle.fut_base.specs.declared.event.Event.{Event}
use Rattle.fut_base.specs.declared.record.Limits.{Limits}
use Rattle.task_code.specs.Flat.{Compiled}
use Rattle.event_clock.specs.Seated.{Ticking}
use Rattle.run_book.specs.Lines.{LineNow, IsLineOf}
use Rattle.run_book.specs.Turns.{AreSameLines}
use Rattle.run_book.specs.Books.{BookNow, IsBook, entries_of}
use Rattle.run_book.proofs.Changing.{same_line, same_length, same_waiting}

line_kept : (code : Compiled) (book : List (ℕ × Event)) (t : ℕ) (l : LineNow) (room : ℕ) → IsLineOf code book t l → IsLineOf code book t (record l { room = room })
line_kept code book t l room is =
    record { parent = is.parent; block = is.block; count = is.count; value = is.value; last = is.last; waiter = is.waiter; waiters = is.waiters }

pub roomy_book : (clock : Ticking) (orders : TableId) (code : Compiled) (limits : Limits) (b : BookNow) (lines : List LineNow)
    → IsBook clock orders code limits b → AreSameLines b.lines lines → IsBook clock orders code limits (record b { lines = lines })
roomy_book clock orders code limits b lines is same =
    let long = same_length b.lines lines same in
    record {
      home = is.home;
      first_holder = is.first_holder;
      limits_are = is.limits_are;
      within = is.within;
      small = is.small;
      creates_few = is.creates_few;
      room = is.room;
      listed = record {
        sound = is.listed.sound;
        fits = is.listed.fits;
        known = is.listed.known;
        rises = is.listed.rises;
        tasks = long ∙ is.listed.tasks;
        lines = λ t m at. (
            let old = same_line b.lines lines t m same at in
            subst (λ (x : LineNow). IsLineOf code (entries_of b) t x) (sym old.2)
            (line_kept code (entries_of b) t old.0 m.room (is.listed.lines t old.0 old.1)));
        orders = is.listed.orders;
        creates = is.listed.creates;
      };
      carried = is.carried;
      once = is.once;
      ended = is.ended;
      counted = record {
        events = is.counted.events;
        waiting = is.counted.waiting ∙ sym (same_waiting b.lines lines same);
        running = is.counted.running ∙ sym long;
        rest = is.counted.rest;
      };
      is_new = is.is_new;
    }
