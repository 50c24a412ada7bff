-- A job is given out by the book.
use Rattle.std.proofs.Common.{◌≡◌, ℕ, List, length, inl, inr, ◌⊎◌, subst, ap, sym, refl, ◌∙◌}
use Rattle.atomic_table.specs.Seated.{TableId}
use Rattle.fut_base.specs.declared.event.Event.{Event}
use Rattle.strand_tree.specs.declared.strand.Strand.{Strand}
use Rattle.fut_base.specs.Sound.{IsSound}
use Rattle.strand_tree.specs.Placing.{AreOrders, IsStrandOf}
use Rattle.reach_table.specs.Telling.{HasTable}
use Rattle.event_clock.specs.declared.view.View.{View}
use Rattle.event_clock.specs.Views.{noted}
use Rattle.event_clock.specs.Rule.{IsPrefix}
use Rattle.event_clock.specs.Seated.{Ticking, Seated}
use Rattle.event_clock.proofs.Lists.{prefix_self}
use Rattle.order_query.specs.declared.view.Insert.{Insert}
use Rattle.order_query.specs.Logs.{StartsWith, english_of, hebrew_of, count_of}
use Rattle.order_query.specs.Reading.{Reading}
use Rattle.run_place.specs.Placed.{Placed, IsPlace, AreAlike, book_of, events_in}
use Rattle.run_place.proofs.Learning.{learned}
use Rattle.run_book.proofs.Stranding.{has_strands}

-- by its lists, the log of a writer is that of the entries of which they are the orders
pub alike_of : (book : List (ℕ × Event)) (log : List Insert) (en he : List ℕ) → IsSound (events_in book) → AreOrders (events_in book) en he
    → english_of log ≡ en → hebrew_of log ≡ he → count_of log ≡ length en → AreAlike book log
alike_of book log en he sound are en_is he_is count =
    record {
      sound = sound;
      strands = count ∙ (has_strands book en he sound are).first;
      orders = record { english_is = en_is ∙ are.english_is; hebrew_is = he_is ∙ are.hebrew_is };
    }

-- a note of the holder and a reader that was joined with a note of the writer
pub place_given : (clock : Ticking) (orders : TableId) (at : Strand) (table : List Strand) (pass : Seated) (reader : Reading) (view : View) (n : ℕ)
    (known : List (ℕ × Event)) (l m : List Insert)
    → pass.clock ≡ clock.id → pass.view ≡ noted n view → reader.home ≡ orders → AreAlike (book_of view) m → AreAlike known l → IsPrefix known (book_of view)
    → IsStrandOf (events_in (book_of view)) at → HasTable (events_in (book_of view)) at.number table
    → StartsWith reader.log l → StartsWith reader.log m → (reader.log ≡ l) ⊎ (reader.log ≡ m)
    → IsPlace clock orders (record { at = at; table = table; pass = pass; reader = reader })
place_given clock orders at table pass reader view n known l m clock_is view_is home alike knew begins strand has s t either =
    let book : book_of pass.view ≡ book_of view = ap (λ (v : View). book_of v) view_is in
    let now = learned known (book_of view) (book_of view) l m reader.log knew alike begins (prefix_self (book_of view)) (inr refl) s t either in
    record {
      clock_is = clock_is;
      orders_is = home;
      alike = subst (λ b. AreAlike b reader.log) (sym book) now;
      strand = subst (λ b. IsStrandOf (events_in b) at) (sym book) strand;
      table = subst (λ b. HasTable (events_in b) at.number table) (sym book) has;
    }

-- a note of the holder and one of the writer
pub place_noted : (clock : Ticking) (orders : TableId) (at : Strand) (table : List Strand) (pass : Seated) (reader : Reading) (view : View) (n : ℕ) (m : List Insert)
    → pass.clock ≡ clock.id → pass.view ≡ noted n view → reader.home ≡ orders → AreAlike (book_of view) m → reader.log ≡ m
    → IsStrandOf (events_in (book_of view)) at → HasTable (events_in (book_of view)) at.number table
    → IsPlace clock orders (record { at = at; table = table; pass = pass; reader = reader })
place_noted clock orders at table pass reader view n m clock_is view_is home alike log strand has =
    let book : book_of pass.view ≡ book_of view = ap (λ (v : View). book_of v) view_is in
    record {
      clock_is = clock_is;
      orders_is = home;
      alike = subst (λ b. AreAlike b reader.log) (sym book) (subst (λ l. AreAlike (book_of view) l) (sym log) alike);
      strand = subst (λ b. IsStrandOf (events_in b) at) (sym book) strand;
      table = subst (λ b. HasTable (events_in b) at.number table) (sym book) has;
    }
