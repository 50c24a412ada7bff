-- Where a task stands in a run on workers, and what holds of it.
use Rattle.std.specs.Prelude.{◌≡◌, ℕ, List, map, reverse}
use Rattle.atomic_table.specs.Seated.{TableId}
use Rattle.fut_base.specs.declared.event.Event.{Event}
use Rattle.fut_base.specs.Sound.{IsSound, next_strand}
use Rattle.strand_tree.specs.declared.strand.Strand.{Strand}
use Rattle.strand_tree.specs.Placing.{AreOrders, IsStrandOf}
use Rattle.reach_table.specs.Telling.{HasTable}
use Rattle.event_clock.specs.declared.view.View.{View}
use Rattle.event_clock.specs.Views.{list_at}
use Rattle.event_clock.specs.Seated.{Ticking, Seated}
use Rattle.order_query.specs.declared.view.Insert.{Insert}
use Rattle.order_query.specs.Logs.{english_of, hebrew_of, count_of}
use Rattle.order_query.specs.Reading.{Reading}

-- a strand, the strands of its table, and what a pass and a reader know
pub record Placed : Type 0 where
  pub at : Strand
  pub table : List Strand
  pub pass : Seated
  pub reader : Reading

-- the structural entries that a view knows, each with its ticket: those of holder 0
abbrev pub book_of : View → List (ℕ × Event)
book_of v = list_at v.known 0

-- the entries of a list, without their tickets
abbrev pub events_in : List (ℕ × Event) → List Event
events_in drawn = map (λ (x : ℕ × Event). x.1) drawn

-- a list of structural entries is sound, and the inserts of a log make its two orders
pub record AreAlike (book : List (ℕ × Event)) (log : List Insert) : Type 0 where
  pub sound : IsSound (events_in book)
  pub strands : count_of log ≡ next_strand (reverse (events_in book))
  pub orders : AreOrders (events_in book) (english_of log) (hebrew_of log)

-- a place belongs to the run's clock and orders; by the entries that it knows it has a strand with its table, and by its reader their
-- orders
pub record IsPlace (clock : Ticking) (orders : TableId) (p : Placed) : Type 0 where
  pub clock_is : p.pass.clock ≡ clock.id
  pub orders_is : p.reader.home ≡ orders
  pub alike : AreAlike (book_of p.pass.view) p.reader.log
  pub strand : IsStrandOf (events_in (book_of p.pass.view)) p.at
  pub table : HasTable (events_in (book_of p.pass.view)) p.at.number p.table
