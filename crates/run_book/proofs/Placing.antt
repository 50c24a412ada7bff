-- Where tasks stand after a spawn, a create, a sync and a get, as strand_tree places them.
use Rattle.std.proofs.Common.{◌≡◌, ℕ, ◌+◌, ◌*◌, ◌<◌, ◌≤◌, List, [], ◌∷◌, ◌++◌, length, inl, inr, subst, ap, sym, refl, ◌∙◌, arith}
use Rattle.std.specs.Prelude.{◌↔◌, Option, Some, None, IfSome, option_map}
use Rattle.order_list.specs.Sides.{Lists}
use Rattle.fut_base.specs.declared.record.Value.{Value}
use Rattle.fut_base.specs.declared.event.Event.{Event}
use Rattle.fut_base.specs.declared.event.Action.{Action}
use Rattle.fut_base.specs.declared.event.Action.TheVariants.{Spawns, Creates, Syncs, Gets}
use Rattle.fut_base.specs.Dag.{Among, block_of, last_of}
use Rattle.fut_base.specs.Sound.{IsSound, AllEnded, strands_by}
use Rattle.task_code.specs.Flat.{Compiled}
use Rattle.strand_tree.specs.declared.strand.Strand.{Strand}
use Rattle.strand_tree.specs.Placing.{AreOrders, Extends, Belongs, IsIn, IsStrandOf, IsLastOf}
use Rattle.reach_table.specs.Telling.{HasTable}
use Rattle.reach_table.specs.Tabled.{KidAfterCreate}
use Rattle.reach_table.proofs.Events.{after_spawn, after_create}
use Rattle.run_place.specs.Placed.{events_in}
use Rattle.run_book.specs.Drawn.{past_in}
use Rattle.run_book.specs.Lines.{LineNow, Ended}
use Rattle.run_book.specs.Tabling.{AreLines, end_in, first_end, StandsBy, MergesEnds, TablesGet}
use Rattle.run_book.proofs.Stranding.{event_at, sound_then, orders_add, room_after, belongs_add, table_new, stands_in}
use Rattle.run_book.proofs.Tables.{some_of, ended_line, line_ended, tables_synced}

-- the lists are the orders of some entries, with room for the strands of all events
pub record AreRoomy (book : List (ℕ × Event)) (bound : ℕ) (lists : Lists) : Type 0 where
  pub orders : AreOrders (events_in book) lists.english.order lists.hebrew.order
  pub room : 2 * bound + 1 ≤ length lists.english.order + lists.english.room

-- the lists after one more entry
pub roomy_add : (book : List (ℕ × Event)) (bound k task at : ℕ) (action : Action) (old new : Lists)
    → IsSound (events_in (book ++ (k, event_at task at action) ∷ [])) → AreRoomy book bound old
    → Extends (events_in book) task at action old.english.order old.hebrew.order new.english.order new.hebrew.order
    → new.english.room + strands_by action ≡ old.english.room → AreRoomy (book ++ (k, event_at task at action) ∷ []) bound new
roomy_add book bound k task at action old new sound is extends took =
    let after = orders_add book k task at action old.english.order old.hebrew.order new.english.order new.hebrew.order extends is.orders in
    record {
      orders = after;
      room = room_after book k (event_at task at action) old.english.order old.hebrew.order new.english.order new.hebrew.order old.english.room
          new.english.room bound
          sound is.orders after took is.room;
    }

-- a strand of some entries, with its table
abbrev pub HasStrand : List (ℕ × Event) → Strand → List Strand → Type 0
HasStrand book at table = IsStrandOf (events_in book) at × HasTable (events_in book) at.number table

-- after a sync
pub stand_synced : (code : Compiled) (book : List (ℕ × Event)) (lines : List LineNow) (lists : Lists) (k task own : ℕ) (at next : Strand)
    (table left : List Strand)
    → IsSound (events_in (book ++ (k, event_at task at.number (Syncs next.number)) ∷ [])) → StandsBy code book lines lists at own table
    → MergesEnds lines lists table own (block_of (past_in book) task) left → AllEnded (past_in book) (block_of (past_in book) task)
    → Belongs (events_in book) task at (Syncs next.number) next
    → HasStrand (book ++ (k, event_at task at.number (Syncs next.number)) ∷ []) next left
stand_synced code book lines lists k task own at next table left sound by merges all belongs = (
  belongs_add book k task at next (Syncs next.number) belongs sound by.strand,
  tables_synced code book lines lists at own k task next.number table left by merges sound all,
)

-- after a get
pub stand_got : (code : Compiled) (book : List (ℕ × Event)) (lines : List LineNow) (lists : Lists) (k task own future : ℕ) (value : Value) (at next : Strand)
    (table more : List Strand)
    → IsSound (events_in (book ++ (k, event_at task at.number (Gets future value next.number)) ∷ [])) → StandsBy code book lines lists at own table
    → TablesGet lines lists table own future more → Belongs (events_in book) task at (Gets future value next.number) next
    → HasStrand (book ++ (k, event_at task at.number (Gets future value next.number)) ∷ []) next more
stand_got code book lines lists k task own future value at next table more sound by tables belongs = (
  belongs_add book k task at next (Gets future value next.number) belongs sound by.strand,
  tables code book at k task next.number value by sound,
)

-- the last strand of the first of some tasks that have ended is that of its line
pub first_ended : (code : Compiled) (book : List (ℕ × Event)) (lines : List LineNow) (tasks : List ℕ) → IsSound (events_in book) → AreLines code book lines
    → AllEnded (past_in book) tasks → IsLastOf (past_in book) tasks (option_map (λ (e : Ended). e.at) (first_end lines tasks))
first_ended code book lines [] sound are all = tt
first_ended code book lines (t ∷ ts) sound are all =
    let last = some_of (last_of (past_in book) t) all.0 in
    let e = ended_line code book lines t last.0 sound are last.1 in
    let k = line_ended code book lines t e.0 are e.1 in
    subst (λ (o : Option Ended). IsLastOf (past_in book) (t ∷ ts) (option_map (λ (x : Ended). x.at) o)) (sym e.1) k.last

-- and is in both lists
pub first_in : (code : Compiled) (book : List (ℕ × Event)) (lines : List LineNow) (lists : Lists) (tasks : List ℕ) → IsSound (events_in book)
    → AreLines code book lines → AreOrders (events_in book) lists.english.order lists.hebrew.order
    → IfSome (option_map (λ (e : Ended). e.at) (first_end lines tasks)) (λ v. IsIn v.number lists.english.order lists.hebrew.order)
first_in code book lines lists [] sound are orders = tt
first_in code book lines lists (t ∷ ts) sound are orders = go (end_in lines t) refl
  where
    go : (o : Option Ended) → end_in lines t ≡ o → IfSome (option_map (λ (e : Ended). e.at) o) (λ v. IsIn v.number lists.english.order lists.hebrew.order)
    go None is = tt
    go (Some e) is = stands_in book lists.english.order lists.hebrew.order e.at sound orders (line_ended code book lines t e are is).strand
