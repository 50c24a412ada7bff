-- Tables after one more event.
use Rattle.std.specs.Prelude.{◌≡◌, ◌≢◌, ℕ, ◌<◌, true, ◌↔◌, ◌⊎◌, List, [], ◌∷◌, ◌++◌, length, reverse, Option, Some, None}
use Rattle.order_list.specs.Sides.{Lists}
use Rattle.fut_base.specs.declared.record.Value.{Value}
use Rattle.fut_base.specs.declared.event.Event.{Event}
use Rattle.fut_base.specs.declared.event.Action.{Action}
use Rattle.fut_base.specs.declared.event.Action.TheVariants.{Spawns, Creates, Syncs, Gets}
use Rattle.fut_base.specs.Dag.{Among, ReachesBy, edges_past, last_of, block_of}
use Rattle.fut_base.specs.Orders.{precedes_past}
use Rattle.fut_base.specs.Sound.{IsSound, next_strand}
use Rattle.fut_base.specs.Tables.{lasts_of}
use Rattle.strand_tree.specs.declared.strand.Strand.{Strand}
use Rattle.strand_tree.specs.Placing.{IsStrandOf, AreOrders}
use Rattle.reach_table.specs.Telling.{HasTable, HasOneOfEach, OrdersAgree}
use Rattle.reach_table.specs.Merging.{IsMergedOf}

-- some structural events and one more, by an action of a task on a strand
abbrev pub and_then : List Event → ℕ → ℕ → Action → List Event
and_then s task at action = s ++ record { task = task; strand = at; action = action } ∷ []

-- after a spawn both new strands have the table that the acting strand had
abbrev pub AfterSpawn : List Strand → List Strand → Type 0
AfterSpawn old new =
    (s : List Event) (task at code child kid cont : ℕ) (args : List Value) → IsSound (and_then s task at (Spawns code child kid cont args))
    → HasTable s at old
    → HasTable (and_then s task at (Spawns code child kid cont args)) kid new × HasTable (and_then s task at (Spawns code child kid cont args)) cont new

-- after a create the continuation has the table that the acting strand had
abbrev pub AfterCreate : List Strand → List Strand → Type 0
AfterCreate old new =
    (s : List Event) (task at code child kid cont : ℕ) (args : List Value) → IsSound (and_then s task at (Creates code child kid cont args))
    → HasTable s at old → HasTable (and_then s task at (Creates code child kid cont args)) cont new

-- after a create on strand `from` the kid has this table
abbrev pub KidAfterCreate : List Strand → Strand → List Strand → Type 0
KidAfterCreate old «from» new =
    (s : List Event) (task code child kid cont : ℕ) (args : List Value) → IsSound (and_then s task «from».number (Creates code child kid cont args))
    → IsStrandOf s «from» → HasTable s «from».number old → HasTable (and_then s task «from».number (Creates code child kid cont args)) kid new

-- after a get on a strand of future `own` the new strand has this table: the acting strand had the first one, and the
-- last strand of the future the second
abbrev pub AfterGet : Lists → ℕ → List Strand → List Strand → Option Strand → List Strand → Type 0
AfterGet lists own one other last new =
    (s : List Event) (task future strand : ℕ) (value : Value) (at end : Strand) → IsSound (and_then s task at.number (Gets future value strand))
    → IsStrandOf s at → own ≡ at.future → HasTable s at.number one
    → IsStrandOf s end → last ≡ Some end → last_of (reverse s) future ≡ Some end.number → HasTable s end.number other
    → OrdersAgree s (length lists.english.order) lists.english.order lists.hebrew.order
    → HasTable (and_then s task at.number (Gets future value strand)) strand new

-- what some strands' tables left, and the table of one more strand of the events, leave this
abbrev pub MergesOneMore : Lists → ℕ → List Strand → List Strand → Option Strand → List Strand → Type 0
MergesOneMore lists own one other last new =
    (s : List Event) (strands : List ℕ) (v : ℕ) → IsSound s → IsMergedOf s own strands one
    → v < next_strand (reverse s) → HasTable s v other → last ≡ None
    → OrdersAgree s (length lists.english.order) lists.english.order lists.hebrew.order
    → IsMergedOf s own (strands ++ v ∷ []) new

-- of one strand's table alone all is left
abbrev pub MergeBegins : Type 0
MergeBegins =
    (s : List Event) (at : Strand) (table : List Strand) → IsSound s → IsStrandOf s at → HasTable s at.number table
    → IsMergedOf s at.future (at.number ∷ []) table

-- after a sync the new strand has what the tables of the acting strand and of the last strands of its block's children
-- leave
abbrev pub AfterSync : Type 0
AfterSync =
    (s : List Event) (task strand : ℕ) (at : Strand) (table : List Strand) → IsSound (and_then s task at.number (Syncs strand))
    → IsStrandOf s at → IsMergedOf s at.future (at.number ∷ lasts_of (reverse s) (block_of (reverse s) task)) table
    → HasTable (and_then s task at.number (Syncs strand)) strand table

-- further events leave the tables of strands that were there
abbrev pub TablesStay : Type 0
TablesStay =
    (s later : List Event) (v : ℕ) (table : List Strand) → IsSound (s ++ later) → v < next_strand (reverse s)
    → HasTable s v table → HasTable (s ++ later) v table

-- lists that are the orders after further events, or at once, have the strands that were there in their order
abbrev pub OrdersStay : Type 0
OrdersStay =
    (s later : List Event) (known : ℕ) (english hebrew : List ℕ) → IsSound (s ++ later)
    → AreOrders (s ++ later) english hebrew → OrdersAgree s known english hebrew

-- a strand of another future reaches a strand exactly where a strand of its own future in the table is it, or is
-- preceded by it
abbrev pub TableTells : Type 0
TableTells =
    (s : List Event) (u v : Strand) (table : List Strand) → IsSound s → IsStrandOf s u → IsStrandOf s v → u.future ≢ v.future → HasTable s v.number table
    → ReachesBy (edges_past (reverse s)) u.number v.number
    ↔ ((w : Strand) × Among w table × (w.future ≡ u.future) × ((u.number ≡ w.number) ⊎ (precedes_past (reverse s) u.number w.number ≡ true)))

-- a table has at most one strand of each future
abbrev pub OneOfEach : Type 0
OneOfEach =
    (s : List Event) (v : ℕ) (table : List Strand) → IsSound s → v < next_strand (reverse s) → HasTable s v table
    → HasOneOfEach table
