-- What a clock shows, and what a holder or a pass does.
use Rattle.std.specs.Prelude.{◌≡◌, ℕ, zero, suc, ◌<◌, ◌≤◌, List}
use Rattle.atomic_table.specs.Seated.{TableId}
use Rattle.fut_base.specs.declared.event.Event.{Event}
use Rattle.fut_base.specs.declared.event.Action.TheVariants.{Syncs}
use Rattle.event_clock.specs.declared.view.View.{View}
use Rattle.event_clock.specs.declared.view.Size.{Size}
use Rattle.event_clock.specs.declared.clock.Drawn.{Drawn}
use Rattle.event_clock.specs.declared.clock.Drawn.TheVariants.{At, Spent}
use Rattle.event_clock.specs.Views.{drawn, turned_away, unused, opening_view, new_holder, IsAbove}

-- what a clock shows: which one it is, its number of holders and its bound
pub record Ticking : Type 0 where
  pub id : TableId
  pub size : Size

-- the clock to which a holder or a pass belongs, and what it knows
pub record Seated : Type 0 where
  pub clock : TableId
  pub view : View

-- an event that nothing names
abbrev pub no_event : Event
no_event = record { task = 0; strand = 0; action = Syncs 0 }

-- a size that nothing names
abbrev pub no_size : Size
no_size = record { holders = 1; bound = 0 }

-- what a step on the word does to a view
pub record IsStruck (size : Size) (e : Event) (v : View) (found : ℕ) (w : View) : Type 0 where
  pub in_time : found < size.bound → (w ≡ drawn found e v) × IsAbove found v
  pub late : size.bound ≤ found → w ≡ turned_away v

-- what a draw answers: a ticket below the bound and above all that the holder's view shows, whose entry is added; or a number at or
-- above the bound
abbrev pub IsDraw : Size → Event → View → Drawn → View → Type 0
IsDraw size e v (At t) w = (t < size.bound) × IsAbove t v × (w ≡ drawn t e v)
IsDraw size e v (Spent t) w = (size.bound ≤ t) × (w ≡ turned_away v)

-- what a list of holders shows: its items, and how many it was made with
pub record HolderList : Type 0 where
  pub items : List Seated
  pub made : ℕ

-- a clock's first view, with the numbers below n
abbrev pub opened : Size → ℕ → View
opened size n = record (opening_view size) { own = unused n }

-- a new holder of a number
abbrev pub fresh : TableId → Size → ℕ → Seated
fresh id size zero = record { clock = id; view = opened size 1 }
fresh id size (suc n) = record { clock = id; view = new_holder (opened size (suc (suc n))) }
