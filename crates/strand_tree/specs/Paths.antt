-- What the sides of two strands say of paths.
use Rattle.std.specs.Prelude.{◌≡◌, ◌≢◌, ℕ, Bool, true, ◌↔◌, List, reverse}
use Rattle.order_list.specs.declared.judge.Sides.{Sides}
use Rattle.order_list.specs.Sides.{AreSides}
use Rattle.fut_base.specs.declared.event.Event.{Event}
use Rattle.fut_base.specs.Orders.{english_of, hebrew_of}
use Rattle.fut_base.specs.Sound.{IsSound, InnerReaches, home_of}
use Rattle.strand_laws.specs.Laws.{AreStrands}

-- two different strands of one future
pub record AreOfOneFuture (past : List Event) (u v : ℕ) : Type 0 where
  pub strands : AreStrands past u v
  pub home : home_of past u ≡ home_of past v
  pub differ : u ≢ v

-- for different strands of one future of a sound list of structural events, whose sides these are, the answer tells
-- whether a path inside that future leads from one to the other
abbrev pub TellsPaths : Sides → Bool → Type 0
TellsPaths sides answer =
    (s : List Event) (u v : ℕ) → IsSound s → AreOfOneFuture (reverse s) u v → AreSides sides u v (english_of s) (hebrew_of s)
    → (answer ≡ true) ↔ InnerReaches (reverse s) u v
