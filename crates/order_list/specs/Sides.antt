-- What is said of two lists of the same items.
use Rattle.std.specs.Prelude.{◌≡◌, ◌≢◌, ℕ, ◌%◌, Bool, true, List, [], ◌∷◌, ◌++◌, length, ◌⊎◌}
use Rattle.order_list.specs.declared.judge.Sides.{Sides}
use Rattle.order_list.specs.declared.judge.Moved.{Moved}
use Rattle.order_list.specs.Ordered.{Ordered, stands_before, IsNumbered, IsKept}

-- an English and a Hebrew list
pub record Lists : Type 0 where
  pub english : Ordered
  pub hebrew : Ordered

-- what the two lists of a `Still` keep
pub record AreKept (l : Lists) : Type 0 where
  pub first : IsKept l.english
  pub second : IsKept l.hebrew
  pub count : length l.english.order ≡ length l.hebrew.order
  pub room : l.english.room ≡ l.hebrew.room

-- these sides tell how x and y stand in the two lists
pub record AreSides (sides : Sides) (x y : ℕ) (english hebrew : List ℕ) : Type 0 where
  pub first : sides.english ≡ stands_before x y english
  pub second : sides.hebrew ≡ stands_before x y hebrew

-- labels may move, and these two versions alone were loaded, of which the first is odd or the second another
pub record HasMoved (moved : Moved) (may_move : Bool) (before after : List ℕ) : Type 0 where
  pub may : may_move ≡ true
  pub loads : after ≡ before ++ moved.first ∷ moved.second ∷ []
  pub differ : (moved.first % 2 ≡ 1) ⊎ (moved.first ≢ moved.second)

-- both lists have the same items, numbered from 0
pub record AreNumbered (english hebrew : List ℕ) : Type 0 where
  pub first : IsNumbered english
  pub second : IsNumbered hebrew
  pub count : length english ≡ length hebrew
