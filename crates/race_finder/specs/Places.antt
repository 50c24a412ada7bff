-- Two lists of the same items, as they were put in.
use Rattle.std.specs.Prelude.{◌≡◌, ℕ, ◌+◌, ◌<◌, ◌≤◌, List, [], ◌∷◌, length}
use Rattle.order_list.specs.Ordered.{put_after}
use Rattle.order_list.specs.Sides.{Lists}
use Rattle.race_finder.specs.declared.places.Pair.{Pair}

-- the items in both orders, and for how many more there is room
pub record Placed : Type 0 where
  pub english : List ℕ
  pub hebrew : List ℕ
  pub room : ℕ

-- a list after further items were put in, in this order, each after the first item of its pair
abbrev pub english_from : List ℕ → List Pair → List ℕ
english_from xs [] = xs
english_from xs (p ∷ ps) = english_from (put_after p.english.0 (length xs ∷ []) xs) ps

-- the same, each after the second item of its pair
abbrev pub hebrew_from : List ℕ → List Pair → List ℕ
hebrew_from xs [] = xs
hebrew_from xs (p ∷ ps) = hebrew_from (put_after p.hebrew.0 (length xs ∷ []) xs) ps

-- where there are n items, each is put after items that are there by then
abbrev pub AreWithin : ℕ → List Pair → Type 0
AreWithin n [] = Unit {0}
AreWithin n (p ∷ ps) = (p.english.0 < n) × (p.hebrew.0 < n) × AreWithin (n + 1) ps

-- two lists are those into which these pairs tell that items were put, and there is room for so many in all
pub record IsPlaced (lists : Lists) (placed : List Pair) (room capacity : ℕ) : Type 0 where
  pub within : AreWithin 1 placed
  pub english_is : lists.english.order ≡ english_from (0 ∷ []) placed
  pub hebrew_is : lists.hebrew.order ≡ hebrew_from (0 ∷ []) placed
  pub count : length lists.english.order ≡ length placed + 1
  pub whole : lists.english.room + length placed + 1 ≡ capacity
  pub spare : length placed + lists.english.room ≤ room
