-- What an order list shows, and the words for lists of items.
use Rattle.std.specs.Prelude.{◌≡◌, ℕ, ◌+◌, ◌^◌, ◌<◌, ◌≤◌, ◌==◌, Bool, true, false, not, ◌&&◌, if◌then◌else◌, List, [], ◌∷◌, ◌++◌, Option, Some, None}
use Rattle.std.specs.Prelude.{slice_index, length}
use Rattle.std.specs.List.{list_any}

-- a list's items in order, the label of each item by its number, and for how many more it has room
pub record Ordered : Type 0 where
  pub order : List ℕ
  pub labels : List ℕ
  pub room : ℕ

-- the items put right after x
abbrev pub put_after : ℕ → List ℕ → List ℕ → List ℕ
put_after x items [] = []
put_after x items (z ∷ zs) = z ∷ (if z == x then items ++ zs else put_after x items zs)

abbrev pub is_in : ℕ → List ℕ → Bool
is_in x xs = list_any (λ y. y == x) xs

-- x stands before y
abbrev pub stands_before : ℕ → ℕ → List ℕ → Bool
stands_before x y [] = false
stands_before x y (z ∷ zs) = if z == x then is_in y zs else (not (z == y) && stands_before x y zs)

-- the first item, where there is one
abbrev pub head_of : List ℕ → Option ℕ
head_of [] = None
head_of (x ∷ _) = Some x

-- the item right after x
abbrev pub next_of : ℕ → List ℕ → Option ℕ
next_of x [] = None
next_of x (z ∷ zs) = if z == x then head_of zs else next_of x zs

-- the label of the next item, or 2^62 after the last
abbrev pub high_by : List ℕ → Option ℕ → ℕ
high_by labels None = 2 ^ 62
high_by labels (Some y) = slice_index labels y

abbrev pub high_of : Ordered → ℕ → ℕ
high_of l x = high_by l.labels (next_of x l.order)

-- a list of item 0 alone, with room for so many items in all
pub record IsFresh (capacity : ℕ) (l : Ordered) : Type 0 where
  pub order_is : l.order ≡ 0 ∷ []
  pub labels_are : l.labels ≡ 2 ^ 61 ∷ []
  pub room_is : l.room + 1 ≡ capacity

-- each item is below n
abbrev pub AllBelow : ℕ → List ℕ → Type 0
AllBelow n [] = Unit {0}
AllBelow n (x ∷ xs) = (x < n) × AllBelow n xs

-- the items are the numbers below their count
pub record IsNumbered (order : List ℕ) : Type 0 where
  pub below : AllBelow (length order) order
  pub whole : (x : ℕ) → x < length order → is_in x order ≡ true

-- labels strictly rise along the list, from `low` on and below `high`
abbrev pub Rises : List ℕ → ℕ → ℕ → List ℕ → Type 0
Rises labels low high [] = Unit {0}
Rises labels low high (x ∷ xs) = (low ≤ slice_index labels x) × (slice_index labels x < high) × Rises labels (slice_index labels x + 1) high xs

-- what every list keeps: its items are the numbers below their count, each with a label, and labels below 2^62 rise along
-- it
pub record IsKept (l : Ordered) : Type 0 where
  pub numbered : IsNumbered l.order
  pub counted : length l.labels ≡ length l.order
  pub rises : Rises l.labels 0 (2 ^ 62) l.order
