-- The two lists that a log of inserts makes, and labels that rise along them.
use Rattle.std.specs.Prelude.{◌≡◌, ℕ, ◌+◌, ◌*◌, ◌<◌, List, [], ◌∷◌, ◌++◌, map, length, slice_index}
use Rattle.order_list.specs.Ordered.{put_after, stands_before}
use Rattle.order_query.specs.declared.view.Insert.{Insert}

-- the list after more inserts: the next item is put after the first of these, and so on
abbrev pub grown : ℕ → List ℕ → List ℕ → List ℕ
grown item order [] = order
grown item order (after ∷ afters) = grown (item + 1) (put_after after (item ∷ []) order) afters

-- the list after these inserts, from item 0 alone on
abbrev pub order_of : List ℕ → List ℕ
order_of afters = grown 1 (0 ∷ []) afters

abbrev pub afters_english : List Insert → List ℕ
afters_english log = map (λ (i : Insert). i.english) log

abbrev pub afters_hebrew : List Insert → List ℕ
afters_hebrew log = map (λ (i : Insert). i.hebrew) log

-- the English and the Hebrew list of a log
abbrev pub english_of : List Insert → List ℕ
english_of log = order_of (afters_english log)

abbrev pub hebrew_of : List Insert → List ℕ
hebrew_of log = order_of (afters_hebrew log)

-- how many items a log has
abbrev pub count_of : List Insert → ℕ
count_of log = length log + 1

-- from this item on, each is put after one with a lesser number
abbrev pub AreEarlier : ℕ → List ℕ → Type 0
AreEarlier item [] = Unit {0}
AreEarlier item (after ∷ afters) = (after < item) × AreEarlier (item + 1) afters

-- each item of the log was put after items with lesser numbers
abbrev pub IsLog : List Insert → Type 0
IsLog log = AreEarlier 1 (afters_english log) × AreEarlier 1 (afters_hebrew log)

-- the second log begins the first
abbrev pub StartsWith : List Insert → List Insert → Type 0
StartsWith log start = (rest : List Insert) × (log ≡ start ++ rest)

-- the words of an item's labels
abbrev pub english_word : ℕ → ℕ
english_word x = 2 * x + 2

abbrev pub hebrew_word : ℕ → ℕ
hebrew_word x = 2 * x + 3

-- labels strictly rise along a list
abbrev pub StrictlyRise : (ℕ → ℕ) → List ℕ → Type 0
StrictlyRise label [] = Unit {0}
StrictlyRise label (x ∷ []) = Unit {0}
StrictlyRise label (x ∷ y ∷ ys) = (label x < label y) × StrictlyRise label (y ∷ ys)

-- the labels in the words strictly rise along both lists of a log
pub record AreRising (words : List ℕ) (log : List Insert) : Type 0 where
  pub english : StrictlyRise (λ x. slice_index words (english_word x)) (english_of log)
  pub hebrew : StrictlyRise (λ x. slice_index words (hebrew_word x)) (hebrew_of log)

-- later inserts keep the order of the items that were there, in both lists
abbrev pub OrdersStay : Type 0
OrdersStay = (log start : List Insert) → StartsWith log start → (x y : ℕ) → x < count_of start → y < count_of start
    → (stands_before x y (english_of log) ≡ stands_before x y (english_of start))
    × (stands_before x y (hebrew_of log) ≡ stands_before x y (hebrew_of start))
