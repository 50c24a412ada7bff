-- A list kept as the next item of each item and the one before it, and the invariant of its labels.
use Rattle.std.specs.Prelude.{◌≡◌, ℕ, zero, suc, ◌^◌, ◌<◌, true, List, [], ◌∷◌, Option, Some, None, slice_index_or, slice_set, length}
use Rattle.order_list.specs.Ordered.{is_in, AllBelow, Rises}

-- the chain from an item on, at most n items of it
abbrev pub walk : List (Option ℕ) → ℕ → Option ℕ → List ℕ
walk nexts zero at = []
walk nexts (suc n) None = []
walk nexts (suc n) (Some x) = x ∷ walk nexts n (slice_index_or nexts x None)

-- each item leads to the one after it, and the last one to none
abbrev pub Linked : List (Option ℕ) → List ℕ → Type 0
Linked nexts [] = Unit {0}
Linked nexts (x ∷ []) = slice_index_or nexts x None ≡ None
Linked nexts (x ∷ y ∷ ys) = (slice_index_or nexts x None ≡ Some y) × Linked nexts (y ∷ ys)

-- each item leads back to the one before it, and the first one to `at`
abbrev pub LinkedBack : List (Option ℕ) → Option ℕ → List ℕ → Type 0
LinkedBack prevs at [] = Unit {0}
LinkedBack prevs at (x ∷ xs) = (slice_index_or prevs x None ≡ at) × LinkedBack prevs (Some x) xs

-- the item before the next one, where there is a next one, is the item from now on
abbrev pub with_prev : List (Option ℕ) → Option ℕ → ℕ → List (Option ℕ)
with_prev prevs None item = prevs
with_prev prevs (Some y) item = slice_set prevs y (Some item)

-- what the fields keep, with the list that they stand for
pub record Keeps (labels : List ℕ) (nexts prevs : List (Option ℕ)) (order : List ℕ) : Type 0 where
  pub linked : Linked nexts order
  pub back : LinkedBack prevs None order
  pub count : length order ≡ length nexts
  pub same_count : length labels ≡ length nexts
  pub prev_count : length prevs ≡ length nexts
  pub below : AllBelow (length nexts) order
  pub whole : (x : ℕ) → x < length nexts → is_in x order ≡ true
  pub rises : Rises labels 0 (2 ^ 62) order
