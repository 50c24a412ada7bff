-- Items that stand together, and how they are found.
use Rattle.std.specs.Prelude.{◌≡◌, ℕ, ◌+◌, ◌*◌, ◌^◌, ◌<◌, ◌≤◌, if◌then◌else◌, List, [], ◌∷◌, ◌++◌, Option, Some, None, slice_index, slice_index_or, set, length}
use Rattle.order_list.specs.declared.span.Span.{Span}
use Rattle.order_list.specs.declared.span.Stretch.{Stretch}
use Rattle.order_list.specs.declared.place.Window.{Window}
use Rattle.order_list.specs.Ordered.{AllBelow, Rises, head_of}
use Rattle.order_list.specs.Labels.{is_between, base_of, gap_of, IsLeastSparse}

-- the item, if there is one and its label is from `low` on and below `high`
abbrev pub next_between : List ℕ → ℕ → ℕ → Option ℕ → Option ℕ
next_between labels low high None = None
next_between labels low high (Some x) = if is_between low high (slice_index labels x) then Some x else None

-- the links lead from `at` along all the items, and then to none
abbrev pub Leads : List (Option ℕ) → Option ℕ → List ℕ → Type 0
Leads links at [] = at ≡ None
Leads links at (x ∷ xs) = (at ≡ Some x) × Leads links (slice_index_or links x None) xs

-- the links lead along these items, which are not more than there are
pub record IsWay (labels : List ℕ) (links : List (Option ℕ)) (at : Option ℕ) (xs : List ℕ) : Type 0 where
  pub leads : Leads links at xs
  pub below : AllBelow (length links) xs
  pub short : length xs ≤ length links
  pub same_count : length labels ≡ length links
  pub few : length links < 2 ^ 32

-- each item's label is from `low` on and below `high`
abbrev pub AllBetween : List ℕ → ℕ → ℕ → List ℕ → Type 0
AllBetween labels low high [] = Unit {0}
AllBetween labels low high (x ∷ xs) = (low ≤ slice_index labels x) × (slice_index labels x < high) × AllBetween labels low high xs

-- the last item, or `from` where there is none
abbrev pub last_of : ℕ → List ℕ → ℕ
last_of from [] = from
last_of from (x ∷ xs) = last_of x xs

-- the longest stretch of items with labels in the range, from the first of the items on
pub record IsStretch (labels : List ℕ) (links : List (Option ℕ)) (low high from : ℕ) (xs : List ℕ) (s : Stretch) : Type 0 where
  pub taken : List ℕ
  pub rest : List ℕ
  pub parts : xs ≡ taken ++ rest
  pub between : AllBetween labels low high taken
  pub leads : Leads links s.stop rest
  pub out : next_between labels low high s.stop ≡ None
  pub last : s.last ≡ last_of from taken
  pub count : s.items ≡ length taken

-- the items of the first list, the nearest first, put before the second
abbrev pub put_before : List ℕ → List ℕ → List ℕ
put_before [] rest = rest
put_before (x ∷ xs) rest = put_before xs (x ∷ rest)

-- labels strictly fall along the list, from below `high` on
abbrev pub Falls : List ℕ → ℕ → List ℕ → Type 0
Falls labels high [] = Unit {0}
Falls labels high (x ∷ xs) = (slice_index labels x < high) × Falls labels (slice_index labels x) xs

-- the span has all the items with labels from `low` on and below `high`
pub record IsSpan (labels : List ℕ) (nexts prevs : List (Option ℕ)) (order : List ℕ) (low high : ℕ) (s : Span) : Type 0 where
  pub behind : List ℕ
  pub items : List ℕ
  pub ahead : List ℕ
  pub parts : order ≡ put_before behind (items ++ ahead)
  pub falls : Falls labels low behind
  pub inside : Rises labels low high items
  pub rises : Rises labels high (2 ^ 62) ahead
  pub leads_back : Leads prevs s.before behind
  pub leads_on : Leads nexts s.after ahead
  pub first : head_of items ≡ Some s.first
  pub count : s.items ≡ length items

-- the span has all the items with labels in a range that is within the given one
pub record IsWithinSpan (labels : List ℕ) (nexts prevs : List (Option ℕ)) (order : List ℕ) (low high : ℕ) (s : Span) : Type 0 where
  pub from : ℕ
  pub to : ℕ
  pub above : low ≤ from
  pub below : to ≤ high
  pub span : IsSpan labels nexts prevs order from to s

-- the least sparse window at x, with the span of its items
pub record IsFound (labels : List ℕ) (nexts prevs : List (Option ℕ)) (order : List ℕ) (x : ℕ) (w : Window) : Type 0 where
  pub size : ℕ
  pub least : IsLeastSparse labels order x size
  pub found : Span
  pub span : IsSpan labels nexts prevs order (base_of size (slice_index labels x)) (base_of size (slice_index labels x) + 2 ^ size) found
  pub is : w ≡ record { first = record { 0 = found.first }; items = found.items; base = base_of size (slice_index labels x); gap = gap_of size found.items }

-- the labels after these items got the labels base, base + gap and so on
abbrev pub set_evenly : List ℕ → ℕ → ℕ → List ℕ → List ℕ
set_evenly labels base gap [] = labels
set_evenly labels base gap (x ∷ xs) = set_evenly (set labels x base) (base + gap) gap xs

-- the items of a window stand along the chain
pub record IsRoute (labels : List ℕ) (nexts : List (Option ℕ)) (w : Window) (items rest : List ℕ) : Type 0 where
  pub leads : Leads nexts (Some w.first.0) (items ++ rest)
  pub count : w.items ≡ length items
  pub below : AllBelow (length nexts) items
  pub same_count : length labels ≡ length nexts
  pub fits : w.base + w.items * w.gap ≤ 2 ^ 62
