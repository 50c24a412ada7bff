-- Where a new item finds its label, and which labels a relabelling gives.
use Rattle.std.specs.Prelude.{◌≡◌, ◌≢◌, ℕ, ◌+◌, ◌-◌, ◌*◌, ◌/◌, ◌%◌, ◌^◌, ◌<◌, ◌≤◌, nat_lt, Bool, false, not, ◌&&◌, if◌then◌else◌, List, [], ◌∷◌, ◌++◌, Option}
use Rattle.std.specs.Prelude.{Some, None, length, slice_index, unwrap_or}
use Rattle.std.specs.List.{filter}
use Rattle.order_list.specs.declared.place.Window.{Window}
use Rattle.order_list.specs.declared.place.Place.{Place}
use Rattle.order_list.specs.declared.place.Place.TheVariants.{Label, Relabel}
use Rattle.order_list.specs.Ordered.{Ordered, put_after, head_of, high_of, high_by, next_of, is_in}

-- the label halfway between two
abbrev pub middle_of : ℕ → ℕ → ℕ
middle_of low high = low + (high - low) / 2

abbrev pub place_between : ℕ → ℕ → Place
place_between low high = if nat_lt (high - low) 2 then Relabel else Label (middle_of low high)

-- the label of an item that is put after x
abbrev pub place_of : Ordered → ℕ → Place
place_of l x = place_between (slice_index l.labels x) (high_of l x)

-- the first label of the window of 2^i labels that has the label: the greatest multiple of 2^i that is not above it
abbrev pub base_of : ℕ → ℕ → ℕ
base_of i label = label - label % 2 ^ i

-- the label is from `low` on and below `high`
abbrev pub is_between : ℕ → ℕ → ℕ → Bool
is_between low high label = not (nat_lt label low) && nat_lt label high

-- the items, in order, that have labels in the window of 2^i labels at x
abbrev pub members : List ℕ → List ℕ → ℕ → ℕ → List ℕ
members labels order x i =
    let base = base_of i (slice_index labels x) in filter (λ y. is_between base (base + 2 ^ i) (slice_index labels y)) order

-- so few items may share the 2^i labels of a window: at most 1.5^i
abbrev pub IsSparse : ℕ → ℕ → Type 0
IsSparse i n = n * 2 ^ i ≤ 3 ^ i

-- the window of 2^i labels at x is the least sparse one
pub record IsLeastSparse (labels order : List ℕ) (x i : ℕ) : Type 0 where
  pub some : 1 ≤ i
  pub most : i ≤ 62
  pub sparse : IsSparse i (length (members labels order x i))
  pub least : (j : ℕ) → 1 ≤ j → j < i → IsSparse j (length (members labels order x j)) → ⊥

-- how far apart n items stand that are spread evenly over 2^i labels
abbrev pub gap_of : ℕ → ℕ → ℕ
gap_of i n = 2 ^ i / n

-- what a relabelling in the window of 2^i labels at x takes
abbrev pub window_at : List ℕ → List ℕ → ℕ → ℕ → Window
window_at labels order x i =
    let items = members labels order x i in
    record { first = record { 0 = unwrap_or (head_of items) 0 }; items = length items; base = base_of i (slice_index labels x); gap = gap_of i (length items) }

-- the items stand together in the list, with others behind and ahead of them
pub record IsSegment (order items : List ℕ) : Type 0 where
  pub behind : List ℕ
  pub ahead : List ℕ
  pub parts : order ≡ behind ++ (items ++ ahead)

-- what a relabelling at x takes: the least sparse window, whose items stand together
pub record IsWindowOf (labels order : List ℕ) (x : ℕ) (w : Window) : Type 0 where
  pub size : ℕ
  pub least : IsLeastSparse labels order x size
  pub is : w ≡ window_at labels order x size
  pub segment : IsSegment order (members labels order x size)

-- from the k-th item on, the items have the labels base + k * gap, base + (k + 1) * gap and so on
abbrev pub IsSpaced : List ℕ → ℕ → ℕ → ℕ → List ℕ → Type 0
IsSpaced labels base gap k [] = Unit {0}
IsSpaced labels base gap k (x ∷ xs) = (slice_index labels x ≡ base + k * gap) × IsSpaced labels base gap (k + 1) xs

-- the labels after a relabelling at x in this window: its items are spread evenly over it, and the other labels stay
pub record IsSpread (labels order : List ℕ) (x : ℕ) (w : Window) (spread : List ℕ) : Type 0 where
  pub window : IsWindowOf labels order x w
  pub counted : length spread ≡ length labels
  pub spaced : IsSpaced spread w.base w.gap 0 (members labels order x window.size)
  pub others : (y : ℕ) → is_in y (members labels order x window.size) ≡ false → slice_index spread y ≡ slice_index labels y

-- there is a label between that of x and the next one
abbrev pub HasSpace : Ordered → ℕ → Type 0
HasSpace l x = slice_index l.labels x + 2 ≤ high_of l x

-- the labels after those of this window, if any, were made anew at x: of one exactly where there was no label between
abbrev pub SpacedBy : Ordered → ℕ → List ℕ → Option Window → Type 0
SpacedBy old x labels None = (place_of old x ≢ Relabel) × (labels ≡ old.labels)
SpacedBy old x labels (Some w) = (place_of old x ≡ Relabel) × IsSpread old.labels old.order x w labels

-- now there is a label between that of x and the next one
pub record HasMadeSpace (old : Ordered) (x : ℕ) (w : Option Window) (new : Ordered) : Type 0 where
  pub order_is : new.order ≡ old.order
  pub room_is : new.room ≡ old.room
  pub labels_are : SpacedBy old x new.labels w
  pub space : HasSpace new x

-- the labels after an item was put after x: those from before with the place's label, or those of a relabelling with
-- one in the middle
abbrev pub LabelsBy : Ordered → ℕ → List ℕ → Place → Type 0
LabelsBy old x labels (Label l) = labels ≡ old.labels ++ l ∷ []
LabelsBy old x labels Relabel =
    (w : Window) × (spread : List ℕ) × IsSpread old.labels old.order x w spread
    × (labels ≡ spread ++ middle_of (slice_index spread x) (high_by spread (next_of x old.order)) ∷ [])

abbrev pub LabelsAfter : Ordered → ℕ → List ℕ → Type 0
LabelsAfter old x labels = LabelsBy old x labels (place_of old x)

-- a new item was put right after x
pub record HasInserted (old : Ordered) (x item : ℕ) (new : Ordered) : Type 0 where
  pub number : item ≡ length old.order
  pub order_is : new.order ≡ put_after x (item ∷ []) old.order
  pub labels_are : LabelsAfter old x new.labels
  pub room_is : new.room + 1 ≡ old.room
