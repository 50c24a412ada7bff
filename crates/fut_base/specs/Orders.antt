-- The two orders of strands. Lists of events called `past` have the newest event first.
use Rattle.std.specs.Prelude.{ℕ, ◌==◌, Bool, false, not, ◌&&◌, if◌then◌else◌, List, [], ◌∷◌, ◌++◌, reverse, unwrap_or}
use Rattle.std.specs.List.{list_any}
use Rattle.fut_base.specs.Events.{Event, Action, Spawns, Creates, Syncs, Gets}
use Rattle.fut_base.specs.Dag.{last_of, block_of}

-- the items put right after x
abbrev pub put_after : ℕ → List ℕ → List ℕ → List ℕ
put_after x items [] = []
put_after x items (z ∷ zs) = z ∷ (if z == x then items ++ zs else put_after x items zs)

-- x is one of the list
abbrev pub is_in : ℕ → List ℕ → Bool
is_in x xs = list_any (λ y. y == x) xs

-- x stands before y
abbrev pub stands_before : ℕ → ℕ → List ℕ → Bool
stands_before x y [] = false
stands_before x y (z ∷ zs) = if z == x then is_in y zs else (not (z == y) && stands_before x y zs)

-- the english order after an action from the strand `at`
abbrev pub english_by : ℕ → Action → List ℕ → List ℕ
english_by at (Spawns _ _ kid cont _) xs = put_after at (kid ∷ cont ∷ []) xs
english_by at (Creates _ _ kid cont _) xs = put_after at (kid ∷ cont ∷ []) xs
english_by at (Syncs strand) xs = put_after at (strand ∷ []) xs
english_by at (Gets _ _ strand) xs = put_after at (strand ∷ []) xs
english_by at _ xs = xs

-- child before continuation
abbrev pub english_past : List Event → List ℕ
english_past [] = 0 ∷ []
english_past (e ∷ past) = english_by e.strand e.action (english_past past)

-- the last strand of a block's first child, or else the acting strand
abbrev pub first_last : List Event → List ℕ → ℕ → ℕ
first_last past [] at = at
first_last past (child ∷ _) at = unwrap_or (last_of past child) at

-- the hebrew order after an action of a task from the strand `at`
abbrev pub hebrew_by : List Event → ℕ → ℕ → Action → List ℕ → List ℕ
hebrew_by past task at (Spawns _ _ kid cont _) xs = put_after at (cont ∷ kid ∷ []) xs
hebrew_by past task at (Creates _ _ kid cont _) xs = put_after at (cont ∷ kid ∷ []) xs
hebrew_by past task at (Syncs strand) xs = put_after (first_last past (block_of past task) at) (strand ∷ []) xs
hebrew_by past task at (Gets _ _ strand) xs = put_after at (strand ∷ []) xs
hebrew_by past task at _ xs = xs

-- continuation before child
abbrev pub hebrew_past : List Event → List ℕ
hebrew_past [] = 0 ∷ []
hebrew_past (e ∷ past) = hebrew_by past e.task e.strand e.action (hebrew_past past)

-- the english order of the strands of a structure
abbrev pub english_of : List Event → List ℕ
english_of s = english_past (reverse s)

-- the hebrew order of the strands of a structure
abbrev pub hebrew_of : List Event → List ℕ
hebrew_of s = hebrew_past (reverse s)

-- u stands before v in both orders
abbrev pub precedes_past : List Event → ℕ → ℕ → Bool
precedes_past past u v = stands_before u v (english_past past) && stands_before u v (hebrew_past past)

-- one strand stands before another in both orders
abbrev pub precedes : List Event → ℕ → ℕ → Bool
precedes s u v = precedes_past (reverse s) u v
