-- What it means that strands are placed as structural events make them.
use Rattle.std.specs.Prelude.{◌≡◌, ℕ, ◌+◌, ◌<◌, List, [], ◌∷◌, ◌++◌, length, reverse, Option, Some, None}
use Rattle.fut_base.specs.declared.event.Event.{Event}
use Rattle.fut_base.specs.declared.event.Action.{Action}
use Rattle.fut_base.specs.Dag.{last_of, block_of}
use Rattle.fut_base.specs.Orders.{english_of, hebrew_of}
use Rattle.fut_base.specs.Sound.{IsSound, next_strand, home_of}
use Rattle.strand_tree.specs.declared.strand.Strand.{Strand}

-- a strand is in both lists, whose items are the numbers below their length
pub record IsIn (v : ℕ) (english hebrew : List ℕ) : Type 0 where
  pub first : v < length english
  pub second : v < length hebrew

-- a kid and a continuation have the next two numbers
pub record AreNext (next kid cont : ℕ) : Type 0 where
  pub kid_is : kid ≡ next
  pub cont_is : cont ≡ next + 1

-- two lists are the orders of the strands of some structural events
pub record AreOrders (s : List Event) (english hebrew : List ℕ) : Type 0 where
  pub english_is : english ≡ english_of s
  pub hebrew_is : hebrew ≡ hebrew_of s

-- where two lists were the orders of some structural events, they are now those of these and one more, by an action of
-- a task on a strand
abbrev pub Extends : List Event → ℕ → ℕ → Action → List ℕ → List ℕ → List ℕ → List ℕ → Type 0
Extends s task strand action english hebrew english' hebrew' =
    AreOrders s english hebrew → AreOrders (s ++ record { task = task; strand = strand; action = action } ∷ []) english' hebrew'

-- the last strand of the first of these tasks, where there is one
abbrev pub IsLastOf : List Event → List ℕ → Option Strand → Type 0
IsLastOf past [] None = Unit {0}
IsLastOf past [] (Some last) = ⊥
IsLastOf past (child ∷ _) None = ⊥
IsLastOf past (child ∷ _) (Some last) = last_of past child ≡ Some last.number

-- the last strand of the first child of a task's block, where there is one
abbrev pub IsLastOfFirst : List Event → ℕ → Option Strand → Type 0
IsLastOfFirst s task last = IsLastOf (reverse s) (block_of (reverse s) task) last

-- a strand of a list of structural events, and the future that it belongs to there
pub record IsStrandOf (s : List Event) (v : Strand) : Type 0 where
  pub there : v.number < next_strand (reverse s)
  pub future_is : v.future ≡ home_of (reverse s) v.number

-- where a sound list of structural events ends with this action of a task, and the acting strand is one of the events
-- before, the strand is one of the list
abbrev pub Belongs : List Event → ℕ → Strand → Action → Strand → Type 0
Belongs s task at action v =
    let longer = s ++ record { task = task; strand = at.number; action = action } ∷ [] in
    IsSound longer → IsStrandOf s at → IsStrandOf longer v
