-- What a whole run did: the turns of each worker.
use Rattle.std.specs.Prelude.{◌≡◌, ℕ, ◌+◌, ◌<◌, Bool, ◌⊎◌, List, [], ◌∷◌, length, All, slice_index_or}
use Rattle.steal_pool.specs.Balance.{weigh}
use Rattle.steal_pool.specs.Turns.{Turn, Chain, EndsAtHalt, Halts, turned_weight, given_weight}

-- one of the turns said halt
abbrev pub SomeHalts : {J : Type 0} → List (List (Turn J)) → Type 0
SomeHalts [] = ⊥
SomeHalts (ts ∷ runs) = Halts ts ⊎ SomeHalts runs

-- There are turns of each worker, each of which meets the body's contract. Each worker's own value goes through its
-- turns one after the other, and comes back at its place. The first job and all that the turns gave are those that were
-- turned and those that are left, as often as they stand, since they are however the jobs are weighed. A worker that said
-- halt did no further turn, and jobs are left only where a turn said halt.
pub record TurnedOrLeft {J W : Type 0} (turned : ℕ → W → J → List J → Bool → W → Type 0) (first : J) (owns : List W) (left : List J) (owns' : List W)
    : Type 0 where
  pub runs : List (List (Turn J))
  pub workers : length runs ≡ length owns
  pub same_count : length owns' ≡ length owns
  pub chains : (w : ℕ) (d : W) (e : List (Turn J)) → w < length owns
      → Chain (turned w) (slice_index_or owns w d) (slice_index_or runs w e) (slice_index_or owns' w d)
  pub each_once : (h : J → ℕ) → h first + weigh (given_weight h) runs ≡ weigh (turned_weight h) runs + weigh h left
  pub ends : All EndsAtHalt runs
  pub halted : (left ≡ []) ⊎ SomeHalts runs
