-- The rule of a deque, whose passes each know what they have put into it and taken out of it.
use Rattle.std.specs.Prelude.{◌≡◌, ℕ, ◌+◌, ◌-◌, List, [], ◌∷◌, ◌++◌}
use mathlib.Core.Option.{some}
use lib.ListN.{get_elem?}
use Rattle.steal_pool.specs.declared.tally.Tally.{Tally}

-- the weights of the items, added up
abbrev pub weigh : {A : Type 0} → (A → ℕ) → List A → ℕ
weigh h [] = 0
weigh h (x ∷ xs) = h x + weigh h xs

-- an account of these shares, with what was put and taken
abbrev pub tally : {J : Type 0} → ℕ → List J → List J → Tally J
tally parts put taken = record { parts = parts; put = put; taken = taken }

-- more was put
abbrev pub with_put : {J : Type 0} → Tally J → List J → Tally J
with_put v xs = tally v.parts (v.put ++ xs) v.taken

-- more was taken
abbrev pub with_taken : {J : Type 0} → Tally J → List J → Tally J
with_taken v xs = tally v.parts v.put (v.taken ++ xs)

-- one share fewer
abbrev pub cut_off : {J : Type 0} → Tally J → Tally J
cut_off v = tally (v.parts - 1) v.put v.taken

-- two accounts in one
abbrev pub joined : {J : Type 0} → Tally J → Tally J → Tally J
joined v w = tally (v.parts + w.parts) (v.put ++ w.put) (v.taken ++ w.taken)

-- a pass with no part has put and taken nothing
abbrev pub IdleIsEmpty : {J : Type 0} → List (Tally J) → Type 0
IdleIsEmpty {J} views = (port : ℕ) (v : Tally J) → get_elem? views port ≡ some v → v.parts ≡ 0 → (v.put ≡ []) × (v.taken ≡ [])

-- what was put is what was taken and what the deque holds, however the jobs are weighed
abbrev pub Balanced : {J : Type 0} → List J → List (Tally J) → Type 0
Balanced {J} items views =
    (weigh (λ v. v.parts) views ≡ 65)
    × ((h : J → ℕ) → weigh (λ v. weigh h v.put) views ≡ weigh (λ v. weigh h v.taken) views + weigh h items)
    × IdleIsEmpty views

-- at a moment at which this was what a pass knew, its deque was empty
abbrev pub WasEmpty : {J : Type 0} → Tally J → Type 0
WasEmpty {J} v = (views : List (Tally J)) × (port : ℕ) × Balanced [] views × (get_elem? views port ≡ some v)
