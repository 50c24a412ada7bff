-- What the workers of a run did, all together.
use Rattle.std.specs.Prelude.{◌≡◌, ℕ, ◌+◌, ◌<◌, ◌≤◌, ◌⊎◌, Bool, true, false, List, [], length, map, All, None, slice_index_or}
use Rattle.std.specs.List.{list_any}
use Rattle.steal_pool.specs.declared.deque.Victim.{Victim}
use Rattle.steal_pool.specs.declared.worker.Worker.{Worker}
use Rattle.steal_pool.specs.Balance.{weigh}
use Rattle.steal_pool.specs.Deques.{own_tally, own_id, victim_tally}
use Rattle.steal_pool.specs.Thieves.{Id, victim_frame, frame, put_weight, taken_weight, AreNew}
use Rattle.steal_pool.specs.Workers.{held_weight, Worked, HasNothingLeft}

module _ {J W : Type 0} where
  -- which deque is a worker's own, and its parts of it
  abbrev pub id_of : Worker J W → Id
  id_of m = own_id m.thief.own

  abbrev pub parts_of : Worker J W → ℕ
  parts_of m = (own_tally m.thief.own).parts

  -- each worker did turns
  abbrev pub AllWorked : (ℕ → W → J → List J → Bool → W → Type 0) → List (Worker J W) → List (Worker J W) → Type 0
  AllWorked turned ms ms' =
      (length ms' ≡ length ms) × ((i : ℕ) (d : Worker J W) → i < length ms → Worked turned (slice_index_or ms i d) [] (slice_index_or ms' i d) [])

  -- new workers with these values
  pub record AreNewWorkers (owns : List W) (ms : List (Worker J W)) : Type 0 where
    pub values : map (λ (m : Worker J W). m.own) ms ≡ owns
    pub thieves : AreNew (map (λ (m : Worker J W). m.thief) ms)
    pub workers : (i : ℕ) (d : Worker J W) → i < length ms → (slice_index_or ms i d).number ≡ i
    pub free : All (λ (m : Worker J W). (m.next ≡ None) × (m.left.items ≡ []) × (m.halted ≡ false)) ms
    pub few : length ms ≤ 64
    pub some : 0 < length ms

  -- each worker has a pass to each deque, in order, with one part, and the other parts of its own deque
  abbrev pub HaveAllPasses : List (Worker J W) → Type 0
  HaveAllPasses ms = (length ms ≤ 64)
      × ((k : ℕ) (d : Worker J W) → k < length ms → (parts_of (slice_index_or ms k d) + length ms ≡ 65)
      × (map victim_frame (slice_index_or ms k d).thief.victims.items ≡ map (λ m. (id_of m, 1)) ms))

  -- a worker has all parts of its own deque, and no other pass
  abbrev pub IsWhole : Worker J W → Type 0
  IsWhole m = (parts_of m ≡ 65) × (m.thief.victims.items ≡ [])

  -- what a worker is, but for its passes
  abbrev pub self_of : Worker J W → ℕ × W × Bool
  self_of m = (m.number, m.own, m.halted)

  -- all passes came back
  pub record AreGathered (ms ms' : List (Worker J W)) : Type 0 where
    pub selves : map self_of ms' ≡ map self_of ms
    pub pushed : (k : ℕ) (d : Worker J W) → k < length ms
        → ((slice_index_or ms' k d).left ≡ (slice_index_or ms k d).left) × ((slice_index_or ms' k d).refused ≡ (slice_index_or ms k d).refused)
    pub whole : All IsWhole ms'
    pub held : (h : J → ℕ) → weigh (held_weight h) ms' ≡ weigh (held_weight h) ms
    pub put : (h : J → ℕ) → weigh (λ m. put_weight h m.thief) ms' ≡ weigh (λ m. put_weight h m.thief) ms
    pub taken : (h : J → ℕ) → weigh (λ m. taken_weight h m.thief) ms' ≡ weigh (λ m. taken_weight h m.thief) ms

  -- the passes of a worker, each to the deque of that place and with one part
  abbrev pub IsReturned : List (Worker J W) → List (Victim J) → Type 0
  IsReturned ms row = map victim_frame row ≡ map (λ m. (id_of m, 1)) ms

  -- what a worker is, but for what it knows of its own deque
  abbrev pub rest_of : Worker J W → Id × ℕ × W × Bool × Bool
  rest_of m = (id_of m, m.number, m.own, m.halted, m.refused)

  -- such passes came back
  pub record Absorbs (ms : List (Worker J W)) (row : List (Victim J)) (ms' : List (Worker J W)) : Type 0 where
    pub rests : map rest_of ms' ≡ map rest_of ms
    pub others : (k : ℕ) (d : Worker J W) → k < length ms → let old = slice_index_or ms k d in let new = slice_index_or ms' k d in
        (new.thief.victims ≡ old.thief.victims) × (new.next ≡ old.next) × (new.left ≡ old.left) × (parts_of new ≡ parts_of old + 1)
    pub put : (h : J → ℕ) → weigh (λ m. put_weight h m.thief) ms'
        ≡ weigh (λ m. put_weight h m.thief) ms + weigh (λ r. weigh h (victim_tally r).put) row
    pub taken : (h : J → ℕ) → weigh (λ m. taken_weight h m.thief) ms'
        ≡ weigh (λ m. taken_weight h m.thief) ms + weigh (λ r. weigh h (victim_tally r).taken) row

  -- no job was turned; the jobs that came in and were there are those that went out and are there
  pub record AllMoved (ms : List (Worker J W)) (came : List J) (ms' : List (Worker J W)) (went : List J) : Type 0 where
    pub selves : map self_of ms' ≡ map self_of ms
    pub frames : map (λ m. frame m.thief) ms' ≡ map (λ m. frame m.thief) ms
    pub balance : (h : J → ℕ) → weigh h came + weigh (held_weight h) ms + weigh (λ m. taken_weight h m.thief) ms' + weigh (λ m. put_weight h m.thief) ms
        ≡ weigh h went + weigh (held_weight h) ms' + weigh (λ m. taken_weight h m.thief) ms + weigh (λ m. put_weight h m.thief) ms'

  -- turns were done, all passes came back, and then more turns were done
  abbrev pub RanAll : (ℕ → W → J → List J → Bool → W → Type 0) → List (Worker J W) → List (Worker J W) → Type 0
  RanAll turned ms ms' =
      (ms1 : List (Worker J W)) × (ms2 : List (Worker J W)) × AllWorked turned ms ms1 × AreGathered ms1 ms2 × AllWorked turned ms2 ms'

  -- a worker said halt, or a push of it was refused
  abbrev pub SomeStopped : List (Worker J W) → Type 0
  SomeStopped ms = (list_any (λ m. m.halted) ms ≡ true) ⊎ (list_any (λ m. m.refused) ms ≡ true)

  -- a worker has stopped, or no job is left
  abbrev pub IsOver : List (Worker J W) → Type 0
  IsOver ms = SomeStopped ms ⊎ All HasNothingLeft ms

  -- new workers with these values, in one of whose deques the first job was put; nothing else was put or taken
  pub record AreStarted (owns : List W) (first : J) (ms : List (Worker J W)) : Type 0 where
    pub values : map (λ (m : Worker J W). m.own) ms ≡ owns
    pub numbers : (i : ℕ) (d : Worker J W) → i < length ms → (slice_index_or ms i d).number ≡ i
    pub free : All (λ (m : Worker J W). (m.left.items ≡ []) × (m.halted ≡ false)) ms
    pub passes : HaveAllPasses ms
    pub put : (h : J → ℕ) → weigh (λ m. put_weight h m.thief) ms ≡ h first
    pub taken : (h : J → ℕ) → weigh (λ m. taken_weight h m.thief) ms ≡ 0
    pub held : (h : J → ℕ) → weigh (held_weight h) ms ≡ 0

  -- these jobs were taken out of the workers, who have none left; there were some only where a worker said halt
  abbrev pub AreLeft : List (Worker J W) → List (Worker J W) → List J → Type 0
  AreLeft ms ms' jobs = AllMoved ms [] ms' jobs × All HasNothingLeft ms' × ((jobs ≡ []) ⊎ (list_any (λ m. m.halted) ms ≡ true))
