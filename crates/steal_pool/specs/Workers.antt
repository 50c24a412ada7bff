-- What a worker did with its jobs.
use Rattle.std.specs.Prelude.{◌≡◌, ℕ, ◌+◌, Bool, true, false, ◌⊎◌, List, [], None}
use Rattle.std.specs.Option.{option_to_list}
use Rattle.steal_pool.specs.declared.worker.Worker.{Worker}
use Rattle.steal_pool.specs.Balance.{weigh, WasEmpty}
use Rattle.steal_pool.specs.Deques.{own_tally}
use Rattle.steal_pool.specs.Thieves.{frame, put_weight, taken_weight}
use Rattle.steal_pool.specs.Turns.{Turn, Chain, StopsAtHalt, turned_weight, given_weight}

module _ {J W : Type 0} where
  -- the weights of the jobs that a worker has outside its deque
  abbrev pub held_weight : (J → ℕ) → Worker J W → ℕ
  held_weight h m = weigh h (option_to_list m.next) + weigh h m.left.items

  -- no job was turned; those that came in and were there are those that went out and are there
  pub record Moved (m : Worker J W) (came : List J) (m' : Worker J W) (went : List J) : Type 0 where
    pub frames : frame m'.thief ≡ frame m.thief
    pub number : m'.number ≡ m.number
    pub own : m'.own ≡ m.own
    pub halted : m'.halted ≡ m.halted
    pub balance : (h : J → ℕ) → weigh h came + held_weight h m + taken_weight h m'.thief + put_weight h m.thief
        ≡ weigh h went + held_weight h m' + taken_weight h m.thief + put_weight h m'.thief

  -- the worker's own value went through turns; the jobs that came in, were there and were given are those that were turned, went out and are there
  pub record Worked (turned : ℕ → W → J → List J → Bool → W → Type 0) (m : Worker J W) (came : List J) (m' : Worker J W) (went : List J) : Type 0 where
    pub frames : frame m'.thief ≡ frame m.thief
    pub number : m'.number ≡ m.number
    pub turns : List (Turn J)
    pub chain : Chain (turned m.number) m.own turns m'.own
    pub stops : StopsAtHalt m.halted turns m'.halted
    pub balance : (h : J → ℕ) → weigh h came + held_weight h m + given_weight h turns + taken_weight h m'.thief + put_weight h m.thief
        ≡ turned_weight h turns + weigh h went + held_weight h m' + taken_weight h m.thief + put_weight h m'.thief

  -- no job is with the worker outside its deque, and no turn of it said halt
  abbrev pub IsFree : Worker J W → Type 0
  IsFree m = (m.next ≡ None) × (m.left.items ≡ []) × (m.halted ≡ false)

  -- a turn said halt, or a push was refused
  abbrev pub IsStopped : Worker J W → Type 0
  IsStopped m = (m.halted ≡ true) ⊎ (m.refused ≡ true)

  -- only who has stopped leaves jobs
  abbrev pub LeavesOnlyIfStopped : Worker J W → Type 0
  LeavesOnlyIfStopped m = (m.left.items ≡ []) ⊎ IsStopped m

  -- no job is in the worker's tallies, and its deque was empty
  abbrev pub HasNothingLeft : Worker J W → Type 0
  HasNothingLeft m = (m.next ≡ None) × (m.left.items ≡ []) × WasEmpty (own_tally m.thief.own)
