-- What is known of a worker's deque and of its victims', and what a push, a pop and a steal did.
use Rattle.std.specs.Prelude.{◌≡◌, ℕ, ◌+◌, ◌-◌, ◌^◌, min, [], ◌∷◌, Option, Some, None, Result, Ok, Err}
use Rattle.std.specs.declared.alloc.Global.{Global}
use Rattle.atomic_blocks.specs.Lent.{RowsId}
use Rattle.crossbeam_deque.specs.Handles.{view, worker_deque, stealer_deque, worker_view}
use Rattle.steal_pool.specs.declared.tally.Tally.{Tally}
use Rattle.steal_pool.specs.declared.deque.OwnDeque.{OwnDeque}
use Rattle.steal_pool.specs.declared.deque.Victim.{Victim}
use Rattle.steal_pool.specs.Balance.{tally, with_put, with_taken, cut_off, WasEmpty}

-- a count that stands at its greatest
abbrev pub one_more : ℕ → ℕ
one_more n = min (n + 1) (2 ^ 64 - 1)

module _ {J : Type 0} where
  -- what a worker has put into its own deque and taken out of it, and which deque that is
  abbrev pub own_tally : OwnDeque J → Tally J
  own_tally o = worker_view o.deque

  abbrev pub own_id : OwnDeque J → RowsId × Global
  own_id o = worker_deque o.deque

  -- the same of another's deque
  abbrev pub victim_tally : Victim J → Tally J
  victim_tally r = view r.pass

  abbrev pub victim_id : Victim J → RowsId × Global
  victim_id r = stealer_deque r.stealer

  -- a job was put last, or handed back
  abbrev pub PutLast : Tally J → J → Tally J → Result (Unit {0}) J → Type 0
  PutLast old job new (Ok done) = new ≡ with_put old (job ∷ [])
  PutLast old job new (Err back) = (back ≡ job) × (new ≡ old)

  -- a new token for this deque, which has put and taken nothing, with one of the owner's parts
  abbrev pub SplitsOff : OwnDeque J → OwnDeque J → Victim J → Type 0
  SplitsOff old new victim =
      (own_tally new ≡ cut_off (own_tally old)) × (victim_id victim ≡ own_id old) × (victim_tally victim ≡ tally 1 [] []) × (victim.found_empty ≡ 0)

  -- a job was taken, or the deque was found empty at a moment of the call, and that was counted
  abbrev pub TookFirst : Tally J → ℕ → Tally J → ℕ → Option J → Type 0
  TookFirst old found_empty new found_empty' None = (new ≡ old) × (found_empty' ≡ one_more found_empty) × WasEmpty old
  TookFirst old found_empty new found_empty' (Some x) = (new ≡ with_taken old (x ∷ [])) × (found_empty' ≡ found_empty)
