-- What a worker has put into the deques and taken out of them.
use Rattle.std.specs.Prelude.{◌≡◌, ℕ, ◌+◌, ◌-◌, List, [], length, map, All, Option, slice_set, slice_index_or}
use Rattle.std.specs.declared.alloc.Global.{Global}
use Rattle.atomic_blocks.specs.Lent.{RowsId}
use Rattle.steal_pool.specs.declared.deque.OwnDeque.{OwnDeque}
use Rattle.steal_pool.specs.declared.deque.Victim.{Victim}
use Rattle.steal_pool.specs.declared.thief.Thief.{Thief}
use Rattle.steal_pool.specs.Balance.{weigh, tally}
use Rattle.steal_pool.specs.Deques.{own_tally, own_id, victim_tally, victim_id, TookFirst}

-- what tells the thieves of one pool from those of others
abbrev pub Id : Type 0
Id = RowsId × Global

module _ {J : Type 0} where
  -- which deque a pass is to, and its parts
  abbrev pub victim_frame : Victim J → Id × ℕ
  victim_frame r = (victim_id r, (victim_tally r).parts)

  -- which deque is a worker's own, its parts, and the same of the passes
  abbrev pub frame : Thief J → Id × ℕ × List (Id × ℕ)
  frame t = (own_id t.own, (own_tally t.own).parts, map victim_frame t.victims.items)

  -- the weights of what a worker has put into all deques, and taken out of them
  abbrev pub put_weight : (J → ℕ) → Thief J → ℕ
  put_weight h t = weigh h (own_tally t.own).put + weigh (λ r. weigh h (victim_tally r).put) t.victims.items

  abbrev pub taken_weight : (J → ℕ) → Thief J → ℕ
  taken_weight h t = weigh h (own_tally t.own).taken + weigh (λ r. weigh h (victim_tally r).taken) t.victims.items

  -- a worker's passes stay, and it has put and taken these jobs
  pub record Transfers (t t' : Thief J) (puts takes : List J) : Type 0 where
    pub frames : frame t' ≡ frame t
    pub put : (h : J → ℕ) → put_weight h t' ≡ put_weight h t + weigh h puts
    pub taken : (h : J → ℕ) → taken_weight h t' ≡ taken_weight h t + weigh h takes

  -- the first job of that deque was taken by the pass to it, or the deque was found empty
  abbrev pub StoleFrom : Thief J → ℕ → Thief J → Option J → Type 0
  StoleFrom t from t' result =
      (d : Victim J) → let old = slice_index_or t.victims.items from d in let new = slice_index_or t'.victims.items from d in
      (t'.victims.items ≡ slice_set t.victims.items from new) × (victim_id new ≡ victim_id old)
      × TookFirst (victim_tally old) old.found_empty (victim_tally new) new.found_empty result

  -- so many passes to this deque were made, none of which has put or taken anything
  abbrev pub HasMade : ℕ → OwnDeque J → Type 0
  HasMade made o = (own_tally o ≡ tally (65 - made) [] []) × (o.found_empty ≡ 0)

  -- the passes of a worker to the deques of these numbers, none of which has put or taken anything
  abbrev pub IsRow : List Id → List (Victim J) → Type 0
  IsRow ids row = (map victim_id row ≡ ids) × All (λ r. (victim_tally r ≡ tally 1 [] []) × (r.found_empty ≡ 0)) row

  -- one worker for each deque, each with a pass to each deque, and all deques are empty
  abbrev pub AreNew : List (Thief J) → Type 0
  AreNew ts = (ids : List Id) × (map (λ (t : Thief J). own_id t.own) ts ≡ ids)
      × All (λ (t : Thief J). HasMade (length ts) t.own × IsRow ids t.victims.items) ts
