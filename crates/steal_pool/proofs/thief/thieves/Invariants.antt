use Rattle.std.proofs.Common.{◌≡◌, List, length, map, All, Vec, Global}
use Rattle.std.specs.Vec.Iter.{into_iter_items}
use Rattle.steal_pool.specs.declared.deque.Victim.{Victim}
use Rattle.steal_pool.specs.Deques.{own_id}
use Rattle.steal_pool.specs.Thieves.{Id, IsRow, HasMade}
use Rattle.steal_pool.proofs.Rows.{Making}
use Rattle.steal_pool.proofs.thief.thieves.Given as goal

abbrev pub invariant-loop-w : goal.invariant-loop-w
invariant-loop-w g l = record {
  len : length l.owns.items ≡ l.count;
  owns : All (HasMade l.w) l.owns.items;
  rows : All (λ (v : Vec (Victim g.row.J.Denot) Global). IsRow (map own_id l.owns.items) v.items) l.rows.items;
  count : length l.rows.items ≡ l.w;
}

abbrev pub invariant-loop-own : goal.invariant-loop-own
invariant-loop-own g l = record { ids : List Id; making : Making l.count ids l.all.items (into_iter_items l.rest) l.rows.items }

abbrev pub decreases-loop-own : goal.decreases-loop-own
decreases-loop-own g l = length (into_iter_items l.rest)
