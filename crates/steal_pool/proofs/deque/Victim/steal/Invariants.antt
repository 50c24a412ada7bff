use Rattle.std.proofs.Common.{◌≡◌}
use Rattle.steal_pool.specs.Deques.{victim_tally, victim_id}
use Rattle.steal_pool.proofs.deque.Victim.steal.Given as goal

abbrev pub invariant-loop : goal.invariant-loop
invariant-loop g l = record {
  runs : (goal.iterator-loop g).can_next l.iterator' × (goal.iterator-loop g).is_finite l.iterator';
  id : victim_id l.self ≡ victim_id l.fn.self;
  tally : victim_tally l.self ≡ victim_tally l.fn.self;
  found_empty : l.self.found_empty ≡ l.fn.self.found_empty;
}
