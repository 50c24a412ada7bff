use Rattle.std.proofs.Common.{◌≡◌, ◌⊎◌, vec_len, vec_capacity}
use Rattle.fut_base.specs.Dag.{Among}
use Rattle.access_shards.specs.declared.kept.Access.{Access}
use Rattle.access_shards.specs.Kept.{IsInOrder}
use Rattle.access_shards.specs.Replacing.{AreMarked}
use Rattle.access_shards.proofs.replacing.mark_run.Given as goal

abbrev pub invariant-loop-k : goal.invariant-loop-k
invariant-loop-k l =
    let old = l.initial.readers in
    record {
      marked : IsInOrder old.items → AreMarked l.strand.number l.sorted l.fn.run.start l.k old.items l.readers.items;
      those : (a : Access) → Among a l.readers.items → Among a old.items ⊎ (a.strand.number ≡ l.strand.number);
      len : vec_len l.readers ≡ vec_len old;
      capacity : vec_capacity l.readers ≡ vec_capacity old;
    }
