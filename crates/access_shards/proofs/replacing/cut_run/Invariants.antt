use Rattle.std.proofs.Common.{◌≡◌, ◌+◌, ◌≤◌, ◌++◌, take, drop, vec_len, vec_capacity}
use Rattle.access_shards.proofs.replacing.cut_run.Given as goal

abbrev pub invariant-loop-end : goal.invariant-loop-end
invariant-loop-end l =
    let old = l.initial.sorted in
    record {
      least : l.run.start ≤ l.end;
      most : l.end ≤ l.run.end;
      items : l.sorted.items ≡ take l.end old.items ++ drop l.run.end old.items;
      len : vec_len l.sorted + l.run.end ≡ vec_len old + l.end;
      capacity : vec_capacity l.sorted ≡ vec_capacity old;
    }

abbrev pub decreases-loop-end : goal.decreases-loop-end
decreases-loop-end l = l.end
