use Rattle.std.proofs.Common.{◌≡◌, ◌+◌, subst, arith}
use Rattle.run_laws.specs.Ready.{without}
use Rattle.run_replay.specs.Ready.{links_of, IsRing}
use Rattle.run_replay.proofs.ready.Ring.reorder.Goals as goal

pub returns-in-End : goal.returns-in-End
returns-in-End c = λ tasks order s next.
    let same : tasks ≡ tasks + 0 = omega arith in
    rw c.in-End.is (subst (λ n. IsRing n (without c.args.task order) (links_of c.take_out.new.self)) same (c.take_out.ensures tasks order s))
