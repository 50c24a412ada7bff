use Rattle.std.proofs.Common.{◌+◌, ◌-◌, ◌/◌, arith}
use Rattle.access_shards.proofs.Listing.{parts_low, parts_high}
use Rattle.access_shards.proofs.run.first_from.Goals as goal

pub loop-low-preserved-then-readers-middle : goal.loop-low-preserved-then-readers-middle
loop-low-preserved-then-readers-middle c =
    let v = c.loop-low.invariant in
    let m = c.loop-low.low + (c.loop-low.high - c.loop-low.low) / 2 in
    record {
      least = omega (arith, c.loop-low-test.true);
      within = v.within;
      before = λ order. parts_low c.args.readers.now c.args.place m order (omega (arith, v.within, c.loop-low-test.true)) c.if-readers-middle.true;
      after = v.after;
    }

pub loop-low-preserved : goal.loop-low-preserved
loop-low-preserved c =
    let v = c.loop-low.invariant in
    let m = c.loop-low.low + (c.loop-low.high - c.loop-low.low) / 2 in
    record {
      least = omega arith;
      within = omega (arith, v.within, c.loop-low-test.true);
      before = v.before;
      after = λ order. parts_high c.args.readers.now c.args.place m order c.if-readers-middle.false;
    }
