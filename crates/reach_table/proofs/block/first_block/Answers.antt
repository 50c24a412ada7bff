use Rattle.std.proofs.Common.{◌≡◌, ℕ, ◌+◌, ◌-◌, ◌/◌, ◌<◌, ◌≤◌, drop, subst, sym, add-one, arith}
use Rattle.fut_base.specs.Dag.{Among}
use Rattle.reach_table.specs.declared.block.Block.{Block}
use Rattle.reach_table.specs.Blocks.{values}
use Rattle.reach_table.proofs.Blocks.{count, value_at, lesser_more, least_more}
use Rattle.reach_table.proofs.block.first_block.Goals as goal

pub loop-low-preserved-then-deref-key : goal.loop-low-preserved-then-deref-key
loop-low-preserved-then-deref-key c =
    let b = c.deref.result.now in
    let xs = values c.args.blocks.now in
    let i = c.loop-low.low + (c.loop-low.high - c.loop-low.low) / 2 in
    let v = c.loop-low.invariant in
    let same = count c.args.blocks.now in
    let at = value_at c.args.blocks.now i c.index-blocks-middle.result b c.index-blocks-middle.is c.deref.ensures in
    let P : Block → Type 0 = λ z. z.key < c.args.key in
    record {
      least = omega arith;
      within = v.within;
      before = rw (add-one i) (lesser_more xs i b c.args.key c.requires (omega (arith, v.within, same)) (subst P (sym at) c.if-deref-key.true));
      after = v.after;
    }

pub loop-low-preserved : goal.loop-low-preserved
loop-low-preserved c =
    let b = c.deref.result.now in
    let xs = values c.args.blocks.now in
    let i = c.loop-low.low + (c.loop-low.high - c.loop-low.low) / 2 in
    let v = c.loop-low.invariant in
    let same = count c.args.blocks.now in
    let at = value_at c.args.blocks.now i c.index-blocks-middle.result b c.index-blocks-middle.is c.deref.ensures in
    let P : Block → Type 0 = λ z. c.args.key ≤ z.key in
    record {
      least = omega arith;
      within = omega (arith, v.within);
      before = v.before;
      after = least_more xs i b c.args.key c.requires (omega (arith, v.within, same)) (subst P (sym at) c.if-deref-key.false);
    }

pub returns-clause-after : goal.returns-clause-after
returns-clause-after c =
    let v = c.loop-low.invariant in
    let same : c.loop-low.high ≡ c.loop-low.low = omega (arith, v.least) in
    let P : ℕ → Type 0 = λ k. (b : Block) → Among b (drop k (values c.args.blocks.now)) → c.args.key ≤ b.key in
    subst P same v.after
