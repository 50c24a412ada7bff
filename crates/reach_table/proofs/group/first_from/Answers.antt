use Rattle.std.proofs.Common.{◌≡◌, ℕ, ◌+◌, ◌-◌, ◌/◌, ◌≤◌, drop, subst, add-one, arith}
use Rattle.fut_base.specs.Dag.{Among}
use Rattle.strand_tree.specs.declared.strand.Strand.{Strand}
use Rattle.reach_table.proofs.Rising.{before_more, after_more}
use Rattle.reach_table.proofs.group.first_from.Goals as goal

pub loop-low-preserved-then-from-bound : goal.loop-low-preserved-then-from-bound
loop-low-preserved-then-from-bound c =
    let none : Strand = record { number = 0; future = 0 } in
    let xs = c.args.strands.now in
    let low = c.loop-low.low in
    let high = c.loop-low.high in
    let i = low + (high - low) / 2 in
    let v = c.loop-low.invariant in
    record {
      least = omega arith;
      within = v.within;
      before = rw (add-one i) (before_more xs i none c.args.bound c.requires (omega (arith, v.within)) (omega (arith, c.from.ensures)));
      after = v.after;
    }

pub loop-low-preserved : goal.loop-low-preserved
loop-low-preserved c =
    let none : Strand = record { number = 0; future = 0 } in
    let xs = c.args.strands.now in
    let low = c.loop-low.low in
    let high = c.loop-low.high in
    let i = low + (high - low) / 2 in
    let v = c.loop-low.invariant in
    record {
      least = omega arith;
      within = omega (arith, v.within);
      before = v.before;
      after = after_more xs i none c.args.bound c.requires (omega (arith, v.within)) (omega (arith, c.from.ensures));
    }

pub returns-clause-within : goal.returns-clause-within
returns-clause-within c = let v = c.loop-low.invariant in omega (arith, v.within, v.least)

pub returns-clause-after : goal.returns-clause-after
returns-clause-after c =
    let v = c.loop-low.invariant in
    let same : c.loop-low.high ≡ c.loop-low.low = omega (arith, v.least) in
    let P : ℕ → Type 0 = λ k. (w : Strand) → Among w (drop k c.args.strands.now) → c.args.bound ≤ w.future in
    subst P same v.after
