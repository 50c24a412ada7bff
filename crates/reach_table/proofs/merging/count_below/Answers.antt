use Rattle.std.proofs.Common.{◌≡◌, ℕ, ◌+◌, ◌-◌, ◌/◌, drop, subst, sym, ◌∙◌, add-one, arith, true≢false}
use Rattle.fut_base.specs.Dag.{Among}
use Rattle.strand_tree.specs.declared.strand.Strand.{Strand}
use Rattle.reach_table.specs.Sorted.{IsBelow}
use Rattle.reach_table.proofs.Inserting.{below_more, behind_more}
use Rattle.reach_table.proofs.merging.count_below.Goals as goal

pub loop-low-preserved-then-is_below : goal.loop-low-preserved-then-is_below
loop-low-preserved-then-is_below c =
    let none : Strand = record { number = 0; future = 0 } in
    let xs = c.args.strands.now in
    let i = c.loop-low.low + (c.loop-low.high - c.loop-low.low) / 2 in
    let v = c.loop-low.invariant in
    record {
      least = omega arith;
      within = v.within;
      below = rw (add-one i) (below_more xs i none c.args.one c.requires (omega (arith, v.within)) (c.is_below.ensures.0 c.if-is_below.true));
      behind = v.behind;
    }

pub loop-low-preserved : goal.loop-low-preserved
loop-low-preserved c =
    let none : Strand = record { number = 0; future = 0 } in
    let xs = c.args.strands.now in
    let i = c.loop-low.low + (c.loop-low.high - c.loop-low.low) / 2 in
    let v = c.loop-low.invariant in
    record {
      least = omega arith;
      within = omega (arith, v.within);
      below = v.below;
      behind = behind_more xs i none c.args.one c.requires (omega (arith, v.within)) (λ b. true≢false (sym (c.is_below.ensures.1 b) ∙ c.if-is_below.false));
    }

pub returns-clause-behind : goal.returns-clause-behind
returns-clause-behind c =
    let v = c.loop-low.invariant in
    let same : c.loop-low.high ≡ c.loop-low.low = omega (arith, v.least) in
    let P : ℕ → Type 0 = λ k. (w : Strand) → Among w (drop k c.args.strands.now) → IsBelow w c.args.one → ⊥ in
    subst P same v.behind
