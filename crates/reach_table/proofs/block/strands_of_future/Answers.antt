use Rattle.std.proofs.Common.{◌≡◌, ℕ, ◌/◌, List, ap, subst, sym, ◌∙◌}
use Rattle.std.specs.Prelude.{◌↔◌}
use Rattle.fut_base.specs.Dag.{Among}
use Rattle.strand_laws.proofs.Held.{is_eq}
use Rattle.strand_tree.specs.declared.strand.Strand.{Strand}
use Rattle.reach_table.specs.Blocks.{key_of, flat, values}
use Rattle.reach_table.proofs.Blocks.{lone_value, lone_flat, some_of, no_strand}
use Rattle.reach_table.proofs.block.strands_of_future.Goals as goal
use Rattle.reach_table.proofs.block.strands_of_future.Goals.{then-is_empty-via-then-is_empty, then-is_empty-via-else-is_empty+then-lacks}

-- a strand of the future is in its block
in_block : (all block : List Strand) (future key : ℕ) → key ≡ future / 64 → ((w : Strand) → Among w block ↔ (Among w all × (key_of w ≡ key))) → (w : Strand)
    → Among w all × (w.future ≡ future) → Among w block
in_block all block future key is iff w p = (iff w).1 (p.0, ap (λ n. n / 64) p.1 ∙ sym is)

-- the strands of the future in its block are all of them
mine : (all block group : List Strand) (future key : ℕ) → key ≡ future / 64 → ((w : Strand) → Among w block ↔ (Among w all × (key_of w ≡ key)))
    → ((w : Strand) → Among w group ↔ (Among w block × (w.future ≡ future))) → (w : Strand) → Among w group ↔ (Among w all × (w.future ≡ future))
mine all block group future key is iff of w = (
  λ a. (let k = (of w).0 a in (((iff w).0 k.0).0, k.1)),
  λ p. (of w).1 (in_block all block future key is iff w p, p.1),
)

pub returns-then-is_empty-clause-strands : goal.returns-then-is_empty-clause-strands
returns-then-is_empty-clause-strands c = λ w. (
  λ a. absurd a,
  λ p. (
      let block = c.block_at-block.result.now in
      let here = in_block (flat (values c.args.blocks.now))
      (flat (values block)) c.args.future c.block_of_future.result c.block_of_future.ensures c.block_at-block.ensures.strands w p in
      elim c.then-is_empty.branch [
        | then-is_empty-via-then-is_empty v ↦ no_strand block w (is_eq _ _ (sym c.is_empty.ensures ∙ v.if-is_empty.true)) here
        | then-is_empty-via-else-is_empty+then-lacks v ↦ (
            let some = some_of _ c.is_empty.result c.is_empty.ensures v.if-is_empty.false in
            let P : List Strand → Type 0 = λ l. Among w l in
            v.lacks.ensures v.if-lacks.true w
            (subst P
            (lone_flat (values block) v.deref.result.now
            (lone_value block v.index-block-0.result v.deref.result.now c.block_at-block.ensures.few some v.index-block-0.is v.deref.ensures)) here) p.1)
      ]),
)

pub returns-clause-strands : goal.returns-clause-strands
returns-clause-strands c =
    let P : List Strand → Type 0 = λ l. (w : Strand) → Among w c.of_future.result.now ↔ (Among w l × (w.future ≡ c.args.future)) in
    mine (flat (values c.args.blocks.now))
    (flat
    (values c.block_at-block.result.now)) c.of_future.result.now c.args.future c.block_of_future.result c.block_of_future.ensures
    c.block_at-block.ensures.strands (subst P c.strands_of.ensures.strands c.of_future.ensures.strands)
