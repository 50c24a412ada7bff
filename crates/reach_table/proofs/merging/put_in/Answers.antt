use Rattle.std.proofs.Common.{◌≢◌, ◌<◌, List, [], ◌∷◌, length, take, drop, get_or, subst, sym, ◌∙◌, arith}
use Rattle.std.specs.Prelude.{◌↔◌, ◌⊎◌}
use Rattle.fut_base.specs.Dag.{Among}
use Rattle.strand_tree.specs.declared.strand.Strand.{Strand}
use Rattle.reach_table.specs.Sorted.{IsBelow, IsRising}
use Rattle.reach_table.proofs.Members.{equal_strands, unequal_strands}
use Rattle.reach_table.proofs.Inserting.{put_rising, put_members, there_already}
use Rattle.reach_table.proofs.merging.put_in.Goals as goal
use Rattle.reach_table.proofs.merging.put_in.Goals.{else-at-len-via-then-at-len+else-eq, else-at-len-via-else-at-len, In_ok-insert}

pub returns-then-eq-clause-strands : goal.returns-then-eq-clause-strands
returns-then-eq-clause-strands c =
    there_already c.args.all.now.items c.count_below-at.result c.index.result.now c.args.one (omega (arith, c.if-at-len.true, c.len.ensures))
    (sym c.index.ensures ∙ equal_strands c.index.result.now c.args.one c.eq.result c.eq.ensures c.if-eq.true)

put : (c : goal.In_ok-insert) → (d : Strand)
    → (c.count_below-at.result < length c.args.all.now.items → get_or c.args.all.now.items c.count_below-at.result d ≢ c.args.one)
    → IsRising c.insert.new.self.items
put c d ne =
    let P : List Strand → Type 0 = λ l. (w : Strand) → Among w (take c.count_below-at.result l) → IsBelow w c.args.one in
    let Q : List Strand → Type 0 = λ l. (w : Strand) → Among w (drop c.count_below-at.result l) → IsBelow w c.args.one → ⊥ in
    let v = c.as_slice.ensures.value in
    subst IsRising (sym c.in_ok-insert.ensures.items)
    (put_rising c.args.all.now.items c.args.one c.count_below-at.result c.requires (subst P v c.count_below-at.ensures.below)
    (subst Q v c.count_below-at.ensures.behind) d ne)

pub returns-clause-rising : goal.returns-clause-rising
returns-clause-rising c =
    elim c.else-at-len.branch [
      | else-at-len-via-then-at-len+else-eq w ↦ put c w.index.result.now
          (λ lt e. unequal_strands w.index.result.now c.args.one w.eq.result w.eq.ensures w.if-eq.false (w.index.ensures ∙ e))
      | else-at-len-via-else-at-len w ↦ put c c.args.one (λ lt. absurd (omega (arith, lt, w.if-at-len.false, c.len.ensures)))
    ]

pub returns-clause-strands : goal.returns-clause-strands
returns-clause-strands c =
    let P : List Strand → Type 0 = λ l. (w : Strand) → Among w l ↔ (Among w c.args.all.now.items ⊎ Among w (c.args.one ∷ [])) in
    subst P (sym c.in_ok-insert.ensures.items) (put_members c.args.all.now.items c.args.one c.count_below-at.result)
