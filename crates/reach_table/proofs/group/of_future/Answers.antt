use Rattle.std.proofs.Common.{◌≡◌, ℕ, ◌-◌, List, length, take, drop, subst, sym}
use Rattle.std.specs.Prelude.{◌↔◌}
use Rattle.fut_base.specs.Dag.{Among}
use Rattle.strand_tree.specs.declared.strand.Strand.{Strand}
use Rattle.reach_table.specs.Sorted.{IsRising}
use Rattle.reach_table.proofs.Rising.{rising_take, rising_drop, between}
use Rattle.std.proofs.lemmas.List.{take_rest}
use Rattle.reach_table.proofs.group.of_future.Goals as goal

pub first_from-requires-2 : goal.first_from-requires-2
first_from-requires-2 c =
    let xs = c.args.strands.now in
    subst IsRising (sym (take_rest xs c.first_from.result)) (rising_drop c.first_from.result xs c.requires)

pub returns-clause-rising : goal.returns-clause-rising
returns-clause-rising c = rising_take _ _ (rising_take _ _ (rising_drop c.first_from.result c.args.strands.now c.requires))

pub returns-clause-strands : goal.returns-clause-strands
returns-clause-strands c =
    let xs = c.args.strands.now in
    let low = c.first_from.result in
    let e = c.first_from.ensures in
    let f = c.first_from-2.ensures in
    let rest : List Strand = take (length xs - low) (drop low xs) in
    let P : ℕ → Type 0 = λ g. (w : Strand) → Among w (take c.first_from-2.result rest) ↔ (Among w xs × (w.future ≡ g)) in
    subst P c.from-bound.ensures (between xs rest low c.first_from-2.result c.from-bound.result (take_rest xs low) e.before e.after f.before f.after)
