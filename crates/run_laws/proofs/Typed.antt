-- A well-typed text has no empty array of cells.
use Rattle.std.proofs.Common.{◌≡◌, ℕ, zero, suc, ◌+◌, ◌<◌, Bool, false, List, [], ◌∷◌, ◌++◌, inl, inr, subst, arith}
use Rattle.std.specs.Prelude.{◌||◌, nat_eq, nat_lt}
use Rattle.fut_base.specs.Dag.{Among}
use Rattle.fut_syntax.specs.Trees as tree
use Rattle.fut_rules.specs.declared.fault.Rule.TheVariants as rule
use Rattle.fut_rules.specs.Faults.{fault_if}
use Rattle.fut_check.specs.Items.{item_faults, items_faults, is_bad_array}
use Rattle.fut_rules.specs.Names.{cells, declares}
use Rattle.fut_rules.specs.Widths.{item_width}
use Rattle.task_machine.specs.Texts.{CellArray, arrays_from}
use Rattle.task_types.proofs.Slots.{nil_left, nil_right, not_found}
use Rattle.run_laws.specs.Laws.{WellTypedHasCells}

not_zero : (m : ℕ) (b : Bool) → (nat_eq m 0 || b) ≡ false → 0 < m
not_zero zero b h = cc
not_zero (suc m) b h = omega arith

has_cells : (globals before : List tree.Item) (n k : ℕ) (items : List tree.Item) → items_faults globals before n items ≡ [] → (a : CellArray)
    → Among a (arrays_from k items) → 0 < a.length
has_cells globals before n k [] h a among = absurd among
has_cells globals before n k (tree.CellsOf w m ∷ rest) h a (inl same) =
    let own = nil_left (item_faults globals before n (tree.CellsOf w m))
    (items_faults globals (before ++ tree.CellsOf w m ∷ []) (n + item_width (tree.CellsOf w m)) rest) h in
    let bad = nil_right (fault_if (declares before w) (n + 1) rule.DoubledName) (fault_if (is_bad_array before m) (n + 3) rule.ConstantLimit) own in
    let some : 0 < m = not_zero m (nat_lt 65536 (cells before + m)) (not_found (is_bad_array before m) (n + 3) rule.ConstantLimit bad) in
    subst (λ (z : CellArray). 0 < z.length) same some
has_cells globals before n k (tree.CellsOf w m ∷ rest) h a (inr among) =
    let later = nil_right (item_faults globals before n (tree.CellsOf w m))
    (items_faults globals (before ++ tree.CellsOf w m ∷ []) (n + item_width (tree.CellsOf w m)) rest) h in
    has_cells globals (before ++ tree.CellsOf w m ∷ []) (n + item_width (tree.CellsOf w m)) (k + m) rest later a among
has_cells globals before n k (tree.TaskOf w ps d b ∷ rest) h a among =
    let later = nil_right (item_faults globals before n (tree.TaskOf w ps d b))
    (items_faults globals (before ++ tree.TaskOf w ps d b ∷ []) (n + item_width (tree.TaskOf w ps d b)) rest) h in
    has_cells globals (before ++ tree.TaskOf w ps d b ∷ []) (n + item_width (tree.TaskOf w ps d b)) k rest later a among

pub well_typed_has_cells : WellTypedHasCells
well_typed_has_cells P h a among = has_cells (P.first ∷ P.others) [] 0 0 (P.first ∷ P.others) h a among
