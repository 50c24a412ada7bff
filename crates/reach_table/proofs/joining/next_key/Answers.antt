use Rattle.std.proofs.Common.{ℕ, ◌⊎◌, subst, sym}
use Rattle.std.specs.Prelude.{Option}
use Rattle.reach_table.specs.Blocks.{values}
use Rattle.reach_table.specs.Joining.{IsLeast, HasKey, IsOfKey, IsNext}
use Rattle.reach_table.proofs.Held.{least_either}
use Rattle.reach_table.proofs.joining.next_key.Goals as goal

pub returns : goal.returns
returns c =
    let one = values c.args.one.now in
    let other = values c.args.other.now in
    let P : Option ℕ → Type 0 = IsLeast (λ k. HasKey one k ⊎ HasKey other k) in
    let Q : Option ℕ → Type 0 = IsLeast (IsNext one other c.args.last) in
    let both = subst P (sym c.lesser.ensures)
    (least_either (HasKey one) (HasKey other) c.first_key.result c.first_key-2.result c.first_key.ensures c.first_key-2.ensures) in
    subst Q (sym c.lesser-2.ensures)
    (least_either (λ k. HasKey one k ⊎ HasKey other k) (IsOfKey c.args.last) c.lesser.result c.key_of_last.result both c.key_of_last.ensures)
