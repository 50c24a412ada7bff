use Rattle.std.proofs.Common.{◌≡◌, List, [], rules, subst, sym}
use Rattle.std.specs.Arc.{arc_slice_items}
use Rattle.std.specs.Option.{option_map_or}
use Rattle.reach_table.specs.Blocks.{flat, values}
use Rattle.strand_tree.specs.declared.strand.Strand.{Strand}
use Rattle.reach_table.specs.Tabled.{AfterSpawn, AfterCreate}
use Rattle.reach_table.proofs.Events.{after_spawn, after_create}
use Rattle.reach_table.proofs.reach.Reach.share.Goals as goal

pub returns-clause-after_spawn : goal.returns-clause-after_spawn
returns-clause-after_spawn c =
    let same : flat (values (option_map_or arc_slice_items c.in_ok-shared.shared [])) ≡ c.args.self.now = search rules in
    let P : List Strand → Type 0 = λ t. AfterSpawn c.args.self.now t in
    subst P (sym same) (after_spawn c.args.self.now)

pub returns-clause-after_create : goal.returns-clause-after_create
returns-clause-after_create c =
    let same : flat (values (option_map_or arc_slice_items c.in_ok-shared.shared [])) ≡ c.args.self.now = search rules in
    let P : List Strand → Type 0 = λ t. AfterCreate c.args.self.now t in
    subst P (sym same) (after_create c.args.self.now)
