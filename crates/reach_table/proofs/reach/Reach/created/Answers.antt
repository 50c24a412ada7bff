use Rattle.std.proofs.Common.{◌≡◌, List, [], ◌∷◌, ◌++◌, subst, sym}
use Rattle.std.specs.Prelude.{◌↔◌}
use Rattle.std.proofs.lemmas.Result.{IfOk-weaker}
use Rattle.fut_base.specs.Dag.{Among}
use Rattle.strand_tree.specs.declared.strand.Strand.{Strand}
use Rattle.reach_table.specs.Blocks.{flat, values}
use Rattle.reach_table.proofs.Events.{kid_after_create}
use Rattle.reach_table.proofs.reach.Reach.created.Goals as goal

iff : (c : goal.After-made) → (table : List Strand) → table ≡ flat (values c.in_ok-blocks.blocks.items) → (w : Strand) → Among w table
    ↔ Among w (c.args.self.now ++ c.args.from ∷ [])
iff c table is =
    let P : List Strand → Type 0 = λ t. (w : Strand) → Among w t ↔ Among w (c.args.self.now ++ c.args.from ∷ []) in
    let Q : List Strand → Type 0 = λ t. (w : Strand) → Among w (flat (values c.in_ok-blocks.blocks.items)) ↔ Among w (t ++ c.args.from ∷ []) in
    subst P (sym is) (subst Q c.blocks-2.ensures.strands c.in_ok-blocks.ensures.strands)

pub returns-clause-strands : goal.returns-clause-strands
returns-clause-strands c = IfOk-weaker c.made.result _ _ (λ table is. iff c table is) c.made.ensures

pub returns-clause-after_create : goal.returns-clause-after_create
returns-clause-after_create c = IfOk-weaker c.made.result _ _ (λ table is. kid_after_create c.args.self.now c.args.from table (iff c table is)) c.made.ensures
