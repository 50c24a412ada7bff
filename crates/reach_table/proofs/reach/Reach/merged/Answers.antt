use Rattle.std.proofs.Common.{◌≡◌, List, length, subst, sym}
use Rattle.std.specs.Prelude.{◌↔◌}
use Rattle.std.proofs.lemmas.Result.{IfOk-weaker}
use Rattle.fut_base.specs.Dag.{Among}
use Rattle.strand_tree.specs.declared.strand.Strand.{Strand}
use Rattle.reach_table.specs.Telling.{AllKnown}
use Rattle.reach_table.specs.Blocks.{flat, values}
use Rattle.reach_table.specs.Merging.{together, IsGreatest}
use Rattle.reach_table.proofs.Events.{after_get, merges_one_more}
use Rattle.reach_table.proofs.reach.Reach.merged.Goals as goal

iff : (c : goal.After-made) → (table : List Strand) → table ≡ flat (values c.in_ok-blocks.blocks.items) → (w : Strand) → Among w table
    ↔ IsGreatest c.args.lists.now c.args.own (together c.args.self.now c.args.other.now c.args.last) w
iff c table is =
    let P : List Strand → Type 0 =
    λ t. (w : Strand) → Among w t ↔ IsGreatest c.args.lists.now c.args.own (together c.args.self.now c.args.other.now c.args.last) w in
    let Q : List Strand → Type 0 =
    λ t. (w : Strand) → Among w (flat (values c.in_ok-blocks.blocks.items))
    ↔ IsGreatest c.args.lists.now c.args.own (together t (flat (values c.blocks-3.result.now)) c.args.last) w in
    let R : List Strand → Type 0 =
    λ t. (w : Strand) → Among w (flat (values c.in_ok-blocks.blocks.items))
    ↔ IsGreatest c.args.lists.now c.args.own (together c.args.self.now t c.args.last) w in
    subst P (sym is) (subst R c.blocks-3.ensures.strands (subst Q c.blocks-2.ensures.strands c.in_ok-blocks.ensures.strands))

pub join-requires-clause-known : goal.join-requires-clause-known
join-requires-clause-known c =
    let known = length c.args.lists.now.english.order in
    let P : List Strand → Type 0 = λ t. AllKnown known (together t c.args.other.now c.args.last) in
    let Q : List Strand → Type 0 = λ t. AllKnown known (together (flat (values c.blocks-2.result.now)) t c.args.last) in
    subst Q (sym c.blocks-3.ensures.strands) (subst P (sym c.blocks-2.ensures.strands) c.requires)

pub returns-clause-strands : goal.returns-clause-strands
returns-clause-strands c = IfOk-weaker c.made.result _ _ (λ table is. iff c table is) c.made.ensures

pub returns-clause-after_get : goal.returns-clause-after_get
returns-clause-after_get c =
    IfOk-weaker c.made.result _ _
    (λ table is. after_get c.args.lists.now c.args.own c.args.self.now c.args.other.now table c.args.last (iff c table is) c.requires) c.made.ensures

pub returns-clause-one_more : goal.returns-clause-one_more
returns-clause-one_more c =
    IfOk-weaker c.made.result _ _
    (λ table is. merges_one_more c.args.lists.now c.args.own c.args.self.now c.args.other.now table c.args.last (iff c table is) c.requires) c.made.ensures
