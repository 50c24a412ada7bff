use Rattle.std.proofs.Common.{◌∙◌, refl, ap, subst, ◌++◌, ◌∷◌, []}
use Rattle.fut_base.specs.declared.event.Action.TheVariants.{Spawns}
use Rattle.reach_table.specs.Tabled.{and_then}
use Rattle.reach_table.specs.Telling.{HasTable}
use Rattle.race_finder.proofs.Forking.{spawner, spawned}
use Rattle.race_finder.proofs.forks.spawn_one.Goals as goal

pub returns-clause-spawns : goal.returns-clause-spawns
returns-clause-spawns c = λ s task code args sound orders of.
    let d = c.args.track.now in
    let kid = c.spawn.result.0 in
    let cont = c.spawn.result.1 in
    let b = c.spawn.ensures.belong s task code c.args.child args in
    let tables = c.in_ok-reach.ensures.after_spawn s task d.at.number code c.args.child kid.number cont.number args sound of.table in
    let longer = and_then s task d.at.number (Spawns code c.args.child kid.number cont.number args) in
    record {
      orders = c.spawn.ensures.extends s task code c.args.child args orders;
      acting = spawner s task code c.args.child kid.number cont.number args d.at.number d of sound cont c.push.new.self refl (b.1 sound of.strand)
          (subst (HasTable longer cont.number) c.in_ok-reach.ensures.same tables.1)
          (c.push.ensures.items ∙ ap (λ l. l ++ c.args.child ∷ []) c.reserve.ensures.items);
      made = spawned s task code c.args.child kid.number cont.number args d.at.number d of sound kid c.in_ok-reach.reach c.make.result refl
          (b.0 sound of.strand) tables.0 (ap (λ l. l.items) c.make.ensures);
    }
