use Rattle.std.proofs.Common.{refl, ap}
use Rattle.reach_table.proofs.Events.{after_create}
use Rattle.race_finder.proofs.Forking.{creator, created}
use Rattle.race_finder.proofs.forks.create_one.Goals as goal

pub returns-clause-creates : goal.returns-clause-creates
returns-clause-creates c = λ s task code args sound orders of.
    let d = c.args.track.now in
    let kid = c.create.result.0 in
    let cont = c.create.result.1 in
    let b = c.create.ensures.belong s task code args in
    record {
      orders = c.create.ensures.extends s task code args orders;
      acting = creator s task code c.args.child kid.number cont.number args d.at.number d of sound cont refl (b.1 sound of.strand)
          (after_create d.reach s task d.at.number code c.args.child kid.number cont.number args sound of.table);
      made = created s task code c.args.child kid.number cont.number args d.at.number d of sound kid c.in_ok-reach.reach
          c.make.result refl (b.0 sound of.strand)
          (c.in_ok-reach.ensures.after_create s task code c.args.child kid.number cont.number args sound of.strand of.table) (ap (λ l. l.items) c.make.ensures);
    }
