use Rattle.std.proofs.Common.{refl}
use Rattle.race_finder.proofs.Joining.{getter}
use Rattle.race_finder.proofs.joins.get_one.Goals as goal

pub returns-clause-gets : goal.returns-clause-gets
returns-clause-gets c = λ s task future value sound orders of table.
    let d = c.args.track.now in
    let at = c.get-track.result in
    record {
      orders = c.get-track.ensures.extends s task future value orders;
      acting = getter s task d.at.number at.number d of at refl c.args.reach future value sound
          (c.get-track.ensures.belongs s task future value sound of.strand) table;
    }
