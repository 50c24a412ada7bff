use Rattle.std.proofs.Common.{refl, ap}
use Rattle.race_finder.proofs.Joining.{syncer}
use Rattle.race_finder.proofs.joins.sync_one.Goals as goal

pub returns-clause-syncs : goal.returns-clause-syncs
returns-clause-syncs c = λ s task sound orders of last table.
    let d = c.args.track.now in
    let at = c.sync-track.result in
    record {
      orders = c.sync-track.ensures.extends s task last orders;
      acting = syncer s task d.at.number at.number d of at refl c.args.reach sound c.make.result (ap (λ l. l.items) c.make.ensures)
          (c.sync-track.ensures.belongs s task sound of.strand) table;
    }
