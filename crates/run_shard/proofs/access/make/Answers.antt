use Rattle.std.proofs.Common.{refl, ap}
use Rattle.fut_base.specs.Events.{event_of}
use Rattle.task_code.specs.declared.task.Spot.{Spot}
use Rattle.run_book.proofs.Fetching.{trace_fed}
use Rattle.run_shard.proofs.access.make.Goals as goal

pub returns-clause-drawn : goal.returns-clause-drawn
returns-clause-drawn g c =
    let d = c.in-At.ensures.drawn in
    let f = c.feed.ensures in (
      c.in-At.ticket,
      d.0,
      d.1,
      d.2,
      c.note.ensures.kept,
      record {
        number = f.task.0;
        which = f.task.1;
        ended = ap (λ (p : Spot). p.ended) f.spot;
        trace = trace_fed c.feed.new.self.trace.items c.args.task.now.trace.items c.in-At.ticket c.args.entry (event_of c.args.entry) f.trace refl;
        state = λ P args s t of x at answers fits. f.state P args s t of c.requires.still.0 x c.requires.still.1 at answers fits;
      },
    )
