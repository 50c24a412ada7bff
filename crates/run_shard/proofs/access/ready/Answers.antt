use Rattle.std.proofs.Common.{refl, subst}
use Rattle.fut_base.specs.Events.{action_of}
use Rattle.run_book.proofs.Advancing.{HasRoomNow}
use Rattle.run_book.proofs.Wishing.{HasAsked}
use Rattle.run_shard.proofs.Setting.{on_ok}
use Rattle.run_shard.proofs.Readying.{ready_job, ready_stands, ready_still}
use Rattle.run_shard.proofs.access.ready.Goals as goal

pub returns-clause-job : goal.returns-clause-job
returns-clause-job g c =
    let code = g.J.Run.code in
    let old = c.args.task.now in
    let moved = c.advance.new.self in
    let new = c.reserve.new.self in
    let e = c.advance.ensures in
    let r = c.reserve.ensures in
    let as_code : HasAsked c.args.code.now old moved 1000000 c.advance.result =
    record { most = refl; number = e.task.0; which = e.task.1; running = e.task.2; trace = e.trace; state = e.state; stops = e.stops; wish = e.wish } in
    let asked : HasAsked code old moved 1000000 c.advance.result = subst (λ k. HasAsked k old moved 1000000 c.advance.result) c.requires.run as_code in
    let room : HasRoomNow moved new = record { number = r.task.0; which = r.task.1; spot = r.task.2; held = r.task.3; trace = r.trace } in
    ready_job g.J.Run.clock g.J.Run.orders code old moved new c.args.place.now 1000000 c.advance.result (action_of c.args.entry.now.act) c.requires.job c.requires.wish asked room

pub returns-clause-wish : goal.returns-clause-wish
returns-clause-wish g c =
    let code = g.J.Run.code in
    let old = c.args.task.now in
    let moved = c.advance.new.self in
    let new = c.reserve.new.self in
    let e = c.advance.ensures in
    let r = c.reserve.ensures in
    let as_code : HasAsked c.args.code.now old moved 1000000 c.advance.result =
    record { most = refl; number = e.task.0; which = e.task.1; running = e.task.2; trace = e.trace; state = e.state; stops = e.stops; wish = e.wish } in
    let asked : HasAsked code old moved 1000000 c.advance.result = subst (λ k. HasAsked k old moved 1000000 c.advance.result) c.requires.run as_code in
    let room : HasRoomNow moved new = record { number = r.task.0; which = r.task.1; spot = r.task.2; held = r.task.3; trace = r.trace } in
    ready_stands g.J.Run.clock g.J.Run.orders code old moved new c.args.place.now 1000000 c.advance.result (action_of c.args.entry.now.act) c.requires.job c.requires.wish asked room

pub returns-clause-ready : goal.returns-clause-ready
returns-clause-ready g c =
    let code = g.J.Run.code in
    let old = c.args.task.now in
    let moved = c.advance.new.self in
    let new = c.reserve.new.self in
    let e = c.advance.ensures in
    let r = c.reserve.ensures in
    let as_code : HasAsked c.args.code.now old moved 1000000 c.advance.result =
    record { most = refl; number = e.task.0; which = e.task.1; running = e.task.2; trace = e.trace; state = e.state; stops = e.stops; wish = e.wish } in
    let asked : HasAsked code old moved 1000000 c.advance.result = subst (λ k. HasAsked k old moved 1000000 c.advance.result) c.requires.run as_code in
    let room : HasRoomNow moved new = record { number = r.task.0; which = r.task.1; spot = r.task.2; held = r.task.3; trace = r.trace } in
    on_ok c.reserve.result _ _ r.room (λ some. (ready_still g.J.Run.clock g.J.Run.orders code old moved new c.args.place.now 1000000 c.advance.result (action_of c.args.entry.now.act) c.requires.job c.requires.wish asked room, some))
