use Rattle.std.proofs.Common.{ap, length, subst, sym}
use Rattle.run_laws.specs.Ready.{ready_of}
use Rattle.run_replay.specs.Ready.{IsRing}
use Rattle.run_replay.specs.Replays.{ReplayNow}
use Rattle.run_replay.proofs.Starting.{first_ready, first_goes_on}
use Rattle.run_replay.proofs.replay.Replay.next_ready.Goals as goal

pub returns-clause-first : goal.returns-clause-first
returns-clause-first c = λ P code h m x.
    let same = ap (λ (v : ReplayNow). v.ready) c.self.view_is in
    let ring = subst (IsRing (length c.args.self.now.lines) (ready_of h)) (sym same) x.ready in
    first_ready P code h c.args.self.now m c.first.result x (c.first.ensures (length c.args.self.now.lines) (ready_of h) ring)

pub returns-clause-may_go_on : goal.returns-clause-may_go_on
returns-clause-may_go_on c = λ P code h m x.
    let same = ap (λ (v : ReplayNow). v.ready) c.self.view_is in
    let ring = subst (IsRing (length c.args.self.now.lines) (ready_of h)) (sym same) x.ready in
    first_goes_on P code h c.args.self.now m c.first.result x (c.first.ensures (length c.args.self.now.lines) (ready_of h) ring)
