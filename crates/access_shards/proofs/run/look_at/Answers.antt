use Rattle.std.proofs.Common.{subst}
use Rattle.access_shards.specs.declared.kept.Access.{Access}
use Rattle.access_shards.specs.Runs.{TellsStand}
use Rattle.access_shards.proofs.run.look_at.Goals as goal

pub returns-clause-looks : goal.returns-clause-looks
returns-clause-looks g c =
    let E = g.J.Judge.english c.args.judge.now in
    let H = g.J.Judge.hebrew c.args.judge.now in
    let r = c.requires in
    let row = c.args.row.now in
    record {
      narrower = c.narrowed.ensures.narrower _ r.bounds r.from r.to;
      is = λ may was. c.narrowed.ensures.is E H c.args.at row r.bounds r.from r.to was
          (subst (λ (z : Access). TellsStand E H c.args.at z c.in_ok-stand.stand) (c.read_at-access.ensures.is may) c.in_ok-stand.ensures.tells);
    }
