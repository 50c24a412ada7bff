use Rattle.fut_explain.proofs.Trying.{short_tells, some_tells}
use Rattle.fut_explain.proofs.standing.can_stand.Goals as goal

pub returns-in-None : goal.returns-in-None
returns-in-None c = λ before h. absurd (short_tells c.args.text.now c.args.at c.args.kind _ before c.in-None.is c.in_ok-front.ensures h)

pub returns-in-Some : goal.returns-in-Some
returns-in-Some c = some_tells c.args.text.now c.args.at c.args.kind _ c.in-Some.front c.told.result c.in-Some.is c.in_ok-front.ensures c.told.ensures
