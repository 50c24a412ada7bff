use Rattle.std.proofs.Common.{[], ◌∷◌, refl, sym, ap, ◌∙◌, arith}
use Rattle.std.specs.Option.{option_to_list}
use Rattle.steal_pool.specs.Balance.{weigh}
use Rattle.steal_pool.proofs.Rule.{weigh-append}
use Rattle.steal_pool.proofs.Working.{from_moved, worked_then, one_turn}
use Rattle.steal_pool.proofs.work.turn_job.Goals as goal

pub returns-then-halt-clause-worked : goal.returns-then-halt-clause-worked
returns-then-halt-clause-worked g c =
    one_turn
    (g.B.Body.turned c.args.body.now) c.args.worker.now _ c.args.job c.turn-more.result.more.items [] c.turn-more.result.halt c.turn-more.ensures refl
    refl c.requires.2 (sym c.if-halt.true)
    (λ h. let none = ap (weigh h) c.requires.1 in omega (arith, none))

pub returns-clause-worked : goal.returns-clause-worked
returns-clause-worked g c =
    let turned = g.B.Body.turned c.args.body.now in
    let m = c.args.worker.now in
    let m1 = record m { own = c.turn-more.new.own; next = c.pop.result } in
    let more = c.turn-more.result.more.items in
    let rest = c.pop.new.self.items in
    worked_then turned m m1 c.push_all.new.worker (c.args.job ∷ []) rest []
    (one_turn turned m m1 c.args.job more rest c.turn-more.result.halt c.turn-more.ensures refl refl c.requires.2 (c.requires.2 ∙ sym c.if-halt.false)
    (λ h.
    let none = ap (λ o. weigh h (option_to_list o)) c.requires.0 in
    let parts = ap (weigh h) c.pop.ensures.items in
    omega (arith, none, parts, weigh-append h (option_to_list c.pop.result) rest)))
    (from_moved turned m1 c.push_all.new.worker rest [] c.push_all.ensures.moved)
