use Rattle.std.proofs.Common.{[], ◌∷◌, refl, sym, subst}
use Rattle.fut_base.specs.Events.{action_of}
use Rattle.run_replay.specs.Replays.{AreBegun}
use Rattle.run_replay.proofs.line.begin_child.Goals as goal

pub returns-in_ok-line-in-Spawn : goal.returns-in_ok-line-in-Spawn
returns-in_ok-line-in-Spawn c =
    let line = c.in_ok-line-in-Spawn.line in
    subst (λ a. AreBegun c.args.code.now c.args.future (action_of a) (line ∷ [])) (sym c.in-Spawn.is) (line, refl, c.in_ok-line-in-Spawn.ensures)

pub returns-in_ok-line-in-Create : goal.returns-in_ok-line-in-Create
returns-in_ok-line-in-Create c =
    let line = c.in_ok-line-in-Create.line in
    subst (λ a. AreBegun c.args.code.now c.args.future (action_of a) (line ∷ [])) (sym c.in-Create.is) (line, refl, c.in_ok-line-in-Create.ensures)
