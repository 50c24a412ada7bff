use Rattle.std.proofs.Common.{◌≡◌, ◌∙◌, refl, sym, subst, length, inl, inr}
use Rattle.std.proofs.lemmas.Option.{slice_get_read, same_Some}
use Rattle.task_machine.proofs.Places.{get_below}
use Rattle.task_machine.specs.Machine.{Running}
use Rattle.task_machine.specs.Runs.{StandsAt}
use Rattle.run_replay.specs.Replays.{ReplayNow, StillAt, IsReplayOf}
use Rattle.run_replay.proofs.Lining.{task_of_line}
use Rattle.task_code.specs.Tasks.{IsStill}
use Rattle.run_replay.specs.declared.line.TaskLine.{TaskLine}
use Rattle.run_replay.proofs.replay.Replay.args.Goals as goal

pub args-requires-clause-still : goal.args-requires-clause-still
args-requires-clause-still c =
    let lines = c.self.inside.lines.items in
    let x = c.index.result.now in
    let t = c.args.task in
    let still = subst (λ (v : ReplayNow). StillAt c.args.code.now v.lines t) (sym c.self.view_is) c.requires.still in
    let present = slice_get_read lines (length lines) t x refl (get_below lines t still.0 still.1) c.index.ensures in
    subst (λ (l : TaskLine). IsStill c.args.code.now l.task) (same_Some still.0 x (sym still.1 ∙ present)) still.3

pub returns : goal.returns
returns c = λ P h m r stop which args k is at wish.
    let code = c.args.code.now in
    let lines = c.self.inside.lines.items in
    let x = c.index.result.now in
    let t = c.args.task in
    let running = subst (λ (v : ReplayNow). StillAt c.args.code.now v.lines t) (sym c.self.view_is) c.requires.still in
    let present = slice_get_read lines (length lines) t x refl (get_below lines t running.0 running.1) c.index.ensures in
    let own = subst (λ v. IsReplayOf P code h v m) (sym c.self.view_is) k in
    let found = task_of_line P code lines m.tasks t x own.lines present in
    let same : found.0 ≡ r = same_Some found.0 r (sym found.1 ∙ is) in
    let stands = subst (λ (q : Running). StandsAt q.state stop) (sym same) at in
    elim wish [
      | inl e ↦ c.args-2.ensures.spawn P found.2.args found.0.state stop which args k.code_is found.2.task stands e
      | inr e ↦ c.args-2.ensures.create P found.2.args found.0.state stop which args k.code_is found.2.task stands e
    ]
