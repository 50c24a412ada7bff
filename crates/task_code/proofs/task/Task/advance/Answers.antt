use Rattle.std.proofs.Common.{◌≡◌, ◌+◌, ap, ◌∙◌, arith}
use Rattle.task_code.specs.Tasks.{Turned, Told}
use Rattle.task_code.proofs.Tasking.{turned, wishes, goes_on}
use Rattle.task_code.proofs.task.Task.advance.Goals as goal

pub loop-preserved : goal.loop-preserved
loop-preserved c =
    let h = c.loop.invariant in
    let turn : Turned c.args.code.now c.loop.self c.turn.new.self = c.in_default.ensures in
    record {
      number = turn.number ∙ h.number;
      which = turn.which ∙ h.which;
      ended = turn.ended ∙ h.ended;
      trace = turn.trace ∙ h.trace;
      steps = turn.steps ∙ ap (λ n. n + 1) h.steps;
      state = λ P args s is x. turned P c.args.code.now args c.loop.self c.turn.new.self s h.ended (h.state P args s is x) turn;
    }

pub returns-in-Some-clause-wish : goal.returns-in-Some-clause-wish
returns-in-Some-clause-wish c = λ P args s is x.
    let h = c.loop.invariant in
    let told : (c.turn.new.self ≡ c.loop.self) × Told c.args.code.now c.loop.self c.in-Some.wish = c.in-Some.ensures in
    wishes P c.args.code.now args c.args.limit c.loop.self s c.in-Some.wish is h.ended (h.state P args s is x) (omega (arith, h.steps, c.loop-test.true)) told.1

pub returns-clause-wish : goal.returns-clause-wish
returns-clause-wish c = λ P args s is x.
    let h = c.loop.invariant in
    goes_on P c.args.code.now args c.args.limit c.loop.self s h.ended (h.state P args s is x) (omega (arith, h.steps, c.loop-test.false))
