use Rattle.std.proofs.Common.{◌≡◌, inl, inr, ap, sym, ◌∙◌, subst}
use Rattle.std.specs.Prelude.{Some, None, IfOk}
use Rattle.std.specs.Option.{option_copied}
use Rattle.task_code.specs.Tasks.{TaskNow, instruction_of, passed_by}
use Rattle.task_code.proofs.Tasking.{passes}
use Rattle.task_code.proofs.task.Task.args.Goals as goal

pub returns-in-Some-clause-spawn : goal.returns-in-Some-clause-spawn
returns-in-Some-clause-spawn c = λ P given s t which args is x at w.
    let i = c.self.inside in
    let code = c.args.code.now in
    let now : TaskNow = record { number = i.number; which = i.which; spot = i.spot; held = i.frame; trace = i.trace } in
    let there : instruction_of code now ≡ Some c.in-Some.instruction.now = sym c.instruction.ensures ∙ ap option_copied c.in-Some.is in
    let same : passed_by i.frame.slots (Some c.in-Some.instruction.now) ≡ args =
    sym (ap (passed_by i.frame.slots) there) ∙ ap (λ (q : TaskNow). passed_by q.held.slots (instruction_of code q)) c.self.view_is
    ∙ passes P code given c.args.self.now s t which args is c.requires.running x c.requires.still at (inl w) in
    subst (λ xs. IfOk c.passed.result (λ a. a.items ≡ xs)) same c.passed.ensures

pub returns-in-Some-clause-create : goal.returns-in-Some-clause-create
returns-in-Some-clause-create c = λ P given s t which args is x at w.
    let i = c.self.inside in
    let code = c.args.code.now in
    let now : TaskNow = record { number = i.number; which = i.which; spot = i.spot; held = i.frame; trace = i.trace } in
    let there : instruction_of code now ≡ Some c.in-Some.instruction.now = sym c.instruction.ensures ∙ ap option_copied c.in-Some.is in
    let same : passed_by i.frame.slots (Some c.in-Some.instruction.now) ≡ args =
    sym (ap (passed_by i.frame.slots) there) ∙ ap (λ (q : TaskNow). passed_by q.held.slots (instruction_of code q)) c.self.view_is
    ∙ passes P code given c.args.self.now s t which args is c.requires.running x c.requires.still at (inr w) in
    subst (λ xs. IfOk c.passed.result (λ a. a.items ≡ xs)) same c.passed.ensures

pub returns-in-None-clause-spawn : goal.returns-in-None-clause-spawn
returns-in-None-clause-spawn c = λ P given s t which args is x at w.
    let i = c.self.inside in
    let code = c.args.code.now in
    let now : TaskNow = record { number = i.number; which = i.which; spot = i.spot; held = i.frame; trace = i.trace } in
    let there : instruction_of code now ≡ None = sym c.instruction.ensures ∙ ap option_copied c.in-None.is in
    ap (λ l. l.items) c.make.ensures ∙ sym (ap (passed_by i.frame.slots) there)
    ∙ ap (λ (q : TaskNow). passed_by q.held.slots (instruction_of code q)) c.self.view_is
    ∙ passes P code given c.args.self.now s t which args is c.requires.running x c.requires.still at (inl w)

pub returns-in-None-clause-create : goal.returns-in-None-clause-create
returns-in-None-clause-create c = λ P given s t which args is x at w.
    let i = c.self.inside in
    let code = c.args.code.now in
    let now : TaskNow = record { number = i.number; which = i.which; spot = i.spot; held = i.frame; trace = i.trace } in
    let there : instruction_of code now ≡ None = sym c.instruction.ensures ∙ ap option_copied c.in-None.is in
    ap (λ l. l.items) c.make.ensures ∙ sym (ap (passed_by i.frame.slots) there)
    ∙ ap (λ (q : TaskNow). passed_by q.held.slots (instruction_of code q)) c.self.view_is
    ∙ passes P code given c.args.self.now s t which args is c.requires.running x c.requires.still at (inr w)
