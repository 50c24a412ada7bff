use Rattle.std.proofs.Common.{◌++◌, ◌∷◌, [], ap, ◌∙◌}
use Rattle.task_code.specs.Tasks.{TaskNow}
use Rattle.task_code.proofs.Tasking.{fed}
use Rattle.task_code.proofs.task.Task.feed.Goals as goal

pub returns-clause-state : goal.returns-clause-state
returns-clause-state c = λ P args s t is still x running at answers fit.
    let i = c.self.inside in
    let now : TaskNow = record { number = i.number; which = i.which; spot = i.spot; held = i.frame; trace = c.push.new.self } in
    let taken = c.take_in.ensures in
    let view = c.self.view_is in
    fed P c.args.code.now args c.args.self.now now s t c.args.ticket c.args.entry (ap (λ (q : TaskNow). q.which) view ∙ taken.task.1)
    (ap (λ (q : TaskNow). q.spot) view ∙ taken.spot) (ap (λ (q : TaskNow). q.held.slots) view ∙ taken.slots)
    (ap (λ (q : TaskNow). q.held.rooms) view ∙ taken.rooms)
    (c.push.ensures.items ∙ ap (λ xs. xs ++ (c.args.ticket, c.args.entry) ∷ []) (ap (λ (q : TaskNow). q.trace.items) view ∙ ap (λ tr. tr.items) taken.task.2))
    is still x running at answers fit
