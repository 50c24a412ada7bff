use Rattle.std.proofs.Common.{◌≡◌, ap, sym, ◌∙◌, subst}
use Rattle.std.specs.Prelude.{Some}
use Rattle.std.specs.Option.{option_copied}
use Rattle.task_frame.specs.Frames.{Held}
use Rattle.task_code.specs.Tasks.{TaskNow, IsSomeTask, IsStill, instruction_of, moves, wished}
use Rattle.task_machine.specs.State.{NoWish}
use Rattle.task_code.proofs.Tasking.{never_stuck}
use Rattle.task_code.proofs.task.Task.turn.Goals as goal

pub unreachable-requires : goal.unreachable-requires
unreachable-requires c =
    let i = c.self.inside in
    let code = c.args.code.now in
    let now : TaskNow = record { number = i.number; which = i.which; spot = i.spot; held = i.frame; trace = i.trace } in
    let some : IsSomeTask code now = subst (IsSomeTask code) (sym c.self.view_is) c.requires.task in
    let there : instruction_of code now ≡ Some c.in-Some.instruction.now = sym c.instruction.ensures ∙ ap option_copied c.in-Some.is in
    let moved = c.in-None-step.ensures.moves in
    let still : IsStill code now = ap (moves i.frame) there ∙ moved.0 in
    let none : wished c.arrays.result.now c.step.new.frame.slots i.spot.is_open (Some c.in-Some.instruction.now) ≡ NoWish = c.in-None-wish.ensures in
    let none' : wished code.arrays i.frame.slots i.spot.is_open (instruction_of code now) ≡ NoWish =
    ap (wished code.arrays i.frame.slots i.spot.is_open) there ∙ ap (λ xs. wished xs i.frame.slots i.spot.is_open (Some c.in-Some.instruction.now))
    (sym c.arrays.ensures)
    ∙ ap (λ (f : Held). wished c.arrays.result.now f.slots i.spot.is_open (Some c.in-Some.instruction.now)) (sym moved.1) ∙ none in
    never_stuck some.0 code some.1 now some.2 some.3 (ap (λ (t : TaskNow). t.spot.ended) c.self.view_is ∙ c.requires.running) some.4 still none'
