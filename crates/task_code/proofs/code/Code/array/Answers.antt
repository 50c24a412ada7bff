use Rattle.std.proofs.Common.{ap, ◌∙◌}
use Rattle.task_code.specs.Flat.{Compiled}
use Rattle.task_code.proofs.Whole.{cell_not_passed}
use Rattle.task_code.proofs.code.Code.array.Goals as goal

pub returns : goal.returns
returns c = λ P is.
    absurd
    (cell_not_passed P c.args.self.now c.args.cell c.loop-place.place c.as_slice-array-items.result.now
    (c.as_slice-array-items.ensures ∙ ap (λ (v : Compiled). v.arrays) c.self.view_is) is c.requires c.loop-place-test.false c.loop-place.invariant)
