use Rattle.std.proofs.Common.{arith}
use Rattle.fut_check.proofs.Reading.{read_can_be_checked}
use Rattle.fut_driver.proofs.Endings.{of_tree}
use Rattle.fut_driver.proofs.program.tree_of.Goals as goal

pub returns-in-Ok : goal.returns-in-Ok
returns-in-Ok c =
    of_tree c.args.text.now c.in-Ok.program (read_can_be_checked c.args.text.now c.in-Ok.program (omega (arith, c.requires)) c.in-Ok.ensures) c.in-Ok.ensures
