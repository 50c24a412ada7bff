use Rattle.fut_check.proofs.Reading.{read_can_be_checked}
use Rattle.fut_explain.proofs.explained.explain_program.Goals as goal

pub check-requires : goal.check-requires
check-requires c = read_can_be_checked c.args.text.now c.args.program.now c.requires.short c.requires.parsed
