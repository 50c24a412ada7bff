use Rattle.std.proofs.Common.{refl}
use Rattle.access_shards.proofs.Logging.{new_log}
use Rattle.access_shards.proofs.log.CellLog.make.Goals as goal

pub returns-clause-log : goal.returns-clause-log
returns-clause-log c = λ s. new_log s c.new.result _ refl c.new.ensures.items c.new-3.ensures.items
