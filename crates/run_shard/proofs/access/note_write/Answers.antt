use Rattle.std.proofs.Common.{refl}
use Rattle.run_shard.proofs.access.note_write.Goals as goal

pub loop-init : goal.loop-init
loop-init g c = (record { home = refl; count = refl; english = refl; hebrew = refl }, refl)
