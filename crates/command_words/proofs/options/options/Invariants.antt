use Rattle.std.proofs.Common.{length, map, string_bytes}
use Rattle.command_words.proofs.Choosing.{IsSoFar}
use Rattle.command_words.proofs.options.options.Given as goal

abbrev pub invariant-loop-rest : goal.invariant-loop-rest
invariant-loop-rest l = IsSoFar l.kind (map string_bytes l.words) (map string_bytes l.rest) l.seen

abbrev pub decreases-loop-rest : goal.decreases-loop-rest
decreases-loop-rest l = length l.rest
