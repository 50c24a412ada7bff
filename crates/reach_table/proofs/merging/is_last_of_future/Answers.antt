use Rattle.std.proofs.Common.{◌+◌, ◌<◌, length, arith}
use Rattle.std.proofs.lemmas.Bool.{ltb-true}
use Rattle.reach_table.specs.Merging.{strand_at}
use Rattle.reach_table.proofs.Rising.{after_more}
use Rattle.reach_table.proofs.merging.is_last_of_future.Goals as goal

pub returns-else-place-strands : goal.returns-else-place-strands
returns-else-place-strands c less w among =
    let ws = c.args.strands.now in
    let n = c.args.place in
    let there : n + 1 < length ws = omega (arith, c.requires.within, c.if-place-strands.false) in
    let up = after_more ws (n + 1) (record { number = 0; future = 0 }) ((strand_at ws n).future + 1) c.requires.rising there
    (omega (arith, ltb-true _ _ less)) w among in
    omega (arith, up)
