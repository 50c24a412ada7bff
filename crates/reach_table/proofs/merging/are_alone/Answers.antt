use Rattle.std.proofs.Common.{◌-◌, ◌<◌, ◌⊎◌, inl, inr, arith}
use Rattle.reach_table.specs.Merging.{strand_at}
use Rattle.reach_table.proofs.Apart.{alone_between}
use Rattle.reach_table.proofs.merging.are_alone.Goals as goal
use Rattle.reach_table.proofs.merging.are_alone.Goals.{else-own-strands-via-then-own-strands+else-own-strands-2, else-own-strands-via-else-own-strands}

pub returns : goal.returns
returns c up lists n le lt =
    let ws = c.args.strands.now in
    let own = c.args.own in
    let a = c.args.from in
    let last = c.args.to - 1 in
    let apart : (own < (strand_at ws a).future) ⊎ ((strand_at ws last).future < own) =
    elim c.else-own-strands.branch [
      | else-own-strands-via-then-own-strands+else-own-strands-2 w ↦ inr (omega (arith, w.if-own-strands-2.false))
      | else-own-strands-via-else-own-strands w ↦ inl (omega (arith, w.if-own-strands.false))
    ] in
    alone_between ws c.requires.rising lists own a last (omega (arith, c.requires.some, c.requires.within)) apart
    (c.is_first_of_future.ensures c.if-not-is_first_of_future.false)
    (c.is_last_of_future.ensures c.if-not-is_last_of_future.false)
    (c.rises.ensures up) n le (omega (arith, c.requires.some, lt))
