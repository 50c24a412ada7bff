use Rattle.std.proofs.Common.{refl}
use Rattle.reach_table.specs.Merging.{strand_at}
use Rattle.reach_table.proofs.Members.{at_place}
use Rattle.reach_table.proofs.Leaving.{alone_greatest, greatest_if}
use Rattle.reach_table.proofs.merging.is_greatest.Goals as goal

pub returns-then-is_last_of_future : goal.returns-then-is_last_of_future
returns-then-is_last_of_future c = (
  λ _. alone_greatest c.args.lists.now c.args.own c.args.strands.now c.args.place (record { number = 0; future = 0 }) c.requires.within c.if-at-own.false
      (c.is_first_of_future.ensures c.if-is_first_of_future.true) (c.is_last_of_future.ensures c.if-is_last_of_future.true),
  λ _. refl,
)

pub precedes_one-requires-clause-at_in : goal.precedes_one-requires-clause-at_in
precedes_one-requires-clause-at_in c = c.requires.strands_in _ (at_place c.args.strands.now c.args.place (record { number = 0; future = 0 }) c.requires.within)

pub precedes_one-requires-clause-strands_in : goal.precedes_one-requires-clause-strands_in
precedes_one-requires-clause-strands_in c = λ w a. c.requires.strands_in w ((c.of_future.ensures.strands w).0 a).0

pub returns : goal.returns
returns c =
    let at = strand_at c.args.strands.now c.args.place in
    greatest_if c.args.lists.now c.args.own at c.args.strands.now c.of_future.result.now c.precedes_one.result
    (at_place c.args.strands.now c.args.place
    (record { number = 0; future = 0 }) c.requires.within) c.if-at-own.false c.of_future.ensures.strands c.precedes_one.ensures
