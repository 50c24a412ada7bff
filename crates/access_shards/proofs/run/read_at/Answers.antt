use Rattle.std.proofs.Common.{subst, List, arith}
use Rattle.fut_base.specs.Dag.{Among}
use Rattle.fut_base.proofs.Members.{at_place}
use Rattle.access_shards.specs.declared.kept.Access.{Access}
use Rattle.access_shards.specs.Runs.{access_at}
use Rattle.access_shards.proofs.Looking.{no_access}
use Rattle.access_shards.proofs.Listing.{found_at}
use Rattle.access_shards.proofs.run.read_at.Goals as goal

pub returns-then-not-listed-clause-among : goal.returns-then-not-listed-clause-among
returns-then-not-listed-clause-among c =
    subst (λ (l : List Access). Among (access_at c.args.row.now c.args.i) l) (c.requires.same c.if-not-listed.true)
    (at_place c.args.row.now c.args.i no_access c.requires.at)

pub returns-then-at-readers-clause-among : goal.returns-then-at-readers-clause-among
returns-then-at-readers-clause-among c = at_place c.args.readers.now c.first_from-at.result no_access c.if-at-readers.true

pub returns-then-at-readers-clause-is : goal.returns-then-at-readers-clause-is
returns-then-at-readers-clause-is c = λ may.
    let is = may c.if-not-listed.false in
    let a = access_at c.args.row.now c.args.i in
    let e = c.first_from-at.ensures in
    (found_at c.args.readers.now a is.order (is.each a (at_place c.args.row.now c.args.i no_access c.requires.at)) c.first_from-at.result e.within
    (e.parts is.order)).1

pub returns-clause-is : goal.returns-clause-is
returns-clause-is c = λ may.
    let is = may c.if-not-listed.false in
    let a = access_at c.args.row.now c.args.i in
    let e = c.first_from-at.ensures in
    let k = (found_at c.args.readers.now a is.order (is.each a (at_place c.args.row.now c.args.i no_access c.requires.at)) c.first_from-at.result e.within
    (e.parts is.order)).0 in
    absurd (omega (arith, k, c.if-at-readers.false))
