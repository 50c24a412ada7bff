use Rattle.std.proofs.Common.{◌≡◌, ℕ, ◌+◌, ◌<◌, List, [], ◌∷◌, ◌++◌, length, take, get_or, subst, ap, sym, ◌∙◌, arith}
use Rattle.std.specs.Prelude.{Option, Some, None}
use Rattle.std.proofs.lemmas.List.{take_more, take_all}
use Rattle.fut_base.proofs.Members.{at_place}
use Rattle.strand_tree.specs.declared.strand.Strand.{Strand}
use Rattle.reach_table.specs.Telling.{AllKnown}
use Rattle.run_book.specs.Tabling.{MergesEnds}
use Rattle.run_book.proofs.Tables.{merges_none}
use Rattle.run_book.proofs.going_on.table_after_sync.Goals as goal

pub loop-child-init : goal.loop-child-init
loop-child-init g c =
    let lines = c.args.lines.now in
    let lists = c.args.lists.now in
    let old = c.args.reach.now in
    let known : ℕ = length lists.english.order in
    let same : c.in_ok-table.table ≡ old = c.in_ok-table.ensures.same in
    let P : List Strand → Type 0 = λ table. AllKnown known table × MergesEnds lines lists old c.args.own [] table in
    subst P (sym same) (c.requires.known.0, merges_none lines lists old c.args.own)

pub with_end-requires : goal.with_end-requires
with_end-requires g c =
    let tasks = c.args.block.now in
    record {
      known = (
        c.loop-child.invariant.0,
        c.requires.known.1 (get_or tasks c.loop-child.child-index 0)
            (at_place tasks c.loop-child.child-index 0 (omega arith)),
      );
    }

pub loop-child-preserved : goal.loop-child-preserved
loop-child-preserved g c =
    let lines = c.args.lines.now in
    let lists = c.args.lists.now in
    let old = c.args.reach.now in
    let tasks = c.args.block.now in
    let i = c.loop-child.child-index in
    let new = c.in_ok-table-2.table in
    let more : take (i + 1) tasks ≡ take i tasks ++ get_or tasks i 0 ∷ [] = take_more tasks i 0 (omega arith) in (
      c.in_ok-table-2.ensures.known,
      subst (λ (ts : List ℕ). MergesEnds lines lists old c.args.own ts new) (sym more) (c.in_ok-table-2.ensures.merges old (take i tasks)
          c.loop-child.invariant.1),
    )

pub returns : goal.returns
returns g c =
    let lines = c.args.lines.now in
    let lists = c.args.lists.now in
    let old = c.args.reach.now in
    let tasks = c.args.block.now in
    let i = c.loop-child.child-index in
    let all : take i tasks ≡ tasks = take_all i tasks (omega arith) in
    subst (λ (ts : List ℕ). MergesEnds lines lists old c.args.own ts c.loop-child.table) all c.loop-child.invariant.1
