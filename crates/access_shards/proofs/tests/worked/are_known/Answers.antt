use Rattle.std.proofs.Common.{◌≡◌, ℕ, ◌<◌, List, length, subst, rules, arith}
use Rattle.std.proofs.lemmas.List.{take_all}
use Rattle.fut_base.specs.Dag.{Among}
use Rattle.strand_tree.specs.declared.strand.Strand.{Strand}
use Rattle.reach_table.proofs.Members.{known_more}
use Rattle.access_shards.proofs.tests.worked.are_known.Goals as goal

pub loop-w-preserved : goal.loop-w-preserved
loop-w-preserved c =
    known_more c.len-known.result c.args.strands.now c.loop-w.w-index (record { number = 0; future = 0 }) (omega arith) c.loop-w.invariant (omega arith)

pub returns : goal.returns
returns c =
    let ws = c.args.strands.now in
    let same : c.len-known.result ≡ length c.args.lists.now.english.order = search rules in
    let P : List Strand → Type 0 = λ l. (w : Strand) → Among w l → w.number < c.len-known.result in
    let Q : ℕ → Type 0 = λ n. (w : Strand) → Among w ws → w.number < n in
    λ _. subst Q same (subst P (take_all c.loop-w.w-index ws (omega arith)) c.loop-w.invariant)
