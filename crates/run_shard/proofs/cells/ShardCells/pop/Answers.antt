use Rattle.std.proofs.Common.{rules, arith, ℕ, ℤ, ◌≡◌, ◌+◌, ◌*◌, List, [], ◌∷◌, ◌++◌, length, ap, sym, ◌∙◌, w64, to_z, of_z}
use Rattle.std.proofs.lemmas.List.{length-append}
use Rattle.access_shards.specs.declared.kept.Kept.{Kept}
use Rattle.access_shards.specs.Logged.{Logged}
use Rattle.run_shard.specs.Ends.{cells_of}
use Rattle.run_shard.proofs.Counting.{last_cell}
use Rattle.run_shard.proofs.cells.ShardCells.pop.Goals as goal

pub returns : goal.returns
returns g c =
    let i = g.row.I in
    let v : ℤ = c.in_ok-value.value in
    let l = c.in_ok-log.log in
    let vs = c.pop.new.self.items in
    let ls = c.pop-2.new.self.items in
    let whole : to_z w64 (of_z w64 v) ≡ v = search rules in
    let values : c.self.inside.values.items ≡ vs ++ v ∷ [] = c.in_ok-value.ensures.items in
    let logs : c.self.inside.logs.items ≡ ls ++ l ∷ [] = c.in_ok-log.ensures.items in
    let long : length ls ≡ length vs =
    (let a = c.self.invariant.0 in let b = ap length values ∙ length-append vs (v ∷ []) in let d = ap length logs ∙ length-append ls (l ∷ []) in omega (arith, a, b, d)) in
    let number : 8 * length vs + i ≡ c.len.result * 8 + i = omega (arith, c.len.ensures) in
    sym c.self.view_is ∙ ap (λ xs. cells_of i xs c.self.inside.logs.items) values ∙ ap (λ ys. cells_of i (vs ++ v ∷ []) ys) logs ∙ last_cell i vs ls v l long
    ∙ ap (λ n. (n, v, l.kept) ∷ cells_of i vs ls) number ∙ ap (λ z. (c.len.result * 8 + i, z, l.kept) ∷ cells_of i vs ls) (sym whole)
    ∙ ap (λ (k : Kept). (c.len.result * 8 + i, to_z w64 (of_z w64 v), k) ∷ cells_of i vs ls) (sym c.into_kept.ensures)
