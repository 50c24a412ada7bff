use Rattle.std.proofs.Common.{◌≡◌, ◌-◌, suc, sym, subst, take, arith}
use Rattle.std.proofs.lemmas.Bool.{ltb-true}
use Rattle.fut_base.specs.Dag.{Among}
use Rattle.reach_table.specs.Merging.{strand_at}
use Rattle.reach_table.proofs.Rising.{before_more}
use Rattle.reach_table.proofs.merging.is_first_of_future.Goals as goal

pub returns-else-place-eq0 : goal.returns-else-place-eq0
returns-else-place-eq0 c less w among =
    let ws = c.args.strands.now in
    let n = c.args.place in
    let one : suc (n - 1) ≡ n = omega (arith, c.if-place-eq0.false) in
    before_more ws (n - 1) (record { number = 0; future = 0 }) (strand_at ws n).future c.requires.rising (omega (arith, c.requires.within))
    (ltb-true _ _ less) w (subst (λ k. Among w (take k ws)) (sym one) among)
