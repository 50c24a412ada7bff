use Rattle.std.proofs.Common.{arith, ◌∙◌}
use Rattle.order_list.proofs.Inserting.{grown_by_one}
use Rattle.bench_parts.proofs.orders.fill.Goals as goal

pub loop-k-preserved : goal.loop-k-preserved
loop-k-preserved g c =
    let i = c.loop-k.invariant in
    let e = c.insert.ensures in
    let english = grown_by_one _ _ _ _ e.numbered.first (omega (arith, i.english, c.requires.english)) e.english in
    let hebrew = grown_by_one _ _ _ _ e.numbered.second (omega (arith, i.hebrew, c.requires.hebrew)) e.hebrew in
    record {
      english = omega (arith, english, i.english);
      hebrew = omega (arith, hebrew, i.hebrew);
      spare = omega (arith, e.spare, i.spare);
      home = e.home ∙ i.home;
    }
