use Rattle.std.proofs.Common.{◌≡◌, ◌∙◌, ◌+◌, ◌++◌, drop}
use Rattle.std.specs.Prelude.{codes, decimal}
use Rattle.std.proofs.lemmas.List.{at_drop_more}
use Rattle.race_report.specs.Brief.{cell_name}
use Rattle.race_report.proofs.Naming.{named_here}
use Rattle.race_report.proofs.brief.write_name.Goals as goal

pub returns-in-Some : goal.returns-in-Some
returns-in-Some g c =
    let arrays = c.args.arrays.now in
    let next = at_drop_more (λ l. cell_name l c.args.cell) arrays c.loop-array.array-index c.array-item.result c.loop-array-test.true in
    let rest = drop (c.loop-array.array-index + 1) arrays in
    let here = named_here c.array-item.result rest c.args.cell c.in-Some.index c.in-Some.ensures.0 c.in-Some.ensures.1 in
    let name : cell_name arrays c.args.cell ≡ c.array-item.result.name ++ (codes "[" ++ (decimal c.in-Some.index ++ codes "]")) =
    c.loop-array.invariant.rest ∙ (next ∙ (rw (← c.array-item.is) here)) in
    rw (name, ← c.loop-array.invariant.same, ← c.name.ensures) c.write_pieces.ensures
