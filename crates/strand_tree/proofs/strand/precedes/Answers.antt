use Rattle.std.proofs.Common.{◌&&◌, ◌∙◌, ap, sym}
use Rattle.strand_tree.proofs.Telling.{tells_paths}
use Rattle.strand_tree.proofs.strand.precedes.Goals as goal

pub returns-then-sides-clause-paths : goal.returns-then-sides-clause-paths
returns-then-sides-clause-paths c =
    let sides = c.args.sides in
    tells_paths sides sides.hebrew (sym (ap (λ b. b && sides.hebrew) c.if-sides.true))

pub returns-else-sides-clause-paths : goal.returns-else-sides-clause-paths
returns-else-sides-clause-paths c =
    let sides = c.args.sides in
    tells_paths sides sides.english (c.if-sides.false ∙ sym (ap (λ b. b && sides.hebrew) c.if-sides.false))
