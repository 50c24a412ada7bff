use Rattle.std.proofs.Common.{ap, ◌∙◌, ◌++◌}
use Rattle.fut_driver.proofs.Loading.{text_of}
use Rattle.fut_driver.proofs.load.load_text.Goals as goal

pub returns-in-All : goal.returns-in-All
returns-in-All c =
    rw c.from_vec.ensures
    (c.in-All.ensures.0
    ∙ (ap (λ old. old ++ text_of c.places.result c.args.side) c.make-text.ensures.bytes ∙ ap (λ places. text_of places c.args.side) c.places.ensures))
