use Rattle.task_code.proofs.Meaning.{all_meant}
use Rattle.task_code.proofs.Serving.{fits_at}
use Rattle.task_code.proofs.compile.terms_of.Goals as goal

pub returns : goal.returns
returns c =
    all_meant c.args.scope.now.names.now c.args.args.now c.loop-arg.arg-index c.loop-arg.terms.items _ c.loop-arg-test.false c.from_vec.ensures
    c.loop-arg.invariant

pub term_of-requires : goal.term_of-requires
term_of-requires c = record { fits = fits_at c.args.args.now c.loop-arg.arg-index c.arg-item.result c.loop-arg-test.true c.arg-item.is c.requires.fits }
