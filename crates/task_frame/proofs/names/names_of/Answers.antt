use Rattle.std.proofs.Common.{sym, subst}
use Rattle.fut_syntax.specs.Views.{params_tree, block_tree}
use Rattle.task_frame.specs.Gathered.{HasParams, words_of_block}
use Rattle.task_frame.proofs.Gathering.{params_stay}
use Rattle.task_frame.proofs.names.names_of.Goals as goal

pub returns-clause-params : goal.returns-clause-params
returns-clause-params c =
    let ps = params_tree c.args.params.now in
    subst (λ names. HasParams names ps) (sym c.from_vec.ensures)
    (params_stay c.note_params.new.names.items c.note_block.new.names.items
    (words_of_block (block_tree c.args.body.now)) c.in_ok-note_block.ensures.more ps c.in_ok-note_params.ensures.has)
