use Rattle.std.proofs.Common.{List, [], ◌∷◌, ◌++◌, ap, ◌∙◌}
use Rattle.access_shards.specs.declared.kept.Access.{Access}
use Rattle.access_shards.proofs.Rising.{among_one_more}
use Rattle.access_shards.proofs.replacing.replace_run.Goals as goal

pub returns-clause-those : goal.returns-clause-those
returns-clause-those c =
    among_one_more c.forget_run.new.readers.items c.args.readers.now.items c.push_reserved.new.self.items c.args.new c.forget_run.ensures.those
    (c.push_reserved.ensures.items ∙ ap (λ (l : List Access). l ++ c.args.new ∷ []) c.make_space.ensures.items)
