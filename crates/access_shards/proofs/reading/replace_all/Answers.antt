use Rattle.std.proofs.Common.{subst, sym, ap, ◌∙◌, List}
use Rattle.fut_base.specs.Dag.{Among}
use Rattle.access_shards.specs.declared.kept.Access.{Access}
use Rattle.access_shards.specs.Finding.{AllOnKnown}
use Rattle.access_shards.proofs.Rising.{among_one_more}
use Rattle.access_shards.proofs.reading.replace_all.Goals as goal

pub take_unreached-requires-clause-kept_known : goal.take_unreached-requires-clause-kept_known
take_unreached-requires-clause-kept_known g c = subst (λ l. AllOnKnown (g.J.Judge.known c.args.judge.now) l)
    (sym c.as_slice.ensures.value) c.requires.kept_known

pub returns-clause-those : goal.returns-clause-those
returns-clause-those g c =
    among_one_more c.take_unreached.new.left.items c.args.readers.now.items c.swap.new.x.items c.args.new
    (λ a h. subst (λ (l : List Access). Among a l) c.as_slice.ensures.value (c.in_ok-take_unreached.ensures.those a h))
    (ap (λ v. v.items) c.swap.ensures.x_after ∙ c.push_reserved.ensures.items)
