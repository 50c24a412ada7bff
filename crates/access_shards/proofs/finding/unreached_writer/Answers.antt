use Rattle.std.proofs.Common.{inl, refl, subst, sym, option_to_list}
use Rattle.fut_base.specs.Dag.{Among}
use Rattle.access_shards.proofs.finding.unreached_writer.Goals as goal

pub look_on-requires-clause-access_known : goal.look_on-requires-clause-access_known
look_on-requires-clause-access_known g c = c.requires.writer_known c.in-Some.writer
    (subst (λ o. Among c.in-Some.writer (option_to_list o)) (sym c.in-Some.is) (inl refl))
