use Rattle.std.proofs.Common.{[], ◌∷◌, inl, inr, subst}
use Rattle.fut_base.specs.Dag.{Among}
use Rattle.strand_laws.proofs.Places.{among_or}
use Rattle.access_shards.proofs.finding.keep_unreached.Goals as goal

pub returns-then-not-branch-clause-adds : goal.returns-then-not-branch-clause-adds
returns-then-not-branch-clause-adds g c = λ a h.
    elim (among_or a c.args.left.now.items (c.args.access ∷ []) (subst (λ l. Among a l) c.push_reserved.ensures.items h)) [
      | inl l ↦ inl l
      | inr (inl e) ↦ inr e
      | inr (inr n) ↦ absurd n
    ]
