use Rattle.std.proofs.Common.{ℕ, List, [], Option, subst, sym}
use Rattle.fut_base.specs.Dag.{Among}
use Rattle.access_shards.specs.declared.kept.Access.{Access}
use Rattle.access_shards.specs.declared.kept.Kept.{Kept}
use Rattle.access_shards.specs.declared.kept.Kept.TheVariants.{Clean, Found}
use Rattle.access_shards.specs.Kept.{AreKnown, IsNew, all_kept}
use Rattle.order_query.specs.Logs.{count_of}
use Rattle.bench_parts.proofs.tests.race.Goals as goal

-- of what is kept of a cell without accesses all strands are known
new_known : (known : ℕ) (k : Kept) → IsNew k → AreKnown known k
new_known known (Clean w rs) n = λ a there.
    let alone = subst (λ (l : List Access). Among a (all_kept w l)) n.1 there in
    absurd (subst (λ (x : Option Access). Among a (all_kept x [])) n.0 alone)
new_known known (Found first second) n = tt

pub read-requires-clause-kept_known : goal.read-requires-clause-kept_known
read-requires-clause-kept_known c =
    let known = count_of c.args.reader.now.log in
    let new = new_known known c.make-log.result.kept c.make-log.ensures.new in
    let was : AreKnown known c.reserve.new.self.kept = subst (AreKnown known) (sym c.reserve.ensures.kept) new in
    let after : AreKnown known c.write.new.self.kept = c.in_ok-write.ensures.strands known c.requires.u_known was in
    subst (λ (n : ℕ). AreKnown n c.reserve-2.new.self.kept) (sym c.write.ensures.judge.known) (subst (AreKnown known) (sym c.reserve-2.ensures.kept) after)
