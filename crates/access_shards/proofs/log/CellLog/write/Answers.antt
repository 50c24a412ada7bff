use Rattle.std.proofs.Common.{◌∙◌, ap, sym, subst, refl}
use Rattle.std.specs.Prelude.{Some, None}
use Rattle.access_shards.specs.Kept.{writing, all_kept}
use Rattle.access_shards.specs.Finding.{AllOnKnown, FindsLast}
use Rattle.access_shards.proofs.Logging.{known_all, found_stays, write_finds, write_keeps}
use Rattle.access_shards.proofs.log.CellLog.write.Goals as goal

pub last_unreached-requires-clause-kept_known : goal.last_unreached-requires-clause-kept_known
last_unreached-requires-clause-kept_known g c =
    subst (λ l. AllOnKnown (g.J.Judge.known c.args.judge.now) (all_kept c.in-Clean.writer l)) (sym c.as_slice.ensures.value)
    (known_all (g.J.Judge.known c.args.judge.now) c.args.self.now.kept c.in-Clean.writer c.in-Clean.readers
    (ap (λ v. v.kept) (sym c.self.view_is) ∙ c.in-Clean.is) c.requires.kept_known)

pub returns-in-Some-clause-kept : goal.returns-in-Some-clause-kept
returns-in-Some-clause-kept g c =
    let K = g.J.Judge.known c.args.judge.now in
    let E = g.J.Judge.english c.args.judge.now in
    let H = g.J.Judge.hebrew c.args.judge.now in
    write_finds c.args.reach.now c.args.at c.args.place K E H c.args.self.now c.in-Clean.writer c.in-Clean.readers
    (ap (λ v. v.kept) (sym c.self.view_is) ∙ c.in-Clean.is) c.in-Some.first _
    (subst (λ l. FindsLast c.args.reach.now c.args.at K E H (all_kept c.in-Clean.writer l) (Some c.in-Some.first)) c.as_slice.ensures.value
    (subst (λ o. FindsLast c.args.reach.now c.args.at K E H (all_kept c.in-Clean.writer c.as_slice.result.now) o) c.in-Some.is c.in_ok-first.ensures.finds))
    refl c.new.ensures.items

pub returns-clause-kept : goal.returns-clause-kept
returns-clause-kept g c =
    let K = g.J.Judge.known c.args.judge.now in
    let E = g.J.Judge.english c.args.judge.now in
    let H = g.J.Judge.hebrew c.args.judge.now in
    write_keeps c.args.reach.now c.args.at c.args.place K E H c.args.self.now c.in-Clean.writer c.in-Clean.readers
    (ap (λ v. v.kept) (sym c.self.view_is) ∙ c.in-Clean.is)
    (subst (λ l. FindsLast c.args.reach.now c.args.at K E H (all_kept c.in-Clean.writer l) None) c.as_slice.ensures.value
    (subst (λ o. FindsLast c.args.reach.now c.args.at K E H (all_kept c.in-Clean.writer c.as_slice.result.now) o) c.in_default-2.is
    c.in_ok-first.ensures.finds))
    c.new-2.result c.new-2.ensures.items _ refl c.new-3.ensures.items

pub returns-in_default-clause-kept : goal.returns-in_default-clause-kept
returns-in_default-clause-kept g c =
    found_stays c.args.reach.now c.args.at c.args.place (g.J.Judge.known c.args.judge.now) (g.J.Judge.english c.args.judge.now)
    (g.J.Judge.hebrew c.args.judge.now) writing c.args.self.now c.in_default.field-0 c.in_default.field-1
    (ap (λ v. v.kept) (sym c.self.view_is) ∙ c.in_default.is)
