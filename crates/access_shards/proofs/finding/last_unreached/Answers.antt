use Rattle.std.proofs.Common.{◌∙◌, ◌++◌, [], ◌∷◌, take, get_or, arith, ap, subst, sym, option_to_list, append_assoc}
use Rattle.std.proofs.lemmas.Result.{err_from_is_err_and}
use Rattle.std.proofs.lemmas.List.{take_more}
use Rattle.access_shards.specs.Kept.{all_kept}
use Rattle.access_shards.specs.Finding.{FindsLast}
use Rattle.strand_laws.proofs.Places.{among_left, among_right}
use Rattle.order_list.proofs.Frames.{asked_again}
use Rattle.reach_table.proofs.Reaching.{moved_on}
use Rattle.fut_base.proofs.Members.{at_place}
use Rattle.access_shards.proofs.Looking.{no_access, look_step, looks_at}
use Rattle.access_shards.proofs.finding.last_unreached.Goals as goal

pub unreached_writer-requires-clause-writer_known : goal.unreached_writer-requires-clause-writer_known
unreached_writer-requires-clause-writer_known g c = λ a h. c.requires.kept_known a (among_left a (option_to_list c.args.writer) c.args.readers.now h)

pub look_on-requires-clause-access_known : goal.look_on-requires-clause-access_known
look_on-requires-clause-access_known g c =
    let here = at_place c.args.readers.now c.loop-reader.reader-index no_access c.loop-reader-test.true in
    let k = c.requires.kept_known _ (among_right _ (option_to_list c.args.writer) c.args.readers.now here) in
    omega (arith, k, c.loop-reader.invariant.judge.known)

pub returns-in_err-found-2-clause-moved : goal.returns-in_err-found-2-clause-moved
returns-in_err-found-2-clause-moved g c =
    let p = err_from_is_err_and c.from_residual-in_err-found-2.result c.from_residual-in_err-found-2.ensures.1 in
    rw (p.1, p.2) (moved_on g.J.Judge _ c.loop-reader.invariant.judge c.in_err-found-2.ensures.moved)

pub returns-in_err-found-2-clause-judge : goal.returns-in_err-found-2-clause-judge
returns-in_err-found-2-clause-judge g c = asked_again g.J.Judge c.loop-reader.invariant.judge c.in_err-found-2.ensures.judge

pub loop-reader-preserved : goal.loop-reader-preserved
loop-reader-preserved g c =
    let i = c.loop-reader.invariant in
    let e = c.look_on.ensures in
    let first = c.args.judge.now in
    let readers = c.args.readers.now in
    let at = c.loop-reader.reader-index in
    let next = c.in_ok-found-2.found in
    let a = get_or readers at no_access in
    let writer = option_to_list c.args.writer in
    let longer = ap (λ l. writer ++ l) (take_more readers at _ c.loop-reader-test.true) ∙ sym (append_assoc writer (take at readers) (a ∷ [])) in
    let looks = looks_at c.args.reach.now c.args.at _ _ _ _ _ _ a c.loop-reader.found next i.judge.known i.judge.english i.judge.hebrew
    c.in_ok-found-2.ensures.looks in
    let finds = look_step c.args.reach.now c.args.at _ _ _ (all_kept c.args.writer (take at readers)) a c.loop-reader.found next i.finds looks in
    record {
      finds = subst (λ l. FindsLast c.args.reach.now c.args.at (g.J.Judge.known first) (g.J.Judge.english first)
          (g.J.Judge.hebrew first) l next) (sym longer) finds;
      asks = λ one. (let x = i.asks one in let y = e.asks one in omega (arith, x, y));
      judge = asked_again g.J.Judge i.judge e.judge;
    }
