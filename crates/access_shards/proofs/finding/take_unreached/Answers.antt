use Rattle.std.proofs.Common.{◌∙◌, take, get_or, arith, subst, sym, inl, inr}
use Rattle.fut_base.specs.Dag.{Among}
use Rattle.std.proofs.lemmas.List.{take_more}
use Rattle.access_shards.specs.Finding.{FindsApart}
use Rattle.order_list.proofs.Frames.{asked_again}
use Rattle.reach_table.proofs.Reaching.{moved_on}
use Rattle.fut_base.proofs.Members.{at_place}
use Rattle.access_shards.proofs.Looking.{no_access, keep_step, keeps_at}
use Rattle.access_shards.proofs.finding.take_unreached.Goals as goal

pub keep_unreached-requires-clause-access_known : goal.keep_unreached-requires-clause-access_known
keep_unreached-requires-clause-access_known g c =
    let k = c.requires.kept_known _ (at_place c.args.readers.now c.loop-reader.reader-index no_access c.loop-reader-test.true) in
    omega (arith, k, c.loop-reader.invariant.judge.known)

pub returns-in-Err-clause-moved : goal.returns-in-Err-clause-moved
returns-in-Err-clause-moved g c = moved_on g.J.Judge _ c.loop-reader.invariant.judge c.in-Err.ensures.moved

pub loop-reader-preserved : goal.loop-reader-preserved
loop-reader-preserved g c =
    let i = c.loop-reader.invariant in
    let e = c.keep_unreached.ensures in
    let first = c.args.judge.now in
    let readers = c.args.readers.now in
    let at = c.loop-reader.reader-index in
    let old = c.loop-reader.left.items in
    let new = c.keep_unreached.new.left.items in
    let a = get_or readers at no_access in
    let keeps = keeps_at c.args.reach.now c.args.at _ _ _ _ _ _ a old new i.judge.known i.judge.english i.judge.hebrew c.in_default.ensures.keeps in
    let finds = keep_step c.args.reach.now c.args.at _ _ _ (take at readers) a old new i.finds keeps in
    record {
      finds = subst (λ l. FindsApart c.args.reach.now c.args.at (g.J.Judge.known first) (g.J.Judge.english first) (g.J.Judge.hebrew first) l new)
          (sym (take_more readers at _ c.loop-reader-test.true)) finds;
      those = λ b h. elim (e.adds b h) [
        | inl l ↦ i.those b l
        | inr q ↦ subst (λ z. Among z readers) q (at_place readers at _ c.loop-reader-test.true)
      ];
      len = omega (arith, e.len, i.len);
      capacity = e.capacity ∙ i.capacity;
      asks = λ one. (let x = i.asks one in let y = e.asks one in omega (arith, x, y));
      judge = asked_again g.J.Judge i.judge e.judge;
    }
