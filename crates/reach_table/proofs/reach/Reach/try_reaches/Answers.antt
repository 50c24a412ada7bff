use Rattle.std.proofs.Common.{◌≡◌, List, subst, arith}
use Rattle.std.specs.Prelude.{◌↔◌}
use Rattle.std.proofs.lemmas.Result.{IfOk-weaker}
use Rattle.fut_base.specs.Dag.{Among}
use Rattle.strand_tree.specs.declared.strand.Strand.{Strand}
use Rattle.reach_table.proofs.Reaching.{tells_inside, tells_across}
use Rattle.reach_table.proofs.Rising.{lone}
use Rattle.reach_table.proofs.reach.Reach.try_reaches.Goals as goal

pub returns-then-u-v-clause-tells : goal.returns-then-u-v-clause-tells
returns-then-u-v-clause-tells g c =
    IfOk-weaker c.is_or_precedes.result _ _
    (λ answer iff. tells_inside c.args.self.now c.args.u c.args.v (g.J.Judge.known c.args.judge.now) (g.J.Judge.english c.args.judge.now)
    (g.J.Judge.hebrew c.args.judge.now) answer c.if-u-v.true c.requires.u_known c.requires.v_known iff) c.is_or_precedes.ensures.tells

pub reaches_one-requires-clause-strands_known : goal.reaches_one-requires-clause-strands_known
reaches_one-requires-clause-strands_known g c = λ w a.
    let P : List Strand → Type 0 = λ l. Among w l in
    c.requires.table_known w (subst P c.blocks-2.ensures.strands ((c.strands_of_future.ensures.strands w).0 a).0)

pub returns-clause-tells : goal.returns-clause-tells
returns-clause-tells g c =
    let group = c.strands_of_future.result.now in
    let P : List Strand → Type 0 = λ l. (w : Strand) → Among w group ↔ (Among w l × (w.future ≡ c.args.u.future)) in
    let mine : P c.args.self.now = subst P c.blocks-2.ensures.strands c.strands_of_future.ensures.strands in
    IfOk-weaker c.reaches_one.result _ _
    (λ answer iff. tells_across c.args.self.now group c.args.u c.args.v (g.J.Judge.known c.args.judge.now) (g.J.Judge.english c.args.judge.now)
    (g.J.Judge.hebrew c.args.judge.now) answer c.if-u-v.false c.requires.u_known c.requires.table_known mine iff) c.reaches_one.ensures.tells

pub returns-then-u-v-clause-asks : goal.returns-then-u-v-clause-asks
returns-then-u-v-clause-asks g c = λ _. c.is_or_precedes.ensures.asks

pub returns-clause-asks : goal.returns-clause-asks
returns-clause-asks g c = λ one.
    let group = c.strands_of_future.result.now in
    let P : List Strand → Type 0 = λ l. (w : Strand) → Among w group ↔ (Among w l × (w.future ≡ c.args.u.future)) in
    let mine : P c.args.self.now = subst P c.blocks-2.ensures.strands c.strands_of_future.ensures.strands in
    let few = lone c.args.self.now group c.args.u.future one c.strands_of_future.ensures.rising (λ w a. (mine w).0 a) in
    omega (arith, few, c.reaches_one.ensures.asks)
