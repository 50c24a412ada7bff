use Rattle.std.proofs.Common.{ℕ, ◌<◌, List, subst, sym, refl, arith, get_or}
use Rattle.std.proofs.lemmas.Result.{err_from_is_err_and}
use Rattle.order_list.proofs.Frames.{asked_again}
use Rattle.strand_tree.specs.declared.strand.Strand.{Strand}
use Rattle.reach_table.specs.Telling.{IsOrPrecedes}
use Rattle.reach_table.proofs.Members.{at_place}
use Rattle.reach_table.proofs.Reaching.{moved_on, one_more}
use Rattle.reach_table.proofs.group.reaches_one.Goals as goal

pub is_or_precedes-requires-clause-w_known : goal.is_or_precedes-requires-clause-w_known
is_or_precedes-requires-clause-w_known g c =
    let none : Strand = record { number = 0; future = 0 } in
    let xs = c.args.strands.now in
    let w : Strand = get_or xs c.loop-w.w-index none in
    let P : ℕ → Type 0 = λ k. w.number < k in
    subst P (sym c.loop-w.invariant.judge.known) (c.requires.strands_known w (at_place xs c.loop-w.w-index none (omega arith)))

pub returns-in_err-is_or_precedes-clause-moved : goal.returns-in_err-is_or_precedes-clause-moved
returns-in_err-is_or_precedes-clause-moved g c =
    let p = err_from_is_err_and c.from_residual.result c.from_residual.ensures.1 in
    rw (p.1, p.2) (moved_on g.J.Judge _ c.loop-w.invariant.judge c.in_err-is_or_precedes.ensures.moved)

pub returns-then-branch-clause-tells : goal.returns-then-branch-clause-tells
returns-then-branch-clause-tells g c =
    let none : Strand = record { number = 0; future = 0 } in
    let xs = c.args.strands.now in
    let v = c.loop-w.invariant in
    let w : Strand = get_or xs c.loop-w.w-index none in
    let P : List ℕ → Type 0 = λ e. IsOrPrecedes e (g.J.Judge.hebrew c.loop-w.judge) c.args.u.number w.number in
    let Q : List ℕ → Type 0 = λ h. IsOrPrecedes (g.J.Judge.english c.args.judge.now) h c.args.u.number w.number in (
      λ _. (
        w,
        at_place xs c.loop-w.w-index none (omega arith),
        subst Q v.judge.hebrew
            (subst P v.judge.english (c.in_ok-is_or_precedes.ensures.tells.0 c.if-branch.true)),
      ),
      λ _. refl,
    )

pub loop-w-preserved : goal.loop-w-preserved
loop-w-preserved g c =
    let none : Strand = record { number = 0; future = 0 } in
    let xs = c.args.strands.now in
    let v = c.loop-w.invariant in
    let e = c.in_ok-is_or_precedes.ensures in
    let first = c.args.judge.now in
    let asked = c.loop-w.judge in
    record {
      none = one_more (g.J.Judge.english first) (g.J.Judge.hebrew first) (g.J.Judge.english asked) (g.J.Judge.hebrew asked) c.args.u.number xs c.loop-w.w-index
          none c.in_ok-is_or_precedes.field-0 (omega arith) v.judge.english v.judge.hebrew v.none e.tells c.if-branch.false;
      asks = omega (arith, v.asks, e.asks);
      judge = asked_again g.J.Judge v.judge e.judge;
    }
