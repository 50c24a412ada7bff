use Rattle.std.proofs.Common.{◌<◌, ◌≤◌, ◌+◌, length, get_or, set, refl, sym, ap, ◌∙◌, subst, arith}
use Rattle.std.proofs.lemmas.List.{length-set, take_all, get_or_default}
use Rattle.steal_pool.specs.declared.tally.Tally.{Tally}
use Rattle.steal_pool.proofs.Rows.{RowSoFar, none_yet, one_more_at, whole_row}
use Rattle.steal_pool.proofs.thief.new_victims.Goals as goal

pub loop-k-init : goal.loop-k-init
loop-k-init g c = record {
  len = refl;
  so = subst (λ r. RowSoFar c.args.made c.args.owns.now c.args.owns.now 0 r) (sym c.in_ok-row.ensures.items)
      (none_yet c.args.made c.args.owns.now c.requires.1);
}

pub victim-requires : goal.victim-requires
victim-requires g c =
    let l : c.loop-k.k < length c.loop-k.owns = omega (arith, c.loop-k-test.true, c.loop-k.invariant.len) in
    let h = c.loop-k.invariant.so.rest c.loop-k.k c.index-owns-k.result (omega arith) l in
    let p = ap (λ (v : Tally g.row.J.Denot). v.parts) h.0 in
    omega (arith, c.requires.0)

pub loop-k-preserved : goal.loop-k-preserved
loop-k-preserved g c =
    let l : c.loop-k.k < length c.loop-k.owns = omega (arith, c.loop-k-test.true, c.loop-k.invariant.len) in
    let owns = c.loop-k.owns in
    let k = c.loop-k.k in
    let e = get_or owns k c.index-owns-k.result in
    let o = c.victim.new.self in
    let r = c.in_ok-victim.field-0 in
    let f = c.in_ok-victim.ensures.rule in
    record {
      len = length-set owns k o ∙ c.loop-k.invariant.len;
      so = subst (λ row. RowSoFar c.args.made c.args.owns.now (set owns k o) (k + 1) row) (sym c.in_ok-push.ensures.items)
          (one_more_at c.args.made c.args.owns.now owns k c.loop-k.row.items e o r l c.loop-k.invariant.len c.loop-k.invariant.so
          (get_or_default owns k c.index-owns-k.result e l)
          c.victim.ensures.same.0 f.0 c.victim.ensures.same.1 f.1 f.2 f.3);
    }

pub returns : goal.returns
returns g c =
    let le : length c.args.owns.now ≤ c.loop-k.k = omega (arith, c.loop-k-test.false, c.loop-k.invariant.len) in
    whole_row c.args.made c.args.owns.now c.loop-k.owns c.loop-k.k c.loop-k.row.items
    (omega (arith, c.loop-k-test.false, c.loop-k.invariant.len)) c.loop-k.invariant.len (take_all c.loop-k.k c.args.owns.now le) c.loop-k.invariant.so
