use Rattle.std.proofs.Common.{◌≡◌, ◌≤◌, ◌+◌, [], ◌∷◌, ◌++◌, length, map, All, Vec, Global, refl, sym, ap, ◌∙◌, subst, arith, length-append}
use Rattle.std.proofs.lemmas.List.{length-map, nil_from_length}
use Rattle.std.specs.Vec.Iter.{into_iter_items}
use Rattle.steal_pool.specs.declared.deque.Victim.{Victim}
use Rattle.steal_pool.specs.declared.thief.Thief.{Thief}
use Rattle.steal_pool.specs.Deques.{own_id}
use Rattle.steal_pool.specs.Thieves.{IsRow, HasMade}
use Rattle.steal_pool.proofs.Lists.{slice_back}
use Rattle.steal_pool.proofs.Rows.{Making, rows_more, none_made, made_more, all_made}
use Rattle.steal_pool.proofs.thief.thieves.Goals as goal

pub loop-w-init : goal.loop-w-init
loop-w-init g c = record {
  len = c.in_ok-owns.ensures.0;
  owns = c.in_ok-owns.ensures.1;
  rows = subst (All (λ (v : Vec (Victim g.row.J.Denot) Global). IsRow (map own_id c.in_ok-owns.owns.items) v.items)) (sym c.in_ok-rows.ensures.items)
      (λ k d l. absurd (omega arith));
  count = ap length c.in_ok-rows.ensures.items;
}

pub new_victims-requires : goal.new_victims-requires
new_victims-requires g c =
    (omega (arith, c.requires.1, c.loop-w-test.true), subst (All (HasMade c.loop-w.w)) (sym c.as_mut_slice.ensures.value) c.loop-w.invariant.owns)

pub loop-w-preserved : goal.loop-w-preserved
loop-w-preserved g c =
    let old = c.loop-w.owns.items in
    let new = c.new_victims.new.owns in
    let rows = c.loop-w.rows.items in
    let row = c.in_ok-row.row in
    let value = c.as_mut_slice.ensures.value in
    let e = c.in_ok-row.ensures in
    let same = e.0 ∙ ap (map own_id) value in
    let len_new : length new ≡ length old = sym (length-map new own_id) ∙ (ap length same ∙ length-map old own_id) in
    let len_old = sym c.loop-w.owns.ok.0 in
    let back = slice_back c.loop-w.owns.len old new len_old (len_new ∙ len_old) in
    let one = subst (λ xs. IsRow (map own_id xs) row.items) value e.2 in
    let more = rows_more old new rows row same c.loop-w.invariant.rows one in
    let pushed = c.in_ok-push.ensures.items in
    let a = ap length pushed in
    record {
      len = ap length back ∙ (len_new ∙ c.loop-w.invariant.len);
      owns = subst (All (HasMade (c.loop-w.w + 1))) (sym back) e.1;
      rows = subst (λ xs. All (λ (v : Vec (Victim g.row.J.Denot) Global). IsRow (map own_id xs) v.items) c.push.new.self.items) (sym back)
          (subst (All (λ (v : Vec (Victim g.row.J.Denot) Global). IsRow (map own_id new) v.items)) (sym pushed) more);
      count = omega (arith, c.loop-w.invariant.count, length-append rows (row ∷ []));
    }

pub loop-own-init : goal.loop-own-init
loop-own-init g c =
    let most : c.loop-w.w ≤ c.args.workers = c.loop-w.auto.w-end in
    let least : c.args.workers ≤ c.loop-w.w = c.loop-w-test.false in
    let same : c.loop-w.w ≡ c.args.workers = omega arith in
    let i = c.loop-w.invariant in
    record {
      ids = map own_id c.loop-w.owns.items;
      making = none_made c.args.workers c.loop-w.w c.loop-w.owns.items (into_iter_items c.into_iter-rest.result) c.make-all.result.items c.loop-w.rows.items
          (λ i. (c.make-all.ensures i).items) c.into_iter-rest.ensures.rest same i.owns i.rows i.count i.len;
    }

pub unreachable-requires : goal.unreachable-requires
unreachable-requires g c =
    let z = c.in_default-pop.ensures.cases.0 in
    let o = c.loop-own.rows.ok.0 in
    let a = ap length c.in-Some.ensures.items in
    let b = c.loop-own.invariant.making.count in
    let no : ⊥ = omega arith in no

pub loop-own-preserved : goal.loop-own-preserved
loop-own-preserved g c =
    let t : Thief g.row.J.Denot = record { own = c.in-Some.own; victims = c.in-Some-pop.victims } in
    let ids = c.loop-own.invariant.ids in
    let all = c.loop-own.all.items in
    let rest' = into_iter_items c.next.new.self in
    let pushed = c.push-in-Some.ensures.items ∙ ap (λ xs. xs ++ t ∷ []) c.in_ok-reserve.ensures.items in
    record {
      ids = ids;
      making = subst (λ xs. Making c.args.workers ids xs rest' c.pop.new.self.items) (sym pushed)
          (made_more c.args.workers ids all
          (into_iter_items c.loop-own.rest) rest' c.loop-own.rows.items c.pop.new.self.items c.in-Some.own c.in-Some-pop.victims t
          c.in-Some.ensures.items c.in-Some-pop.ensures.items refl refl c.loop-own.invariant.making);
    }

pub returns : goal.returns
returns g c =
    let none = nil_from_length (into_iter_items c.loop-own.rest) (sym c.loop-own.rest.rest.ok.0 ∙ c.in_default.ensures.cases.0) in
    all_made c.args.workers c.loop-own.invariant.ids c.loop-own.all.items
    (into_iter_items c.loop-own.rest) c.loop-own.rows.items none c.loop-own.invariant.making
