use Rattle.std.proofs.Common.{◌≡◌, [], ◌∷◌, ◌++◌, length, None, false, refl, sym, ap, subst, arith, length-append}
use Rattle.std.proofs.lemmas.List.{nil_from_length}
use Rattle.steal_pool.specs.declared.worker.Worker.{Worker}
use Rattle.steal_pool.proofs.Enrolling.{Enrolled, none_enrolled, one_enrolled, enrolled_counts, all_enrolled}
use Rattle.steal_pool.proofs.start.new_workers.Goals as goal

pub loop-number-init : goal.loop-number-init
loop-number-init g c = record {
  count = c.len-count.ensures;
  rest_count = c.in_ok-rest.ensures.0;
  enrolled = subst (λ ms. Enrolled c.args.owns.now.items c.in_ok-rest.rest.items ms c.args.owns.now.items c.in_ok-rest.rest.items)
      (sym c.in_ok-workers.ensures.items) (none_enrolled c.args.owns.now.items c.in_ok-rest.rest.items);
  at = ap length c.in_ok-workers.ensures.items;
  spare = omega arith;
}

pub unreachable-requires : goal.unreachable-requires
unreachable-requires g c =
    let i = c.loop-number.invariant in
    let n =
    (enrolled_counts c.args.owns.now.items c.in_ok-rest.rest.items c.loop-number.workers.items c.loop-number.owns.items c.loop-number.rest.items
    i.enrolled).0 in
    let z = ap length (c.pop.ensures.none c.in_default.is) in
    let a = i.at in
    let b = i.count in
    let no : ⊥ = omega (arith, c.loop-number-test.true) in no

pub unreachable-requires-in_default-pop : goal.unreachable-requires-in_default-pop
unreachable-requires-in_default-pop g c =
    let i = c.loop-number.invariant in
    let n =
    (enrolled_counts c.args.owns.now.items c.in_ok-rest.rest.items c.loop-number.workers.items c.loop-number.owns.items c.loop-number.rest.items
    i.enrolled).1 in
    let z = ap length (c.pop-in-loop-number.ensures.none c.in_default-pop.is) in
    let a = i.at in
    let b = i.rest_count in
    let no : ⊥ = omega (arith, c.loop-number-test.true) in no

pub loop-number-preserved : goal.loop-number-preserved
loop-number-preserved g c =
    let i = c.loop-number.invariant in
    let ms = c.loop-number.workers.items in
    let m : Worker g.row.J.Denot g.row.W.Denot =
    record {
      thief = c.in-Some-pop.thief;
      number = c.loop-number.number;
      own = c.in-Some.own;
      next = None;
      left = c.make.result;
      halted = false;
      refused = false;
    } in
    let pushed : c.push.new.self.items ≡ ms ++ m ∷ [] = c.in_ok-push.ensures.items in
    let a = ap length pushed in
    let b = c.in-Some.ensures.spare in
    record {
      count = i.count;
      rest_count = i.rest_count;
      enrolled = subst (λ xs. Enrolled c.args.owns.now.items c.in_ok-rest.rest.items xs c.pop.new.self.items c.pop-in-loop-number.new.self.items) (sym pushed)
          (one_enrolled c.args.owns.now.items c.in_ok-rest.rest.items ms c.loop-number.owns.items c.pop.new.self.items c.loop-number.rest.items
          c.pop-in-loop-number.new.self.items m
          c.in-Some.ensures.items c.in-Some-pop.ensures.items (sym i.at) (refl, (λ j. (c.make.ensures j).items), refl) i.enrolled);
      at = omega (arith, length-append ms (m ∷ []), i.at);
      spare = omega (arith, i.spare);
    }

pub returns : goal.returns
returns g c =
    let i = c.loop-number.invariant in
    let ms = c.loop-number.workers.items in
    let owns0 = c.args.owns.now.items in
    let thieves0 = c.in_ok-rest.rest.items in
    let n = enrolled_counts owns0 thieves0 ms c.loop-number.owns.items c.loop-number.rest.items i.enrolled in
    let n0 = n.0 in
    let n1 = n.1 in
    let at = i.at in
    let count = i.count in
    let rest_count = i.rest_count in
    let end = c.loop-number-test.false in
    let few = c.requires.1 in
    let some = c.requires.0 in
    let none = nil_from_length c.loop-number.owns.items (omega arith) in
    let none' = nil_from_length c.loop-number.rest.items (omega arith) in
    let spare = i.spare in (
      all_enrolled owns0 thieves0 ms c.loop-number.owns.items c.loop-number.rest.items none none' (omega arith)
          (omega arith) c.in_ok-rest.ensures.1 i.enrolled,
      none,
      omega arith,
    )
