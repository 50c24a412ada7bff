use Rattle.std.proofs.Common.{[], ◌∷◌, ◌++◌, length, map, sym, ap, ◌∙◌, arith, append_assoc}
use Rattle.std.proofs.lemmas.List.{append-nil, nil_from_length}
use Rattle.std.specs.Vec.Iter.{into_iter_items}
use Rattle.steal_pool.specs.declared.worker.Worker.{Worker}
use Rattle.steal_pool.proofs.gather.return_owns.Goals as goal

pub loop-worker-init : goal.loop-worker-init
loop-worker-init g c =
    let e = ap length c.into_iter-rest.ensures.rest in
    record {
      done = λ i. c.requires.0 i ++ map (λ (m : Worker g.row.J.Denot g.row.W.Denot). m.own) (c.into_iter-rest.ensures.rest i);
      room = omega (arith, c.requires.1);
    }

pub push-requires : goal.push-requires
push-requires g c = let a = ap length c.in-Some.ensures.items in omega (arith, c.loop-worker.invariant.room)

pub loop-worker-smaller : goal.loop-worker-smaller
loop-worker-smaller g c = let a = ap length c.in-Some.ensures.items in omega arith

pub loop-worker-preserved : goal.loop-worker-preserved
loop-worker-preserved g c =
    let a = ap length c.in-Some.ensures.items in
    let f : Worker g.row.J.Denot g.row.W.Denot → g.row.W.Denot = λ m. m.own in
    let owns = c.loop-worker.owns.items in
    let rest = into_iter_items c.next.new.self in
    record {
      done = ap (λ o. o ++ map f rest) c.push.ensures.items
          ∙
          (append_assoc owns (c.in-Some.worker.own ∷ []) (map f rest)
          ∙ (ap (λ r. owns ++ map f r) (sym c.in-Some.ensures.items) ∙ c.loop-worker.invariant.done));
      room = omega (arith, c.loop-worker.invariant.room, c.push.ensures.spare);
    }

pub returns : goal.returns
returns g c =
    let f : Worker g.row.J.Denot g.row.W.Denot → g.row.W.Denot = λ m. m.own in
    let owns = c.loop-worker.owns.items in
    let none = nil_from_length (into_iter_items c.loop-worker.rest) (sym c.loop-worker.rest.rest.ok.0 ∙ c.in_default.ensures.cases.0) in
    sym (append-nil owns) ∙ (ap (λ r. owns ++ map f r) (sym none) ∙ c.loop-worker.invariant.done)
