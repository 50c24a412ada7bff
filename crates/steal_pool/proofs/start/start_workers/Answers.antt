use Rattle.std.proofs.Common.{◌≡◌, [], ◌∷◌, get_or, ap, ◌∙◌, arith}
use Rattle.std.proofs.lemmas.List.{get_or_default}
use Rattle.steal_pool.specs.declared.worker.Worker.{Worker}
use Rattle.steal_pool.specs.Balance.{with_put}
use Rattle.steal_pool.specs.Deques.{own_tally, own_id}
use Rattle.steal_pool.proofs.Starts.{started}
use Rattle.steal_pool.proofs.start.start_workers.Goals as goal

pub index_mut-requires : goal.index_mut-requires
index_mut-requires g c = let s = c.in_ok-workers.ensures.0.some in let o = c.in_ok-workers.workers.ok.0 in omega arith

pub returns : goal.returns
returns g c =
    let start = c.in_ok-workers.ensures.0 in
    let items = c.in_ok-workers.workers.items in
    let now = c.index_mut.result.now in
    let m : Worker g.row.J.Denot g.row.W.Denot = record now { thief = c.push.new.self } in
    let e : now ≡ get_or items 0 m = c.index_mut.ensures.value ∙ get_or_default items 0 now m start.some in
    let p = c.in_default.ensures in (
      started c.args.owns.now.items items m c.args.first start (p.victims ∙ ap (λ (x : Worker _ _). x.thief.victims) e)
          (p.same.0 ∙ ap (λ (x : Worker _ _). own_id x.thief.own) e)
          (p.rule ∙ ap (λ (x : Worker _ _). with_put (own_tally x.thief.own) (c.args.first ∷ [])) e) (ap (λ (x : Worker _ _). x.number) e)
          (ap (λ (x : Worker _ _). x.own) e) (ap (λ (x : Worker _ _). x.next) e)
          (ap (λ (x : Worker _ _). x.left) e) (ap (λ (x : Worker _ _). x.halted) e),
      c.in_ok-workers.ensures.1,
      c.in_ok-workers.ensures.2,
    )
