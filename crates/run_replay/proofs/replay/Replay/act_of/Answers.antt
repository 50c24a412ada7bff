use Rattle.std.proofs.Common.{◌≡◌, ◌+◌, ◌∙◌, ap, sym, subst, length, inl, inr, arith, rules}
use Rattle.std.specs.Prelude.{Some}
use mir.Val.{to_z, of_z}
use Rattle.std.specs.Int.{w64}
use Rattle.std.proofs.lemmas.Int.{ints}
use Rattle.fut_base.specs.declared.limits.TheConstants.{MOST_LOCAL_STEPS}
use Rattle.run_replay.specs.Replays.{ReplayNow, IsFree}
use Rattle.task_code.specs.Tasks.{Wishes}
use Rattle.run_replay.proofs.Waiting.{can_read, can_spawn, can_create, can_get, got}
use Rattle.run_replay.proofs.replay.Replay.act_of.Goals as goal

pub returns-in-Read : goal.returns-in-Read
returns-in-Read c = λ P h m r k is w free.
    can_read P c.args.code.now h c.args.self.now m k r c.in-Read.cell _
    (λ v e. (let whole : to_z w64 (of_z w64 c.cell.result) ≡ c.cell.result = search (rules, ints) in whole ∙ c.cell.ensures v e))
    (subst (λ z. Wishes P MOST_LOCAL_STEPS r.state z) c.in-Read.is w)

pub returns-in_ok-args-in-Spawn : goal.returns-in_ok-args-in-Spawn
returns-in_ok-args-in-Spawn c = λ P h m r k is w free.
    let len = c.len-child.ensures in
    let size : c.len-child.result ≡ length c.self.inside.lines.items = omega (arith, len) in
    can_spawn P c.args.code.now h c.args.self.now m k r c.in-Spawn.which _ _ _ c.in_ok-args-in-Spawn.field-0.items
    (size ∙ ap (λ (v : ReplayNow). length v.lines) c.self.view_is) (ap (λ (v : ReplayNow). v.strands) c.self.view_is)
    (ap (λ (v : ReplayNow). v.strands + 1) c.self.view_is)
    (λ stop given at e. c.in_ok-args-in-Spawn.ensures P h m r stop c.in-Spawn.which given k is at (inl e))
    (subst (λ z. Wishes P MOST_LOCAL_STEPS r.state z) c.in-Spawn.is w)

pub returns-in_ok-args-in-Create : goal.returns-in_ok-args-in-Create
returns-in_ok-args-in-Create c = λ P h m r k is w free.
    let len = c.len-child.ensures in
    let size : c.len-child.result ≡ length c.self.inside.lines.items = omega (arith, len) in
    can_create P c.args.code.now h c.args.self.now m k r c.in-Create.which _ _ _ c.in_ok-args-in-Create.field-0.items
    (size ∙ ap (λ (v : ReplayNow). length v.lines) c.self.view_is) (ap (λ (v : ReplayNow). v.strands) c.self.view_is)
    (ap (λ (v : ReplayNow). v.strands + 1) c.self.view_is)
    (λ stop given at e. c.in_ok-args-in-Create.ensures P h m r stop c.in-Create.which given k is at (inr e))
    (subst (λ z. Wishes P MOST_LOCAL_STEPS r.state z) c.in-Create.is w)

pub returns-in-Get : goal.returns-in-Get
returns-in-Get c = λ P h m r k is w free.
    let v = got P c.args.code.now h c.args.self.now m k c.in-Get.future (subst (λ z. IsFree m r z) c.in-Get.is free) in
    can_get P c.args.code.now h c.args.self.now m k r c.in-Get.future _ _ (ap (λ (v : ReplayNow). v.strands) c.self.view_is)
    (v.1 ∙ ap (λ z. Some z) (sym (c.got.ensures v.0 v.1))) (subst (λ z. Wishes P MOST_LOCAL_STEPS r.state z) c.in-Get.is w)
