use Rattle.std.proofs.Common.{◌≡◌, ◌<◌, ◌≤◌, ◌∙◌, ap, refl, subst, length, true}
use Rattle.task_machine.specs.Machine.{create_count}
use Rattle.run_replay.specs.Next.{is_create}
use Rattle.run_replay.specs.Replays.{ReplayNow}
use Rattle.run_replay.proofs.Answering.{waiting, not_full, allowed}
use Rattle.run_replay.proofs.replay.Replay.bar.Goals as goal

pub returns-in-Some : goal.returns-in-Some
returns-in-Some c = λ P code h m r k run w.
    let few : is_create c.args.wish ≡ true → create_count h < c.args.limits.futures =
    λ is. subst (λ n. n < c.args.limits.futures) k.creates (c.is_full.ensures.few c.if-is_full.false is) in (
      waiting P m c.args.task r c.args.wish c.in-Some.future run w (c.in-Some.ensures P code h m r k run.0),
      not_full P c.args.limits h m c.args.task r c.args.wish run w few,
    )

pub returns-then-self-limits : goal.returns-then-self-limits
returns-then-self-limits c = λ P code h m r k run w.
    let few : is_create c.args.wish ≡ true → create_count h < c.args.limits.futures =
    λ is. subst (λ n. n < c.args.limits.futures) k.creates (c.is_full.ensures.few c.if-is_full.false is) in
    let entries = ap (λ (v : ReplayNow). v.entries) c.self.view_is ∙ k.entries in
    let many : c.args.limits.events ≤ length h = subst (λ n. c.args.limits.events ≤ n) entries c.if-self-limits.true in (
      refl,
      many,
      allowed P code h c.args.self.now m c.args.task r c.args.wish k run (c.is_long.ensures.event c.if-is_long.false)
          (c.in_default.ensures P code h m r k run.0) w,
      not_full P c.args.limits h m c.args.task r c.args.wish run w few,
    )
