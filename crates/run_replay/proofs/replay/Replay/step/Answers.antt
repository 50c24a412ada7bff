use Rattle.std.proofs.Common.{◌∙◌, sym, subst}
use Rattle.fut_base.specs.declared.limits.TheConstants.{MOST_LOCAL_STEPS}
use Rattle.fut_base.specs.Events.{action_of, event_of}
use Rattle.task_machine.proofs.Places.{get_below}
use Rattle.task_code.specs.Tasks.{Wishes}
use Rattle.run_replay.proofs.Answering.{running_task, runs_at}
use Rattle.run_replay.proofs.Only.{none_runs, other_strand, too_long, must_wait, other_action, has_made}
use Rattle.run_replay.specs.Steps.{IsStepped}
use Rattle.run_replay.proofs.replay.Replay.step.Goals as goal
use Rattle.run_replay.proofs.replay.Replay.step.Goals.{in-Ok-take, in-Err}
use Rattle.std.proofs.lemmas.Bool.{false≢true}

pub returns-then-not-runs : goal.returns-then-not-runs
returns-then-not-runs c =
    λ P h m k. (none_runs P c.args.code.now h c.args.self.now m k (event_of c.args.entry.now) (sym c.runs.ensures ∙ c.if-not-runs.true), k)

pub returns-then-not-is_on : goal.returns-then-not-is_on
returns-then-not-is_on c =
    λ P h m k.
    (other_strand P c.args.code.now h c.args.self.now m k (event_of c.args.entry.now) (λ on. false≢true (sym c.if-not-is_on.true ∙ c.is_on.ensures.1 on)), k)

pub ask-wish-requires-clause-running : goal.ask-wish-requires-clause-running
ask-wish-requires-clause-running c = runs_at c.args.code.now c.args.self.now c.args.entry.now.task c.requires.known (sym c.runs.ensures ∙ c.if-not-runs.false)

pub returns-then-is_long : goal.returns-then-is_long
returns-then-is_long c = λ P h m k.
    let r = running_task P c.args.code.now h c.args.self.now m c.args.entry.now.task k (sym c.runs.ensures ∙ c.if-not-runs.false) in
    let w = c.ask-wish.ensures.wish P h m r.0 k r.1.0 in (
      too_long P m (event_of c.args.entry.now) r.0 r.1 (subst (λ z. Wishes P MOST_LOCAL_STEPS r.0.state z) (c.is_long.ensures.long c.if-is_long.true) w),
      c.ask-wish.ensures.still P h m k,
    )

pub waits-requires : goal.waits-requires
waits-requires c = let l = c.ask-wish.ensures.running in record { exists = get_below _ _ _ l.1 }

pub returns-in-Some : goal.returns-in-Some
returns-in-Some c = λ P h m k.
    let r = running_task P c.args.code.now h c.args.self.now m c.args.entry.now.task k (sym c.runs.ensures ∙ c.if-not-runs.false) in
    let w = c.ask-wish.ensures.wish P h m r.0 k r.1.0 in
    let still = c.ask-wish.ensures.still P h m k in
    (must_wait P m (event_of c.args.entry.now) r.0 c.ask-wish.result c.in-Some.field-0 r.1 w (c.in-Some.ensures P c.args.code.now h m r.0 still r.1.0), still)

pub act_of-requires-clause-still : goal.act_of-requires-clause-still
act_of-requires-clause-still c = c.ask-wish.ensures.stands (c.is_long.ensures.event c.if-is_long.false)

pub returns-then-not-same_act : goal.returns-then-not-same_act
returns-then-not-same_act c = λ P h m k.
    let r = running_task P c.args.code.now h c.args.self.now m c.args.entry.now.task k (sym c.runs.ensures ∙ c.if-not-runs.false) in
    let w = c.ask-wish.ensures.wish P h m r.0 k r.1.0 in
    let still = c.ask-wish.ensures.still P h m k in
    let can = c.in-Ok.ensures P h m r.0 still r.1.0 w (c.in_default.ensures P c.args.code.now h m r.0 still r.1.0) in (
      other_action P m (event_of c.args.entry.now) r.0 (action_of c.in-Ok.act) r.1 can
          (λ same. false≢true (sym c.if-not-same_act.true ∙ c.same_act.ensures.1 same)),
      still,
    )

pub take-requires-clause-legal : goal.take-requires-clause-legal
take-requires-clause-legal c =
    let (P, h, m, k) = c.requires.known in
    let r = running_task P c.args.code.now h c.args.self.now m c.args.entry.now.task k (sym c.runs.ensures ∙ c.if-not-runs.false) in
    let w = c.ask-wish.ensures.wish P h m r.0 k r.1.0 in
    let still = c.ask-wish.ensures.still P h m k in
    let can = c.in-Ok.ensures P h m r.0 still r.1.0 w (c.in_default.ensures P c.args.code.now h m r.0 still r.1.0) in
    record { program = P; history = h; machine = m; task = r.0; replay = still; running = r.1; can = can }

pub take-requires-clause-exists : goal.take-requires-clause-exists
take-requires-clause-exists c = let l = c.ask-wish.ensures.running in get_below _ _ _ l.1

pub take-requires-clause-still : goal.take-requires-clause-still
take-requires-clause-still c = c.ask-wish.ensures.stands (c.is_long.ensures.event c.if-is_long.false)

pub returns : goal.returns
returns c = λ P h m k.
    let r = running_task P c.args.code.now h c.args.self.now m c.args.entry.now.task k (sym c.runs.ensures ∙ c.if-not-runs.false) in
    let w = c.ask-wish.ensures.wish P h m r.0 k r.1.0 in
    let still = c.ask-wish.ensures.still P h m k in
    let e = event_of c.args.entry.now in
    let a = action_of c.in-Ok.act in
    let can = c.in-Ok.ensures P h m r.0 still r.1.0 w (c.in_default.ensures P c.args.code.now h m r.0 still r.1.0) in
    let stands = c.ask-wish.ensures.stands (c.is_long.ensures.event c.if-is_long.false) in
    elim c.match-take.branch [
      | in-Ok-take b ↦
          subst (λ z. IsStepped P c.args.code.now h m e c.take.new.self z) (sym b.result-is)
          (has_made P c.args.code.now h m c.args.self.now c.ask-wish.new.self c.take.new.self e (event_of b.in-Ok-take.field-0) a r.0 k still r.1
          (c.is_on.ensures.0 c.if-not-is_on.false) stands can (c.same_act.ensures.0 c.if-not-same_act.false) b.in-Ok-take.ensures.taken)
      | in-Err b ↦ subst (λ z. IsStepped P c.args.code.now h m e c.take.new.self z) (sym b.result-is) (b.in-Err.ensures.unchanged P h m still)
    ]
