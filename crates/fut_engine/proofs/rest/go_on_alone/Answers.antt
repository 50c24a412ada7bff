use Rattle.std.proofs.Common.{◌≡◌, subst, sym, arith}
use Rattle.fut_base.specs.Events.{events_of}
use Rattle.fut_base.specs.declared.record.Ran.{Ran}
use Rattle.fut_syntax.specs.Trees as tree
use Rattle.fut_check.specs.Items.{IsWellTyped}
use Rattle.task_code.specs.Flat.{IsCodeOf}
use Rattle.run_replay.specs.Serials.{IsNeverStuck}
use Rattle.run_replay.proofs.Answering.{if_ok}
use Rattle.run_replay.proofs.Serially.{never_stuck}
use Rattle.fut_engine.specs.Going.{GoesFirst, HasTurned}
use Rattle.fut_engine.specs.Runs.{IsRun}
use Rattle.fut_engine.proofs.Going.{run_of, run_as}
use Rattle.fut_engine.proofs.rest.go_on_alone.Goals as goal

pub finished-requires : goal.finished-requires
finished-requires c =
    let (P, typed, of) = c.requires.name.program in
    let start = events_of c.args.history in
    let turned =
    subst
    (λ o. HasTurned c.args.code.now c.args.limits start (events_of c.loop-turn.history)
    (events_of c.go_first.new.history) c.go_first.new.run o) c.in-Some.is (c.in_ok-finish.ensures start c.loop-turn.invariant.goes) in
    let y = turned P typed of in
    record { known = (P, c.args.code.now, y.0.machine, y.0.replay) }

pub returns-in-Some-clause-run : goal.returns-in-Some-clause-run
returns-in-Some-clause-run c =
    let code = c.args.code.now in
    let limits = c.args.limits in
    let start = events_of c.args.history in
    let h = events_of c.go_first.new.history in
    let f = c.in-Some.finish in
    let turned = subst (λ o. HasTurned code limits start (events_of c.loop-turn.history) h c.go_first.new.run o) c.in-Some.is
    (c.in_ok-finish.ensures start c.loop-turn.invariant.goes) in
    let goes : (ran : Ran) → (events_of ran.history ≡ h) × (ran.finish ≡ f) × (ran.cells.items ≡ c.go_first.new.run.cells)
    → (P : tree.Program) → IsWellTyped P → IsCodeOf P code → IsRun P limits (events_of ran.history) ran.finish ran.cells.items = λ ran says P typed of.
    (let y = turned P typed of in
    run_as P limits h (events_of ran.history) f ran.finish c.go_first.new.run.cells ran.cells.items says.0 says.1 says.2
    (run_of P code limits start h c.go_first.new.run y.0 f c.requires.name.futures y.1)) in
    if_ok c.finished.result (λ ran. (events_of ran.history ≡ h) × (ran.finish ≡ f) × (ran.cells.items ≡ c.go_first.new.run.cells))
    (λ ran. (P : tree.Program) → IsWellTyped P → IsCodeOf P code → IsRun P limits
    (events_of ran.history) ran.finish ran.cells.items) goes c.finished.ensures.run

pub returns-in-Some-clause-goes : goal.returns-in-Some-clause-goes
returns-in-Some-clause-goes c =
    let code = c.args.code.now in
    let start = events_of c.args.history in
    let h = events_of c.go_first.new.history in
    let f = c.in-Some.finish in
    let turned = subst (λ o. HasTurned code c.args.limits start (events_of c.loop-turn.history) h c.go_first.new.run o) c.in-Some.is
    (c.in_ok-finish.ensures start c.loop-turn.invariant.goes) in
    let goes : (ran : Ran) → (events_of ran.history ≡ h) × (ran.finish ≡ f) × (ran.cells.items ≡ c.go_first.new.run.cells)
    → (P : tree.Program) → IsWellTyped P → IsCodeOf P code → GoesFirst P start (events_of ran.history) = λ ran says P typed of.
    subst (λ g. GoesFirst P start g) (sym says.0) (turned P typed of).0.goes in
    if_ok c.finished.result (λ ran. (events_of ran.history ≡ h) × (ran.finish ≡ f) × (ran.cells.items ≡ c.go_first.new.run.cells))
    (λ ran. (P : tree.Program) → IsWellTyped P → IsCodeOf P code → GoesFirst P start (events_of ran.history)) goes c.finished.ensures.run

pub returns-in-Some-clause-never_stuck : goal.returns-in-Some-clause-never_stuck
returns-in-Some-clause-never_stuck c =
    let code = c.args.code.now in
    let start = events_of c.args.history in
    let h = events_of c.go_first.new.history in
    let f = c.in-Some.finish in
    let turned = subst (λ o. HasTurned code c.args.limits start (events_of c.loop-turn.history) h c.go_first.new.run o) c.in-Some.is
    (c.in_ok-finish.ensures start c.loop-turn.invariant.goes) in
    let goes : (ran : Ran) → (events_of ran.history ≡ h) × (ran.finish ≡ f) × (ran.cells.items ≡ c.go_first.new.run.cells)
    → (P : tree.Program) → IsWellTyped P → IsCodeOf P code → IsNeverStuck P (events_of ran.history) = λ ran says P typed of.
    (let y = (turned P typed of).0 in
    subst (IsNeverStuck P) (sym says.0) (never_stuck P h y.machine typed y.replay.leads)) in
    if_ok c.finished.result (λ ran. (events_of ran.history ≡ h) × (ran.finish ≡ f) × (ran.cells.items ≡ c.go_first.new.run.cells))
    (λ ran. (P : tree.Program) → IsWellTyped P → IsCodeOf P code → IsNeverStuck P (events_of ran.history)) goes c.finished.ensures.run

pub loop-turn-preserved : goal.loop-turn-preserved
loop-turn-preserved c =
    let start = events_of c.args.history in
    let t =
    subst
    (λ o. HasTurned c.args.code.now c.args.limits start (events_of c.loop-turn.history)
    (events_of c.go_first.new.history) c.go_first.new.run o) c.in_default.is (c.in_ok-finish.ensures start c.loop-turn.invariant.goes) in
    let count = c.loop-turn.invariant.count in
    let more = t.0 in
    record { count = omega (arith, more, count); goes = t.1 }
