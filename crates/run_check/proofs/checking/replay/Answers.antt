use Rattle.std.proofs.Common.{◌∙◌, List, length, take, map, refl, sym, subst, arith}
use Rattle.std.specs.Prelude.{Err}
use Rattle.std.proofs.lemmas.List.{length-map, length-take}
use Rattle.std.proofs.lemmas.Option.{slice_get_read}
use Rattle.fut_base.specs.declared.event.Event.{Event}
use Rattle.fut_base.specs.Events.{event_of}
use Rattle.race_finder.proofs.Following.{taken_all, taken_more}
use Rattle.run_replay.specs.Replays.{IsReplayOf}
use Rattle.run_replay.specs.Steps.{IsStepped}
use Rattle.run_check.proofs.Checked.{no_step_at}
use Rattle.run_check.proofs.checking.replay.Goals as goal

pub returns-in-Err-NotLegal : goal.returns-in-Err-NotLegal
returns-in-Err-NotLegal c = λ P typed of.
    let xs = c.args.entries.now in
    let i = c.loop-entry.entry-index in
    let x = c.entry-item.result in
    let k = c.loop-entry.invariant P typed of in
    let h = map event_of (take i xs) in
    let told = subst (λ s. IsStepped P c.args.code.now h k.0 (event_of x) c.step.new.self (Err s)) c.in-Err-NotLegal.field-0-is
    (c.in-Err-NotLegal.ensures P h k.0 k.1) in
    no_step_at P xs i c.entries.result x k.0 (omega arith) (c.entries.ensures ∙ told.1.entries)
    (slice_get_read xs (length xs) i x refl (omega arith) c.entry-item.is) k.1.leads told.0

pub loop-entry-preserved : goal.loop-entry-preserved
loop-entry-preserved c = λ P typed of.
    let xs = c.args.entries.now in
    let i = c.loop-entry.entry-index in
    let k = c.loop-entry.invariant P typed of in
    let made = c.in-Ok-step.ensures P (map event_of (take i xs)) k.0 k.1 in (
      made.0,
      subst (λ (h : List Event). IsReplayOf P c.args.code.now h c.step.new.self made.0)
          (sym (taken_more xs i c.entry-item.result (omega arith) c.entry-item.is)) made.2,
    )

pub returns : goal.returns
returns c = λ P typed of.
    let k = c.loop-entry.invariant P typed of in (
      k.0,
      subst (λ (h : List Event). IsReplayOf P c.args.code.now h c.loop-entry.run k.0)
          (taken_all c.args.entries.now c.loop-entry.entry-index (omega arith)) k.1,
    )

pub step-requires-clause-few : goal.step-requires-clause-few
step-requires-clause-few c =
    let (P, typed, of) = c.requires.program in
    let xs = c.args.entries.now in
    let i = c.loop-entry.entry-index in
    let k = c.loop-entry.invariant P typed of in
    let count = k.1.entries in
    let same = length-map (take i xs) event_of in
    let made = length-take i xs in
    let few = c.requires.few in
    omega (arith, count, same, made, few)
