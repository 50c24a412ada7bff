use Rattle.std.proofs.Common.{◌∙◌, map, sym, subst}
use Rattle.std.proofs.lemmas.Bool.{false≢true}
use Rattle.fut_base.specs.Events.{event_of, events_of}
use Rattle.task_machine.specs.Machine.{Machine}
use Rattle.run_replay.specs.Replays.{IsReplayOf}
use Rattle.run_check.proofs.Checked.{others_by}
use Rattle.fut_base.proofs.Reports.{one_report}
use Rattle.run_check.proofs.checking.check_run.Goals as goal

pub returns-then-not-same_races : goal.returns-then-not-same_races
returns-then-not-same_races c = λ P typed of.
    let code = c.args.code.now in
    let told = c.args.run.now in
    let h = events_of told.history in
    let k = subst (λ xs. (m : Machine) × IsReplayOf P code (map event_of xs) c.in_ok-made.made m) c.as_slice.ensures (c.in_ok-made.ensures P typed of) in
    let report = c.in-Ok.ensures P code h k.0 k.1 in
    others_by P code h c.in_ok-made.made k.0 told.races.items told.finish c.entries.result k.1 c.entries.ensures
    (λ those. false≢true
    (sym c.if-not-same_races.true
    ∙ c.same_races.ensures.1 (c.as_slice-2.ensures ∙ (one_report h c.in-Ok.races.items told.races.items report those.0 ∙ sym c.as_slice-3.ensures))))
