use Rattle.fut_base.specs.Events.{event_of}
use Rattle.run_record.specs.RunText.{action_line}
use Rattle.run_record.proofs.PieceLemmas.{front_then, front_failed, entry_front, entry_splits}
use Rattle.run_record.proofs.run_text.write_entry.Goals as goal

pub returns-in-All : goal.returns-in-All
returns-in-All g c =
    let e = event_of c.args.entry.now in
    front_then _ _ _ _ _ _ (entry_front c.args.place e) (action_line e.action) _ _ (entry_splits c.args.place e) c.in-All.ensures c.write_act.ensures

pub returns-in-Failed : goal.returns-in-Failed
returns-in-Failed g c =
    let e = event_of c.args.entry.now in
    front_failed _ _ _ _ (entry_front c.args.place e) (action_line e.action) _ (entry_splits c.args.place e) c.in-Failed.ensures
