use Rattle.run_record.specs.RunText.{values_line}
use Rattle.run_record.proofs.PieceLemmas.{front_then, front_failed, call_front, call_splits}
use Rattle.run_record.proofs.run_text.write_call.Goals as goal

pub returns-in-All : goal.returns-in-All
returns-in-All g c =
    let a = c.args in
    front_then _ _ _ _ _ _ (call_front a.word.now a.code a.child a.kid a.cont) (values_line a.args.now.items) _ _
    (call_splits a.word.now a.code a.child a.kid a.cont a.args.now.items) c.in-All.ensures c.write_values.ensures

pub returns-in-Failed : goal.returns-in-Failed
returns-in-Failed g c =
    let a = c.args in
    front_failed _ _ _ _ (call_front a.word.now a.code a.child a.kid a.cont) (values_line a.args.now.items) _
    (call_splits a.word.now a.code a.child a.kid a.cont a.args.now.items) c.in-Failed.ensures
