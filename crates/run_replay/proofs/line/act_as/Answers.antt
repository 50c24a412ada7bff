use Rattle.std.proofs.Common.{◌∙◌, ap, sym, subst}
use Rattle.fut_base.specs.Events.{action_of}
use Rattle.task_code.specs.declared.task.Spot.{Spot}
use Rattle.task_code.specs.Tasks.{IsStill}
use Rattle.run_replay.specs.Replays.{Fed}
use Rattle.run_replay.proofs.Asking.{ended_by}
use Rattle.run_replay.proofs.line.act_as.Goals as goal

pub returns : goal.returns
returns c =
    let code = c.args.code.now in
    let a = action_of c.args.entry.act in
    let same = c.change.ensures.task in
    let fed = c.feed.ensures in
    record {
      fed = λ runs still. (
          let runs' = ap (λ t. t.spot.ended) same ∙ runs in
          let still' = subst (λ t. IsStill code t) (sym same) still in
          subst (λ t. Fed code t c.feed.new.self a) same
          (record {
            which = fed.task.1;
            ended = ap (λ (p : Spot). p.ended) fed.spot ∙ ended_by a c.change.new.line.task.spot.ended runs';
            state = λ P typed of args s t x stands answers fits. fed.state P args s t of still' x runs' stands answers fits;
          }));
      strand = c.change.ensures.strand;
      future = c.change.ensures.future;
      block = c.change.ensures.block;
      value = c.change.ensures.value;
    }
