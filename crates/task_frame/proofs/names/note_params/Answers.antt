use Rattle.std.proofs.Common.{subst}
use Rattle.fut_syntax.specs.Views.{type_tree}
use Rattle.task_frame.specs.Gathered.{Has, room_of}
use Rattle.task_frame.proofs.Gathering.{widens_on, params_step}
use Rattle.task_frame.proofs.names.note_params.Goals as goal

pub loop-param-preserved : goal.loop-param-preserved
loop-param-preserved c =
    let h = c.loop-param.invariant in
    let own = c.in_ok-note.ensures in
    let p = c.param-item.result in
    let new = c.note.new.names.items in
    let has : Has new p.name (room_of (type_tree p.kind)) =
    subst (λ w. Has new w (room_of (type_tree p.kind))) c.as_slice.ensures (subst (λ n. Has new c.as_slice.result.now n) c.room_for.ensures own.has) in
    record {
      has = params_step c.loop-param.names.items new c.args.params.now c.loop-param.param-index p c.loop-param-test.true c.param-item.is h.has has own.more;
      more = widens_on c.args.names.now.items c.loop-param.names.items new c.loop-param.param-index 1 h.more own.more;
    }
