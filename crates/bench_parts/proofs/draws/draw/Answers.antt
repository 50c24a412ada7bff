use Rattle.bench_parts.proofs.Drawing.{still_draws}
use Rattle.bench_parts.proofs.draws.draw.Goals as goal

pub pass-requires : goal.pass-requires
pass-requires c =
    let drawn = c.draw-drawn.ensures in
    still_draws c.args.clock.now c.args.holder.now c.draw-drawn.new.holder c.args.task _ c.draw-drawn.result c.requires drawn.clock drawn.drawn
