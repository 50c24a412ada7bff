use Rattle.std.proofs.Common.{◌∙◌, refl}
use Rattle.fut_driver.proofs.Loading.{load_input}
use Rattle.fut_driver.proofs.judge.input_of.Goals as goal

pub returns-in-Ok-clause-input : goal.returns-in-Ok-clause-input
returns-in-Ok-clause-input g c =
    let load = c.in-Load in
    let both = load_input c.args.command load.side load.events load.workers load.is c.requires _ _ c.into_vec.result.items
    (c.into_vec.ensures ∙ c.in-Ok.ensures) in
    (both.0, both.1, refl)
