use Rattle.std.proofs.Common.{length, ap, ◌∙◌, arith}
use Rattle.fut_check.proofs.Wholes.{items_fit}
use Rattle.fut_causes.specs.declared.seek.Wanted.{Wanted}
use Rattle.fut_causes.specs.Seeking.{Seeking}
use Rattle.fut_causes.proofs.Wholes.{found_in, cause_is}
use Rattle.fut_causes.proofs.program.cause_of.Goals as goal

pub seek_items-requires : goal.seek_items-requires
seek_items-requires c =
    let fit = items_fit c.args.program.now c.requires c.as_slice-2.result.now c.as_slice-2.ensures in
    let at = ap (λ (s : Seeking). s.at) c.start-seek.ensures in
    let end = ap (λ (s : Seeking). s.end) c.start-seek.ensures in omega (arith, fit, at, end, ap length c.as_slice.ensures)

pub returns : goal.returns
returns c =
    let w : Wanted = record { places = c.as_slice.result; place = c.args.place; number = c.args.number } in
    let met = found_in c.args.program.now c.requires c.as_slice-2.result.now c.start-seek.result c.seek_items.new.seek _ w c.as_slice-2.ensures
    c.start-seek.ensures c.in_ok-seek_items.ensures
    in cause_is c.args.program.now c.requires w c.found.result c.as_slice.ensures (c.found.ensures ∙ met)
