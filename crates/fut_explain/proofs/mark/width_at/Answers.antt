use Rattle.std.proofs.Common.{arith}
use Rattle.std.proofs.lemmas.Option.{slice_get_within}
use Rattle.fut_explain.proofs.Finding.{has_place, width_there}
use Rattle.fut_explain.proofs.mark.width_at.Goals as goal

pub index_of-at-requires : goal.index_of-at-requires
index_of-at-requires c =
    let lexed = c.in_ok-lexed.lexed in
    rw c.as_slice.ensures.value
    (has_place c.args.text.now c.args.place lexed.tokens.items lexed.places.items c.in_ok-lexed.ensures.tokens c.requires.here)

pub index-requires : goal.index-requires
index-requires c =
    let lexed = c.in_ok-lexed.lexed in
    let within = slice_get_within lexed.places.items c.index_of-at.result c.args.place (rw c.as_slice.ensures.value at c.index_of-at.ensures) in
    omega (arith, within, c.in_ok-lexed.ensures.paired, lexed.tokens.ok.0)

pub returns : goal.returns
returns c =
    let lexed = c.in_ok-lexed.lexed in
    width_there c.args.text.now c.args.place lexed.tokens.items lexed.places.items c.index_of-at.result c.index.result.now c.token_width.result
    c.in_ok-lexed.ensures.tokens (rw c.as_slice.ensures.value at c.index_of-at.ensures) c.in_ok-lexed.ensures.paired c.index.ensures c.token_width.ensures
