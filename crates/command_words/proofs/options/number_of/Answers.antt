use Rattle.std.proofs.Common.{◌≡◌, ◌∙◌, sym, arith, inl, inr, true, false, Ok, Err, bytes_eq, decimal}
use Rattle.std.proofs.lemmas.Slice.Eq.{bytes_eq-Decides}
use Rattle.command_words.proofs.Choosing.{read_number}
use Rattle.command_words.proofs.options.number_of.Goals as goal

pub returns-in_default : goal.returns-in_default
returns-in_default c = λ n b e.
    let r = read_number c.args.most n c.as_str.result.now c.parse.result (omega (arith, c.well_formed.1)) b
    (c.as_str.ensures.value ∙ e) c.parse.ensures.value.0 in
    c.in_default.not-Ok n r

pub returns-then-n-eq0 : goal.returns-then-n-eq0
returns-then-n-eq0 c = λ n b e.
    let r = read_number c.args.most n c.as_str.result.now c.parse.result (omega (arith, c.well_formed.1)) b
    (c.as_str.ensures.value ∙ e) c.parse.ensures.value.0 in
    let same : c.in-Ok.n ≡ n = (let q : Ok c.in-Ok.n ≡ Ok n = sym c.in-Ok.is ∙ r in cc) in
    elim c.then-n-eq0.either [ inl z ↦ omega (arith, b.0, same, z) | inr z ↦ omega (arith, b.1, same, z.1) ]

pub returns-else-eq : goal.returns-else-eq
returns-else-eq c = λ n b e.
    let r = read_number c.args.most n c.as_str.result.now c.parse.result (omega (arith, c.well_formed.1)) b
    (c.as_str.ensures.value ∙ e) c.parse.ensures.value.0 in
    let same : c.in-Ok.n ≡ n = (let q : Ok c.in-Ok.n ≡ Ok n = sym c.in-Ok.is ∙ r in cc) in
    let text : c.format.result.now ≡ c.as_str-2.result.now =
    c.format.ensures.text ∙ Rattle.std.proofs.Common.ap decimal same ∙ sym e ∙ sym c.as_str-2.ensures.value in
    let equal : bytes_eq c.format.result.now c.as_str-2.result.now ≡ true = (bytes_eq-Decides c.format.result.now c.as_str-2.result.now).1 text in
    let differ : c.eq.result ≡ true = c.eq.ensures ∙ equal in
    let both : true ≡ false = sym differ ∙ c.if-eq.false in cc
