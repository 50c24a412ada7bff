use Rattle.std.proofs.Common.{◌∷◌, ap, ◌∙◌, sym}
use Rattle.run_record.proofs.Cursors.{in_view, digits_read}
use Rattle.run_record.proofs.digits.number.Goals as goal

pub returns : goal.returns
returns c =
    let x = c.in-Some.byte in
    let front = in_view c.args.cursor.now x (sym c.peek.ensures ∙ c.in-Some.is) ∙ ap (λ q. x ∷ q) (sym c.bump.ensures) in
    digits_read c.args.kind x c.grow.result c.args.cursor.now c.bump.new.self c.grow.new.cursor front c.if-byte-lt48.false c.if-byte-gt57.false c.grow.ensures
