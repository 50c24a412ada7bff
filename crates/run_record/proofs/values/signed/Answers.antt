use Rattle.std.proofs.Common.{◌++◌, ap, ◌∙◌, sym, subst, arith, refl}
use Rattle.std.proofs.lemmas.Result.{err_from_is_err_and}
use Rattle.run_record.specs.declared.digits.Kind.TheVariants as kind
use Rattle.run_record.proofs.Chains.{onward, onward_stops}
use Rattle.run_record.proofs.Cursors.{in_view, none_left}
use Rattle.run_record.proofs.Exits.{unsigned_opens, number_goes, number_short, plain_z}
use Rattle.std.specs.Fmt.{signed_decimal}
use Rattle.run_record.specs.Records.{IsSigned}
use Rattle.run_record.proofs.values.signed.Goals as goal

pub returns-in_err-number : goal.returns-in_err-number
returns-in_err-number c =
    let p = err_from_is_err_and c.from_residual.result c.from_residual.ensures.1 in
    let front = in_view c.args.cursor.now c.in-Some.byte (sym c.peek.ensures ∙ c.in-Some.is) in
    rw (p.1, p.2) (onward_stops (unsigned_opens c.in-Some.byte c.args.cursor.now _ c.if-byte-eq45.false front) c.in_err-number.ensures)

pub returns-in-None : goal.returns-in-None
returns-in-None c =
    let front = in_view c.args.cursor.now c.in-Some.byte (sym c.peek.ensures ∙ c.in-Some.is) in
    onward_stops (unsigned_opens c.in-Some.byte c.args.cursor.now _ c.if-byte-eq45.false front)
    (number_short kind.Positive _ c.args.cursor.now _ c.in_ok-number.ensures (none_left _ (sym c.peek-2.ensures ∙ c.in-None.is)))

pub returns-in-Some-peek : goal.returns-in-Some-peek
returns-in-Some-peek c =
    let n = c.in_ok-number.number in
    let d = c.in_ok-number.ensures in
    let front = in_view c.args.cursor.now c.in-Some.byte (sym c.peek.ensures ∙ c.in-Some.is) in
    let next = in_view c.number.new.cursor c.in-Some-peek.field-0 (sym c.peek-2.ensures ∙ c.in-Some-peek.is) in
    let same = plain_z n d.most in
    let small = d.most in (
      onward (unsigned_opens c.in-Some.byte c.args.cursor.now _ c.if-byte-eq45.false front)
          (number_goes kind.Positive n c.in-Some-peek.field-0 c.args.cursor.now c.number.new.cursor _ d next refl),
      d.text ∙ ap (λ z. signed_decimal z ++ c.number.new.cursor) (sym same),
      subst IsSigned (sym same) (omega (arith, small)),
    )
