use Rattle.std.proofs.Common.{◌∙◌, sym}
use Rattle.std.proofs.lemmas.Slice.Eq.{slice_eq-Decides}
use Rattle.fut_base.proofs.Values.{value_decides}
use Rattle.fut_base.proofs.acts.same_args.Goals as goal

pub returns : goal.returns
returns c =
    let d = slice_eq-Decides value_decides c.as_slice.result.now c.as_slice-2.result.now c.eq.result c.eq.ensures in
    let a = c.as_slice.ensures in
    let b = c.as_slice-2.ensures in
    (λ h. sym a ∙ (d.0 h ∙ b), λ e. d.1 (a ∙ (e ∙ sym b)))
