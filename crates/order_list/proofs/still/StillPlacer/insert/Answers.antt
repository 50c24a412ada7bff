use Rattle.std.proofs.Common.{◌<◌, length, arith, sym, subst}
use Rattle.order_list.specs.Sides.{Lists}
use Rattle.order_list.proofs.Inserting.{grown_by_one}
use Rattle.order_list.proofs.still.StillPlacer.insert.Goals as goal

pub invariant_of-self : goal.invariant_of-self
invariant_of-self c =
    let lists = c.self.inside in
    let E : Lists → Type 0 = λ v. c.args.after_e.0 < length v.english.order in
    let H : Lists → Type 0 = λ v. c.args.after_h.0 < length v.hebrew.order in
    let h = c.insert_after.ensures in
    let e = c.insert_after-2.ensures in
    let more_h = grown_by_one _ _ _ _ h.was_kept.numbered (subst H (sym c.self.view_is) c.requires.h_in) h.order in
    let more_e = grown_by_one _ _ _ _ e.was_kept.numbered (subst E (sym c.self.view_is) c.requires.e_in) e.order in
    (omega (arith, c.self.invariant.0, more_e, more_h), omega (arith, c.self.invariant.1, e.room, h.room))
