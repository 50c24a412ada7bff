use Rattle.std.proofs.Common.{◌<◌, length, arith, sym, subst}
use Rattle.race_finder.specs.Places.{Placed}
use Rattle.race_finder.proofs.Placing.{placed_more}
use Rattle.race_finder.proofs.places.PlacesPlacer.insert.Goals as goal

pub invariant_of-self : goal.invariant_of-self
invariant_of-self c =
    let E : Placed → Type 0 = λ v. c.args.after_e.0 < length v.english in
    let H : Placed → Type 0 = λ v. c.args.after_h.0 < length v.hebrew in
    let e = subst E (sym c.self.view_is) c.requires.e_in in
    let h = subst H (sym c.self.view_is) c.requires.h_in in
    let s = c.insert-item.ensures in
    placed_more c.self.inside.lists c.insert-item.new.self c.self.inside.placed.items _ _ _ c.self.inside.capacity c.insert-item.result.0
    (record { english = c.args.after_e; hebrew = c.args.after_h }) c.self.invariant e (omega (arith, h, s.was_kept.count))
    (record { english = s.english; hebrew = s.hebrew; was = s.was_kept; now = s.kept }) c.push_reserved.ensures.items c.push_reserved.ensures.capacity
