use Rattle.run_place.proofs.Learning.{place_after}
use Rattle.run_place.proofs.place.Place.learn.Goals as goal

pub invariant_of-self : goal.invariant_of-self
invariant_of-self g c =
    place_after g.J.Run.clock g.J.Run.orders c.self.inside.at c.self.inside.reach c.self.inside.pass c.join.new.pass c.self.inside.reader c.join-2.new.reader
    c.args.pass.view c.args.reader.log c.self.invariant c.requires.alike c.join.ensures.told c.join.ensures.clock c.join-2.ensures.home c.join-2.ensures.knew
    c.join-2.ensures.other_knew c.join-2.ensures.either
