use Rattle.std.proofs.Common.{[], ◌∷◌, inl, refl, sym, subst}
use Rattle.fut_base.specs.Dag.{Among}
use Rattle.fut_base.proofs.Members.{among_left, among_right}
use Rattle.run_book.proofs.finishing.Parked.pop.Goals as goal

pub into_waiting-requires : goal.into_waiting-requires
into_waiting-requires g c j a =
    let l = c.in_ok-line.line in
    c.self.invariant l j (subst (λ ls. Among l ls) (sym c.in_ok-line.ensures.items) (among_right l c.pop.new.self.items (l ∷ []) (inl refl))) a

pub invariant_of-self-2 : goal.invariant_of-self-2
invariant_of-self-2 g c l j a b =
    c.self.invariant l j (subst (λ ls. Among l ls) (sym c.in_ok-line.ensures.items) (among_left l c.pop.new.self.items (c.in_ok-line.line ∷ []) a)) b
