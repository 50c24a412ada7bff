use Rattle.std.proofs.Common.{◌≡◌, ℕ, ◌<◌, length, List, [], ◌∷◌, ◌++◌, refl, sym, ap, ◌∙◌, subst, arith}
use Rattle.fut_base.specs.declared.record.Entry.{Entry}
use Rattle.fut_base.specs.Listed.{Listed}
use Rattle.trace_merge.specs.Placing.{AreApart, HavePlaces, entries_in}
use Rattle.trace_merge.proofs.Entering.{none_placed, apart_in, trace_placed, shift, no_rest}
use Rattle.trace_merge.proofs.place_all.Goals as goal

pub loop-trace-init : goal.loop-trace-init
loop-trace-init c = ([], refl, refl, none_placed c.args.places.now)

-- the entries of the trace that comes next are apart
apart_next : (count : ℕ) (all done traces rest : List (Listed (ℕ × Entry))) (t : Listed (ℕ × Entry)) → AreApart count (entries_in all) → done ++ traces ≡ all
    → traces ≡ t ∷ rest → AreApart count (entries_in (done ++ t ∷ rest))
apart_next count all done traces rest t apart parts first =
    subst (λ l. AreApart count (entries_in l)) (sym (ap (λ l. done ++ l) (sym first) ∙ parts)) apart

pub place_trace-requires : goal.place_trace-requires
place_trace-requires c =
    let (done, parts, size, have) = c.loop-trace.invariant in
    subst (λ n. record { apart : AreApart n c.in-Some.trace.items }) (sym size) record {
      apart = apart_in (length c.args.places.now) done c.pop.new.self.items c.in-Some.trace
          (apart_next (length c.args.places.now) c.args.traces.items done c.loop-trace.traces.items c.pop.new.self.items c.in-Some.trace c.requires.apart parts
          c.in-Some.ensures.items);
    }

pub loop-trace-smaller : goal.loop-trace-smaller
loop-trace-smaller c =
    let e = ap (λ (l : List (Listed (ℕ × Entry))). length l) c.in-Some.ensures.items in
    let z : length c.pop.new.self.items < length c.loop-trace.traces.items = omega (arith, e) in z

pub loop-trace-preserved : goal.loop-trace-preserved
loop-trace-preserved c =
    let (done, parts, size, have) = c.loop-trace.invariant in
    let t = c.in-Some.trace in
    let rest = c.pop.new.self.items in
    let first = c.in-Some.ensures.items in (
      done ++ t ∷ [],
      shift done rest t ∙ ap (λ l. done ++ l) (sym first) ∙ parts,
      c.place_trace.ensures.length ∙ size,
      trace_placed (length c.args.places.now) done rest t c.args.places.now c.loop-trace.places c.place_trace.new.places
          (apart_next (length c.args.places.now) c.args.traces.items done c.loop-trace.traces.items rest t c.requires.apart parts first) have c.place_trace.ensures.placed,
    )

pub returns-clause-placed : goal.returns-clause-placed
returns-clause-placed c =
    let (done, parts, size, have) = c.loop-trace.invariant in
    let all : done ≡ c.args.traces.items = sym (no_rest done) ∙ ap (λ l. done ++ l) (sym (c.in_default.ensures.none refl)) ∙ parts in
    subst (λ l. HavePlaces (entries_in l) c.args.places.now c.loop-trace.places) all have
