use Rattle.std.proofs.Common.{◌≡◌, ℕ, ◌<◌, length, List, [], ◌∷◌, ◌++◌, inl, refl, sym, ap, ◌∙◌, subst, arith}
use Rattle.fut_base.specs.declared.record.Entry.{Entry as Made}
use Rattle.fut_base.specs.Dag.{Among}
use Rattle.fut_base.proofs.Members.{among_right}
use Rattle.trace_merge.specs.Placing.{AreApart, HavePlaces}
use Rattle.trace_merge.proofs.Entering.{set_length, none_placed, one_placed, shift, no_rest}
use Rattle.trace_merge.proofs.place_trace.Goals as goal

pub loop-ticket-init : goal.loop-ticket-init
loop-ticket-init c = ([], refl, refl, none_placed c.args.places.now)

-- the ticket of the entry that comes next
below : (count : ℕ) (drawn done rest all : List (ℕ × Made)) (x : ℕ × Made) → AreApart count drawn → done ++ all ≡ drawn → all ≡ x ∷ rest → x.0 < count
below count drawn done rest all x apart parts first =
    apart.below x (subst (λ l. Among x l) (ap (λ l. done ++ l) (sym first) ∙ parts) (among_right x done (x ∷ rest) (inl refl)))

pub place-requires : goal.place-requires
place-requires c =
    let (done, parts, size, have) = c.loop-ticket.invariant in
    subst (λ n. c.in-Some.ticket < n) (sym size)
    (below (length c.args.places.now) c.args.trace.items done c.pop.new.self.items c.loop-ticket.trace.items (c.in-Some.ticket, c.in-Some.entry) c.requires.apart parts
    c.in-Some.ensures.first)

pub loop-ticket-smaller : goal.loop-ticket-smaller
loop-ticket-smaller c =
    let e = ap (λ (l : List (ℕ × Made)). length l) c.in-Some.ensures.first in
    let z : length c.pop.new.self.items < length c.loop-ticket.trace.items = omega (arith, e) in z

pub loop-ticket-preserved : goal.loop-ticket-preserved
loop-ticket-preserved c =
    let (done, parts, size, have) = c.loop-ticket.invariant in
    let x : ℕ × Made = (c.in-Some.ticket, c.in-Some.entry) in
    let rest = c.pop.new.self.items in
    let first = c.in-Some.ensures.first in
    let whole : done ++ x ∷ rest ≡ c.args.trace.items = ap (λ l. done ++ l) (sym first) ∙ parts in
    let less : x.0 < length c.loop-ticket.places =
    subst (λ n. x.0 < n) (sym size) (below (length c.args.places.now) c.args.trace.items done rest c.loop-ticket.trace.items x c.requires.apart parts first) in (
      done ++ x ∷ [],
      shift done rest x ∙ whole,
      ap (λ l. length l) c.place.ensures ∙ set_length c.loop-ticket.places x.0 _ ∙ size,
      subst (λ l. HavePlaces (done ++ x ∷ []) c.args.places.now l) (sym c.place.ensures)
          (one_placed (length c.args.places.now) c.args.trace.items done rest x c.args.places.now c.loop-ticket.places c.requires.apart whole less have),
    )

pub returns-clause-placed : goal.returns-clause-placed
returns-clause-placed c =
    let (done, parts, size, have) = c.loop-ticket.invariant in
    let all : done ≡ c.args.trace.items = sym (no_rest done) ∙ ap (λ l. done ++ l) (sym c.in_default.ensures.first.0) ∙ parts in
    subst (λ l. HavePlaces l c.args.places.now c.loop-ticket.places) all have
