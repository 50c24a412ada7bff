use Rattle.std.proofs.Common.{ℕ, List, map, take, sym, subst}
use Rattle.std.specs.Prelude.{Option, None, Some, IsTrue, ◌↔◌}
use Rattle.std.proofs.lemmas.List.{take-map}
use Rattle.fut_base.specs.declared.record.Entry.{Entry}
use Rattle.fut_base.specs.Events.{event_of}
use Rattle.fut_base.specs.Dag.{AreJoinedBy}
use Rattle.race_report.specs.declared.pairs.Access.{Access}
use Rattle.race_report.specs.declared.search.Dag.{Dag}
use Rattle.race_report.specs.declared.search.Joined.{Joined}
use Rattle.race_report.specs.Edges.{ends_of}
use Rattle.race_report.specs.Search.{is_joined, IsDagOf}
use Rattle.race_report.specs.Pairs.{is_rival, IsLastPlace}
use Rattle.race_report.proofs.Accesses.{HasJoined}
use Rattle.race_report.proofs.Lasts.{no_partner, last_partner}
use Rattle.race_report.proofs.Places.{event_at}
use Rattle.race_report.proofs.pairs.last_pair.Goals as goal

has_joined : (entries : List Entry) (dag : Dag) (joined : Joined) (strand : ℕ) → IsDagOf entries dag
    → ((v : ℕ) → IsTrue (is_joined joined v) ↔ AreJoinedBy (map ends_of dag.onward.items) v strand) → HasJoined (map event_of entries) joined strand
has_joined entries dag joined strand is has =
    subst (λ es. (v : ℕ) → IsTrue (is_joined joined v) ↔ AreJoinedBy es v strand) is.onward has

within : (entries : List Entry) (place : ℕ) (access : Access) (joined : Joined) (o : Option ℕ)
    → IsLastPlace (is_rival access joined) (map event_of (take place entries)) o → IsLastPlace (is_rival access joined) (take place (map event_of entries)) o
within entries place access joined o last = subst (λ l. IsLastPlace (is_rival access joined) l o) (sym (take-map event_of place entries)) last

pub returns-in_default-partner : goal.returns-in_default-partner
returns-in_default-partner c =
    let entries = c.args.entries.now in
    let e = c.index-entries-place.result in
    let joined = c.in_ok-joined.joined in
    let access = c.in-Some.access in
    no_partner (map event_of entries) c.args.place (event_of e) (event_at entries c.args.place e c.requires.within c.index-entries-place.is) access
    (sym c.in-Some.ensures) joined (has_joined entries c.args.dag.now joined e.strand c.requires.dag c.in_ok-joined.ensures)
    (within entries c.args.place access joined None c.in_default-partner.ensures)

pub returns : goal.returns
returns c =
    let entries = c.args.entries.now in
    let e = c.index-entries-place.result in
    let joined = c.in_ok-joined.joined in
    let access = c.in-Some.access in
    last_partner (map event_of entries) c.args.place (event_of e) (event_at entries c.args.place e c.requires.within c.index-entries-place.is) access
    (sym c.in-Some.ensures) joined (has_joined entries c.args.dag.now joined e.strand c.requires.dag c.in_ok-joined.ensures) c.in-Some-partner.first
    (within entries c.args.place access joined (Some c.in-Some-partner.first) c.in-Some-partner.ensures)
