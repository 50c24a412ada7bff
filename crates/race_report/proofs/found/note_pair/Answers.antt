use Rattle.std.proofs.Common.{◌≡◌, ℕ, false, map, sym, subst, refl, arith}
use Rattle.std.specs.Prelude.{Option, None, Some, is_some}
use Rattle.std.specs.Ordering.{nat_cmp}
use Rattle.std.specs.BTreeMap.{get, is_at}
use Rattle.std.proofs.lemmas.Bool.Decides.{nat_tests}
use Rattle.fut_base.specs.declared.record.Race.{Race}
use Rattle.fut_base.specs.Events.{event_of}
use Rattle.race_report.specs.Pairs.{IsLastPair}
use Rattle.race_report.proofs.Firsts.{no_pair, known_cell, new_cell}
use Rattle.race_report.proofs.found.note_pair.Goals as goal

none_from : (o : Option Race) → is_some o ≡ false → o ≡ None
none_from None h = refl
none_from (Some r) h = cc

apart : (k q : ℕ) → (q ≡ k → ⊥) → is_at (nat_cmp k) q ≡ false
apart k q h = grind (arith, nat_tests)

pub returns-in_ok-insert : goal.returns-in_ok-insert
returns-in_ok-insert c =
    let h = map event_of c.args.entries.now in
    let race = c.in-Some.race in
    let last : IsLastPair h c.args.place (Some race) = subst (λ o. IsLastPair h c.args.place o) c.in-Some.is c.in_ok-race.ensures in
    let updates = c.in_ok-insert.ensures.updates in
    new_cell h c.args.place race (get nat_cmp c.args.found.now) (get nat_cmp c.insert.new.self) last
    (none_from _ (sym c.if-not-contains_key.ensures)) updates.1 (λ q other. updates.2 q (apart race.cell q other))

pub returns-else-not-contains_key : goal.returns-else-not-contains_key
returns-else-not-contains_key c =
    let h = map event_of c.args.entries.now in
    let race = c.in-Some.race in
    let last : IsLastPair h c.args.place (Some race) = subst (λ o. IsLastPair h c.args.place o) c.in-Some.is c.in_ok-race.ensures in
    known_cell h c.args.place race (get nat_cmp c.args.found.now) last (sym c.if-not-contains_key.ensures)

pub returns-in_default : goal.returns-in_default
returns-in_default c =
    let h = map event_of c.args.entries.now in
    let found = get nat_cmp c.args.found.now in
    let last : IsLastPair h c.args.place None = subst (λ o. IsLastPair h c.args.place o) c.in_default.is c.in_ok-race.ensures in
    λ q before. no_pair h c.args.place q last (found q) before
