-- The race of a place with its greatest earlier partner.
use Rattle.std.proofs.Common.{◌≡◌, ℕ, true, List, take, refl, sym, ◌∙◌, subst, inl, inr}
use Rattle.std.specs.Prelude.{slice_get, Some, None}
use Rattle.std.proofs.lemmas.Bool.{cases_lt, both_ways}
use Rattle.std.proofs.lemmas.Option.{none-some}
use Rattle.fut_base.specs.declared.event.Event.{Event}
use Rattle.fut_base.specs.Racing.{IsAccess, AreRacing, PlacesRace}
use Rattle.race_report.specs.declared.pairs.Access.{Access}
use Rattle.race_report.specs.declared.search.Joined.{Joined}
use Rattle.race_report.specs.Pairs.{access_of, is_rival, IsLastPlace, IsLastPair}
use Rattle.race_report.proofs.Places.{same_at, below_take, from_take, to_take}
use Rattle.race_report.proofs.Accesses.{makes, made, HasJoined, rival_races, races_rival}

-- an event that accesses nothing has no partner
pub no_access : (h : List Event) (j : ℕ) (b : Event) → slice_get h j ≡ Some b → access_of b.action ≡ None → (c i : ℕ) → PlacesRace h c i j → ⊥
no_access h j b at none c i race =
    let P : Event → Type 0 = λ e. IsAccess c e.action in
    let access = made b.action c (subst P (same_at h j race.events.1 b race.events.3 at) race.events.4.other) in
    none-some access.0 (sym none ∙ access.1)

module _ (h : List Event) (j : ℕ) (b : Event) (at : slice_get h j ≡ Some b) (access : Access) (is : access_of b.action ≡ Some access) (joined : Joined)
    (has : HasJoined h joined b.strand) where
  partner_of : (c i : ℕ) (race : PlacesRace h c i j) → is_rival access joined race.events.0 ≡ true
  partner_of c i race =
      let P : Event → Type 0 = λ e. AreRacing h c race.events.0 e in
      races_rival h c race.events.0 b access joined (makes b.action access is) has (subst P (same_at h j race.events.1 b race.events.3 at) race.events.4)

  cell_of : (c i : ℕ) → PlacesRace h c i j → c ≡ access.cell
  cell_of c i race =
      let P : Event → Type 0 = λ e. IsAccess c e.action in
      sym ((makes b.action access is).only c (subst P (same_at h j race.events.1 b race.events.3 at) race.events.4.other))

  pub no_partner : IsLastPlace (is_rival access joined) (take j h) None → IsLastPair h j None
  no_partner none c i race =
      both_ways (is_rival access joined race.events.0) (none i race.events.0 (to_take h j i race.events.0 race.order race.events.2)) (partner_of c i race)

  pub last_partner : (i : ℕ) → IsLastPlace (is_rival access joined) (take j h) (Some i)
      → IsLastPair h j (Some (record { cell = access.cell; first = i; second = j }))
  last_partner i last = (
    refl,
    record {
      order = below_take h j i last.0 last.1;
      events = (last.0, b, from_take h j i last.0 last.1, at, rival_races h last.0 b access joined (makes b.action access is) has last.2);
    },
    λ c m race. (
      cell_of c m race,
      elim (cases_lt i m) [
        | inl later ↦
            absurd
            (both_ways (is_rival access joined race.events.0) (last.3 m race.events.0 later (to_take h j m race.events.0 race.order race.events.2))
            (partner_of c m race))
        | inr le ↦ le
      ],
    ),
  )
