-- The code's tests of accesses, and the definition of a race.
use Rattle.std.proofs.Common.{◌≡◌, ℕ, true, false, refl, sym, ◌∙◌, ap, subst, inl, inr, ◌⊎◌, eq-eqb}
use Rattle.std.specs.Prelude.{Option, Some, None, List, not, ◌||◌, ◌==◌, IsTrue, ◌↔◌}
use Rattle.std.proofs.lemmas.Bool.{false≢true, and_parts, and_from, or_cases, or_left, or_right}
use Rattle.std.proofs.lemmas.Bool.{eqb-true, not-true, not_from_false, false_from_ne_true, both_ways}
use Rattle.std.proofs.lemmas.Option.{none-some, same_Some}
use Rattle.fut_base.specs.declared.event.Event.{Event}
use Rattle.fut_base.specs.declared.event.Action.{Action}
use Rattle.fut_base.specs.declared.event.Action.TheVariants.{Reads, Writes, Spawns, Creates, Syncs, Gets, Ends}
use Rattle.fut_base.specs.Dag.{AreJoined}
use Rattle.fut_base.specs.Racing.{IsAccess, IsWrite, AreRacing}
use Rattle.race_report.specs.declared.pairs.Access.{Access}
use Rattle.race_report.specs.declared.search.Joined.{Joined}
use Rattle.race_report.specs.Search.{is_joined}
use Rattle.race_report.specs.Pairs.{access_of, is_conflict, is_rival}

-- the action makes this access and no other
pub record Makes (act : Action) (access : Access) : Type 0 where
  pub at : IsAccess access.cell act
  pub writes : access.writes ≡ true → IsWrite act
  pub wrote : IsWrite act → access.writes ≡ true
  pub only : (c : ℕ) → IsAccess c act → access.cell ≡ c

pub makes : (act : Action) (access : Access) → access_of act ≡ Some access → Makes act access
makes (Reads cell value) access e =
    subst (Makes (Reads cell value)) (same_Some _ access e) (record { at = refl; writes = λ w. absurd (false≢true w); wrote = λ w. absurd w; only = λ c h. h })
makes (Writes cell value) access e =
    subst (Makes (Writes cell value)) (same_Some _ access e) (record { at = refl; writes = λ w. tt; wrote = λ w. refl; only = λ c h. h })
makes (Spawns _ _ _ _ _) access e = absurd (none-some access e)
makes (Creates _ _ _ _ _) access e = absurd (none-some access e)
makes (Syncs _) access e = absurd (none-some access e)
makes (Gets _ _ _) access e = absurd (none-some access e)
makes (Ends _) access e = absurd (none-some access e)

pub made : (act : Action) (c : ℕ) → IsAccess c act → (access : Access) × (access_of act ≡ Some access)
made (Reads cell value) c h = (record { cell = cell; writes = false }, refl)
made (Writes cell value) c h = (record { cell = cell; writes = true }, refl)
made (Spawns _ _ _ _ _) c h = absurd h
made (Creates _ _ _ _ _) c h = absurd h
made (Syncs _) c h = absurd h
made (Gets _ _ _) c h = absurd h
made (Ends _) c h = absurd h

conflict_parts : (access : Access) (o : Option Access) → is_conflict access o ≡ true
    → (other : Access) × (o ≡ Some other) × (other.cell ≡ access.cell) × ((other.writes ≡ true) ⊎ (access.writes ≡ true))
conflict_parts access None h = absurd (false≢true h)
conflict_parts access (Some other) h =
    let both = and_parts (other.cell == access.cell) (other.writes || access.writes) h in
    (other, refl, eqb-true other.cell access.cell both.0, or_cases other.writes access.writes both.1)

conflict_from : (access other : Access) → other.cell ≡ access.cell → (other.writes ≡ true) ⊎ (access.writes ≡ true) → is_conflict access (Some other) ≡ true
conflict_from access other same writes =
    and_from (other.cell == access.cell) (other.writes || access.writes) (eq-eqb other.cell access.cell same) (elim writes [
      | inl w ↦ or_left other.writes access.writes w
      | inr w ↦ or_right other.writes access.writes w
    ])

-- the set has the strands that are joined with this one
abbrev pub HasJoined : List Event → Joined → ℕ → Type 0
HasJoined h joined strand = (v : ℕ) → IsTrue (is_joined joined v) ↔ AreJoined h v strand

pub rival_races : (h : List Event) (a b : Event) (access : Access) (joined : Joined) → Makes b.action access → HasJoined h joined b.strand
    → is_rival access joined a ≡ true → AreRacing h access.cell a b
rival_races h a b access joined mb has rival =
    let parts = and_parts (is_conflict access (access_of a.action)) (not (is_joined joined a.strand)) rival in
    let other = conflict_parts access (access_of a.action) parts.0 in
    let ma = makes a.action other.0 other.1 in
    let P : ℕ → Type 0 = λ c. IsAccess c a.action in record {
      one = subst P other.2 ma.at;
      other = mb.at;
      write = elim other.3 [ inl w ↦ inl (ma.writes w) | inr w ↦ inr (mb.writes w) ];
      apart = λ j. both_ways (is_joined joined a.strand) (not-true (is_joined joined a.strand) parts.1) ((has a.strand).1 j);
    }

pub races_rival : (h : List Event) (c : ℕ) (a b : Event) (access : Access) (joined : Joined) → Makes b.action access → HasJoined h joined b.strand
    → AreRacing h c a b → is_rival access joined a ≡ true
races_rival h c a b access joined mb has race =
    let other = made a.action c race.one in
    let ma = makes a.action other.0 other.1 in
    let same : other.0.cell ≡ access.cell = ma.only c race.one ∙ sym (mb.only c race.other) in
    let conflict : is_conflict access (access_of a.action) ≡ true =
    ap (is_conflict access) other.1 ∙ conflict_from access other.0 same (elim race.write [ inl w ↦ inl (ma.wrote w) | inr w ↦ inr (mb.wrote w) ]) in
    let apart : is_joined joined a.strand ≡ false = false_from_ne_true (is_joined joined a.strand) (λ t. race.apart ((has a.strand).0 t)) in
    and_from (is_conflict access (access_of a.action)) (not (is_joined joined a.strand)) conflict (not_from_false (is_joined joined a.strand) apart)
