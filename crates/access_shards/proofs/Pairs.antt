-- The races and the first pair of a cell's accesses are those of the history.
use Rattle.std.proofs.Common.{◌≡◌, ℕ, ◌≤◌, Bool, true, false, List, reverse, ◌⊎◌, inl, inr, subst, ap, sym, refl, ◌∙◌, true≢false, ◌==◌, ◌||◌, if◌then◌else◌}
use Rattle.std.proofs.lemmas.Bool.{or_cases, or_left, or_right}
use Rattle.std.proofs.lemmas.Option.{none-some, same_Some}
use Rattle.std.specs.Prelude.{Option, Some, None}
use Rattle.fut_base.specs.declared.event.Event.{Event}
use Rattle.fut_base.specs.declared.event.Action.{Action}
use Rattle.fut_base.specs.declared.event.Action.TheVariants.{Reads, Writes, Spawns, Creates, Syncs, Gets, Ends}
use Rattle.fut_base.specs.Dag.{edges_of, AreJoinedBy}
use Rattle.fut_base.specs.Racing.{IsAccess, IsWrite, PlacesRace}
use Rattle.fut_base.specs.Racing as racing
use Rattle.strand_laws.proofs.Places.{by_eq}
use Rattle.strand_laws.proofs.Structure.{structure_has_edges}
use Rattle.access_shards.specs.declared.kept.Kept.TheVariants.{Clean, Found}
use Rattle.access_shards.specs.Touches.{Touch, AreRacing, IsFirstPair}
use Rattle.access_shards.specs.Kept.{Kind, reading, writing, is_write, kinds, touch}
use Rattle.access_shards.specs.Histories.{kind_of, touches_of}
use Rattle.access_shards.specs.Laws.{RacesAreOfAccesses, FirstPairIsOfAccesses, KeptTellsRaces}
use Rattle.access_shards.proofs.Histories.{touch_stood, stood_touch, stood_of, get_of}

-- a test of the cell
if_cell : (cell c : ℕ) (k l : Kind) → (if cell == c then Some k else None) ≡ Some l → (cell ≡ c) × (k ≡ l)
if_cell cell c k l = by_eq (λ b. (if b then Some k else None) ≡ Some l → (cell ≡ c) × (k ≡ l)) cell c (λ e h. (e, same_Some k l h))
    (λ ne h. absurd (none-some l h))

on_cell : (cell c : ℕ) (k : Kind) → cell ≡ c → (if cell == c then Some k else None) ≡ Some k
on_cell cell c k e = by_eq (λ b. (if b then Some k else None) ≡ Some k) cell c (λ _. refl) (λ ne. absurd (ne e))

-- an action that accesses the cell is an access
is_access : (c : ℕ) (a : Action) (k : Kind) → kind_of c a ≡ Some k → IsAccess c a
is_access c (Reads cell _) k h = (if_cell cell c reading k h).0
is_access c (Writes cell _) k h = (if_cell cell c writing k h).0
is_access c (Spawns _ _ _ _ _) k h = none-some k h
is_access c (Creates _ _ _ _ _) k h = none-some k h
is_access c (Syncs _) k h = none-some k h
is_access c (Gets _ _ _) k h = none-some k h
is_access c (Ends _) k h = none-some k h

-- and the other way round, a write where it writes
has_kind : (c : ℕ) (a : Action) → IsAccess c a → (k : Kind) × (kind_of c a ≡ Some k) × (IsWrite a → is_write k ≡ true)
has_kind c (Reads cell _) h = (reading, on_cell cell c reading h, λ w. absurd w)
has_kind c (Writes cell _) h = (writing, on_cell cell c writing h, λ w. refl)
has_kind c (Spawns _ _ _ _ _) h = absurd h
has_kind c (Creates _ _ _ _ _) h = absurd h
has_kind c (Syncs _) h = absurd h
has_kind c (Gets _ _ _) h = absurd h
has_kind c (Ends _) h = absurd h

does_write : (c : ℕ) (a : Action) (k : Kind) → kind_of c a ≡ Some k → is_write k ≡ true → IsWrite a
does_write c (Reads cell _) k h w = absurd (true≢false (sym w ∙ ap is_write (sym (if_cell cell c reading k h).1)))
does_write c (Writes cell _) k h w = tt
does_write c (Spawns _ _ _ _ _) k h w = absurd (none-some k h)
does_write c (Creates _ _ _ _ _) k h w = absurd (none-some k h)
does_write c (Syncs _) k h w = absurd (none-some k h)
does_write c (Gets _ _ _) k h w = absurd (none-some k h)
does_write c (Ends _) k h w = absurd (none-some k h)

module _ (h : List Event) (c : ℕ) where
  pub to_history : (a b : Touch Kind) → AreRacing Kind kinds (edges_of h) (touches_of c h) a b → PlacesRace h c a.place b.place
  to_history a b r =
      let x = touch_stood c (reverse h) a r.one in
      let y = touch_stood c (reverse h) b r.other in
      record {
        order = r.order;
        events = (
          x.0,
          y.0,
          get_of h a.place x.0 x.1,
          get_of h b.place y.0 y.1,
          record {
            one = is_access c x.0.action a.kind x.3;
            other = is_access c y.0.action b.kind y.3;
            write = elim (or_cases (is_write a.kind) (is_write b.kind) r.conflict) [
              | inl w ↦ inl (does_write c x.0.action a.kind x.3 w)
              | inr w ↦ inr (does_write c y.0.action b.kind y.3 w)
            ];
            apart = λ j. r.apart (subst (λ n. AreJoinedBy (edges_of h) n b.strand) x.2 (subst (λ n. AreJoinedBy (edges_of h) x.0.strand n) y.2 j));
          },
        );
      }

  pub to_accesses : (i j : ℕ) → PlacesRace h c i j
      → (a : Touch Kind) × (b : Touch Kind) × AreRacing Kind kinds (edges_of h) (touches_of c h) a b × (a.place ≡ i) × (b.place ≡ j)
  to_accesses i j r =
      let x = r.events.0 in
      let y = r.events.1 in
      let m = r.events.4 in
      let k = has_kind c x.action m.one in
      let l = has_kind c y.action m.other in (
        touch i x.strand k.0,
        touch j y.strand l.0,
        record {
          one = stood_touch c (reverse h) i x k.0 (stood_of h i x r.events.2) k.1;
          other = stood_touch c (reverse h) j y l.0 (stood_of h j y r.events.3) l.1;
          order = r.order;
          conflict = elim m.write [
            | inl w ↦ or_left (is_write k.0) (is_write l.0) (k.2 w)
            | inr w ↦ or_right (is_write k.0) (is_write l.0) (l.2 w)
          ];
          apart = m.apart;
        },
        refl,
        refl,
      )

  back : (i j : ℕ) → ((a : Touch Kind) × (b : Touch Kind) × AreRacing Kind kinds (edges_of h) (touches_of c h) a b × (a.place ≡ i) × (b.place ≡ j))
      → PlacesRace h c i j
  back i j f = subst (λ n. PlacesRace h c n j) f.3 (subst (λ n. PlacesRace h c f.0.place n) f.4 (to_history f.0 f.1 f.2))

  pub pair_to_accesses : (i j : ℕ) → racing.IsFirstPair h c i j → IsFirstPair Kind kinds (edges_of h) (touches_of c h) i j
  pair_to_accesses i j p =
      record {
        race = to_accesses i j p.race;
        least = λ a b r. p.least a.place b.place (to_history a b r);
        greatest = λ a b r e. p.greatest a.place (subst (λ n. PlacesRace h c a.place n) e (to_history a b r));
      }

  pub pair_to_history : (i j : ℕ) → IsFirstPair Kind kinds (edges_of h) (touches_of c h) i j → racing.IsFirstPair h c i j
  pair_to_history i j p =
      record {
        race = back i j p.race;
        least = λ m n r. (let f = to_accesses m n r in subst (λ z. j ≤ z) f.4 (p.least f.0 f.1 f.2));
        greatest = λ m r. (let f = to_accesses m j r in subst (λ z. z ≤ i) f.3 (p.greatest f.0 f.1 f.2 f.4));
      }

pub races_are_of_accesses : RacesAreOfAccesses
races_are_of_accesses h c i j = ((λ r. to_accesses h c i j r), λ f. back h c i j f)

pub first_pair_is_of_accesses : FirstPairIsOfAccesses
first_pair_is_of_accesses h c i j = ((λ p. pair_to_accesses h c i j p), λ p. pair_to_history h c i j p)

pub kept_tells_races : KeptTellsRaces
kept_tells_races h c (Clean writer readers) k = λ i j r. (
    let f = to_accesses h c i j r in
    k.0 f.0 f.1 (subst (λ es. AreRacing Kind kinds es (touches_of c h) f.0 f.1) (sym (structure_has_edges h)) f.2))
kept_tells_races h c (Found first second) k = pair_to_history h c first second
    (subst (λ es. IsFirstPair Kind kinds es (touches_of c h) first second) (structure_has_edges h) k)
