-- The events of another run, each paired with a place of a history without a race: cells have the same values.
use Rattle.std.proofs.Common.{◌≡◌, ◌≢◌, ℕ, ◌<◌, ◌≤◌, List, [], ◌∷◌, length, reverse, slice_get, ◌⊎◌, inl, inr, refl, sym, ap, ◌∙◌, subst, arith}
use Rattle.std.specs.Prelude.{Some, ℤ}
use Rattle.std.proofs.lemmas.Bool.{cases_eq}
use Rattle.fut_base.specs.declared.event.Event.{Event}
use Rattle.fut_base.specs.declared.event.Action.{Action}
use Rattle.fut_base.specs.declared.event.Action.TheVariants.{Reads, Writes, Spawns, Creates, Syncs, Gets, Ends}
use Rattle.fut_base.specs.Dag.{Among, Reaches}
use Rattle.fut_base.specs.Racing.{IsAccess, IsWrite, PlacesRace}
use Rattle.fut_syntax.specs.Trees as tree
use Rattle.task_machine.specs.Machine.{Machine, opening, Leads}
use Rattle.access_shards.specs.Histories.{IsInStep}
use Rattle.access_shards.proofs.Histories.{Stood, stood_lt, get_of, no_path_back}
use Rattle.run_laws.proofs.Pasts.{Came, came}
use Rattle.run_laws.proofs.Sound.{legal_is_sound}
use Rattle.clean_laws.specs.Closed.{IsClosed}
use Rattle.clean_laws.proofs.Closed.{closed_under_paths, came_standing}
use Rattle.clean_laws.proofs.Tails.{IsTail, stood_tail, stood_down, stood_one, LastWrite, CellIs, cell_came}

pub among_or_not : (i : ℕ) (xs : List ℕ) → Among i xs ⊎ (Among i xs → ⊥)
among_or_not i [] = inr (λ h. h)
among_or_not i (x ∷ xs) = elim (cases_eq x i) [
  | inl e ↦ inl (inl e)
  | inr ne ↦ elim (among_or_not i xs) [ inl a ↦ inl (inr a) | inr off ↦ inr (λ h. elim h [ inl e ↦ ne e | inr a ↦ off a ]) ]
]

-- two accesses of a cell, one of which writes it
pub record Conflict (c : ℕ) (a b : Event) : Type 0 where
  pub one : IsAccess c a.action
  pub other : IsAccess c b.action
  pub write : IsWrite a.action ⊎ IsWrite b.action

abbrev pub IsClean : List Event → Type 0
IsClean h = (c i j : ℕ) → PlacesRace h c i j → ⊥

-- with a place a closed set has each earlier one that conflicts
pub conflict_in : (P : tree.Program) (h : List Event) (m : Machine) → Leads P (opening P) h m → IsClean h → (places : List ℕ) → IsClosed places (reverse h)
    → (c i j : ℕ) (a b : Event) → Stood (reverse h) i a → Stood (reverse h) j b → i < j → Conflict c a b → Among j places → Among i places
conflict_in P h m l clean places closed c i j a b ha hb lt k among = elim (among_or_not i places) [
  | inl on_it ↦ on_it
  | inr off ↦
      absurd
      (clean c i j
      (record {
        order = lt;
        events =
            (a, b, get_of h i a ha, get_of h j b hb, record { one = k.one; other = k.other; write = k.write; apart = λ joined. off (from joined) });
      }))
]
  where
    steps : IsInStep h
    steps = record { sound = legal_is_sound P h (m, l); standing = came_standing P (reverse h) m (came P h m l) }

    on : Reaches h a.strand b.strand → Among i places
    on r = closed_under_paths P h places (m, l) closed i j a b (get_of h i a ha) (get_of h j b hb) lt r among

    from : Reaches h a.strand b.strand ⊎ Reaches h b.strand a.strand → Among i places
    from (inl r) = on r
    from (inr r) = on ([], no_path_back h steps i j a b (get_of h i a ha) (get_of h j b hb) lt r)

-- ---- pairs

-- two actions access the same cell in the same way, and write the same, or are both no accesses
abbrev pub SameTouch : Action → Action → Type 0
SameTouch (Reads c v) b = (w : ℤ) × (b ≡ Reads c w)
SameTouch (Writes c v) b = b ≡ Writes c v
SameTouch _ (Reads _ _) = ⊥
SameTouch _ (Writes _ _) = ⊥
SameTouch _ _ = Unit {0}

abbrev pub Paired : List Event → List Event → List ℕ → Type 0
Paired hp [] [] = Unit {0}
Paired hp (e ∷ gp) (j ∷ places) = Paired hp gp places × ((d : Event) × Stood hp j d × SameTouch e.action d.action) × (Among j places → ⊥) × IsClosed places hp
Paired hp [] (j ∷ places) = ⊥
Paired hp (e ∷ gp) [] = ⊥

-- an event of the other run, its place there, and the place with which it is paired
abbrev pub At : List Event → List ℕ → ℕ → Event → ℕ → Type 0
At [] places p e j = ⊥
At (x ∷ gp) [] p e j = ⊥
At (x ∷ gp) (k ∷ places) p e j = ((length gp ≡ p) × (x ≡ e) × (k ≡ j)) ⊎ At gp places p e j

at_stood : (hp gp : List Event) (places : List ℕ) (p : ℕ) (e : Event) → Paired hp gp places → Stood gp p e → (j : ℕ) × At gp places p e j
at_stood hp [] places p e x s = absurd s
at_stood hp (y ∷ gp) [] p e x s = absurd x
at_stood hp (y ∷ gp) (k ∷ places) p e x (inl s) = (k, inl (s.0, s.1, refl))
at_stood hp (y ∷ gp) (k ∷ places) p e x (inr s) = let r = at_stood hp gp places p e x.0 s in (r.0, inr r.1)

at_among : (hp gp : List Event) (places : List ℕ) (j : ℕ) → Paired hp gp places → Among j places → (p : ℕ) × (e : Event) × At gp places p e j
at_among hp [] [] j x a = absurd a
at_among hp [] (k ∷ places) j x a = absurd x
at_among hp (y ∷ gp) [] j x a = absurd a
at_among hp (y ∷ gp) (k ∷ places) j x (inl s) = (length gp, y, inl (refl, refl, s))
at_among hp (y ∷ gp) (k ∷ places) j x (inr s) = let r = at_among hp gp places j x.0 s in (r.0, r.1, inr r.2)

pub record Pair (hp gp : List Event) (places : List ℕ) (p : ℕ) (e : Event) (j : ℕ) : Type 0 where
  pub there : Stood gp p e
  pub among : Among j places
  pub event : Event
  pub stands : Stood hp j event
  pub same : SameTouch e.action event.action

pair_of : (hp gp : List Event) (places : List ℕ) (p : ℕ) (e : Event) (j : ℕ) → Paired hp gp places → At gp places p e j → Pair hp gp places p e j
pair_of hp [] places p e j x a = absurd a
pair_of hp (y ∷ gp) [] p e j x a = absurd a
pair_of hp (y ∷ gp) (k ∷ places) p e j x (inl s) =
    record {
      there = inl (s.0, s.1);
      among = inl s.2;
      event = x.1.0;
      stands = subst (λ z. Stood hp z x.1.0) s.2 x.1.1;
      same = subst (λ (z : Event). SameTouch z.action (x.1.0).action) s.1 x.1.2;
    }
pair_of hp (y ∷ gp) (k ∷ places) p e j x (inr s) = let r =
    pair_of hp gp places p e j x.0 s in record { there = inr r.there; among = inr r.among; event = r.event; stands = r.stands; same = r.same }

-- where closed sets have j with j', the events that are paired with them stand in that order
in_order : (hp gp : List Event) (places : List ℕ) (p p' : ℕ) (e e' : Event) (j j' : ℕ) → Paired hp gp places → j ≢ j'
    → ((ps : List ℕ) → IsClosed ps hp → Among j' ps → Among j ps)
    → At gp places p e j → At gp places p' e' j' → p < p'
in_order hp [] places p p' e e' j j' x ne f a b = absurd a
in_order hp (y ∷ gp) [] p p' e e' j j' x ne f a b = absurd a
in_order hp (y ∷ gp) (k ∷ places) p p' e e' j j' x ne f (inl a) (inl b) = absurd (ne (sym a.2 ∙ b.2))
in_order hp (y ∷ gp) (k ∷ places) p p' e e' j j' x ne f (inl a) (inr b) =
    absurd (x.2 (subst (λ z. Among z places) (sym a.2) (f places x.3 (pair_of hp gp places p' e' j' x.0 b).among)))
in_order hp (y ∷ gp) (k ∷ places) p p' e e' j j' x ne f (inr a) (inl b) = let lt =
    stood_lt gp p e (pair_of hp gp places p e j x.0 a).there in omega (arith, lt, b.0)
in_order hp (y ∷ gp) (k ∷ places) p p' e e' j j' x ne f (inr a) (inr b) = in_order hp gp places p p' e e' j j' x.0 ne f a b

-- a write is paired with the same write
write_on : (a b : Action) (c : ℕ) (v : ℤ) → a ≡ Writes c v → SameTouch a b → b ≡ Writes c v
write_on a b c v is s = subst (λ x. SameTouch x b) is s

write_back : (a b : Action) (c : ℕ) (v : ℤ) → b ≡ Writes c v → SameTouch a b → a ≡ Writes c v
write_back (Reads d x) b c v is s = let z = sym is ∙ s.1 in cc
write_back (Writes d x) b c v is s = sym s ∙ is
write_back (Spawns _ _ _ _ _) (Writes _ _) c v is s = absurd s
write_back (Creates _ _ _ _ _) (Writes _ _) c v is s = absurd s
write_back (Syncs _) (Writes _ _) c v is s = absurd s
write_back (Gets _ _ _) (Writes _ _) c v is s = absurd s
write_back (Ends _) (Writes _ _) c v is s = absurd s
write_back _ _ c v is s = cc

writes_of : (a : Action) (c : ℕ) (v : ℤ) → a ≡ Writes c v → IsAccess c a × IsWrite a
writes_of a c v is = (subst (IsAccess c) (sym is) refl, subst IsWrite (sym is) tt)

-- ---- the value of a cell

module _ (P : tree.Program) (h gp : List Event) (m n : Machine) (places : List ℕ) (leads : Leads P (opening P) h m) (clean : IsClean h)
    (paired : Paired (reverse h) gp places) where
  -- the cell after the other run, and after a beginning of the history that has the writes of the places, and no others
  pub same_cell : (older : List Event) (q : Machine) (c : ℕ) (v w : ℤ) → IsTail (reverse h) older → Came P older q → Came P gp n
      → ((i : ℕ) (d : Event) (x : ℤ) → Stood older i d → d.action ≡ Writes c x → Among i places)
      → ((i : ℕ) (d : Event) (x : ℤ) → Stood (reverse h) i d → d.action ≡ Writes c x → Among i places → i < length older)
      → slice_get n.cells c ≡ Some v → slice_get q.cells c ≡ Some w → v ≡ w
  same_cell older q c v w tail came_h came_g below above at_g at_h = by_cases (cell_came P gp n c v came_g at_g) (cell_came P older q c w came_h at_h)
    where
      -- a write of the other run is one of the beginning
      onto : (p : ℕ) (e : Event) (x : ℤ) → Stood gp p e → e.action ≡ Writes c x
          → (j : ℕ) × (d : Event) × Stood older j d × (d.action ≡ Writes c x) × At gp places p e j
      onto p e x s is =
          let a = at_stood (reverse h) gp places p e paired s in
          let r = pair_of (reverse h) gp places p e a.0 paired a.1 in
          let ws = write_on e.action (r.event).action c x is r.same in
          (a.0, r.event, stood_down (reverse h) older a.0 r.event tail r.stands (above a.0 r.event x r.stands ws r.among), ws, a.1)

      -- and one of the beginning is one of the other run
      back : (i : ℕ) (d : Event) (x : ℤ) → Stood older i d → d.action ≡ Writes c x
          → (p : ℕ) × (e : Event) × Stood gp p e × (e.action ≡ Writes c x) × At gp places p e i
      back i d x s is =
          let a = at_among (reverse h) gp places i paired (below i d x s is) in
          let r = pair_of (reverse h) gp places a.0 a.1 i paired a.2 in
          let same : r.event ≡ d = stood_one (reverse h) i r.event d r.stands (stood_tail (reverse h) older i d tail s) in
          (a.0, a.1, r.there, write_back (a.1).action (r.event).action c x (ap (λ (z : Event). z.action) same ∙ is) r.same, a.2)

      values : {x y : ℤ} → Writes c x ≡ Writes c y → x ≡ y
      values k = cc

      both : (g : LastWrite gp c v) (l : LastWrite older c w) → v ≡ w
      both g l =
          let o = onto g.place g.event v g.there g.writes in
          let b = back l.place l.event w l.there l.writes in
          let le : o.0 ≤ l.place = l.last o.0 o.1 v o.2 o.3 in
          let ge : b.0 ≤ g.place = g.last b.0 b.1 w b.2 b.3 in
          elim (cases_eq o.0 l.place) [
            | inl same ↦
                values
                (sym o.3 ∙ ap (λ (z : Event). z.action) (stood_one older l.place o.1 l.event (subst (λ z. Stood older z o.1) same o.2) l.there) ∙ l.writes)
            | inr ne ↦ absurd (
                let lt : o.0 < l.place = omega (arith, le, ne) in
                let conflict : Conflict c o.1 l.event =
                record {
                  one = (writes_of (o.1).action c v o.3).0;
                  other = (writes_of (l.event).action c w l.writes).0;
                  write = inl (writes_of (o.1).action c v o.3).1;
                } in
                let f : (ps : List ℕ) → IsClosed ps (reverse h) → Among l.place ps → Among o.0 ps =
                λ ps closed a. conflict_in P h m leads clean ps closed c o.0 l.place o.1 l.event (stood_tail (reverse h) older o.0 o.1 tail o.2)
                (stood_tail (reverse h) older l.place l.event tail l.there) lt conflict a in
                let before = in_order (reverse h) gp places g.place b.0 g.event b.1 o.0 l.place paired ne f o.4 b.4 in
                omega (arith, before, ge))
          ]

      by_cases : CellIs gp c v → CellIs older c w → v ≡ w
      by_cases (inl g) (inl l) = both g l
      by_cases (inl g) (inr l) = absurd (let o = onto g.place g.event v g.there g.writes in l.0 o.0 o.1 v o.2 o.3)
      by_cases (inr g) (inl l) = absurd (let b = back l.place l.event w l.there l.writes in g.0 b.0 b.1 w b.2 b.3)
      by_cases (inr g) (inr l) = g.1 ∙ sym l.1
