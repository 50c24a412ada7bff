-- What is kept of a cell by a beginning of the book is what is kept of it in the merge.
use Rattle.std.proofs.Common.{◌≡◌, ℕ, ◌<◌, Bool, true, false, cond, ◌==◌, if◌then◌else◌, List, [], ◌∷◌, ◌++◌}
use Rattle.std.proofs.Common.{length, inl, inr, refl, sym, ap, ◌∙◌, subst, arith, option_to_list, option_map}
use Rattle.fut_base.proofs.Cases.{by_eq}
use Rattle.std.proofs.lemmas.List.{reverse-append}
use Rattle.std.specs.Prelude.{Option, Some, None, reverse}
use Rattle.fut_base.specs.declared.event.Event.{Event}
use Rattle.fut_base.specs.declared.event.Action.{Action}
use Rattle.fut_base.specs.declared.event.Action.TheVariants.{Reads, Writes, Spawns, Creates, Syncs, Gets, Ends}
use Rattle.fut_base.specs.Events.{structure_of}
use Rattle.fut_base.specs.Dag.{Among, AreJoinedBy, edges_of}
use Rattle.fut_base.specs.Sound.{IsSound, IsSoundPast, next_strand, home_of}
use Rattle.strand_tree.specs.declared.strand.Strand.{Strand}
use Rattle.strand_tree.specs.Placing.{IsStrandOf}
use Rattle.access_shards.specs.declared.kept.Access.{Access}
use Rattle.access_shards.specs.declared.kept.Kept.{Kept}
use Rattle.access_shards.specs.declared.kept.Kept.TheVariants.{Clean, Found}
use Rattle.access_shards.specs.Touches.{Touch, AreRacing, IsLatest}
use Rattle.access_shards.specs.Kept.{Kind, reading, writing, kinds, Shows, IsWriter, AreReaders, IsKept, touch}
use Rattle.access_shards.specs.Histories.{kind_of, touches_past, touches_of}
use Rattle.access_shards.specs.Laws.{AreOn}
use Rattle.access_shards.proofs.Growing.{same_paths, more_strands, kept_stays}
use Rattle.access_shards.proofs.Pairs.{kept_tells_races}
use Rattle.merge_laws.specs.Parts.{Drawn}
use Rattle.merge_laws.specs.Laws.{drawn_touches, touches_in, TouchesAreDrawn, KeptReturns, KeptIsSame, KeptTellsMerge}
use Rattle.merge_laws.proofs.Tickets.{picked}
use Rattle.merge_laws.proofs.Merging.{in_shard, shard_test, shard_is, structure_is}

-- ---- with fewer structural events the same is kept

module _ (s more : List Event) (sound : IsSound (s ++ more)) (past : List (Touch Kind)) (on : AreOn s past) where
  joined_back : (a b : Touch Kind) → Among a past → Among b past → AreJoinedBy (edges_of (s ++ more)) a.strand b.strand
      → AreJoinedBy (edges_of s) a.strand b.strand
  joined_back a b ha hb (inl r) = inl ((same_paths s more sound a.strand b.strand (on b hb)).0 r)
  joined_back a b ha hb (inr r) = inr ((same_paths s more sound b.strand a.strand (on a ha)).0 r)

  joined_on : (a b : Touch Kind) → Among a past → Among b past → AreJoinedBy (edges_of s) a.strand b.strand
      → AreJoinedBy (edges_of (s ++ more)) a.strand b.strand
  joined_on a b ha hb (inl r) = inl ((same_paths s more sound a.strand b.strand (on b hb)).1 r)
  joined_on a b ha hb (inr r) = inr ((same_paths s more sound b.strand a.strand (on a ha)).1 r)

  race_on : (a b : Touch Kind) → AreRacing Kind kinds (edges_of s) past a b → AreRacing Kind kinds (edges_of (s ++ more)) past a b
  race_on a b r = record { one = r.one; other = r.other; order = r.order; conflict = r.conflict; apart = λ j. r.apart (joined_back a b r.one r.other j) }

  race_back : (a b : Touch Kind) → AreRacing Kind kinds (edges_of (s ++ more)) past a b → AreRacing Kind kinds (edges_of s) past a b
  race_back a b r = record { one = r.one; other = r.other; order = r.order; conflict = r.conflict; apart = λ j. r.apart (joined_on a b r.one r.other j) }

  latest_on : (t : Touch Kind) → IsLatest Kind kinds (edges_of s) past reading t → IsLatest Kind kinds (edges_of (s ++ more)) past reading t
  latest_on t l = record { there = l.there; kind_is = l.kind_is; after = l.after; latest = λ u hu ku lt j. l.latest u hu ku lt (joined_back t u l.there hu j) }

  latest_back : (t : Touch Kind) → IsLatest Kind kinds (edges_of (s ++ more)) past reading t → IsLatest Kind kinds (edges_of s) past reading t
  latest_back t l = record { there = l.there; kind_is = l.kind_is; after = l.after; latest = λ u hu ku lt j. l.latest u hu ku lt (joined_on t u l.there hu j) }

  whole : IsSoundPast (reverse more ++ reverse s)
  whole = subst IsSoundPast (reverse-append s more) sound

  strand_back : (v : Strand) → v.number < next_strand (reverse s) → IsStrandOf (s ++ more) v → IsStrandOf s v
  strand_back v lt of =
      let k = more_strands (reverse more) (reverse s) whole v.number lt in
      let home : v.future ≡ home_of (reverse more ++ reverse s) v.number =
      subst (λ (p : List Event). v.future ≡ home_of p v.number) (reverse-append s more) of.future_is in
      record { there = lt; future_is = home ∙ k.1 }

  shows_back : (a : Access) (t : Touch Kind) → Among t past → Shows (s ++ more) a t → Shows s a t
  shows_back a t at x =
      record {
        place_is = x.place_is;
        number_is = x.number_is;
        strand_of = strand_back a.strand (let l = on t at in let e = x.number_is in omega (arith, l, e)) x.strand_of;
      }

  writer_back : (o : Option Access) → IsWriter (s ++ more) past o → IsWriter s past o
  writer_back None w = w
  writer_back (Some a) w = (w.0, w.1, shows_back a w.0 w.1.there w.2)

  readers_back : (all : List Access) → AreReaders (s ++ more) past all → AreReaders s past all
  readers_back all r =
      record {
        each = λ a x. (let k = r.each a x in (k.0, latest_back k.0 k.1, shows_back a k.0 k.1.there k.2));
        whole = λ t l. (let k = r.whole t (latest_on t l) in (k.0, k.1, shows_back k.0 t l.there k.2));
        order = r.order;
      }

  kept_back : (kept : Kept) → IsKept (s ++ more) past kept → IsKept s past kept
  kept_back (Clean writer readers) k = ((λ a b r. k.0 a b (race_on a b r)), writer_back writer k.1, readers_back readers.items k.2)
  kept_back (Found i j) k =
      record {
        race = (k.race.0, k.race.1, race_back k.race.0 k.race.1 k.race.2, k.race.3, k.race.4);
        least = λ a b r. k.least a b (race_on a b r);
        greatest = λ a b r e. k.greatest a b (race_on a b r) e;
      }

pub kept_returns : KeptReturns
kept_returns s more past kept sound on k = kept_back s more sound past on kept k

-- ---- the accesses of a cell

abbrev one_touch : ℕ → ℕ → Event → Action → List (Touch Kind)
one_touch c k e a = option_to_list (option_map (λ kind. touch k e.strand kind) (kind_of c a))

drawn_kind : (c k : ℕ) (e : Event) (rest : List Drawn) (o : Option Kind) → kind_of c e.action ≡ o
    → drawn_touches c ((k, e) ∷ rest) ≡ option_to_list (option_map (λ kind. touch k e.strand kind) o) ++ drawn_touches c rest
drawn_kind c k e rest o is = ap (λ z. option_to_list (option_map (λ kind. touch k e.strand kind) z) ++ drawn_touches c rest) is

drawn_none : (c k : ℕ) (e : Event) (rest : List Drawn) (b : Bool) → kind_of c e.action ≡ None
    → drawn_touches c (cond b ((k, e) ∷ rest) rest) ≡ drawn_touches c rest
drawn_none c k e rest true is = drawn_kind c k e rest None is
drawn_none c k e rest false is = refl

-- an access of some cell
access_if : (place : ℕ → ℕ) (c k : ℕ) (e : Event) (cell : ℕ) (kind : Kind) (rest : List Drawn) → kind_of c e.action ≡ (if cell == c then Some kind else None)
    → drawn_touches c (cond (place cell == place c) ((k, e) ∷ rest) rest)
    ≡ option_to_list (option_map (λ kind. touch k e.strand kind) (if cell == c then Some kind else None)) ++ drawn_touches c rest
access_if place c k e cell kind rest =
    by_eq
    (λ t. kind_of c e.action ≡ (if t then Some kind else None) → drawn_touches c (cond (place cell == place c) ((k, e) ∷ rest) rest)
    ≡ option_to_list (option_map (λ kind. touch k e.strand kind) (if t then Some kind else None)) ++ drawn_touches c rest) cell c
    (λ same is. by_eq (λ t. drawn_touches c (cond t ((k, e) ∷ rest) rest) ≡ touch k e.strand kind ∷ drawn_touches c rest) (place cell) (place c)
    (λ _. drawn_kind c k e rest (Some kind) is) (λ ne. absurd (ne (ap place same))))
    (λ ne is. drawn_none c k e rest (place cell == place c) is)

touches_if : (place : ℕ → ℕ) (c k : ℕ) (e : Event) (a : Action) → e.action ≡ a → (rest : List Drawn)
    → drawn_touches c (cond (shard_test place (place c) a) ((k, e) ∷ rest) rest) ≡ one_touch c k e a ++ drawn_touches c rest
touches_if place c k e (Reads cell value) is rest = access_if place c k e cell reading rest (ap (kind_of c) is)
touches_if place c k e (Writes cell value) is rest = access_if place c k e cell writing rest (ap (kind_of c) is)
touches_if place c k e (Spawns _ _ _ _ _) is rest = refl
touches_if place c k e (Creates _ _ _ _ _) is rest = refl
touches_if place c k e (Syncs _) is rest = refl
touches_if place c k e (Gets _ _ _) is rest = refl
touches_if place c k e (Ends _) is rest = refl

-- they are those of its list
touches_picked : (place : ℕ → ℕ) (c : ℕ) (past : List Event) → drawn_touches c (picked (in_shard place (place c)) past) ≡ touches_past c past
touches_picked place c [] = refl
touches_picked place c (e ∷ past) =
    touches_if place c (length past) e e.action refl (picked (in_shard place (place c)) past)
    ∙ ap (λ l. one_touch c (length past) e e.action ++ l) (touches_picked place c past)

pub touches_are_drawn : TouchesAreDrawn
touches_are_drawn P n place book shards traces h run merge c own got =
    sym (touches_picked place c (reverse h)) ∙ ap (drawn_touches c) (sym (shard_is P n place book shards traces h run merge (place c) own got))

pub kept_is_same : KeptIsSame
kept_is_same P n place book shards traces h run merge c own s more kept got parts on =
    let structure : structure_of h ≡ s ++ more = structure_is P n place book shards traces h run merge ∙ parts in
    let same : touches_of c h ≡ touches_in c own = touches_are_drawn P n place book shards traces h run merge c own got in
    let sound : IsSound (s ++ more) = subst IsSound parts run.sound in (
      (λ k. subst (λ l. IsKept (structure_of h) l kept) (sym same)
          (subst (λ l. IsKept l (touches_in c own) kept) (sym structure) (kept_stays s more (touches_in c own) kept sound on k))),
      (λ k. kept_returns s more (touches_in c own) kept sound on
          (subst (λ l. IsKept l (touches_in c own) kept) structure (subst (λ l. IsKept (structure_of h) l kept) same k))),
    )

pub kept_tells_merge : KeptTellsMerge
kept_tells_merge P n place book shards traces h run merge c own s more kept got parts on k =
    kept_tells_races h c kept ((kept_is_same P n place book shards traces h run merge c own s more kept got parts on).0 k)
