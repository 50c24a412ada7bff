-- With further structural events the same is kept of a cell, and the accesses stay late.
use Rattle.std.proofs.Common.{◌≡◌, ◌≢◌, ℕ, ◌<◌, ◌≤◌, List, [], ◌∷◌, ◌++◌, inl, inr, subst, ap, sym, refl, ◌∙◌, reverse, arith}
use Rattle.std.specs.Prelude.{Option, Some, None}
use Rattle.std.proofs.lemmas.List.{reverse-append}
use Rattle.fut_base.specs.declared.event.Event.{Event}
use Rattle.fut_base.specs.Dag.{Among, ReachesBy, AreJoinedBy, edges_of, edges_past}
use Rattle.fut_base.specs.Sound.{IsSound, IsSoundPast, next_strand, home_of}
use Rattle.strand_laws.proofs.Still.{paths_are_kept, current_ends_paths}
use Rattle.strand_laws.proofs.Homes.{homes_stay}
use Rattle.strand_tree.specs.declared.strand.Strand.{Strand}
use Rattle.strand_tree.specs.Placing.{IsStrandOf}
use Rattle.access_shards.specs.declared.kept.Access.{Access}
use Rattle.access_shards.specs.declared.kept.Kept.TheVariants.{Clean, Found}
use Rattle.access_shards.specs.Touches.{Touch, IsLate, AreRacing, IsFirstPair, IsLatest}
use Rattle.access_shards.specs.Kept.{Kind, reading, kinds, Shows, IsWriter, AreReaders, IsKept, touch}
use Rattle.access_shards.specs.Logged.{StandsFirst, RiseInEnglish, IsInEnglish, AreSorted, reads_of}
use Rattle.access_shards.specs.declared.kept.Kept.{Kept}
use Rattle.fut_base.specs.Orders.{english_of, hebrew_of}
use Rattle.reach_table.proofs.Events.{orders_stay}
use Rattle.access_shards.proofs.Rising.{readers_apart}
use Rattle.access_shards.specs.Laws.{AreOn, KeptStays, LogStays, LateStays, CurrentMayCome}

-- further events make no strand less and change no strand's future
pub more_strands : (later past : List Event) → IsSoundPast (later ++ past) → (v : ℕ) → v < next_strand past
    → (next_strand past ≤ next_strand (later ++ past)) × (home_of (later ++ past) v ≡ home_of past v)
more_strands [] past sound v lt = (omega arith, refl)
more_strands (e ∷ later) past sound v lt =
    let k = more_strands later past sound.0 v lt in
    (omega (arith, k.0), homes_stay (later ++ past) e sound v (omega (arith, k.0, lt)) ∙ k.1)

module _ (s more : List Event) (sound : IsSound (s ++ more)) where
  whole : IsSoundPast (reverse more ++ reverse s)
  whole = subst IsSoundPast (reverse-append s more) sound

  -- paths between old strands
  pub same_paths : (u v : ℕ) → v < next_strand (reverse s)
      → (ReachesBy (edges_of (s ++ more)) u v → ReachesBy (edges_of s) u v) × (ReachesBy (edges_of s) u v → ReachesBy (edges_of (s ++ more)) u v)
  same_paths u v lt =
      let k = paths_are_kept (reverse more) (reverse s) whole u v lt in
      subst (λ past. (ReachesBy (edges_past past) u v → ReachesBy (edges_of s) u v) × (ReachesBy (edges_of s) u v → ReachesBy (edges_past past) u v))
      (sym (reverse-append s more)) (k.0, k.1)

  pub strand_stays : (v : Strand) → IsStrandOf s v → IsStrandOf (s ++ more) v
  strand_stays v of =
      let k = more_strands (reverse more) (reverse s) whole v.number of.there in
      let P : List Event → Type 0 = λ past. (v.number < next_strand past) × (v.future ≡ home_of past v.number) in
      let r = subst P (sym (reverse-append s more)) (omega (arith, k.0, of.there), of.future_is ∙ sym k.1) in
      record { there = r.0; future_is = r.1 }

  module _ (past : List (Touch Kind)) (on : AreOn s past) where
    joined_back : (a b : Touch Kind) → Among a past → Among b past → AreJoinedBy (edges_of (s ++ more)) a.strand b.strand
        → AreJoinedBy (edges_of s) a.strand b.strand
    joined_back a b ha hb (inl r) = inl ((same_paths a.strand b.strand (on b hb)).0 r)
    joined_back a b ha hb (inr r) = inr ((same_paths b.strand a.strand (on a ha)).0 r)

    joined_on : (a b : Touch Kind) → Among a past → Among b past → AreJoinedBy (edges_of s) a.strand b.strand
        → AreJoinedBy (edges_of (s ++ more)) a.strand b.strand
    joined_on a b ha hb (inl r) = inl ((same_paths a.strand b.strand (on b hb)).1 r)
    joined_on a b ha hb (inr r) = inr ((same_paths b.strand a.strand (on a ha)).1 r)

    race_on : (a b : Touch Kind) → AreRacing Kind kinds (edges_of s) past a b → AreRacing Kind kinds (edges_of (s ++ more)) past a b
    race_on a b r = record { one = r.one; other = r.other; order = r.order; conflict = r.conflict; apart = λ j. r.apart (joined_back a b r.one r.other j) }

    race_back : (a b : Touch Kind) → AreRacing Kind kinds (edges_of (s ++ more)) past a b → AreRacing Kind kinds (edges_of s) past a b
    race_back a b r = record { one = r.one; other = r.other; order = r.order; conflict = r.conflict; apart = λ j. r.apart (joined_on a b r.one r.other j) }

    latest_on : (t : Touch Kind) → IsLatest Kind kinds (edges_of s) past reading t → IsLatest Kind kinds (edges_of (s ++ more)) past reading t
    latest_on t l = record {
      there = l.there;
      kind_is = l.kind_is;
      after = l.after;
      latest = λ u hu ku lt j. l.latest u hu ku lt (joined_back t u l.there hu j);
    }

    latest_back : (t : Touch Kind) → IsLatest Kind kinds (edges_of (s ++ more)) past reading t → IsLatest Kind kinds (edges_of s) past reading t
    latest_back t l = record {
      there = l.there;
      kind_is = l.kind_is;
      after = l.after;
      latest = λ u hu ku lt j. l.latest u hu ku lt (joined_on t u l.there hu j);
    }

    shows_on : (a : Access) (t : Touch Kind) → Shows s a t → Shows (s ++ more) a t
    shows_on a t h = record { place_is = h.place_is; number_is = h.number_is; strand_of = strand_stays a.strand h.strand_of }

    writer_on : (o : Option Access) → IsWriter s past o → IsWriter (s ++ more) past o
    writer_on None w = w
    writer_on (Some a) w = (w.0, w.1, shows_on a w.0 w.2)

    readers_on : (all : List Access) → AreReaders s past all → AreReaders (s ++ more) past all
    readers_on all r =
        record {
          each = λ a h. (let k = r.each a h in (k.0, latest_on k.0 k.1, shows_on a k.0 k.2));
          whole = λ t l. (let k = r.whole t (latest_back t l) in (k.0, k.1, shows_on k.0 t k.2));
          order = r.order;
        }

    pair_on : (i j : ℕ) → IsFirstPair Kind kinds (edges_of s) past i j → IsFirstPair Kind kinds (edges_of (s ++ more)) past i j
    pair_on i j p =
        record {
          race = (p.race.0, p.race.1, race_on p.race.0 p.race.1 p.race.2, p.race.3, p.race.4);
          least = λ a b r. p.least a b (race_back a b r);
          greatest = λ a b r e. p.greatest a b (race_back a b r) e;
        }

pub kept_stays : KeptStays
kept_stays s more past (Clean writer readers) sound on k =
    ((λ a b r. k.0 a b (race_back s more sound past on a b r)), writer_on s more sound past on writer k.1, readers_on s more sound past on readers.items k.2)
kept_stays s more past (Found i j) sound on k = pair_on s more sound past on i j k

-- strands keep their order
stands_on : (s more : List Event) → IsSound (s ++ more) → (u v : Strand) → IsStrandOf s u → IsStrandOf s v → u.number ≢ v.number → StandsFirst s u v
    → StandsFirst (s ++ more) u v
stands_on s more sound u v ou ov ne h =
    let same = orders_stay s more (next_strand (reverse s)) (english_of (s ++ more)) (hebrew_of
    (s ++ more)) sound (record { english_is = refl; hebrew_is = refl }) in
    record {
      future_is = h.future_is;
      first = same.first u.number v.number (record { less = ou.there; there = ou.there }) (record { less = ov.there; there = ov.there }) ne ∙ h.first;
    }

rise_stays : (s more : List Event) → IsSound (s ++ more) → (past : List (Touch Kind)) (kept : Kept) → IsKept s past kept → RiseInEnglish s (reads_of kept)
    → RiseInEnglish (s ++ more) (reads_of kept)
rise_stays s more sound past (Found i j) k rise a b ha hb lt = absurd ha
rise_stays s more sound past (Clean writer readers) k rise a b ha hb lt =
    stands_on s more sound a.strand b.strand (k.2.each a ha).2.strand_of (k.2.each b hb).2.strand_of
    (λ e. readers_apart s past readers.items k.2 a b ha hb lt ([], e)) (rise a b ha hb lt)

english_on : (s more : List Event) → IsSound (s ++ more) → (all : List Access) → ((a : Access) → Among a all → IsStrandOf s a.strand) → IsInEnglish s all
    → IsInEnglish (s ++ more) all
english_on s more sound [] of h = tt
english_on s more sound (a ∷ all) of h = (
  (λ b m. (let k = h.0 b m in (stands_on s more sound a.strand b.strand (of a (inl refl)) (of b (inr m)) k.1 k.0, k.1))),
  english_on s more sound all (λ b m. of b (inr m)) h.1,
)

strands_kept : (s : List Event) (past : List (Touch Kind)) (kept : Kept) → IsKept s past kept → (a : Access) → Among a (reads_of kept) → IsStrandOf s a.strand
strands_kept s past (Found i j) k a h = absurd h
strands_kept s past (Clean writer readers) k a h = (k.2.each a h).2.strand_of

sorted_stays : (s more : List Event) → IsSound (s ++ more) → (all sorted : List Access) → ((a : Access) → Among a all → IsStrandOf s a.strand)
    → AreSorted s all sorted → AreSorted (s ++ more) all sorted
sorted_stays s more sound all sorted of k =
    record {
      order = english_on s more sound sorted (λ a h. elim k.those [ inl e ↦ absurd (subst (Among a) e h) | inr same ↦ of a ((same a).0 h) ]) k.order;
      those = k.those;
    }

pub log_stays : LogStays
log_stays s more past l sound on k =
    record {
      kept = kept_stays s more past l.kept sound on k.kept;
      rising = λ y. rise_stays s more sound past l.kept k.kept (k.rising y);
      listed = sorted_stays s more sound (reads_of l.kept) l.sorted (strands_kept s past l.kept k.kept) k.listed;
    }

pub late_stays : LateStays
late_stays s more past sound on late a b ha hb lt r = late a b ha hb lt ((same_paths s more sound b.strand a.strand (on a ha)).0 r)

pub current_may_come : CurrentMayCome
current_may_come s past task at place kind sound on late stands runs rising =
    record { rising = rising; late = go }
  where
    x : Touch Kind
    x = touch place at.number kind

    go : IsLate (edges_of s) (x ∷ past)
    go a b (inr ha) (inr hb) lt r = late a b ha hb lt r
    go a b (inl ea) (inr hb) lt r = let p = ap (λ (t : Touch Kind). t.place) ea in let q = rising.0 b hb in absurd (omega (arith, p, q, lt))
    go a b (inl ea) (inl eb) lt r = let p = ap (λ (t : Touch Kind). t.place) ea in let q = ap (λ (t : Touch Kind). t.place) eb in
        absurd (omega (arith, p, q, lt))
    go a b (inr ha) (inl eb) lt r =
        let e = ap (λ (t : Touch Kind). t.strand) eb in
        current_ends_paths (reverse s) sound task at.number a.strand stands runs (subst (λ n. ReachesBy (edges_of s) n a.strand) (sym e) r) ∙ e
