-- What a log keeps after one more access.
use Rattle.std.proofs.Common.{◌≡◌, ℕ, ◌<◌, List, [], ◌∷◌, ◌++◌, ◌⊎◌, inl, inr, subst, ap, sym, refl, ◌∙◌, option_to_list, arith, Vec, Global, Bool}
use Rattle.std.specs.Prelude.{Option, Some, None}
use Rattle.fut_base.specs.declared.event.Event.{Event}
use Rattle.fut_base.specs.Dag.{Among, edges_of}
use Rattle.strand_tree.specs.Placing.{IsStrandOf}
use Rattle.strand_tree.specs.declared.strand.Strand.{Strand}
use Rattle.access_shards.specs.declared.kept.Access.{Access}
use Rattle.access_shards.specs.declared.kept.Kept.{Kept}
use Rattle.access_shards.specs.declared.kept.Kept.TheVariants.{Clean, Found}
use Rattle.access_shards.specs.Touches.{Touch, IsFirstPair}
use Rattle.access_shards.specs.Kept.{Kind, reading, writing, kinds, Shows, IsInOrder, AreReaders, IsKept, IsViewOf, AreKnown, StrandsStay, all_kept, touch}
use Rattle.access_shards.specs.Logged.{Logged, IsLogOf, RiseInEnglish, AreSorted, KeepsOneMore, reads_of}
use Rattle.access_shards.specs.Reading.{AreReads, KeepsRead}
use Rattle.access_shards.specs.Finding.{AreOf, FindsLast, AllOnKnown}
use Rattle.access_shards.proofs.Next.{pair_stays}
use Rattle.access_shards.proofs.Rising.{readers_apart, readers_unjoined, in_order_left}
use Rattle.strand_laws.proofs.Places.{among_or, among_left, among_right}
use Rattle.access_shards.proofs.Keeping.{kept_in_order, strands_of, found_by_read, found_by_write, none_by_read, none_by_write, kept_by_read, kept_by_write}
use Rattle.access_shards.proofs.Keeping.{writer_stays}

order_right : (xs ys : List Access) → IsInOrder (xs ++ ys) → IsInOrder ys
order_right [] ys h = h
order_right (x ∷ xs) ys h = order_right xs ys h.1

-- the judge knows the strands
pub known_writer : (known : ℕ) (old : Kept) (writer : Option Access) (readers : Vec Access Global) → old ≡ Clean writer readers → AreKnown known old
    → AllOnKnown known (option_to_list writer)
known_writer known old writer readers is k = λ a h. (let K = subst (AreKnown known) is k in K a (among_left a (option_to_list writer) readers.items h))

pub known_readers : (known : ℕ) (old : Kept) (writer : Option Access) (readers : Vec Access Global) → old ≡ Clean writer readers → AreKnown known old
    → AllOnKnown known readers.items
known_readers known old writer readers is k = λ a h. (let K = subst (AreKnown known) is k in K a (among_right a (option_to_list writer) readers.items h))

pub known_all : (known : ℕ) (old : Kept) (writer : Option Access) (readers : Vec Access Global) → old ≡ Clean writer readers → AreKnown known old
    → AllOnKnown known (all_kept writer readers.items)
known_all known old writer readers is k = subst (AreKnown known) is k

-- there need not be a list in the English order
pub none_sorted : (s : List Event) (all : List Access) → AreSorted s all []
none_sorted s all = record { order = tt; those = inl refl }

module _ (table : List Strand) (at : Strand) (place : ℕ) (known : ℕ) (english hebrew : List ℕ) where
  shows_new : (s : List Event) (kind : Kind) (new : Access) → IsViewOf s table at known english hebrew → new ≡ record { place = place; strand = at }
      → Shows s new (touch place at.number kind)
  shows_new s kind new view is =
      record {
        place_is = ap (λ (a : Access). a.place) is;
        number_is = ap (λ (a : Access). a.strand.number) is;
        strand_of = subst (λ (v : Strand). IsStrandOf s v) (sym (ap (λ (a : Access). a.strand) is)) view.here;
      }

  -- once a race is found nothing changes
  pub found_stays : (kind : Kind) (old : Logged) (first second : ℕ) → old.kept ≡ Found first second
      → KeepsOneMore table at place kind known english hebrew old old
  found_stays kind old first second is s past view may was =
      record {
        kept = subst (IsKept s (touch place at.number kind ∷ past)) (sym is)
            (pair_stays Kind kinds (edges_of s) past (touch place at.number kind) may.rising first second (subst (IsKept s past) is was.kept));
        rising = was.rising;
        listed = was.listed;
      }

  module _ (old : Logged) (writer : Option Access) (readers : Vec Access Global) (is : old.kept ≡ Clean writer readers) where
    -- a race is found
    finds_race : (s : List Event) (past : List (Touch Kind)) (kind : Kind) (first : ℕ) (new : Logged) → new.kept ≡ Found first place → new.sorted ≡ []
        → IsFirstPair Kind kinds (edges_of s) (touch place at.number kind ∷ past) first place → IsLogOf s (touch place at.number kind ∷ past) new
    finds_race s past kind first new kept_is sorted_is pair =
        record {
          kept = subst (IsKept s (touch place at.number kind ∷ past)) (sym kept_is) pair;
          rising = λ _ a b h. absurd (subst (λ (z : Kept). Among a (reads_of z)) kept_is h);
          listed = subst (λ (l : List Access). AreSorted s (reads_of new.kept) l) (sym sorted_is) (none_sorted s (reads_of new.kept));
        }

    pub read_finds : (first : ℕ) (new : Logged) → FindsLast table at known english hebrew (option_to_list writer) (Some first)
        → new.kept ≡ Found first place → new.sorted ≡ [] → KeepsOneMore table at place reading known english hebrew old new
    read_finds first new finds kept_is sorted_is s past view may was =
        let k = subst (IsKept s past) is was.kept in
        let of : AreOf s (option_to_list writer) = record {
          order = in_order_left (option_to_list writer) readers.items (kept_in_order s past at place reading may k.0 writer readers.items k.1 k.2);
          strands = λ a h. strands_of s past at place reading may k.0 writer readers.items k.1 k.2 a (among_left a (option_to_list writer) readers.items h);
        } in
        finds_race s past reading first new kept_is sorted_is
        (found_by_read s past at place reading may k.0 writer readers.items k.1 k.2 refl first (finds s view of))

    pub write_finds : (first : ℕ) (new : Logged) → FindsLast table at known english hebrew (all_kept writer readers.items) (Some first)
        → new.kept ≡ Found first place → new.sorted ≡ [] → KeepsOneMore table at place writing known english hebrew old new
    write_finds first new finds kept_is sorted_is s past view may was =
        let k = subst (IsKept s past) is was.kept in
        let of : AreOf s (all_kept writer readers.items) = record {
          order = kept_in_order s past at place writing may k.0 writer readers.items k.1 k.2;
          strands = strands_of s past at place writing may k.0 writer readers.items k.1 k.2;
        } in
        finds_race s past writing first new kept_is sorted_is
        (found_by_write s past at place writing may k.0 writer readers.items k.1 k.2 refl first (finds s view of))

    pub write_keeps : FindsLast table at known english hebrew (all_kept writer readers.items) None → (none : Vec Access Global) → none.items ≡ []
        → (new : Logged) → new.kept ≡ Clean (Some (record { place = place; strand = at })) none → new.sorted ≡ []
        → KeepsOneMore table at place writing known english hebrew old new
    write_keeps finds none empty new kept_is sorted_is s past view may was =
        let k = subst (IsKept s past) is was.kept in
        let of : AreOf s (all_kept writer readers.items) = record {
          order = kept_in_order s past at place writing may k.0 writer readers.items k.1 k.2;
          strands = strands_of s past at place writing may k.0 writer readers.items k.1 k.2;
        } in
        let one = kept_by_write s past at place writing may k.0 writer readers.items k.1 k.2 refl _ (shows_new s writing _ view refl) in
        record {
          kept = subst (IsKept s (touch place at.number writing ∷ past)) (sym kept_is) (
            none_by_write s past at place writing may k.0 writer readers.items k.1 k.2 (finds s view of),
            one.0,
            subst (AreReaders s (touch place at.number writing ∷ past)) (sym empty) one.1,
          );
          rising = λ _ a b h. absurd (subst (Among a) empty (subst (λ (z : Kept). Among a (reads_of z)) kept_is h));
          listed = subst (λ (l : List Access). AreSorted s (reads_of new.kept) l) (sym sorted_is) (none_sorted s (reads_of new.kept));
        }

    pub read_keeps : FindsLast table at known english hebrew (option_to_list writer) None → (after : Vec Access Global) (new : Logged)
        → KeepsRead table (record { place = place; strand = at }) known english hebrew old.rise readers.items old.sorted new.rise after.items new.sorted
        → new.kept ≡ Clean writer after → KeepsOneMore table at place reading known english hebrew old new
    read_keeps finds after new keeps kept_is s past view may was =
        let k = subst (IsKept s past) is was.kept in
        let order = kept_in_order s past at place reading may k.0 writer readers.items k.1 k.2 in
        let strands = strands_of s past at place reading may k.0 writer readers.items k.1 k.2 in
        let first : AreOf s (option_to_list writer) = record {
          order = in_order_left (option_to_list writer) readers.items order;
          strands = λ a h. strands a (among_left a (option_to_list writer) readers.items h);
        } in
        let reads : AreReads s readers.items old.rise old.sorted = record {
          of = record {
            order = order_right (option_to_list writer) readers.items order;
            strands = λ a h. strands a (among_right a (option_to_list writer) readers.items h);
          };
          apart = readers_apart s past readers.items k.2;
          unjoined = readers_unjoined s past readers.items may.rising.1 (λ a b ha hb. may.late a b (inr ha) (inr hb)) k.2;
          rising = λ y. subst (λ (z : Kept). RiseInEnglish s (reads_of z)) is (was.rising y);
          listed = subst (λ (z : Kept). AreSorted s (reads_of z) old.sorted) is was.listed;
        } in
        let more = keeps s view reads (λ a h. (let r = k.2.each a h in let lt = may.rising.0 r.0 r.1.there in omega (arith, lt, r.2.place_is))) in
        record {
          kept = subst (IsKept s (touch place at.number reading ∷ past)) (sym kept_is) (
            none_by_read s past at place reading may k.0 writer readers.items k.1 k.2 refl (finds s view first),
            writer_stays s past at place reading may k.0 writer readers.items k.1 k.2 refl,
            subst (AreReaders s (touch place at.number reading ∷ past)) (sym more.0.after_is)
                (kept_by_read s past at place reading may k.0 writer readers.items k.1 k.2 refl _ (shows_new s reading _ view refl) more.0.left more.0.those),
          );
          rising = λ y. subst (λ (z : Kept). RiseInEnglish s (reads_of z)) (sym kept_is) (more.1 y);
          listed = subst (λ (z : Kept). AreSorted s (reads_of z) new.sorted) (sym kept_is) more.2;
        }

-- whoever knows the strands of what was kept, and the new one, knows those that are kept after a read
pub strands_stay : (at : Strand) (place : ℕ) (old : Kept) (writer : Option Access) (readers new : Vec Access Global) → old ≡ Clean writer readers
    → ((a : Access) → Among a new.items → Among a readers.items ⊎ (record { place = place; strand = at } ≡ a)) → StrandsStay at old (Clean writer new)
strands_stay at place old writer readers new is those known lt was a h =
    let k = subst (AreKnown known) is was in
    elim (among_or a (option_to_list writer) new.items h) [
      | inl l ↦ k a (among_left a (option_to_list writer) readers.items l)
      | inr r ↦ elim (those a r) [
        | inl l ↦ k a (among_right a (option_to_list writer) readers.items l)
        | inr e ↦ subst (λ (z : Access). z.strand.number < known) e lt
      ]
    ]

-- of no accesses nothing is kept
pub new_kept : (s : List Event) (readers : Vec Access Global) → readers.items ≡ [] → IsKept s [] (Clean None readers)
new_kept s readers empty = (
  (λ a b r. r.one),
  (λ t h. absurd h),
  subst (AreReaders s []) (sym empty) (record { each = λ a h. absurd h; whole = λ t l. absurd l.there; order = tt }),
)

pub new_log : (s : List Event) (readers : Vec Access Global) (new : Logged) → new.kept ≡ Clean None readers → readers.items ≡ [] → new.sorted ≡ []
    → IsLogOf s [] new
new_log s readers new kept_is empty sorted_is =
    record {
      kept = subst (IsKept s []) (sym kept_is) (new_kept s readers empty);
      rising = λ _ a b h. absurd (subst (Among a) empty (subst (λ (z : Kept). Among a (reads_of z)) kept_is h));
      listed = subst (λ (l : List Access). AreSorted s (reads_of new.kept) l) (sym sorted_is) (none_sorted s (reads_of new.kept));
    }

-- a log whose room alone is another
pub log_same : (s : List Event) (past : List (Touch Kind)) (old new : Logged) → new.kept ≡ old.kept → new.rise ≡ old.rise
    → new.sorted ≡ old.sorted → IsLogOf s past old → IsLogOf s past new
log_same s past old new kept rise sorted k =
    record {
      kept = subst (IsKept s past) (sym kept) k.kept;
      rising = λ y. subst (λ (z : Kept). RiseInEnglish s (reads_of z)) (sym kept) (k.rising (sym rise ∙ y));
      listed = subst (λ (l : List Access). AreSorted s (reads_of new.kept) l) (sym sorted)
          (subst (λ (z : Kept). AreSorted s (reads_of z) old.sorted) (sym kept) k.listed);
    }
