-- What the writer keeps from one insert to the next.
use Rattle.std.proofs.Common.{◌≡◌, ◌≢◌, ℕ, zero, suc, ◌+◌, ◌-◌, ◌*◌, ◌%◌, ◌<◌, ◌≤◌, true, List, [], ◌∷◌, ◌++◌, length, length-append, map, sym, ◌∙◌, subst}
use Rattle.std.proofs.Common.{refl, ap, arith}
use Rattle.std.specs.Prelude.{slice_index}
use Rattle.std.proofs.lemmas.List.{map-append, length-map, length-replicate}
use lib.ListN.{get_elem?}
use mathlib.Core.Option.{some, some-ne-none}
use Rattle.atomic_table.specs.Table.{Me, opening}
use Rattle.atomic_table.specs.Seated.{TableId}
use Rattle.order_list.specs.declared.place.Windows.{Windows}
use Rattle.order_list.specs.Labels.{HasMadeSpace, HasInserted}
use Rattle.order_list.specs.Sides.{Lists, AreKept}
use Rattle.order_query.specs.declared.view.Insert.{Insert}
use Rattle.order_query.specs.declared.view.View.{View}
use Rattle.order_query.specs.Logs.{IsLog, AreEarlier}
use Rattle.order_query.specs.Plays.{first_words, first_writer}
use Rattle.order_query.specs.Reading.{ShowBoth, IsWriting}
use Rattle.order_query.specs.Rule.{OrderRule, IsReader}
use Rattle.order_query.specs.Showing.{with_words, MayShow, MayCount}
use Rattle.order_query.proofs.Growing.{english_count, earlier_snoc}

earlier_more : (f : Insert → ℕ) (log : List Insert) (insert : Insert) → AreEarlier 1 (map f log) → f insert < length log + 1
    → AreEarlier 1 (map f (log ++ insert ∷ []))
earlier_more f log insert e lt = subst (AreEarlier 1) (sym (map-append f log (insert ∷ [])))
    (earlier_snoc 1 (map f log) (f insert) e (omega (arith, lt, length-map log f)))

-- an insert at x and y: the lists before it, once there is space, and after it
module _ (home at : TableId) (me : Me (Unit {0}) View) (old mid : Lists) (version x y : ℕ) (w : Windows) (inv : IsWriting old at me version)
    (home_is : at ≡ home) (x_in : x < length old.english.order) (y_in : y < length old.hebrew.order) (room : 1 ≤ old.english.room)
    (was : AreKept old) (mid_kept : AreKept mid) (space_e : HasMadeSpace old.english x w.english mid.english)
    (space_h : HasMadeSpace old.hebrew y w.hebrew mid.hebrew) where
  log_count : length old.english.order ≡ length me.0.log + 1
  log_count = ap (length {A = ℕ}) inv.shown.english.order_is ∙ english_count me.0.log inv.earlier.0

  mid_count : length mid.english.order ≡ length old.english.order
  mid_count = ap (length {A = ℕ}) space_e.order_is

  words_is : at.words ≡ home.words
  words_is = ap (λ (t : TableId). t.words) home_is

  pub may_show : MayShow home me mid version w old x y
  may_show = record {
    alone = inv.alone;
    writes = inv.writes;
    size = inv.size ∙ words_is;
    fits = omega (arith, mid_count, log_count, inv.room, words_is, room);
    version_is = inv.version_is;
    even = inv.even;
    calm = inv.calm;
    small = omega (arith, inv.few);
    kept = mid_kept;
    english = space_e;
    hebrew = space_h;
    shown = inv.shown;
  }

  module _ (new : Lists) (item : ℕ) (kept : AreKept new) (ins_e : HasInserted mid.english x item new.english) (ins_h : HasInserted mid.hebrew y item new.hebrew)
      (me2 : Me (Unit {0}) View) (view : me2 ≡ (with_words me.0 me2.0.words, [])) (size : length me2.0.words ≡ length me.0.words)
      (shown : ShowBoth me2.0.words me.0.log mid) where
    insert : Insert
    insert = record { english = x; hebrew = y }

    log_is : me2.0.log ≡ me.0.log
    log_is = ap (λ (m : Me (Unit {0}) View). m.0.log) view

    pub may_count : MayCount home me2 new item (record { english = x; hebrew = y }) mid
    may_count = record {
      alone = ap (λ (m : Me (Unit {0}) View). m.1) view;
      writes = ap (λ (m : Me (Unit {0}) View). m.0.writes) view ∙ inv.writes;
      size = size ∙ inv.size ∙ words_is;
      fits = omega (arith, ins_e.number, mid_count, log_count, inv.room, words_is, room);
      item_is = ins_e.number ∙ mid_count ∙ log_count ∙ ap (λ (l : List Insert). length l + 1) (sym log_is);
      kept_old = mid_kept;
      kept = kept;
      in_english = omega (arith, x_in, mid_count);
      in_hebrew = omega (arith, y_in, ap (length {A = ℕ}) space_h.order_is);
      space_english = space_e.space;
      space_hebrew = space_h.space;
      english = ins_e;
      hebrew = ins_h;
      shown = subst (λ (l : List Insert). ShowBoth me2.0.words l mid) (sym log_is) shown;
    }

    pub is_writing : (at4 : TableId) (me4 : Me (Unit {0}) View) (version4 : ℕ) → at4 ≡ at → me4.1 ≡ [] → me4.0.writes ≡ true
        → length me4.0.words ≡ length me2.0.words → version4 ≡ slice_index me2.0.words 0 → slice_index me4.0.words 0 ≡ slice_index me2.0.words 0
        → version4 % 2 ≡ 0 → version4 ≤ version + 2
        → me4.0.log ≡ me2.0.log ++ record { english = x; hebrew = y } ∷ [] → ShowBoth me4.0.words me4.0.log new → IsWriting new at4 me4 version4
    is_writing at4 me4 version4 at_is alone writes size4 version_is version_same even most log4 shown4 =
        let added : Insert = record { english = x; hebrew = y } in
        let log : me4.0.log ≡ me.0.log ++ added ∷ [] = log4 ∙ ap (λ (l : List Insert). l ++ added ∷ []) log_is in
        let count : length me4.0.log ≡ length me.0.log + 1 = ap (length {A = Insert}) log ∙ length-append me.0.log (added ∷ []) in
        let words4 : at4.words ≡ at.words = ap (λ (t : TableId). t.words) at_is in
        let longer : IsLog (me.0.log ++ added ∷ []) = (
          earlier_more (λ (i : Insert). i.english) me.0.log added inv.earlier.0 (omega (arith, x_in, log_count)),
          earlier_more (λ (i : Insert). i.hebrew) me.0.log added inv.earlier.1 (omega (arith, y_in, was.count, log_count)),
        ) in
        record {
          alone = alone;
          writes = writes;
          version_is = version_is ∙ sym version_same;
          even = even;
          calm = omega (arith, most, inv.calm, count);
          shown = shown4;
          size = size4 ∙ size ∙ inv.size ∙ sym words4;
          room = omega (arith, count, inv.room, ins_e.room_is, space_e.room_is, words4);
          few = omega (arith, count, inv.few, ins_e.room_is, space_e.room_is);
          earlier = subst IsLog (sym log) longer;
        }

pub kept_first : (capacity : ℕ) → 1 ≤ capacity → OrderRule (opening (first_words (2 * (capacity - 1))) [] (first_writer (2 * (capacity - 1))))
kept_first capacity some_one =
    let more = 2 * (capacity - 1) in
    record {
      log = [];
      published = record {
        capacity = capacity;
        size = (let rest = length-replicate {A = ℕ} more 0 in omega (arith, rest, some_one));
        counted = refl;
        few = some_one;
        bounded = omega arith;
        rising = λ _. record { english = tt; hebrew = tt };
      };
      writer = first_writer more;
      writer_first = refl;
      knows_all = record { writes = refl; words_are = refl; log_is = refl };
      readers = no_reader more;
    }
  where
    no_reader : (more : ℕ) (seat : ℕ) (v : View) → get_elem? (first_writer more ∷ []) seat ≡ some v → seat ≢ 0 → IsReader (first_words more) [] v
    no_reader more zero v at ne = absurd (ne refl)
    no_reader more (suc seat) v at ne = absurd (some-ne-none v (sym at))
