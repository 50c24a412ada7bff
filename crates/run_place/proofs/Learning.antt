-- What a place knows after a join.
use Rattle.std.proofs.Common.{◌≡◌, ℕ, ◌+◌, ◌<◌, ◌≤◌, Bool, true, false, List, [], ◌∷◌, ◌++◌, length, reverse, inl, inr, ◌⊎◌, subst, ap, sym, refl, ◌∙◌, arith}
use Rattle.std.proofs.lemmas.List.{map-append, length-append, append-nil, nil_from_length, reverse-append}
use Rattle.atomic_table.specs.Seated.{TableId}
use Rattle.fut_base.specs.declared.event.Event.{Event}
use Rattle.fut_base.specs.Sound.{IsSound, IsSoundPast, next_strand, home_of}
use Rattle.strand_laws.proofs.Homes.{homes_stay}
use Rattle.strand_tree.specs.declared.strand.Strand.{Strand}
use Rattle.strand_tree.specs.Placing.{IsStrandOf}
use Rattle.reach_table.specs.Telling.{HasTable}
use Rattle.reach_table.proofs.Events.{strands_more, tables_stay}
use Rattle.event_clock.specs.declared.view.View.{View}
use Rattle.event_clock.specs.Views.{list_at, is_shorter, longer}
use Rattle.event_clock.specs.Rule.{IsPrefix, IsJoin}
use Rattle.event_clock.specs.Seated.{Ticking, Seated}
use Rattle.event_clock.proofs.Lists.{wider_at}
use Rattle.order_query.specs.declared.view.Insert.{Insert}
use Rattle.order_query.specs.Logs.{StartsWith, count_of}
use Rattle.order_query.specs.Reading.{Reading}
use Rattle.run_place.specs.Placed.{book_of, events_in, AreAlike, IsPlace}

tested : (b : Bool) → (b ≡ true) ⊎ (b ≡ false)
tested true = inl refl
tested false = inr refl

-- the longer of two lists is one of them
longer_is : (xs ys : List (ℕ × Event)) → (longer xs ys ≡ xs) ⊎ (longer xs ys ≡ ys)
longer_is xs ys = elim (tested (is_shorter xs ys)) [
  | inl t ↦ inr (rw t refl)
  | inr f ↦ inl (rw f refl)
]

-- after a join one of both lists is known
pub book_is : (v w b : View) → IsJoin v w b → (book_of b ≡ book_of v) ⊎ (book_of b ≡ book_of w)
book_is v w b j =
    let e : book_of b ≡ longer (book_of v) (book_of w) = ap (λ (x : View). list_at x.known 0) j.view ∙ wider_at v.known w.known 0 in
    elim (longer_is (book_of v) (book_of w)) [
      | inl l ↦ inl (e ∙ l)
      | inr r ↦ inr (e ∙ r)
    ]

-- without tickets a beginning is a beginning
pub events_more : (xs ys : List (ℕ × Event)) → IsPrefix xs ys → (later : List Event) × (events_in ys ≡ events_in xs ++ later)
events_more xs ys p = (events_in p.0, ap events_in (sym p.1) ∙ map-append (λ (x : ℕ × Event). x.1) xs p.0)

-- further events make no strand fewer
strands_in_more : (s later : List Event) → next_strand (reverse s) ≤ next_strand (reverse (s ++ later))
strands_in_more s later = subst (λ past. next_strand (reverse s) ≤ next_strand past) (sym (reverse-append s later)) (strands_more (reverse later) (reverse s))

-- a log that begins with one of as many items is that one
same_log : (l m : List Insert) → StartsWith l m → count_of l ≤ count_of m → l ≡ m
same_log l m s few =
    let sizes : length l ≡ length m + length s.0 = ap length s.1 ∙ length-append m s.0 in
    let none : s.0 ≡ [] = nil_from_length s.0 (omega (arith, sizes, few)) in
    s.1 ∙ subst (λ r. m ++ r ≡ m) (sym none) (append-nil m)

-- a longer list of entries has at least as many strands
grows : (xs zs : List (ℕ × Event)) → IsPrefix xs zs → next_strand (reverse (events_in xs)) ≤ next_strand (reverse (events_in zs))
grows xs zs p =
    let more = events_more xs zs p in
    subst (λ s. next_strand (reverse (events_in xs)) ≤ next_strand (reverse s)) (sym more.1) (strands_in_more (events_in xs) more.0)

alike_as : (xs zs : List (ℕ × Event)) (l n : List Insert) → AreAlike xs l → zs ≡ xs → n ≡ l → AreAlike zs n
alike_as xs zs l n a e f = subst (λ ys. AreAlike ys n) (sym e) (subst (λ m. AreAlike xs m) (sym f) a)

-- where of two lists and of two logs one came out, which begins with both, the log is that of the list
pub learned : (xs ys zs : List (ℕ × Event)) (l m n : List Insert) → AreAlike xs l → AreAlike ys m → IsPrefix xs zs → IsPrefix ys zs
    → (zs ≡ xs) ⊎ (zs ≡ ys) → StartsWith n l → StartsWith n m → (n ≡ l) ⊎ (n ≡ m) → AreAlike zs n
learned xs ys zs l m n a b p q (inl e) s t (inl f) = alike_as xs zs l n a e f
learned xs ys zs l m n a b p q (inr e) s t (inr f) = alike_as ys zs m n b e f
learned xs ys zs l m n a b p q (inl e) s t (inr f) =
    let few : count_of n ≤ count_of l =
    (let same = ap count_of f in
    let there = b.strands in
    let more = grows ys zs q in
    let here = a.strands in
    let back : next_strand (reverse (events_in zs)) ≡ next_strand (reverse (events_in xs)) = ap (λ k. next_strand (reverse (events_in k))) e in
    omega (arith, same, there, more, here, back)) in
    alike_as xs zs l n a e (same_log n l s few)
learned xs ys zs l m n a b p q (inr e) s t (inl f) =
    let few : count_of n ≤ count_of m =
    (let same = ap count_of f in
    let there = a.strands in
    let more = grows xs zs p in
    let here = b.strands in
    let back : next_strand (reverse (events_in zs)) ≡ next_strand (reverse (events_in ys)) = ap (λ k. next_strand (reverse (events_in k))) e in
    omega (arith, same, there, more, here, back)) in
    alike_as ys zs m n b e (same_log n m t few)

homes_later : (later past : List Event) → IsSoundPast (later ++ past) → (v : ℕ) → v < next_strand past → home_of (later ++ past) v ≡ home_of past v
homes_later [] past sp v lv = refl
homes_later (e ∷ later) past sp v lv =
    let more = strands_more later past in
    homes_stay (later ++ past) e sp v (omega (arith, more, lv)) ∙ homes_later later past sp.0 v lv

-- a strand of a list is one of each longer list
pub strand_stays : (s later : List Event) (v : Strand) → IsSound (s ++ later) → IsStrandOf s v → IsStrandOf (s ++ later) v
strand_stays s later v sound is =
    let turn : reverse (s ++ later) ≡ reverse later ++ reverse s = reverse-append s later in
    let more = strands_in_more s later in
    let home : home_of (reverse (s ++ later)) v.number ≡ home_of (reverse s) v.number =
    ap (λ past. home_of past v.number) turn ∙ homes_later (reverse later) (reverse s) (subst IsSoundPast turn sound) v.number is.there in
    record { there = omega (arith, more, is.there); future_is = is.future_is ∙ sym home }

-- a place after a join of its pass and of its reader
pub place_after : (clock : Ticking) (orders : TableId) (at : Strand) (table : List Strand) (pass pass' : Seated) (reader reader' : Reading)
    (v : View) (m : List Insert)
    → IsPlace clock orders (record { at = at; table = table; pass = pass; reader = reader })
    → AreAlike (book_of v) m → IsJoin pass.view v pass'.view → pass'.clock ≡ pass.clock → reader'.home ≡ reader.home
    → StartsWith reader'.log reader.log → StartsWith reader'.log m → (reader'.log ≡ reader.log) ⊎ (reader'.log ≡ m)
    → IsPlace clock orders (record { at = at; table = table; pass = pass'; reader = reader' })
place_after clock orders at table pass pass' reader reader' v m is other join clock_is home s t either =
    let one = book_is pass.view v pass'.view join in
    let first = join.first 0 in
    let alike = learned (book_of pass.view) (book_of v) (book_of pass'.view) reader.log m reader'.log is.alike other first (join.second 0) one s t either in
    let more = events_more (book_of pass.view) (book_of pass'.view) first in
    let sound : IsSound (events_in (book_of pass.view) ++ more.0) = subst IsSound more.1 alike.sound in
    record {
      clock_is = clock_is ∙ is.clock_is;
      orders_is = home ∙ is.orders_is;
      alike = alike;
      strand = subst (λ s. IsStrandOf s at) (sym more.1) (strand_stays (events_in (book_of pass.view)) more.0 at sound is.strand);
      table =
          let stays = tables_stay (events_in (book_of pass.view)) more.0 at.number table sound is.strand.there is.table in
          subst (λ s. HasTable s at.number table) (sym more.1) stays;
    }
