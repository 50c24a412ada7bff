-- Which reads are kept where they rise in the English order of one future.
use Rattle.std.proofs.Common.{◌≡◌, ◌≢◌, ℕ, ◌<◌, Bool, true, false, ◌&&◌, List, [], ◌∷◌, ◌++◌, ◌⊎◌, inl, inr, subst, ap, sym, refl, ◌∙◌, reverse, length}
use Rattle.std.proofs.Common.{length-append, get_or, take, drop, ◌-◌, arith, suc, true≢false}
use Rattle.std.proofs.lemmas.Bool.{cases_lt}
use Rattle.std.proofs.lemmas.List.{take-append-drop, length-take-le, get_or-take}
use Rattle.std.specs.Prelude.{◌↔◌, ◌≤◌}
use Rattle.std.proofs.Math.Seq.{get_or-append_seam, drop-cons}
use Rattle.fut_base.specs.declared.event.Event.{Event}
use Rattle.fut_base.specs.Dag.{Among, ReachesBy, edges_of}
use Rattle.fut_base.specs.Orders.{stands_before, english_of, english_past, hebrew_past}
use Rattle.fut_base.specs.Sound.{IsSound, home_of}
use Rattle.strand_laws.proofs.Places.{place, same_or_not, before_place, place_before, among_or, among_left, among_right}
use Rattle.strand_laws.proofs.Sources.{whole_en, whole_he}
use Rattle.strand_laws.proofs.Held.{and_split}
use Rattle.strand_laws.proofs.Least.{try_means_path}
use Rattle.strand_tree.specs.declared.strand.Strand.{Strand}
use Rattle.strand_tree.specs.Placing.{IsStrandOf}
use Rattle.access_shards.specs.declared.kept.Access.{Access}
use Rattle.access_shards.specs.Touches.{Touch, IsRising, IsLate}
use Rattle.access_shards.specs.Kept.{Kind, IsInOrder, AreReaders}
use Rattle.access_shards.specs.Finding.{AreThoseApart}
use Rattle.access_shards.specs.Logged.{StandsFirst, RiseInEnglish}
use Rattle.access_shards.specs.Reading.{IsNotAfter, EndsBefore, AreApart, AreUnjoined}
use Rattle.std.proofs.lemmas.Bool.{and_from}
use Rattle.access_shards.proofs.Enough.{one_at}
use Rattle.access_shards.proofs.Keeping.{in_order_last}

module _ (s : List Event) (sound : IsSound s) where
  -- a strand after one that stands before another
  pub first_then : (u v w : Strand) → IsStrandOf s w → StandsFirst s u v → IsNotAfter (english_of s) v w → IsNotAfter (english_of s) u w
  first_then u v w ow h k = record { future_is = h.future_is ∙ k.future_is; first = go k.first }
    where
      go : (v.number ≡ w.number) ⊎ (stands_before v.number w.number (english_of s) ≡ true)
          → (u.number ≡ w.number) ⊎ (stands_before u.number w.number (english_of s) ≡ true)
      go (inl e) = inr (subst (λ n. stands_before u.number n (english_of s) ≡ true) e h.first)
      go (inr f) = elim (same_or_not u.number v.number) [
        | inl e ↦ inr (subst (λ n. stands_before n w.number (english_of s) ≡ true) (sym e) f)
        | inr ne ↦ elim (same_or_not v.number w.number) [
          | inl e ↦ inr (subst (λ n. stands_before u.number n (english_of s) ≡ true) e h.first)
          | inr n ↦ (
              let p = before_place u.number v.number (english_of s) ne h.first in
              let q = before_place v.number w.number (english_of s) n f in
              inr (place_before u.number w.number (english_of s) ((whole_en (reverse s) sound).all w.number ow.there) (omega (arith, p, q))))
        ]
      ]

  -- of two strands that no path joins, from the first of which a third one is reached, the second stands later in the
  -- Hebrew order; so where it is not after the third in the English order, the third is reached from it too
  pub reached_from_later : (u v w : Strand) → IsStrandOf s u → IsStrandOf s v → IsStrandOf s w → StandsFirst s u v → IsNotAfter (english_of s) v w
      → (ReachesBy (edges_of s) u.number v.number → ⊥) → ReachesBy (edges_of s) u.number w.number → ReachesBy (edges_of s) v.number w.number
  reached_from_later u v w ou ov ow h k apart r = elim (same_or_not v.number w.number) [
    | inl e ↦ ([], e)
    | inr n ↦ elim k.first [ inl e ↦ absurd (n e) | inr f ↦ go n f ]
  ]
    where
      E : List ℕ
      E = english_past (reverse s)

      H : List ℕ
      H = hebrew_past (reverse s)

      home_uv : home_of (reverse s) u.number ≡ home_of (reverse s) v.number
      home_uv = sym ou.future_is ∙ h.future_is ∙ ov.future_is

      home_vw : home_of (reverse s) v.number ≡ home_of (reverse s) w.number
      home_vw = sym ov.future_is ∙ k.future_is ∙ ow.future_is

      differ : u.number ≢ v.number
      differ e = apart ([], e)

      -- u does not precede v, so it stands behind it
      behind : place u.number H < place v.number H → ⊥
      behind lt =
          let before = place_before u.number v.number H ((whole_he (reverse s) sound).all v.number ov.there) lt in
          apart ((try_means_path (reverse s) sound u.number v.number (record { one = ou.there; other = ov.there })).1
          (inl (home_uv, inr (and_from _ _ h.first before))))

      go : v.number ≢ w.number → stands_before v.number w.number E ≡ true → ReachesBy (edges_of s) v.number w.number
      go n f =
          let p = before_place u.number v.number E differ h.first in
          let q = before_place v.number w.number E n f in
          elim ((try_means_path (reverse s) sound u.number w.number (record { one = ou.there; other = ow.there })).0 r) [
            | inr o ↦ absurd (o.0 (home_uv ∙ home_vw))
            | inl o ↦ elim o.1 [
              | inl e ↦ (let z = ap (λ n. place n E) e in absurd (omega (arith, p, q, z)))
              | inr pre ↦ (
                  let second = (and_split (stands_before u.number w.number E) (stands_before u.number w.number H) pre).1 in
                  let ne : u.number ≢ w.number = λ e. (let z = ap (λ n. place n E) e in omega (arith, p, q, z)) in
                  let z = before_place u.number w.number H ne second in
                  elim (cases_lt (place u.number H) (place v.number H)) [
                    | inl lt ↦ absurd (behind lt)
                    | inr le ↦ (
                        let before = place_before v.number w.number H ((whole_he (reverse s) sound).all w.number ow.there) (omega (arith, z, le)) in
                        (try_means_path (reverse s) sound v.number w.number (record { one = ov.there; other = ow.there })).1
                        (inl (home_vw, inr (and_from _ _ f before))))
                  ])
            ]
          ]

-- a list is empty or has a last one
pub split_last : {X : Type 0} → (all : List X) → (all ≡ []) ⊎ ((before : List X) × (last : X) × (all ≡ before ++ last ∷ []))
split_last [] = inl refl
split_last {X} (a ∷ rest) = elim (split_last rest) [
  | inl e ↦ inr ([], a, ap (λ (l : List X). a ∷ l) e)
  | inr k ↦ inr (a ∷ k.0, k.1, ap (λ (l : List X). a ∷ l) k.2)
]

-- of accesses in order, each is the last or before it
is_last : (all before : List Access) (last : Access) → all ≡ before ++ last ∷ [] → IsInOrder all → (a : Access) → Among a all
    → (last ≡ a) ⊎ (a.place < last.place)
is_last all before last is order a h =
    let o = in_order_last before last (subst IsInOrder is order) in
    elim (among_or a before (last ∷ []) (subst (Among a) is h)) [ inl l ↦ inr (o.1 a l) | inr (inl e) ↦ inl e | inr (inr n) ↦ absurd n ]

-- the access at the last place is the last one
pub last_at : (xs before : List Access) (last d : Access) → xs ≡ before ++ last ∷ [] → get_or xs (length xs - 1) d ≡ last
last_at xs before last d is =
    let n = length-append before (last ∷ []) in
    let m = ap (length {A = Access}) is in
    let len : length xs - 1 ≡ length before = omega (arith, n, m) in
    ap (λ (l : List Access). get_or l (length xs - 1) d) is ∙ ap (λ k. get_or (before ++ last ∷ []) k d) len ∙ get_or-append_seam before last [] d

last_among : (all before : List Access) (last : Access) → all ≡ before ++ last ∷ [] → Among last all
last_among all before last is = subst (Among last) (sym is) (among_right last before (last ∷ []) (inl refl))

-- what is said of the last of some accesses is said of the one at the last place
pub ends_at : (english : List ℕ) (at : Strand) (xs : List Access) (d : Access) → 0 < length xs → EndsBefore english at xs
    → IsNotAfter english (get_or xs (length xs - 1) d).strand at
ends_at english at xs d some ends = elim (split_last xs) [
  | inl e ↦ absurd (let k = ap (length {A = Access}) e in omega (arith, some, k))
  | inr k ↦ subst (λ (x : Access). IsNotAfter english x.strand at) (sym (last_at xs k.0 k.1 d k.2)) (ends k.0 k.1 k.2)
]

pub in_order_left : (xs ys : List Access) → IsInOrder (xs ++ ys) → IsInOrder xs
in_order_left [] ys h = tt
in_order_left (x ∷ xs) ys h = ((λ b k. h.0 b (among_left b xs ys k)), in_order_left xs ys h.1)

-- those of accesses in order that are left rise with a new one that none of them is after
pub rise_on : (s : List Event) (new : Access) (old left : List Access) → RiseInEnglish s old
    → ((a : Access) → Among a old → IsNotAfter (english_of s) a.strand new.strand) → AreThoseApart s new.strand old left
    → ((a : Access) → Among a old → a.place < new.place) → RiseInEnglish s (left ++ new ∷ [])
rise_on s new old left rising none_after those before a b ha hb lt = elim (among_or a left (new ∷ []) ha) [
  | inl l ↦ (
      let k = (those.those a).0 l in
      elim (among_or b left (new ∷ []) hb) [
        | inl m ↦ rising a b k.0 ((those.those b).0 m).0 lt
        | inr (inl e) ↦ subst (λ (z : Access). StandsFirst s a.strand z.strand) e (record {
          future_is = (none_after a k.0).future_is;
          first = elim (none_after a k.0).first [ inl e ↦ absurd (k.1 ([], e)) | inr f ↦ f ];
        })
        | inr (inr n) ↦ absurd n
      ])
  | inr (inl e) ↦ (
      let p = ap (λ (z : Access). z.place) e in
      elim (among_or b left (new ∷ []) hb) [
        | inl m ↦ (let q = before b ((those.those b).0 m).0 in absurd (omega (arith, p, q, lt)))
        | inr (inl f) ↦ (let q = ap (λ (z : Access). z.place) f in absurd (omega (arith, p, q, lt)))
        | inr (inr n) ↦ absurd n
      ])
  | inr (inr n) ↦ absurd n
]

-- no path leads from a kept read to a later one
pub readers_apart : (s : List Event) (past : List (Touch Kind)) (readers : List Access) → AreReaders s past readers → AreApart s readers
readers_apart s past readers r a b ha hb lt path =
    let x = r.each a ha in
    let y = r.each b hb in
    x.1.latest y.0 y.1.there y.1.kind_is (omega (arith, lt, x.2.place_is, y.2.place_is))
    (inl (subst (λ n. ReachesBy (edges_of s) n y.0.strand) x.2.number_is (subst (λ n. ReachesBy (edges_of s) a.strand.number n) y.2.number_is path)))

-- no path leads from a kept read to another strand of one
pub readers_unjoined : (s : List Event) (past : List (Touch Kind)) (readers : List Access) → IsRising past → IsLate (edges_of s) past
    → AreReaders s past readers → AreUnjoined s readers
readers_unjoined s past readers rising late r a b ha hb ne path =
    let x = r.each a ha in
    let y = r.each b hb in
    let there : ReachesBy (edges_of s) x.0.strand y.0.strand =
    subst (λ n. ReachesBy (edges_of s) n y.0.strand) x.2.number_is (subst (λ n. ReachesBy (edges_of s) a.strand.number n) y.2.number_is path) in
    elim (cases_lt x.0.place y.0.place) [
      | inl lt ↦ x.1.latest y.0 y.1.there y.1.kind_is lt (inl there)
      | inr ge ↦ elim (same_or_not x.0.place y.0.place) [
        | inl e ↦ ne (x.2.number_is ∙ ap (λ (t : Touch Kind). t.strand) (one_at past rising x.0 y.0 x.1.there y.1.there e) ∙ sym y.2.number_is)
        | inr other ↦ ne (x.2.number_is ∙ sym (late y.0 x.0 y.1.there x.1.there (omega (arith, ge, other)) there) ∙ sym y.2.number_is)
      ]
    ]

-- a single access rises
pub one_rises : (s : List Event) (all : List Access) → length all ≡ 1 → RiseInEnglish s all
one_rises s all e a b ha hb lt = go all e ha hb
  where
    go : (l : List Access) → length l ≡ 1 → Among a l → Among b l → StandsFirst s a.strand b.strand
    go [] e ha hb = absurd ha
    go (x ∷ y ∷ rest) e ha hb = absurd (omega (arith, e))
    go (x ∷ []) e (inr n) hb = absurd n
    go (x ∷ []) e ha (inr n) = absurd n
    go (x ∷ []) e (inl ea) (inl eb) = let p = ap (λ (z : Access). z.place) ea in let q = ap (λ (z : Access). z.place) eb in absurd (omega (arith, p, q, lt))

-- what is in a list that was cut and given one more
pub among_more : (n : ℕ) (old after : List Access) (new : Access) → after ≡ take n old ++ new ∷ [] → (a : Access) → Among a after → Among a old ⊎ (new ≡ a)
among_more n old after new is a h = elim (among_or a (take n old) (new ∷ []) (subst (Among a) is h)) [
  | inl l ↦ inl (subst (Among a) (take-append-drop n old) (among_left a (take n old) (drop n old) l))
  | inr (inl e) ↦ inr e
  | inr (inr z) ↦ absurd z
]

pub among_one_more : (left old after : List Access) (new : Access) → ((a : Access) → Among a left → Among a old) → after ≡ left ++ new ∷ [] → (a : Access)
    → Among a after → Among a old ⊎ (new ≡ a)
among_one_more left old after new some is a h = elim (among_or a left (new ∷ []) (subst (Among a) is h)) [
  | inl l ↦ inl (some a l)
  | inr (inl e) ↦ inr e
  | inr (inr z) ↦ absurd z
]
