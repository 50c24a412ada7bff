-- Reads in the order of places, of which some are marked and left out.
use Rattle.std.proofs.Common.{◌≡◌, ◌≢◌, ℕ, zero, suc, ◌+◌, ◌-◌, ◌==◌, ◌<◌, ◌≤◌, Bool, true, false, not, List, [], ◌∷◌}
use Rattle.std.proofs.Common.{◌++◌, ◌⊎◌, inl, inr, subst, ap, sym, refl, ◌∙◌, length, take, drop, get_or, set, cond, arith, true≢false}
use Rattle.std.proofs.lemmas.Bool.{cases_lt, cases_eq, eqb-true}
use Rattle.std.proofs.lemmas.List.{get_or-set_same, get_or-set_other, length-set, take-append-drop}
use Rattle.std.specs.Prelude.{◌↔◌, filter}
use Rattle.fut_base.specs.Dag.{Among}
use Rattle.fut_base.specs.Orders.{stands_before}
use Rattle.fut_base.proofs.Members.{at_place}
use Rattle.strand_laws.proofs.Places.{same_or_not, among_or, among_left, among_right, by_eq}
use Rattle.strand_tree.specs.declared.strand.Strand.{Strand}
use Rattle.access_shards.specs.declared.kept.Access.{Access}
use Rattle.access_shards.specs.Kept.{IsInOrder}
use Rattle.access_shards.specs.Runs.{access_at, IsParted, IsUpTo, IsReaching}
use Rattle.access_shards.specs.Replacing.{IsMarked, AreMarked, IsNotInRun, AreLeft}
use Rattle.access_shards.proofs.Looking.{no_access}
use Rattle.access_shards.proofs.Runs.{index_of}

-- of two places in a list in order the first has the access that is before
pub in_order_at : (xs : List Access) → IsInOrder xs → (i j : ℕ) → i < j → j < length xs → (access_at xs i).place < (access_at xs j).place
in_order_at [] h i j lt le = absurd (omega arith)
in_order_at (x ∷ xs) h i zero lt le = absurd (omega arith)
in_order_at (x ∷ xs) h zero (suc j) lt le = h.0 (access_at xs j) (at_place xs j no_access (omega arith))
in_order_at (x ∷ xs) h (suc i) (suc j) lt le = in_order_at xs h.1 i j (omega arith) (omega arith)

-- accesses of one place in a list in order stand at one place of it
pub one_index : (xs : List Access) → IsInOrder xs → (i j : ℕ) → i < length xs → j < length xs → (access_at xs i).place ≡ (access_at xs j).place → i ≡ j
one_index xs order i j li lj same = elim (cases_lt i j) [
  | inl lt ↦ (let k = in_order_at xs order i j lt lj in absurd (omega (arith, k, same)))
  | inr ge ↦ elim (cases_eq i j) [
    | inl e ↦ e
    | inr ne ↦ (let k = in_order_at xs order j i (omega (arith, ge, ne)) li in absurd (omega (arith, k, same)))
  ]
]

-- accesses of one place in a list in order are one
pub one_access : (xs : List Access) → IsInOrder xs → (a b : Access) → Among a xs → Among b xs → a.place ≡ b.place → a ≡ b
one_access xs order a b ha hb same =
    let i = index_of a xs ha in
    let j = index_of b xs hb in
    let e = one_index xs order i.0 j.0 i.1 j.1 (ap (λ (z : Access). z.place) i.2 ∙ same ∙ sym (ap (λ (z : Access). z.place) j.2)) in
    sym i.2 ∙ ap (access_at xs) e ∙ j.2

pub parts_low : (xs : List Access) (place m : ℕ) → IsInOrder xs → m < length xs → (access_at xs m).place < place → (i : ℕ) → i < m + 1
    → (access_at xs i).place < place
parts_low xs place m order lm lt i li = elim (cases_eq i m) [
  | inl e ↦ subst (λ k. (access_at xs k).place < place) (sym e) lt
  | inr ne ↦ (let k = in_order_at xs order i m (omega (arith, li, ne)) lm in omega (arith, k, lt))
]

pub parts_high : (xs : List Access) (place m : ℕ) → IsInOrder xs → place ≤ (access_at xs m).place → (i : ℕ) → m ≤ i → i < length xs
    → place ≤ (access_at xs i).place
parts_high xs place m order le i li lt = elim (cases_eq i m) [
  | inl e ↦ subst (λ k. place ≤ (access_at xs k).place) (sym e) le
  | inr ne ↦ (let k = in_order_at xs order m i (omega (arith, li, ne)) lt in omega (arith, k, le))
]

-- a member is the first access that is not before its place
pub found_at : (xs : List Access) (a : Access) → IsInOrder xs → Among a xs → (n : ℕ) → n ≤ length xs → IsParted a.place xs n
    → (n < length xs) × (access_at xs n ≡ a)
found_at xs a order h n le parted =
    let i = index_of a xs h in
    let p : (access_at xs i.0).place ≡ a.place = ap (λ (z : Access). z.place) i.2 in
    elim (cases_lt i.0 n) [
      | inl lt ↦ (let k = parted.before i.0 lt in absurd (omega (arith, k, p)))
      | inr ge ↦ elim (cases_eq i.0 n) [
        | inl e ↦ (omega (arith, e, i.1), ap (access_at xs) (sym e) ∙ i.2)
        | inr ne ↦ (
            let k = in_order_at xs order n i.0 (omega (arith, ge, ne)) i.1 in
            let q = parted.after n (omega arith) (omega (arith, ge, ne, i.1)) in
            absurd (omega (arith, k, q, p)))
      ]
    ]

pub not_on : (b : Bool) → not b ≡ true → b ≡ false
not_on true e = sym e
not_on false e = refl

pub not_off : (b : Bool) → not b ≡ false → b ≡ true
not_off true e = refl
not_off false e = sym e

-- what the sides of two strands tell of an access
module _ (english hebrew : List ℕ) (at : Strand) (a : Access) (x y : ℕ) (ex : x ≡ a.strand.number) (ey : y ≡ at.number) (ne : a.strand.number ≢ at.number) where
  side_of : (all : List ℕ) (side : Bool) → side ≡ stands_before x y all → side ≡ stands_before a.strand.number at.number all
  side_of all side is = is ∙ ap (λ n. stands_before n y all) ex ∙ ap (λ n. stands_before a.strand.number n all) ey

  pub after_told : (side : Bool) → side ≡ stands_before x y english → side ≡ false → IsUpTo english at a → ⊥
  after_told side is off (inl e) = ne e
  after_told side is off (inr f) = true≢false (sym f ∙ sym (side_of english side is) ∙ off)

  pub before_told : (side other : Bool) → side ≡ stands_before x y english → other ≡ stands_before x y hebrew → side ≡ true → other ≡ false
      → IsUpTo english at a × (IsReaching english hebrew at a → ⊥)
  before_told side other is is' on off = (
    inr (sym (side_of english side is) ∙ on),
    λ r. elim r [ inl e ↦ ne e | inr p ↦ true≢false (sym p.1 ∙ sym (side_of hebrew other is') ∙ off) ],
  )

  pub reaching_told : (side other : Bool) → side ≡ stands_before x y english → other ≡ stands_before x y hebrew → side ≡ true → other ≡ true
      → IsReaching english hebrew at a
  reaching_told side other is is' on on' = inr (sym (side_of english side is) ∙ on, sym (side_of hebrew other is') ∙ on')

-- a list with another access at a place of it
pub of_set : (xs : List Access) (n : ℕ) (y a : Access) → n < length xs → Among a (set xs n y)
    → (y ≡ a) ⊎ ((i : ℕ) × (i < length xs) × (i ≢ n) × (access_at xs i ≡ a))
of_set xs n y a lt h =
    let i = index_of a (set xs n y) h in
    let len = length-set xs n y in
    elim (cases_eq i.0 n) [
      | inl e ↦ inl (sym (get_or-set_same xs n y no_access lt) ∙ ap (access_at (set xs n y)) (sym e) ∙ i.2)
      | inr ne ↦ inr (i.0, omega (arith, i.1, len), ne, sym (get_or-set_other xs n i.0 y no_access ne) ∙ i.2)
    ]

pub in_set : (xs : List Access) (n : ℕ) (y : Access) (i : ℕ) → i < length xs → i ≢ n → Among (access_at xs i) (set xs n y)
in_set xs n y i lt ne =
    let len = length-set xs n y in
    subst (λ z. Among z (set xs n y)) (get_or-set_other xs n i y no_access ne) (at_place (set xs n y) i no_access (omega (arith, lt, len)))

-- of a list by places, that it is in order
pub order_by : (xs : List Access) → ((i j : ℕ) → i < j → j < length xs → (access_at xs i).place < (access_at xs j).place) → IsInOrder xs
order_by [] h = tt
order_by (x ∷ xs) h = (
  (λ b m. (let k = index_of b xs m in subst (λ (z : Access). x.place < z.place) k.2 (h 0 (suc k.0) (omega arith) (omega (arith, k.1))))),
  order_by xs (λ i j lt le. h (suc i) (suc j) (omega (arith, lt)) (omega (arith, le))),
)

-- the place stays where an access is marked
place_set : (xs : List Access) (n : ℕ) (y : Access) → n < length xs → (access_at xs n).place ≡ y.place → (i : ℕ)
    → (access_at (set xs n y) i).place ≡ (access_at xs i).place
place_set xs n y lt same i = elim (cases_eq i n) [
  | inl e ↦ ap (λ k. (access_at (set xs n y) k).place) e ∙ ap (λ (z : Access). z.place) (get_or-set_same xs n y no_access lt) ∙ sym same
      ∙ ap (λ k. (access_at xs k).place) (sym e)
  | inr ne ↦ ap (λ (z : Access). z.place) (get_or-set_other xs n i y no_access ne)
]

pub marked_at : (xs : List Access) (n place : ℕ) (strand : Strand) → n < length xs → (access_at xs n).place ≡ place → IsInOrder xs
    → IsMarked strand.number place xs (set xs n (record { place = place; strand = strand }))
marked_at xs n place strand lt is order =
    let y : Access = record { place = place; strand = strand } in
    let len = length-set xs n y in
    record {
      order = order_by (set xs n y) (λ i j l m. (
          let k = in_order_at xs order i j l (omega (arith, m, len)) in
          let p = place_set xs n y lt is i in
          let q = place_set xs n y lt is j in
          omega (arith, k, p, q)));
      those = λ a ne. (
        (λ h. (elim (of_set xs n y a lt h) [
          | inl e ↦ absurd (ne (sym (ap (λ (z : Access). z.strand.number) e)))
          | inr k ↦ (
            subst (λ z. Among z xs) k.3 (at_place xs k.0 no_access k.1),
            λ same. k.2 (one_index xs order k.0 n k.1 lt (ap (λ (z : Access). z.place) k.3 ∙ same ∙ sym is)),
          )
        ])),
        (λ k. (
            let i = index_of a xs k.0 in
            subst (λ z. Among z (set xs n y)) i.2
            (in_set xs n y i.0 i.1 (λ e. k.1 (sym (ap (λ (z : Access). z.place) i.2) ∙ ap (λ m. (access_at xs m).place) e ∙ is))))),
      );
    }

pub those_at : (xs : List Access) (n place : ℕ) (strand : Strand) → n < length xs → (a : Access)
    → Among a (set xs n (record { place = place; strand = strand }))
    → Among a xs ⊎ (a.strand.number ≡ strand.number)
those_at xs n place strand lt a h = elim (of_set xs n (record { place = place; strand = strand }) a lt h) [
  | inl e ↦ inr (sym (ap (λ (z : Access). z.strand.number) e))
  | inr k ↦ inl (subst (λ z. Among z xs) k.3 (at_place xs k.0 no_access k.1))
]

-- where no access has the place, nothing is to be marked
pub marked_none : (xs : List Access) (n place number : ℕ) → n ≤ length xs → IsParted place xs n → (n < length xs → (access_at xs n).place ≢ place)
    → IsInOrder xs → IsMarked number place xs xs
marked_none xs n place number le parted off order =
    record {
      order = order;
      those = λ a ne. ((λ h. (h, none a h)), (λ k. k.0));
    }
  where
    none : (a : Access) → Among a xs → a.place ≡ place → ⊥
    none a h e =
        let k = found_at xs a order h n le (subst (λ p. IsParted p xs n) (sym e) parted) in
        off k.0 (ap (λ (z : Access). z.place) k.1 ∙ e)

-- one more of a run is marked
pub mark_more : (number : ℕ) (row : List Access) (start k : ℕ) (old now next : List Access) → start ≤ k → AreMarked number row start k old now
    → IsMarked number (access_at row k).place now next → AreMarked number row start (k + 1) old next
mark_more number row start k old now next le was is =
    record {
      order = is.order;
      those = λ a ne. (
        (λ h. (
            let m = (is.those a ne).0 h in
            let p = (was.those a ne).0 m.0 in (
              p.0,
              λ j ge lt. elim (cases_eq j k) [
                | inl e ↦ λ same. m.1 (same ∙ ap (λ i. (access_at row i).place) e)
                | inr other ↦ p.1 j ge (omega (arith, lt, other))
              ],
            ))),
        (λ p. ((is.those a ne).1 ((was.those a ne).1 (p.0, λ j ge lt. p.1 j ge (omega (arith, lt))), p.1 k le (omega arith)))),
      );
    }

pub mark_start : (number : ℕ) (row : List Access) (start : ℕ) (old : List Access) → IsInOrder old → AreMarked number row start start old old
mark_start number row start old order =
    record {
      order = order;
      those = λ a ne. ((λ h. (h, λ k ge lt. absurd (omega (arith, ge, lt)))), (λ p. p.0));
    }

-- the accesses of a list that are on other strands than one
abbrev pub off_strand : ℕ → List Access → List Access
off_strand number xs = filter (λ (b : Access). not (b.strand.number == number)) xs

pub of_filter : (number : ℕ) (xs : List Access) (a : Access) → Among a (off_strand number xs)
    → Among a xs × (a.strand.number ≡ number → ⊥)
of_filter number [] a h = absurd h
of_filter number (x ∷ xs) a h =
    by_eq (λ t. Among a (cond (not t) (x ∷ off_strand number xs) (off_strand number xs)) → Among a (x ∷ xs) × (a.strand.number ≡ number → ⊥))
    x.strand.number number (λ e m. (let k = of_filter number xs a m in (inr k.0, k.1)))
    (λ ne m. elim m [
      | inl e ↦ (inl e, λ same. ne (ap (λ (z : Access). z.strand.number) e ∙ same))
      | inr l ↦ (let k = of_filter number xs a l in (inr k.0, k.1))
    ]) h

pub in_filter : (number : ℕ) (xs : List Access) (a : Access) → Among a xs → (a.strand.number ≡ number → ⊥) → Among a (off_strand number xs)
in_filter number [] a h ne = h
in_filter number (x ∷ xs) a h ne =
    by_eq (λ t. Among a (cond (not t) (x ∷ off_strand number xs) (off_strand number xs))) x.strand.number number
    (λ e. elim h [ inl same ↦ absurd (ne (sym (ap (λ (z : Access). z.strand.number) same) ∙ e)) | inr l ↦ in_filter number xs a l ne ])
    (λ _. elim h [ inl same ↦ inl same | inr l ↦ inr (in_filter number xs a l ne) ])

order_filter : (number : ℕ) (xs : List Access) → IsInOrder xs → IsInOrder (off_strand number xs)
order_filter number [] h = tt
order_filter number (x ∷ xs) h =
    by_eq (λ t. IsInOrder (cond (not t) (x ∷ off_strand number xs) (off_strand number xs))) x.strand.number number
    (λ _. order_filter number xs h.1)
    (λ _. ((λ b m. h.0 b (of_filter number xs b m).0), order_filter number xs h.1))

-- those that are left of marked ones
pub left_of_marked : (number : ℕ) (row : List Access) (start end : ℕ) (old now : List Access) → AreMarked number row start end old now
    → AreLeft number row start end old (off_strand number now)
left_of_marked number row start end old now m =
    record {
      order = order_filter number now m.order;
      from = λ a h. (let k = of_filter number now a h in (m.those a k.1).0 k.0);
      to = λ a h ne off. in_filter number now a ((m.those a ne).1 (h, off)) ne;
    }

-- where the run is empty all are left
pub left_none : (number : ℕ) (row : List Access) (start end : ℕ) (old : List Access) → end ≤ start → IsInOrder old → AreLeft number row start end old old
left_none number row start end old none order =
    record {
      order = order;
      from = λ a h. (h, λ k ge lt. absurd (omega (arith, none, ge, lt)));
      to = λ a h _ _. h;
    }

-- what stands at a place of a list does not rest on what stands where there is none
pub same_default : (xs : List Access) (i : ℕ) (d : Access) → i < length xs → access_at xs i ≡ get_or xs i d
same_default [] i d lt = absurd (omega arith)
same_default (x ∷ xs) zero d lt = refl
same_default (x ∷ xs) (suc i) d lt = same_default xs i d (omega arith)
