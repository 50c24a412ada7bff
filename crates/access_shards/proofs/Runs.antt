-- Of kept reads in the English order of one future, those from which a later strand of it is reached are one run.
use Rattle.std.proofs.Common.{◌≡◌, ◌≢◌, ℕ, zero, suc, ◌+◌, ◌-◌, ◌<◌, ◌≤◌, Bool, true, false, List, [], ◌∷◌}
use Rattle.std.proofs.Common.{◌++◌, ◌⊎◌, inl, inr, subst, ap, sym, refl, ◌∙◌, reverse, length, take, drop, get_or, arith, true≢false}
use Rattle.std.proofs.lemmas.Bool.{cases_lt, cases_eq}
use Rattle.std.specs.Prelude.{◌↔◌}
use Rattle.fut_base.specs.declared.event.Event.{Event}
use Rattle.fut_base.specs.Dag.{Among, ReachesBy, edges_of}
use Rattle.fut_base.specs.Orders.{stands_before, english_of, english_past}
use Rattle.fut_base.proofs.Members.{at_place}
use Rattle.strand_laws.proofs.Places.{place, same_or_not, before_place, place_before, one_place, among_or, among_left, among_right}
use Rattle.strand_laws.proofs.Sources.{whole_en}
use Rattle.strand_tree.specs.declared.strand.Strand.{Strand}
use Rattle.strand_tree.specs.Placing.{IsStrandOf}
use Rattle.reach_table.proofs.Reaching.{tells_inside}
use Rattle.reach_table.proofs.Members.{in_take_or_drop, from_take, from_drop}
use Rattle.access_shards.specs.declared.kept.Access.{Access}
use Rattle.access_shards.specs.declared.run.Run.{Run}
use Rattle.access_shards.specs.Kept.{IsViewOf}
use Rattle.access_shards.specs.Finding.{IsApart, AllOnKnown}
use Rattle.access_shards.specs.Logged.{StandsFirst, IsInEnglish}
use Rattle.access_shards.specs.Reading.{IsNotAfter, AreUnjoined}
use Rattle.access_shards.specs.Runs.{access_at, IsUpTo, IsReaching, IsRun, EndsIn}
use Rattle.access_shards.proofs.Looking.{no_access}
use Rattle.access_shards.proofs.Rising.{first_then, reached_from_later}

-- a member of a list stands at a place of it
pub index_of : (a : Access) (xs : List Access) → Among a xs → (i : ℕ) × (i < length xs) × (access_at xs i ≡ a)
index_of a [] h = absurd h
index_of a (x ∷ xs) (inl e) = (0, omega arith, e)
index_of a (x ∷ xs) (inr h) = let k = index_of a xs h in (suc k.0, omega (arith, k.1), k.2)

pub in_take : (xs : List Access) (n i : ℕ) → i < n → i < length xs → Among (access_at xs i) (take n xs)
in_take [] n i lt le = absurd (omega arith)
in_take (x ∷ xs) zero i lt le = absurd (omega arith)
in_take (x ∷ xs) (suc n) zero lt le = inl refl
in_take (x ∷ xs) (suc n) (suc i) lt le = inr (in_take xs n i (omega arith) (omega arith))

pub in_drop : (xs : List Access) (n i : ℕ) → n ≤ i → i < length xs → Among (access_at xs i) (drop n xs)
in_drop [] n i le lt = absurd (omega arith)
in_drop (x ∷ xs) zero i le lt = at_place (x ∷ xs) i no_access lt
in_drop (x ∷ xs) (suc n) zero le lt = absurd (omega arith)
in_drop (x ∷ xs) (suc n) (suc i) le lt = in_drop xs n i (omega arith) (omega arith)

pub of_take : (a : Access) (xs : List Access) (n : ℕ) → Among a (take n xs) → (i : ℕ) × (i < n) × (i < length xs) × (access_at xs i ≡ a)
of_take a [] zero h = absurd h
of_take a [] (suc n) h = absurd h
of_take a (x ∷ xs) zero h = absurd h
of_take a (x ∷ xs) (suc n) (inl e) = (0, omega arith, omega arith, e)
of_take a (x ∷ xs) (suc n) (inr h) = let k = of_take a xs n h in (suc k.0, omega (arith, k.1), omega (arith, k.2), k.3)

pub of_drop : (a : Access) (xs : List Access) (n : ℕ) → Among a (drop n xs) → (i : ℕ) × (n ≤ i) × (i < length xs) × (access_at xs i ≡ a)
of_drop a [] zero h = absurd h
of_drop a [] (suc n) h = absurd h
of_drop a (x ∷ xs) zero h = let k = index_of a (x ∷ xs) h in (k.0, omega arith, k.1, k.2)
of_drop a (x ∷ xs) (suc n) h = let k = of_drop a xs n h in (suc k.0, omega (arith, k.1), omega (arith, k.2), k.3)

pub differ_at : (s : List Event) (xs : List Access) → IsInEnglish s xs → (i j : ℕ) → i < j → j < length xs
    → (access_at xs i).strand.number ≡ (access_at xs j).strand.number → ⊥
differ_at s [] h i j lt le = absurd (omega arith)
differ_at s (x ∷ xs) h i zero lt le = absurd (omega arith)
differ_at s (x ∷ xs) h zero (suc j) lt le = (h.0 (access_at xs j) (at_place xs j no_access (omega arith))).1
differ_at s (x ∷ xs) h (suc i) (suc j) lt le = differ_at s xs h.1 i j (omega arith) (omega arith)

-- of two places in a list in the English order the first has the strand that stands before
pub in_english_at : (s : List Event) (xs : List Access) → IsInEnglish s xs → (i j : ℕ) → i < j → j < length xs
    → StandsFirst s (access_at xs i).strand (access_at xs j).strand
in_english_at s [] h i j lt le = absurd (omega arith)
in_english_at s (x ∷ xs) h i zero lt le = absurd (omega arith)
in_english_at s (x ∷ xs) h zero (suc j) lt le = (h.0 (access_at xs j) (at_place xs j no_access (omega arith))).0
in_english_at s (x ∷ xs) h (suc i) (suc j) lt le = in_english_at s xs h.1 i j (omega arith) (omega arith)

pub in_english_take : (s : List Event) (n : ℕ) (xs : List Access) → IsInEnglish s xs → IsInEnglish s (take n xs)
in_english_take s zero [] h = tt
in_english_take s (suc n) [] h = tt
in_english_take s zero (x ∷ xs) h = tt
in_english_take s (suc n) (x ∷ xs) h = ((λ b k. h.0 b (from_take n xs b k)), in_english_take s n xs h.1)

pub in_english_drop : (s : List Event) (n : ℕ) (xs : List Access) → IsInEnglish s xs → IsInEnglish s (drop n xs)
in_english_drop s zero [] h = tt
in_english_drop s (suc n) [] h = tt
in_english_drop s zero (x ∷ xs) h = h
in_english_drop s (suc n) (x ∷ xs) h = in_english_drop s n xs h.1

-- one list in the English order before another one
pub in_english_both : (s : List Event) (xs ys : List Access) → IsInEnglish s xs → IsInEnglish s ys
    → ((a b : Access) → Among a xs → Among b ys → StandsFirst s a.strand b.strand × (a.strand.number ≡ b.strand.number → ⊥)) → IsInEnglish s (xs ++ ys)
in_english_both s [] ys h k across = k
in_english_both s (x ∷ xs) ys h k across = (
  (λ b m. elim (among_or b xs ys m) [ inl l ↦ h.0 b l | inr r ↦ across x b (inl refl) r ]),
  in_english_both s xs ys h.1 k (λ a b ha hb. across a b (inr ha) hb),
)

module _ (s : List Event) (table : List Strand) (at : Strand) (known : ℕ) (english hebrew : List ℕ) (view : IsViewOf s table at known english hebrew)
    (row : List Access) (order : IsInEnglish s row) (of : (a : Access) → Among a row → IsStrandOf s a.strand) (unjoined : AreUnjoined s row)
    (all_known : AllOnKnown known row) (at_known : at.number < known) (ends : EndsIn at.future row) where
  abbrev E : List ℕ
  E = english_past (reverse s)

  there : (i : ℕ) → i < length row → Among (access_at row i) row
  there i lt = at_place row i no_access lt

  -- all are of the future of the last one
  pub future_at : (i : ℕ) → i < length row → (access_at row i).strand.future ≡ at.future
  future_at i lt = elim (cases_eq i (length row - 1)) [
    | inl e ↦ subst (λ k. (access_at row k).strand.future ≡ at.future) (sym e) (ends (omega (arith, lt)))
    | inr ne ↦ (in_english_at s row order i (length row - 1) (omega (arith, lt, ne)) (omega (arith, lt))).future_is ∙ ends (omega (arith, lt))
  ]

  -- what the judge's lists say of paths
  reach_yes : (i : ℕ) → i < length row → IsReaching english hebrew at (access_at row i) → ReachesBy (edges_of s) (access_at row i).strand.number at.number
  reach_yes i lt is =
      (tells_inside table (access_at row i).strand at known english hebrew true (future_at i lt) (all_known _ (there i lt)) at_known
      ((λ _. is), (λ _. refl)) s view.sound (of _ (there i lt)) view.here view.table_is view.orders).0 refl

  reach_no : (i : ℕ) → i < length row → (IsReaching english hebrew at (access_at row i) → ⊥)
      → ReachesBy (edges_of s) (access_at row i).strand.number at.number → ⊥
  reach_no i lt off r =
      true≢false (sym ((tells_inside table (access_at row i).strand at known english hebrew false (future_at i lt) (all_known _ (there i lt)) at_known
      ((λ e. absurd (true≢false (sym e))), (λ is. absurd (off is))) s view.sound (of _ (there i lt)) view.here view.table_is view.orders).1 r))

  -- and of the English order
  agree : (i : ℕ) → i < length row → (access_at row i).strand.number ≢ at.number
      → stands_before (access_at row i).strand.number at.number english ≡ stands_before (access_at row i).strand.number at.number E
  agree i lt ne =
      view.orders.first (access_at row i).strand.number at.number (record {
        less = all_known _ (there i lt);
        there = (of _ (there i lt)).there;
      }) (record { less = at_known; there = view.here.there }) ne

  up_yes : (i : ℕ) → i < length row → IsUpTo english at (access_at row i) → IsNotAfter (english_of s) (access_at row i).strand at
  up_yes i lt is =
      record {
        future_is = future_at i lt;
        first = elim (same_or_not (access_at row i).strand.number at.number) [
          | inl e ↦ inl e
          | inr ne ↦ elim is [ inl e ↦ inl e | inr f ↦ inr (sym (agree i lt ne) ∙ f) ]
        ];
      }

  up_no : (i : ℕ) → i < length row → (IsUpTo english at (access_at row i) → ⊥) → IsNotAfter (english_of s) (access_at row i).strand at → ⊥
  up_no i lt off is = elim (same_or_not (access_at row i).strand.number at.number) [
    | inl e ↦ off (inl e)
    | inr ne ↦ elim is.first [ inl e ↦ off (inl e) | inr f ↦ off (inr (agree i lt ne ∙ f)) ]
  ]

  -- what is not up to the strand has a higher place
  higher : (i : ℕ) → i < length row → (IsNotAfter (english_of s) (access_at row i).strand at → ⊥) → place at.number E < place (access_at row i).strand.number E
  higher i lt off = elim (cases_lt (place (access_at row i).strand.number E) (place at.number E)) [
    | inl low ↦ absurd (off (record {
      future_is = future_at i lt;
      first = inr (place_before (access_at row i).strand.number at.number E ((whole_en (reverse s) view.sound).all at.number view.here.there) low);
    }))
    | inr ge ↦ elim (cases_eq (place (access_at row i).strand.number E) (place at.number E)) [
      | inl e ↦ absurd (off (record {
        future_is = future_at i lt;
        first = inl (one_place (access_at row i).strand.number at.number E ((whole_en (reverse s) view.sound).all _ (of _ (there i lt)).there)
            ((whole_en (reverse s) view.sound).all at.number view.here.there) e);
      }))
      | inr ne ↦ omega (arith, ge, ne)
    ]
  ]

  module _ (run : Run) (start_is : run.start ≤ run.end) (end_is : run.end ≤ length row) (is : IsRun english hebrew at row run) where
    -- those before the end of the run are up to the strand
    pub up_to : (i : ℕ) → i < run.end → IsNotAfter (english_of s) (access_at row i).strand at
    up_to i lt =
        let last = up_yes (run.end - 1) (omega (arith, lt, end_is)) (is.last (omega (arith, lt))) in
        elim (cases_eq i (run.end - 1)) [
          | inl e ↦ subst (λ k. IsNotAfter (english_of s) (access_at row k).strand at) (sym e) last
          | inr ne ↦ first_then s view.sound (access_at row i).strand (access_at row (run.end - 1)).strand at view.here
              (in_english_at s row order i (run.end - 1) (omega (arith, lt, ne)) (omega (arith, lt, end_is))) last
        ]

    -- and the others are after it
    above : (i : ℕ) → run.end ≤ i → i < length row → place at.number E < place (access_at row i).strand.number E
    above i le lt =
        let first = higher run.end (omega (arith, le, lt)) (up_no run.end (omega (arith, le, lt)) (is.right (omega (arith, le, lt)))) in
        elim (cases_eq i run.end) [
          | inl e ↦ subst (λ k. place at.number E < place (access_at row k).strand.number E) (sym e) first
          | inr ne ↦ (
              let u = (access_at row run.end).strand.number in
              let v = (access_at row i).strand.number in
              let before = (in_english_at s row order run.end i (omega (arith, le, ne)) lt).first in
              elim (same_or_not u v) [
                | inl e ↦ subst (λ n. place at.number E < place n E) e first
                | inr other ↦ (let more = before_place u v E other before in omega (arith, first, more))
              ])
        ]

    pub after : (i : ℕ) → run.end ≤ i → i < length row → StandsFirst s at (access_at row i).strand
    after i le lt =
        record {
          future_is = sym (future_at i lt);
          first = place_before at.number (access_at row i).strand.number E ((whole_en (reverse s) view.sound).all _ (of _ (there i lt)).there) (above i le lt);
        }

    -- a path leads from one up to the strand if one leads from another before it
    carried : (i j : ℕ) → i < j → j < run.end → ReachesBy (edges_of s) (access_at row i).strand.number at.number
        → ReachesBy (edges_of s) (access_at row j).strand.number at.number
    carried i j lt le r = elim (same_or_not (access_at row i).strand.number (access_at row j).strand.number) [
      | inl e ↦ subst (λ n. ReachesBy (edges_of s) n at.number) e r
      | inr ne ↦ reached_from_later s view.sound (access_at row i).strand (access_at row j).strand at (of _ (there i (omega (arith, lt, le, end_is))))
          (of _ (there j (omega (arith, le, end_is)))) view.here (in_english_at s row order i j lt (omega (arith, le, end_is))) (up_to j le)
          (unjoined _ _ (there i (omega (arith, lt, le, end_is))) (there j (omega (arith, le, end_is))) ne) r
    ]

    -- paths lead from those of the run
    pub in_run : (i : ℕ) → run.start ≤ i → i < run.end → ReachesBy (edges_of s) (access_at row i).strand.number at.number
    in_run i le lt =
        let first = reach_yes run.start (omega (arith, le, lt, end_is)) (is.first (omega (arith, le, lt))) in
        elim (cases_eq i run.start) [
          | inl e ↦ subst (λ k. ReachesBy (edges_of s) (access_at row k).strand.number at.number) (sym e) first
          | inr ne ↦ carried run.start i (omega (arith, le, ne)) lt first
        ]

    -- and from no others
    pub off_left : (i : ℕ) → i < run.start → IsApart s at (access_at row i)
    off_left i lt r =
        let last = reach_no (run.start - 1) (omega (arith, lt, start_is, end_is)) (is.left (omega (arith, lt))) in
        elim (cases_eq i (run.start - 1)) [
          | inl e ↦ last (subst (λ k. ReachesBy (edges_of s) (access_at row k).strand.number at.number) e r)
          | inr ne ↦ last (carried i (run.start - 1) (omega (arith, lt, ne)) (omega (arith, lt, start_is)) r)
        ]

    pub off_right : (i : ℕ) → run.end ≤ i → i < length row → IsApart s at (access_at row i)
    off_right i le lt r =
        let first = reach_no_up i le lt in first r
      where
        reach_no_up : (i : ℕ) → run.end ≤ i → i < length row → ReachesBy (edges_of s) (access_at row i).strand.number at.number → ⊥
        reach_no_up i le lt = reach_no i lt (λ o. up_no_at i le lt o)
          where
            up_no_at : (i : ℕ) → run.end ≤ i → i < length row → IsReaching english hebrew at (access_at row i) → ⊥
            up_no_at i le lt (inl e) = let k = above i le lt in let p = ap (λ n. place n E) e in omega (arith, k, p)
            up_no_at i le lt (inr p) = elim (same_or_not (access_at row i).strand.number at.number) [
              | inl e ↦ (let k = above i le lt in let q = ap (λ n. place n E) e in omega (arith, k, q))
              | inr ne ↦ (let k = above i le lt in
                  let q = before_place (access_at row i).strand.number at.number E ne (sym (agree i lt ne) ∙ p.0) in omega (arith, k, q))
            ]
