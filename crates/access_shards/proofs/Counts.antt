-- How many reads are in the two lists of a log, and how often the judge is asked.
use Rattle.std.proofs.Common.{◌≡◌, ◌≢◌, ℕ, suc, ◌+◌, ◌-◌, ◌^◌, ◌<◌, ◌≤◌, Bool, true, false, List, [], ◌∷◌}
use Rattle.std.proofs.Common.{◌++◌, ◌⊎◌, inl, inr, subst, ap, sym, refl, ◌∙◌, length, length-append, take, drop, arith, true≢false}
use Rattle.std.specs.Prelude.{◌↔◌}
use Rattle.fut_base.specs.declared.event.Event.{Event}
use Rattle.fut_base.specs.Dag.{Among}
use Rattle.strand_laws.proofs.Places.{among_or, among_left, among_right}
use Rattle.strand_tree.specs.declared.strand.Strand.{Strand}
use Rattle.fut_base.proofs.Members.{at_place}
use Rattle.reach_table.proofs.Members.{from_take, from_drop}
use Rattle.access_shards.specs.Runs.{access_at, EndsIn}
use Rattle.access_shards.proofs.Looking.{no_access}
use Rattle.reach_table.specs.Telling.{AsksAtMost, HasOneOfEach}
use Rattle.access_shards.specs.declared.kept.Access.{Access}
use Rattle.access_shards.specs.declared.kept.Kept.{Kept}
use Rattle.access_shards.specs.declared.kept.Kept.TheVariants.{Clean, Found}
use Rattle.access_shards.specs.Touches.{Touch}
use Rattle.access_shards.specs.Kept.{Kind, IsInOrder, IsKept}
use Rattle.access_shards.specs.Logged.{Logged, IsLogOf, IsInEnglish, AreSorted, AreListed, IsListed, KeepsOneMore, AsksFew, in_english, reads_of, reader_count}

-- no two accesses of a list are the same
abbrev AreDifferent : List Access → Type 0
AreDifferent [] = Unit {0}
AreDifferent (a ∷ rest) = ((b : Access) → Among b rest → a ≡ b → ⊥) × AreDifferent rest

split_at : (x : Access) (ys : List Access) → Among x ys → (before : List Access) × (after : List Access) × (ys ≡ before ++ x ∷ after)
split_at x [] h = absurd h
split_at x (y ∷ ys) (inl e) = ([], ys, ap (λ (z : Access). z ∷ ys) e)
split_at x (y ∷ ys) (inr h) = let k = split_at x ys h in (y ∷ k.0, k.1, ap (λ (l : List Access). y ∷ l) k.2)

-- different accesses of a list are no more than its length
few_of : (xs ys : List Access) → AreDifferent xs → ((a : Access) → Among a xs → Among a ys) → length xs ≤ length ys
few_of [] ys d h = omega arith
few_of (x ∷ xs) ys d h =
    let k = split_at x ys (h x (inl refl)) in
    let rest = few_of xs (k.0 ++ k.1) d.1 (λ a m. elim (among_or a k.0 (x ∷ k.1) (subst (Among a) k.2 (h a (inr m)))) [
      | inl l ↦ among_left a k.0 k.1 l
      | inr (inl e) ↦ absurd (d.0 a m e)
      | inr (inr r) ↦ among_right a k.0 k.1 r
    ]) in
    let one = length-append k.0 (x ∷ k.1) in
    let two = length-append k.0 k.1 in
    let len = ap (length {A = Access}) k.2 in
    omega (arith, rest, one, two, len)

order_differs : (xs : List Access) → IsInOrder xs → AreDifferent xs
order_differs [] h = tt
order_differs (x ∷ xs) h = ((λ b m e. (let k = h.0 b m in let p = ap (λ (z : Access). z.place) e in omega (arith, k, p))), order_differs xs h.1)

english_differs : (s : List Event) (xs : List Access) → IsInEnglish s xs → AreDifferent xs
english_differs s [] h = tt
english_differs s (x ∷ xs) h = ((λ b m e. (h.0 b m).1 (ap (λ (z : Access). z.strand.number) e)), english_differs s xs h.1)

-- the list in the English order has no more accesses than the other one
few_sorted : (s : List Event) (reads sorted : List Access) → AreSorted s reads sorted → length sorted ≤ length reads
few_sorted s reads sorted k = elim k.those [
  | inl e ↦ (let p = ap (length {A = Access}) e in omega (arith, p))
  | inr same ↦ few_of sorted reads (english_differs s sorted k.order) (λ a h. (same a).0 h)
]

-- and where there is one, as many
count_of : (s : List Event) (reads sorted : List Access) (rise : Bool) → IsInOrder reads → AreSorted s reads sorted → (rise ≡ true) ⊎ (0 < length sorted)
    → length (in_english rise reads sorted) ≡ length reads
count_of s reads sorted true order k there = refl
count_of s reads sorted false order k (inl e) = absurd (true≢false (sym e))
count_of s reads sorted false order k (inr some) = elim k.those [
  | inl e ↦ (let p = ap (length {A = Access}) e in absurd (omega (arith, some, p)))
  | inr same ↦ (
      let one = few_of sorted reads (english_differs s sorted k.order) (λ a h. (same a).0 h) in
      let two = few_of reads sorted (order_differs reads order) (λ a h. (same a).1 h) in
      omega (arith, one, two))
]

order_kept : (s : List Event) (past : List (Touch Kind)) (kept : Kept) → IsKept s past kept → IsInOrder (reads_of kept)
order_kept s past (Clean writer readers) k = k.2.order
order_kept s past (Found i j) k = tt

pub count_same : (s : List Event) (past : List (Touch Kind)) (l : Logged) → IsLogOf s past l → (l.rise ≡ true) ⊎ (0 < length l.sorted)
    → length (in_english l.rise (reads_of l.kept) l.sorted) ≡ reader_count l.kept
count_same s past l k there = count_of s (reads_of l.kept) l.sorted l.rise (order_kept s past l.kept k.kept) k.listed there

pub count_few : (s : List Event) (past : List (Touch Kind)) (l : Logged) → IsLogOf s past l → length l.sorted ≤ reader_count l.kept
count_few s past l k = few_sorted s (reads_of l.kept) l.sorted k.listed

module _ (table : List Strand) (at : Strand) (place : ℕ) (kind : Kind) (known : ℕ) (english hebrew : List ℕ) (old new : Logged) where
  -- where few questions were asked by the lists in the English order, they are few by the number of kept reads
  pub asks_few : (rise : Bool) (reads sorted : List Access) → rise ≡ old.rise → reads ≡ reads_of old.kept → sorted ≡ old.sorted
      → (before between after : ℕ) → AsksAtMost table 1 before between
      → KeepsOneMore table at place kind known english hebrew old new
      → (AreListed at.future rise reads sorted → length sorted ≤ length reads → AreListed at.future new.rise (reads_of new.kept) new.sorted)
      → (AreListed at.future rise reads sorted → length sorted ≤ length reads → (bits : ℕ) → length (in_english rise reads sorted) < 2 ^ bits
      → after + length (in_english new.rise (reads_of new.kept) new.sorted) ≤ between + length (in_english rise reads sorted) + bits + 3)
      → AsksFew table at place kind known english hebrew before after old new
  asks_few rise reads sorted er ex ey before between after one keeps lists halves s past view may was listed =
      let move : (P : Bool → List Access → List Access → Type 0) → P old.rise (reads_of old.kept) old.sorted → P rise reads sorted =
      (λ P h. subst (λ r. P r reads sorted) (sym er)
      (subst (λ x. P old.rise x sorted) (sym ex) (subst (λ y. P old.rise (reads_of old.kept) y) (sym ey) h))) in
      let listed' = move (AreListed at.future) listed in
      let few = move (λ _ x y. length y ≤ length x) (count_few s past old was) in
      let now = keeps s past view may was in
      let again = lists listed' few in
      let count : length (in_english rise reads sorted) ≡ reader_count old.kept =
      move (λ r x y. length (in_english r x y) ≡ reader_count old.kept) (count_same s past old was listed.there) in
      let count' = count_same s _ new now again.there in (
        again,
        λ bits lt each. (
            let k = halves listed' few bits (subst (λ n. n < 2 ^ bits) (sym count) lt) in
            let a = one each in
            omega (arith, k, a, count, count')),
      )

  -- where no reads are kept any more
  pub asks_none : (before after : ℕ) → AsksAtMost table 1 before after → reads_of new.kept ≡ [] → new.rise ≡ true
      → AsksFew table at place kind known english hebrew before after old new
  asks_none before after one empty rises s past view may was listed = (
    record {
      there = inl rises;
      futures = λ a h. absurd (subst (Among a) empty (subst (λ b. Among a (in_english b (reads_of new.kept) new.sorted)) rises h));
    },
    λ bits lt each. (let a = one each in let p = ap (length {A = Access}) empty in omega (arith, a, p)),
  )

-- where nothing changes
pub asks_nothing : (table : List Strand) (at : Strand) (place : ℕ) (kind : Kind) (known : ℕ) (english hebrew : List ℕ) (old : Logged) (before : ℕ)
    → AsksFew table at place kind known english hebrew before before old old
asks_nothing table at place kind known english hebrew old before s past view may was listed = (listed, λ bits lt each. omega arith)

-- the list in the English order ends in the future of its accesses
pub ends_listed : (future : ℕ) (rise : Bool) (reads sorted : List Access) → AreListed future rise reads sorted → EndsIn future (in_english rise reads sorted)
ends_listed future rise reads sorted l some =
    l.futures (access_at (in_english rise reads sorted) (length (in_english rise reads sorted) - 1))
    (at_place (in_english rise reads sorted) (length (in_english rise reads sorted) - 1) no_access (omega (arith, some)))

pub ends_rising : (future : ℕ) (rise : Bool) (reads sorted : List Access) → rise ≡ true → AreListed future rise reads sorted → EndsIn future reads
ends_rising future rise reads sorted e l = subst (λ b. EndsIn future (in_english b reads sorted)) e (ends_listed future rise reads sorted l)

pub ends_sorted : (future : ℕ) (rise : Bool) (reads sorted : List Access) → rise ≡ false → AreListed future rise reads sorted
    → EndsIn future sorted × (0 < length sorted)
ends_sorted future rise reads sorted e l = (
  subst (λ b. EndsIn future (in_english b reads sorted)) e (ends_listed future rise reads sorted l),
  elim l.there [ inl y ↦ absurd (true≢false (sym y ∙ e)) | inr some ↦ some ],
)

-- where an access is put at the end of reads that rise
pub listed_end : (future : ℕ) (rise : Bool) (reads sorted after sorted' : List Access) (new : Access) → rise ≡ true → new.strand.future ≡ future
    → ((a : Access) → Among a after → Among a reads ⊎ (new ≡ a)) → AreListed future rise reads sorted → AreListed future true after sorted'
listed_end future rise reads sorted after sorted' new e of those l =
    record {
      there = inl refl;
      futures = λ a h. elim (those a h) [
        | inl m ↦ l.futures a (subst (λ b. Among a (in_english b reads sorted)) (sym e) m)
        | inr same ↦ subst (λ (z : Access). z.strand.future ≡ future) same of
      ];
    }

-- or in the place of a run
pub listed_put : (future : ℕ) (rise : Bool) (reads sorted after sorted' row : List Access) (new : Access) (start end : ℕ) → row ≡ in_english rise reads sorted
    → sorted' ≡ take start row ++ new ∷ drop end row → new.strand.future ≡ future → AreListed future rise reads sorted → AreListed future false after sorted'
listed_put future rise reads sorted after sorted' row new start end row_is is of l =
    record {
      there = inr (
          let len = length-append (take start row) (new ∷ drop end row) in
          let same = ap (length {A = Access}) is in
          omega (arith, len, same));
      futures = λ a h. elim (among_or a (take start row) (new ∷ drop end row) (subst (Among a) is h)) [
        | inl m ↦ of_row a (from_take start row a m)
        | inr (inl same) ↦ subst (λ (z : Access). z.strand.future ≡ future) same of
        | inr (inr m) ↦ of_row a (from_drop end row a m)
      ];
    }
  where
    of_row : (a : Access) → Among a row → a.strand.future ≡ future
    of_row a m = l.futures a (subst (Among a) row_is m)
