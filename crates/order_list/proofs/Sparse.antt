-- The least sparse window.
use Rattle.std.proofs.Common.{◌≡◌, ◌≢◌, ℕ, ◌+◌, ◌*◌, ◌^◌, ◌<◌, ◌≤◌, ◌∙◌, inl, inr, true, false, List, [], ◌∷◌, ◌++◌, length, append_assoc, sym, subst, ap, refl}
use Rattle.std.proofs.Common.{arith}
use Rattle.std.specs.Prelude.{Option, None, ◌==◌, Bool, nat_le, slice_index, slice_index_or, unwrap_or}
use Rattle.std.specs.List.{filter}
use Rattle.std.proofs.lemmas.List.Elements.{filter-append}
use Rattle.std.proofs.lemmas.List.Sums.{length-filter, count_by-le-length}
use Rattle.std.proofs.lemmas.List.{append-nil}
use Rattle.std.proofs.lemmas.Bool.Decides.{nat_tests}
use Rattle.order_list.specs.Ordered.{Rises, is_in, head_of}
use Rattle.order_list.specs.Chain.{Linked, LinkedBack, Keeps}
use Rattle.order_list.specs.Labels.{is_between, base_of, members, gap_of, window_at, IsSparse, IsLeastSparse, IsSegment, IsWindowOf}
use Rattle.order_list.specs.Spans.{Leads, put_before, Falls, IsSpan, IsWithinSpan, IsFound}
use Rattle.order_list.specs.declared.span.Span.{Span}
use Rattle.order_list.specs.declared.place.Window.{Window}
use Rattle.order_list.proofs.Chains.{tested, eq_of, later_below}
use Rattle.order_list.proofs.Powers.{base_zero, base_wider, end_wider, end_le, widest}
use Rattle.order_list.proofs.Inserting.{apart}
use Rattle.order_list.proofs.Spans.{is_in_range, is_below, is_above, rises_parts}

-- the items of a list that have labels in the range, where all or none have
module _ (labels : List ℕ) (low high : ℕ) where
  abbrev within : List ℕ → List ℕ
  within xs = filter (λ y. is_between low high (slice_index labels y)) xs

  all_within : (from : ℕ) (xs : List ℕ) → low ≤ from → Rises labels from high xs → within xs ≡ xs
  all_within from [] le r = refl
  all_within from (x ∷ xs) le r =
      rw (is_in_range low high (slice_index labels x) (omega (arith, r.0)) r.1)
      (ap (λ l. x ∷ l) (all_within (slice_index labels x + 1) xs (omega (arith, r.0)) r.2))

  none_above : (from most : ℕ) (xs : List ℕ) → high ≤ from → Rises labels from most xs → within xs ≡ []
  none_above from most [] le r = refl
  none_above from most (x ∷ xs) le r =
      rw (is_above low high (slice_index labels x) (omega (arith, r.0))) (none_above (slice_index labels x + 1) most xs (omega (arith, r.0)) r.2)

  none_behind : (to : ℕ) (behind rest : List ℕ) → to ≤ low → Falls labels to behind → within (put_before behind rest) ≡ within rest
  none_behind to [] rest le f = refl
  none_behind to (p ∷ ps) rest le f =
      none_behind (slice_index labels p) ps (p ∷ rest) (omega (arith, f.0)) f.1
      ∙ rw (is_below low high (slice_index labels p) (omega (arith, f.0))) refl

  -- the items of a span are those with labels in its range
  pub within_span : (nexts prevs : List (Option ℕ)) (order : List ℕ) (s : Span) (span : IsSpan labels nexts prevs order low high s) → within order ≡ span.items
  within_span nexts prevs order s span =
      ap within span.parts
      ∙ (none_behind low span.behind (span.items ++ span.ahead) (omega arith) span.falls
      ∙ (filter-append (λ y. is_between low high (slice_index labels y)) span.items span.ahead
      ∙ (ap (λ l. l ++ within span.ahead) (all_within low span.items (omega arith) span.inside)
      ∙ (ap (λ l. span.items ++ l) (none_above high (2 ^ 62) span.ahead (omega arith) span.rises) ∙ append-nil span.items))))

-- a place in a list, with what stands before and after it
pub record Place (x : ℕ) (list : List ℕ) : Type 0 where
  pub behind : List ℕ
  pub ahead : List ℕ
  pub parts : list ≡ put_before behind (x ∷ ahead)

pub place_in : (x : ℕ) (behind xs : List ℕ) → is_in x xs ≡ true → Place x (put_before behind xs)
place_in x behind [] h = cc
place_in x behind (z ∷ zs) h =
    elim (tested (z == x)) [
      | inl e ↦ (let s = eq_of z x e in record { behind = behind; ahead = zs; parts = ap (λ v. put_before behind (v ∷ zs)) s })
      | inr e ↦ place_in x (z ∷ behind) zs (rw e at h)
    ]

-- links from a place on
leads_behind : (prevs : List (Option ℕ)) (behind rest : List ℕ) → LinkedBack prevs None (put_before behind rest)
    → Leads prevs (head_of behind) behind × LinkedBack prevs (head_of behind) rest
leads_behind prevs [] rest l = (refl, l)
leads_behind prevs (p ∷ ps) rest l =
    let r = leads_behind prevs ps (p ∷ rest) l in
    ((refl, subst (λ o. Leads prevs o ps) (sym r.1.0) r.0), r.1.1)

linked_ahead : (nexts : List (Option ℕ)) (behind rest : List ℕ) → Linked nexts (put_before behind rest) → Linked nexts rest
linked_ahead nexts [] rest l = l
linked_ahead nexts (p ∷ ps) rest l = rest_of p rest (linked_ahead nexts ps (p ∷ rest) l)
  where
    rest_of : (p : ℕ) (rest : List ℕ) → Linked nexts (p ∷ rest) → Linked nexts rest
    rest_of p [] l = tt
    rest_of p (y ∷ ys) l = l.1

pub leads_linked : (nexts : List (Option ℕ)) (x : ℕ) (xs : List ℕ) → Linked nexts (x ∷ xs) → Leads nexts (slice_index_or nexts x None) xs
leads_linked nexts x [] l = l
leads_linked nexts x (y ∷ ys) l = (l.0, leads_linked nexts y ys l.1)

pub linked_from : (nexts : List (Option ℕ)) (behind rest : List ℕ) → Linked nexts (put_before behind rest) → Linked nexts rest
linked_from nexts behind rest l = linked_ahead nexts behind rest l

-- an item alone is a span
pub alone : (labels : List ℕ) (nexts prevs : List (Option ℕ)) (order : List ℕ) (x : ℕ) → Keeps labels nexts prevs order → x < length nexts
    → IsSpan labels nexts prevs order (slice_index labels x) (slice_index labels x + 1)
    (record { first = x; items = 1; before = slice_index_or prevs x None; after = slice_index_or nexts x None })
alone labels nexts prevs order x k lt =
    let place = place_in x [] order (k.whole x lt) in
    let r = rises_parts labels 0 (2 ^ 62) x place.behind place.ahead (subst (Rises labels 0 (2 ^ 62)) place.parts k.rises) in
    let back = leads_behind prevs place.behind (x ∷ place.ahead) (subst (LinkedBack prevs None) place.parts k.back) in
    let on = linked_from nexts place.behind (x ∷ place.ahead) (subst (Linked nexts) place.parts k.linked) in
    record {
      behind = place.behind;
      items = x ∷ [];
      ahead = place.ahead;
      parts = place.parts;
      falls = r.0;
      inside = (omega arith, omega arith, tt);
      rises = r.1.2;
      leads_back = subst (λ o. Leads prevs o place.behind) (sym back.1.0) back.0;
      leads_on = leads_linked nexts x place.ahead on;
      first = refl;
      count = refl;
    }

-- the windows of less than 2^i labels are not sparse, and the span is that of the widest of them
pub record HasSought (labels : List ℕ) (nexts prevs : List (Option ℕ)) (order : List ℕ) (x i : ℕ) (s : Span) : Type 0 where
  pub last : ℕ
  pub next : i ≡ last + 1
  pub span : IsSpan labels nexts prevs order (base_of last (slice_index labels x)) (base_of last (slice_index labels x) + 2 ^ last) s
  pub least : (j : ℕ) → 1 ≤ j → j < i → IsSparse j (length (members labels order x j)) → ⊥

pub sought_none : (labels : List ℕ) (nexts prevs : List (Option ℕ)) (order : List ℕ) (x : ℕ) → Keeps labels nexts prevs order → x < length nexts
    → HasSought labels nexts prevs order x 1 (record { first = x; items = 1; before = slice_index_or prevs x None; after = slice_index_or nexts x None })
sought_none labels nexts prevs order x k lt = record {
  last = 0;
  next = refl;
  span = subst (λ b. IsSpan labels nexts prevs order b (b + 1) (record {
    first = x;
    items = 1;
    before = slice_index_or prevs x None;
    after = slice_index_or nexts x None;
  })) (sym (base_zero (slice_index labels x))) (alone labels nexts prevs order x k lt);
  least = λ j some lt s. absurd (omega arith);
}

module _ (labels : List ℕ) (nexts prevs : List (Option ℕ)) (order : List ℕ) (x i : ℕ) where
  abbrev base : ℕ
  base = base_of i (slice_index labels x)

  pub sought_within : (s : Span) → HasSought labels nexts prevs order x i s → IsWithinSpan labels nexts prevs order base (base + 2 ^ i) s
  sought_within s h =
      let label = slice_index labels x in
      record {
        from = base_of h.last label;
        to = base_of h.last label + 2 ^ h.last;
        above = subst (λ n. base_of n label ≤ base_of h.last label) (sym h.next) (base_wider h.last label);
        below = subst (λ n. base_of h.last label + 2 ^ h.last ≤ base_of n label + 2 ^ n) (sym h.next) (end_wider h.last label);
        span = h.span;
      }

  pub members_are : (s : Span) → (span : IsSpan labels nexts prevs order base (base + 2 ^ i) s) → members labels order x i ≡ span.items
  members_are s span = within_span labels base (base + 2 ^ i) nexts prevs order s span

  -- how many they are
  pub members_count : (s : Span) → IsSpan labels nexts prevs order base (base + 2 ^ i) s → length (members labels order x i) ≡ s.items
  members_count s span = ap (length {A = ℕ}) (members_are s span) ∙ sym span.count

  pub sought_more : (s s' : Span) → HasSought labels nexts prevs order x i s → IsSpan labels nexts prevs order base (base + 2 ^ i) s'
      → (IsSparse i s'.items → ⊥) → HasSought labels nexts prevs order x (i + 1) s'
  sought_more s s' h span not_sparse = record {
    last = i;
    next = refl;
    span = span;
    least = λ j some lt sparse. elim (tested (j == i)) [
      | inl e ↦ (let same = eq_of j i e in not_sparse (subst (λ n. IsSparse i n) (members_count s' span)
          (subst (λ n. IsSparse n (length (members labels order x n))) same sparse)))
      | inr e ↦ (let ne : j ≢ i = apart j i e in h.least j some (omega (arith, lt, ne)) sparse)
    ];
  }

  pub least_sparse : (s s' : Span) → 1 ≤ i → i ≤ 62 → HasSought labels nexts prevs order x i s → IsSpan labels nexts prevs order base (base + 2 ^ i) s'
      → IsSparse i s'.items → IsLeastSparse labels order x i
  least_sparse s s' some most h span sparse =
      record { some = some; most = most; sparse = subst (λ n. IsSparse i n) (sym (members_count s' span)) sparse; least = h.least }

  -- the window that was found
  pub found_is : (s : Span) (w : Window) → IsLeastSparse labels order x i → IsSpan labels nexts prevs order base (base + 2 ^ i) s
      → w ≡ record { first = record { 0 = s.first }; items = s.items; base = base; gap = gap_of i s.items } → IsFound labels nexts prevs order x w
  found_is s w least span is = record { size = i; least = least; found = s; span = span; is = is }

-- what stands behind, as a list in order
pub behind_of : (behind rest : List ℕ) → (b : List ℕ) × (put_before behind rest ≡ b ++ rest)
behind_of [] rest = ([], refl)
behind_of (p ∷ ps) rest = let b = behind_of ps (p ∷ rest) in (b.0 ++ p ∷ [], b.1 ∙ sym (append_assoc b.0 (p ∷ []) rest))

-- it is what a relabelling takes
module _ (labels : List ℕ) (nexts prevs : List (Option ℕ)) (order : List ℕ) (x : ℕ) (w : Window) (f : IsFound labels nexts prevs order x w) where
  found_items : members labels order x f.size ≡ f.span.items
  found_items = members_are labels nexts prevs order x f.size f.found f.span

  pub found_is_window : w ≡ window_at labels order x f.size
  found_is_window =
      let base = base_of f.size (slice_index labels x) in
      let count = members_count labels nexts prevs order x f.size f.found f.span in
      let first : unwrap_or (head_of (members labels order x f.size)) 0 ≡ f.found.first = ap (λ l. unwrap_or (head_of l) 0) found_items ∙ ap (λ o.
      unwrap_or o 0) f.span.first in
      let made : ℕ → ℕ → Window = λ a n. record { first = record { 0 = a }; items = n; base = base; gap = gap_of f.size n } in
      f.is ∙ sym (ap (λ a. made a (length (members labels order x f.size))) first ∙ ap (λ n. made f.found.first n) count)

  pub found_segment : IsSegment order (members labels order x f.size)
  found_segment =
      let b = behind_of f.span.behind (f.span.items ++ f.span.ahead) in
      subst (IsSegment order) (sym found_items) (record { behind = b.0; ahead = f.span.ahead; parts = f.span.parts ∙ b.1 })

  pub found_window : IsWindowOf labels order x w
  found_window = record { size = f.size; least = f.least; is = found_is_window; segment = found_segment }

-- there is a least sparse window: the widest is sparse
pub sought_all : (labels : List ℕ) (nexts prevs : List (Option ℕ)) (order : List ℕ) (x : ℕ) (s : Span) → length order < 2 ^ 32
    → HasSought labels nexts prevs order x 63 s → ⊥
sought_all labels nexts prevs order x s few h =
    let few' : length (members labels order x 62) ≤ length order = omega (
      arith,
      length-filter
          (λ y. is_between (base_of 62 (slice_index labels x)) (base_of 62 (slice_index labels x) + 2 ^ 62) (slice_index labels y)) order,
      count_by-le-length
          (λ y. is_between (base_of 62 (slice_index labels x)) (base_of 62 (slice_index labels x) + 2 ^ 62) (slice_index labels y)) order,
    ) in
    h.least 62 (omega arith) (omega arith) (widest (length (members labels order x 62)) (omega (arith, few', few)))

-- what the test says
pub sparse_is : (i n : ℕ) (t : Bool) → t ≡ nat_le (n * 2 ^ i) (3 ^ i) → t ≡ true → IsSparse i n
sparse_is i n t is e = let f : nat_le (n * 2 ^ i) (3 ^ i) ≡ true = sym is ∙ e in grind (arith, nat_tests)

pub not_sparse : (i n : ℕ) (t : Bool) → t ≡ nat_le (n * 2 ^ i) (3 ^ i) → t ≡ false → IsSparse i n → ⊥
not_sparse i n t is e s = let f : nat_le (n * 2 ^ i) (3 ^ i) ≡ false = sym is ∙ e in grind (arith, nat_tests)

-- the labels of a window are below 2^62
pub fits : (labels : List ℕ) (nexts prevs : List (Option ℕ)) (order : List ℕ) (x i : ℕ) → Keeps labels nexts prevs order → x < length nexts → i ≤ 62
    → base_of i (slice_index labels x) + 2 ^ i ≤ 2 ^ 62
fits labels nexts prevs order x i k lt most = end_le i (slice_index labels x) most (later_below labels order 0 (2 ^ 62) x k.rises (k.whole x lt))
