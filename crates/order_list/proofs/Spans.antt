-- Items that stand together.
use Rattle.std.proofs.Common.{◌≡◌, ℕ, ◌+◌, ◌^◌, ◌<◌, ◌≤◌, ◌∙◌, ◌⊎◌, inl, inr, true, false, List, [], ◌∷◌, ◌++◌, length, length-append, append_assoc, sym, subst}
use Rattle.std.proofs.Common.{ap, refl, arith}
use Rattle.std.specs.Prelude.{Option, Some, None, slice_index, slice_index_or}
use Rattle.std.proofs.lemmas.Bool.Decides.{nat_tests}
use Rattle.order_list.specs.Ordered.{AllBelow, Rises, head_of}
use Rattle.order_list.specs.Chain.{Keeps}
use Rattle.order_list.specs.Labels.{is_between}
use Rattle.order_list.specs.Spans.{Leads, IsWay, AllBetween, last_of, next_between, IsStretch, put_before, Falls, IsSpan}
use Rattle.order_list.specs.declared.span.Span.{Span}
use Rattle.order_list.specs.declared.span.Stretch.{Stretch}
use Rattle.order_list.proofs.Chains.{tested}

-- what a label in a range says
pub between_is : (low high label : ℕ) → is_between low high label ≡ true → (low ≤ label) × (label < high)
between_is low high label e = grind (arith, nat_tests)

pub not_between : (low high label : ℕ) → is_between low high label ≡ false → (label < low) ⊎ (high ≤ label)
not_between low high label e = grind (arith, nat_tests)

pub is_in_range : (low high label : ℕ) → low ≤ label → label < high → is_between low high label ≡ true
is_in_range low high label le lt = grind (arith, nat_tests)

pub is_below : (low high label : ℕ) → label < low → is_between low high label ≡ false
is_below low high label lt = grind (arith, nat_tests)

pub is_above : (low high label : ℕ) → high ≤ label → is_between low high label ≡ false
is_above low high label le = grind (arith, nat_tests)

-- an item that was met with a label in the range
pub record Met (labels : List ℕ) (low high x : ℕ) (at : Option ℕ) : Type 0 where
  pub is : at ≡ Some x
  pub above : low ≤ slice_index labels x
  pub below : slice_index labels x < high

pub met : (labels : List ℕ) (low high x : ℕ) (at : Option ℕ) → next_between labels low high at ≡ Some x → Met labels low high x at
met labels low high x None e = cc
met labels low high x (Some y) e =
    elim (tested (is_between low high (slice_index labels y))) [
      | inl h ↦ (
          let e' : Some y ≡ Some x = rw h at e in
          let same : y ≡ x = cc in
          let b = between_is low high (slice_index labels y) h in
          subst (λ z. Met labels low high z (Some y)) same (record { is = refl; above = b.0; below = b.1 }))
      | inr h ↦ (let no : None ≡ Some x = rw h at e in cc)
    ]

-- the way as far as it was gone
pub record HasGone (labels : List ℕ) (links : List (Option ℕ)) (low high from : ℕ) (xs : List ℕ) (k last : ℕ) (stop : Option ℕ) : Type 0 where
  pub done : List ℕ
  pub rest : List ℕ
  pub parts : xs ≡ done ++ rest
  pub between : AllBetween labels low high done
  pub leads : Leads links stop rest
  pub last_is : last ≡ last_of from done
  pub count : k ≡ length done

pub gone_none : (labels : List ℕ) (links : List (Option ℕ)) (low high from : ℕ) (xs : List ℕ) (at : Option ℕ) → Leads links at xs
    → HasGone labels links low high from xs 0 from at
gone_none labels links low high from xs at l = record { done = []; rest = xs; parts = refl; between = tt; leads = l; last_is = refl; count = refl }

between_more : (labels : List ℕ) (low high x : ℕ) (done : List ℕ) → AllBetween labels low high done → low ≤ slice_index labels x → slice_index labels x < high
    → AllBetween labels low high (done ++ x ∷ [])
between_more labels low high x [] b le lt = (le, lt, tt)
between_more labels low high x (z ∷ zs) b le lt = (b.0, b.1, between_more labels low high x zs b.2 le lt)

last_more : (from x : ℕ) (done : List ℕ) → last_of from (done ++ x ∷ []) ≡ x
last_more from x [] = refl
last_more from x (z ∷ zs) = last_more z x zs

-- links that lead to an item lead along a list with it in front
pub record Front (links : List (Option ℕ)) (x : ℕ) (xs : List ℕ) : Type 0 where
  pub rest : List ℕ
  pub is : xs ≡ x ∷ rest
  pub leads : Leads links (slice_index_or links x None) rest

pub front : (links : List (Option ℕ)) (x : ℕ) (xs : List ℕ) → Leads links (Some x) xs → Front links x xs
front links x [] l = cc
front links x (y ∷ ys) l =
    let same : x ≡ y = cc (l.0) in
    record { rest = ys; is = ap (λ z. z ∷ ys) (sym same); leads = subst (λ z. Leads links (slice_index_or links z None) ys) (sym same) l.1 }

pub below_append : (n : ℕ) (xs ys : List ℕ) → AllBelow n (xs ++ ys) → AllBelow n xs × AllBelow n ys
below_append n [] ys b = (tt, b)
below_append n (x ∷ xs) ys b = let r = below_append n xs ys b.1 in ((b.0, r.0), r.1)

-- one step more
module _ (labels : List ℕ) (links : List (Option ℕ)) (low high from : ℕ) (xs : List ℕ) (k last x : ℕ) (at : Option ℕ)
    (gone : HasGone labels links low high from xs k last at) (is : at ≡ Some x) where
  ahead : Front links x gone.rest
  ahead = front links x gone.rest (subst (λ o. Leads links o gone.rest) is gone.leads)

  parts_at : xs ≡ gone.done ++ x ∷ ahead.rest
  parts_at = gone.parts ∙ ap (λ l. gone.done ++ l) ahead.is

  pub met_below : (n : ℕ) → AllBelow n xs → x < n
  met_below n b = (below_append n gone.done (x ∷ ahead.rest) (subst (AllBelow n) parts_at b)).1.0

  pub gone_more : low ≤ slice_index labels x → slice_index labels x < high → HasGone labels links low high from xs (k + 1) x (slice_index_or links x None)
  gone_more le lt = record {
    done = gone.done ++ x ∷ [];
    rest = ahead.rest;
    parts = parts_at ∙ sym (append_assoc gone.done (x ∷ []) ahead.rest);
    between = between_more labels low high x gone.done gone.between le lt;
    leads = ahead.leads;
    last_is = sym (last_more from x gone.done);
    count = simp length-append (omega (arith, gone.count));
  }

-- where the next item is out of the range
pub gone_out : (labels : List ℕ) (links : List (Option ℕ)) (low high from : ℕ) (xs : List ℕ) (k last : ℕ) (at : Option ℕ)
    → HasGone labels links low high from xs k last at → next_between labels low high at ≡ None
    → IsStretch labels links low high from xs (record { last = last; items = k; stop = at })
gone_out labels links low high from xs k last at g out =
    record { taken = g.done; rest = g.rest; parts = g.parts; between = g.between; leads = g.leads; out = out; last = g.last_is; count = g.count }

-- where the items have ended
none_left : (links : List (Option ℕ)) (at : Option ℕ) (rest : List ℕ) → length rest ≤ 0 → Leads links at rest → at ≡ None
none_left links at [] le l = l
none_left links at (x ∷ xs) le l = absurd (omega arith)

pub gone_all : (labels : List ℕ) (links : List (Option ℕ)) (low high from : ℕ) (xs : List ℕ) (k last : ℕ) (at : Option ℕ)
    → HasGone labels links low high from xs k last at → length xs ≤ k → IsStretch labels links low high from xs (record { last = last; items = k; stop = at })
gone_all labels links low high from xs k last at g le =
    let none : at ≡ None = none_left links at g.rest (omega (arith, g.count, ap (length {A = ℕ}) g.parts, length-append g.done g.rest)) g.leads in
    gone_out labels links low high from xs k last at g (ap (next_between labels low high) none)

-- links lead along one list only
pub leads_one : (links : List (Option ℕ)) (at : Option ℕ) (xs ys : List ℕ) → Leads links at xs → Leads links at ys → xs ≡ ys
leads_one links at [] [] l m = refl
leads_one links at [] (y ∷ ys) l m = let no : None ≡ Some y = sym l ∙ m.0 in cc
leads_one links at (x ∷ xs) [] l m = let no : None ≡ Some x = sym m ∙ l.0 in cc
leads_one links at (x ∷ xs) (y ∷ ys) l m =
    let some : Some x ≡ Some y = sym l.0 ∙ m.0 in
    let same : x ≡ y = cc in
    let rest = leads_one links (slice_index_or links x None) xs ys l.1 (subst (λ z. Leads links (slice_index_or links z None) ys) (sym same) m.1) in
    ap (λ z. z ∷ xs) same ∙ ap (λ l. y ∷ l) rest

-- labels that rise, in parts
pub rises_from : (labels : List ℕ) (low low' high high' : ℕ) (xs : List ℕ) → low' ≤ low → high ≤ high' → Rises labels low high xs → Rises labels low' high' xs
rises_from labels low low' high high' [] le ge r = tt
rises_from labels low low' high high' (x ∷ xs) le ge r =
    (omega (arith, r.0), omega (arith, r.1), rises_from labels (slice_index labels x + 1) (slice_index labels x + 1) high high' xs (omega arith) ge r.2)

pub rises_append : (labels : List ℕ) (low mid high : ℕ) (xs ys : List ℕ) → low ≤ mid → mid ≤ high → Rises labels low mid xs → Rises labels mid high ys
    → Rises labels low high (xs ++ ys)
rises_append labels low mid high [] ys le ge r s = rises_from labels mid low high high ys le (omega arith) s
rises_append labels low mid high (x ∷ xs) ys le ge r s =
    (r.0, omega (arith, r.1), rises_append labels (slice_index labels x + 1) mid high xs ys (omega (arith, r.1)) ge r.2 s)

pub falls_to : (labels : List ℕ) (high high' : ℕ) (xs : List ℕ) → high ≤ high' → Falls labels high xs → Falls labels high' xs
falls_to labels high high' [] le f = tt
falls_to labels high high' (x ∷ xs) le f = (omega (arith, f.0), f.1)

falls_rest : (labels : List ℕ) (high : ℕ) (xs ys : List ℕ) → Falls labels high (xs ++ ys) → Falls labels high ys
falls_rest labels high [] ys f = f
falls_rest labels high (x ∷ xs) ys f = falls_to labels (slice_index labels x) high ys (omega (arith, f.0)) (falls_rest labels (slice_index labels x) xs ys f.1)

-- the labels on both sides of a place in the list
pub rises_parts : (labels : List ℕ) (low high z : ℕ) (behind zs : List ℕ) → Rises labels low high (put_before behind (z ∷ zs))
    → Falls labels (slice_index labels z) behind × Rises labels (slice_index labels z) high (z ∷ zs)
rises_parts labels low high z [] zs r = (tt, (omega arith, r.1, r.2))
rises_parts labels low high z (p ∷ ps) zs r =
    let s = rises_parts labels low high p ps (z ∷ zs) r in
    ((omega (arith, s.1.2.0), s.0), (omega arith, s.1.2.1, s.1.2.2))

-- both sides put together
pub rises_join : (labels : List ℕ) (low high : ℕ) (behind rest : List ℕ) → low ≤ high → Falls labels low behind → Rises labels low high rest
    → Rises labels 0 high (put_before behind rest)
rises_join labels low high [] rest le f r = rises_from labels low 0 high high rest (omega arith) (omega arith) r
rises_join labels low high (p ∷ ps) rest le f r =
    rises_join labels (slice_index labels p) high ps (p ∷ rest) (omega (arith, f.0)) f.1
    (omega arith, omega (arith, f.0), rises_from labels low (slice_index labels p + 1) high high rest (omega (arith, f.0)) (omega arith) r)

pub put_before_length : (behind rest : List ℕ) → length (put_before behind rest) ≡ length behind + length rest
put_before_length [] rest = omega arith
put_before_length (p ∷ ps) rest = let e = put_before_length ps (p ∷ rest) in omega (arith, e)

pub put_before_below : (n : ℕ) (behind rest : List ℕ) → AllBelow n (put_before behind rest) → AllBelow n behind × AllBelow n rest
put_before_below n [] rest b = (tt, b)
put_before_below n (p ∷ ps) rest b = let r = put_before_below n ps (p ∷ rest) b in ((r.1.0, r.0), r.1.1)

put_before_parts : (xs ys rest : List ℕ) → put_before (xs ++ ys) rest ≡ put_before ys (put_before xs rest)
put_before_parts [] ys rest = refl
put_before_parts (x ∷ xs) ys rest = put_before_parts xs ys (x ∷ rest)

put_before_append : (behind xs ys : List ℕ) → put_before behind (xs ++ ys) ≡ put_before behind xs ++ ys
put_before_append [] xs ys = refl
put_before_append (p ∷ ps) xs ys = put_before_append ps (p ∷ xs) ys

-- the first item of the list, after items were put before it
first_of : (taken xs : List ℕ) (first : ℕ) → head_of xs ≡ Some first → head_of (put_before taken xs) ≡ Some (last_of first taken)
first_of [] xs first h = h
first_of (t ∷ ts) xs first h = first_of ts (t ∷ xs) t refl

head_append : (xs ys : List ℕ) (x : ℕ) → head_of xs ≡ Some x → head_of (xs ++ ys) ≡ Some x
head_append [] ys x h = cc
head_append (z ∷ zs) ys x h = h

-- labels rise in a span that was widened to the front
rises_behind : (labels : List ℕ) (from base high high' : ℕ) (taken rest xs : List ℕ) → base ≤ from → from ≤ high → Falls labels from (taken ++ rest)
    → AllBetween labels base high' taken → Rises labels from high xs → Rises labels base high (put_before taken xs)
rises_behind labels from base high high' [] rest xs le ge f b r = rises_from labels from base high high xs le (omega arith) r
rises_behind labels from base high high' (t ∷ ts) rest xs le ge f b r =
    rises_behind labels (slice_index labels t) base high high' ts rest (t ∷ xs) b.0 (omega (arith, f.0)) f.1 b.2
    (omega arith, omega (arith, f.0), rises_from labels from (slice_index labels t + 1) high high xs (omega (arith, f.0)) (omega arith) r)

-- what stands behind it has labels below
falls_behind : (labels : List ℕ) (links : List (Option ℕ)) (from base high : ℕ) (stop : Option ℕ) (rest : List ℕ) → from ≤ high → Falls labels from rest
    → Leads links stop rest → next_between labels base high stop ≡ None → Falls labels base rest
falls_behind labels links from base high stop [] le f l out = tt
falls_behind labels links from base high stop (y ∷ ys) le f l out =
    let out' : next_between labels base high (Some y) ≡ None = subst (λ o. next_between labels base high o ≡ None) l.0 out in
    elim (tested (is_between base high (slice_index labels y))) [
      | inl h ↦ (let no : Some y ≡ None = rw h at out' in cc)
      | inr h ↦ elim (not_between base high (slice_index labels y) h) [
        | inl lt ↦ (lt, f.1)
        | inr ge ↦ absurd (omega (arith, f.0))
      ]
    ]

-- labels rise in what a span was widened by to the end
rises_taken : (labels : List ℕ) (to base high most : ℕ) (taken rest : List ℕ) → Rises labels to most (taken ++ rest) → AllBetween labels base high taken
    → Rises labels to high taken
rises_taken labels to base high most [] rest r b = tt
rises_taken labels to base high most (t ∷ ts) rest r b = (r.0, b.1, rises_taken labels (slice_index labels t + 1) base high most ts rest r.2 b.2)

rises_rest : (labels : List ℕ) (to most : ℕ) (taken rest : List ℕ) → Rises labels to most (taken ++ rest) → Rises labels to most rest
rises_rest labels to most [] rest r = r
rises_rest labels to most (t ∷ ts) rest r = rises_from labels (slice_index labels t + 1) to most most rest (omega (arith, r.0)) (omega arith)
    (rises_rest labels (slice_index labels t + 1) most ts rest r.2)

rises_ahead : (labels : List ℕ) (links : List (Option ℕ)) (to base high most : ℕ) (stop : Option ℕ) (rest : List ℕ) → base ≤ to → Rises labels to most rest
    → Leads links stop rest → next_between labels base high stop ≡ None → Rises labels high most rest
rises_ahead labels links to base high most stop [] le r l out = tt
rises_ahead labels links to base high most stop (y ∷ ys) le r l out =
    let out' : next_between labels base high (Some y) ≡ None = subst (λ o. next_between labels base high o ≡ None) l.0 out in
    elim (tested (is_between base high (slice_index labels y))) [
      | inl h ↦ (let no : Some y ≡ None = rw h at out' in cc)
      | inr h ↦ elim (not_between base high (slice_index labels y) h) [
        | inl lt ↦ absurd (omega (arith, r.0))
        | inr ge ↦ (ge, r.1, r.2)
      ]
    ]

-- a range with an item in it is not empty
pub range_some : (labels : List ℕ) (low high x : ℕ) (xs : List ℕ) → Rises labels low high xs → head_of xs ≡ Some x → low < high
range_some labels low high x [] r h = cc
range_some labels low high x (z ∷ zs) r h = omega (arith, r.0, r.1)

-- a span and what was met on both sides of it
module _ (labels : List ℕ) (nexts prevs : List (Option ℕ)) (order : List ℕ) (base high from to : ℕ) (s : Span)
    (le : base ≤ from) (ge : to ≤ high) (span : IsSpan labels nexts prevs order from to s) (back on : Stretch)
    (b : IsStretch labels prevs base high s.first span.behind back)
    (a : IsStretch labels nexts base high s.first span.ahead on) where
  some : from < to
  some = range_some labels from to s.first span.items span.inside span.first

  behind_falls : Falls labels from (b.taken ++ b.rest)
  behind_falls = subst (Falls labels from) b.parts span.falls

  ahead_rises : Rises labels to (2 ^ 62) (a.taken ++ a.rest)
  ahead_rises = subst (Rises labels to (2 ^ 62)) a.parts span.rises

  abbrev all : List ℕ
  all = put_before b.taken span.items ++ a.taken

  parts : order ≡ put_before b.rest (all ++ a.rest)
  parts =
      span.parts
      ∙ (ap (λ l. put_before l (span.items ++ span.ahead)) b.parts
      ∙ (ap (λ l. put_before (b.taken ++ b.rest) (span.items ++ l)) a.parts
      ∙ (put_before_parts b.taken b.rest (span.items ++ (a.taken ++ a.rest))
      ∙ ap (λ l. put_before b.rest l) (put_before_append b.taken span.items (a.taken ++ a.rest)
      ∙ sym (append_assoc (put_before b.taken span.items) a.taken a.rest)))))

  inside : Rises labels base high all
  inside =
      rises_append labels base to high (put_before b.taken span.items) a.taken (omega (arith, some)) ge
      (rises_behind labels from base to high b.taken b.rest span.items le (omega (arith, some)) behind_falls b.between span.inside)
      (rises_taken labels to base high (2 ^ 62) a.taken a.rest ahead_rises a.between)

  count : s.items + back.items + on.items ≡ length all
  count =
      omega (arith, span.count, b.count, a.count, length-append (put_before b.taken span.items) a.taken, put_before_length b.taken span.items)

  pub wider :
      IsSpan labels nexts prevs order base high (record { first = back.last; items = s.items + back.items + on.items; before = back.stop; after = on.stop })
  wider = record {
    behind = b.rest;
    items = all;
    ahead = a.rest;
    parts = parts;
    falls = falls_behind labels prevs from base high back.stop b.rest (omega (arith, some)) (falls_rest labels from b.taken b.rest behind_falls) b.leads b.out;
    inside = inside;
    rises = rises_ahead labels nexts to base high (2 ^ 62) on.stop a.rest (omega (arith, some))
        (rises_rest labels to (2 ^ 62) a.taken a.rest ahead_rises) a.leads a.out;
    leads_back = b.leads;
    leads_on = a.leads;
    first = head_append (put_before b.taken span.items) a.taken back.last (first_of b.taken span.items s.first span.first ∙ ap (λ v. Some v) (sym b.last));
    count = count;
  }

-- how many items there are in a span, and on both sides of it
pub span_length : (labels : List ℕ) (nexts prevs : List (Option ℕ)) (order : List ℕ) (low high : ℕ) (s : Span)
    (span : IsSpan labels nexts prevs order low high s) → length order ≡ length span.behind + (length span.items + length span.ahead)
span_length labels nexts prevs order low high s span =
    ap (length {A = ℕ}) span.parts ∙ (put_before_length span.behind (span.items ++ span.ahead)
    ∙ ap (λ n. length span.behind + n) (length-append span.items span.ahead))

module _ (labels : List ℕ) (nexts prevs : List (Option ℕ)) (order : List ℕ) (low high : ℕ) (s : Span)
    (k : Keeps labels nexts prevs order) (few : length nexts < 2 ^ 32) (span : IsSpan labels nexts prevs order low high s) where
  both_below : AllBelow (length nexts) span.behind × AllBelow (length nexts) (span.items ++ span.ahead)
  both_below = put_before_below (length nexts) span.behind (span.items ++ span.ahead) (subst (AllBelow (length nexts)) span.parts k.below)

  all_counted : length nexts ≡ length span.behind + (length span.items + length span.ahead)
  all_counted = sym k.count ∙ span_length labels nexts prevs order low high s span

  pub way_back : IsWay labels prevs s.before span.behind
  way_back = record {
    leads = span.leads_back;
    below = subst (λ n. AllBelow n span.behind) (sym k.prev_count) both_below.0;
    short = omega (arith, all_counted, k.prev_count);
    same_count = k.same_count ∙ sym k.prev_count;
    few = omega (arith, few, k.prev_count);
  }

  pub way_on : IsWay labels nexts s.after span.ahead
  way_on = record {
    leads = span.leads_on;
    below = (below_append (length nexts) span.items span.ahead both_below.1).1;
    short = omega (arith, all_counted);
    same_count = k.same_count;
    few = few;
  }
