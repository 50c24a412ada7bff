-- Labels that are spread evenly over a window.
use Rattle.std.proofs.Common.{◌≡◌, ◌≢◌, ℕ, ◌+◌, ◌*◌, ◌^◌, ◌<◌, ◌≤◌, ◌∙◌, ◌⊎◌, inl, inr, true, false, List, [], ◌∷◌, ◌++◌, length, set, sym, subst, ap, refl}
use Rattle.std.proofs.Common.{arith, get_or-set_same, get_or-set_other}
use Rattle.std.specs.Prelude.{Option, Some, None, Bool, ◌==◌, slice_index, slice_index_or}
use Rattle.std.specs.List.{filter}
use Rattle.std.proofs.Math.ListN.{length-set}
use Rattle.std.proofs.Math.Nat.{mul-le-mul_right, mul-div-le, le-div_iff_mul-le}
use Rattle.order_list.specs.Ordered.{AllBelow, Rises, is_in, head_of, next_of, high_by}
use Rattle.order_list.specs.Chain.{Linked, Keeps}
use Rattle.order_list.specs.Labels.{is_between, base_of, gap_of, members, IsSparse, IsWindowOf, IsSpaced, IsSpread}
use Rattle.order_list.specs.Spans.{Leads, put_before, Falls, IsFound, IsRoute, set_evenly}
use Rattle.order_list.specs.declared.place.Window.{Window}
use Rattle.order_list.proofs.Chains.{tested, eq_of, later_above, later_below}
use Rattle.order_list.proofs.Inserting.{apart, in_rest, head_in, not_later}
use Rattle.order_list.proofs.Powers.{gap_two, base_le, label_below}
use Rattle.order_list.proofs.Spans.{is_in_range, below_append, put_before_below, rises_append, rises_join}
use Rattle.order_list.proofs.Sparse.{linked_from, leads_linked, members_are, found_is_window, found_segment, fits}

-- the labels as far as they were set
pub record IsSpreading (old : List ℕ) (nexts : List (Option ℕ)) (w : Window) (items rest : List ℕ) (labels : List ℕ) (k label : ℕ)
    (at : Option ℕ) : Type 0 where
  pub left : List ℕ
  pub leads : Leads nexts at (left ++ rest)
  pub count : w.items ≡ k + length left
  pub below : AllBelow (length nexts) left
  pub label_is : label ≡ w.base + k * w.gap
  pub same : set_evenly labels label w.gap left ≡ set_evenly old w.base w.gap items

pub spread_none : (old : List ℕ) (nexts : List (Option ℕ)) (w : Window) (items rest : List ℕ) → IsRoute old nexts w items rest
    → IsSpreading old nexts w items rest old 0 w.base (Some w.first.0)
spread_none old nexts w items rest r = record {
  left = items;
  leads = r.leads;
  count = omega (arith, r.count);
  below = r.below;
  label_is = omega arith;
  same = refl;
}

-- the item whose turn it is
pub record Turn (old : List ℕ) (nexts : List (Option ℕ)) (w : Window) (items rest : List ℕ) (labels : List ℕ) (k label x : ℕ) : Type 0 where
  pub in_nexts : x < length nexts
  pub fits : label + w.gap ≤ 2 ^ 62
  pub after : IsSpreading old nexts w items rest (set labels x label) (k + 1) (label + w.gap) (slice_index_or nexts x None)

pub turn : (old : List ℕ) (nexts : List (Option ℕ)) (w : Window) (items rest : List ℕ) (labels : List ℕ) (k label x : ℕ) → IsRoute old nexts w items rest
    → k < w.items → (s : IsSpreading old nexts w items rest labels k label (Some x)) → Turn old nexts w items rest labels k label x
turn old nexts w items rest labels k label x r lt s = at_left s.left s.leads s.count s.below s.same
  where
    at_left : (left : List ℕ) → Leads nexts (Some x) (left ++ rest) → w.items ≡ k + length left → AllBelow (length nexts) left
        → set_evenly labels label w.gap left ≡ set_evenly old w.base w.gap items → Turn old nexts w items rest labels k label x
    at_left [] l c b same = absurd (omega arith)
    at_left (y ∷ ys) l c b same =
        let x_is : y ≡ x = cc (l.0) in
        let le : (k + 1) * w.gap ≤ w.items * w.gap = mul-le-mul_right w.gap (omega arith) in
        subst (λ z. Turn old nexts w items rest labels k label z) x_is (record {
          in_nexts = b.0;
          fits = omega (arith, r.fits, s.label_is, le);
          after = record { left = ys; leads = l.1; count = omega (arith, c); below = b.1; label_is = omega (arith, s.label_is); same = same };
        })

-- there is an item as long as not all have their labels
pub no_end : (old : List ℕ) (nexts : List (Option ℕ)) (w : Window) (items rest : List ℕ) (labels : List ℕ) (k label : ℕ) → k < w.items
    → IsSpreading old nexts w items rest labels k label None → ⊥
no_end old nexts w items rest labels k label lt s = at_left s.left s.leads s.count
  where
    at_left : (left : List ℕ) → Leads nexts None (left ++ rest) → w.items ≡ k + length left → ⊥
    at_left [] l c = omega arith
    at_left (y ∷ ys) l c = let no : None ≡ Some y = l.0 in cc

-- all have their labels
pub spread_all : (old : List ℕ) (nexts : List (Option ℕ)) (w : Window) (items rest : List ℕ) (labels : List ℕ) (k label : ℕ) (at : Option ℕ) → w.items ≤ k
    → IsSpreading old nexts w items rest labels k label at → labels ≡ set_evenly old w.base w.gap items
spread_all old nexts w items rest labels k label at le s = at_left s.left s.count s.same
  where
    at_left : (left : List ℕ) → w.items ≡ k + length left → set_evenly labels label w.gap left ≡ set_evenly old w.base w.gap items
        → labels ≡ set_evenly old w.base w.gap items
    at_left [] c same = same
    at_left (y ∷ ys) c same = absurd (omega arith)

-- the labels that are set evenly
pub even_length : (labels : List ℕ) (base gap : ℕ) (xs : List ℕ) → length (set_evenly labels base gap xs) ≡ length labels
even_length labels base gap [] = refl
even_length labels base gap (x ∷ xs) = even_length (set labels x base) (base + gap) gap xs ∙ simp length-set

pub even_other : (labels : List ℕ) (base gap y : ℕ) (xs : List ℕ) → is_in y xs ≡ false → slice_index (set_evenly labels base gap xs) y ≡ slice_index labels y
even_other labels base gap y [] out = refl
even_other labels base gap y (x ∷ xs) out =
    elim (tested (x == y)) [
      | inl e ↦ (let no = rw e at out in cc)
      | inr e ↦ (
          let ne : x ≢ y = apart x y e in
          let ne' : y ≢ x = (λ s. ne (sym s)) in
          even_other (set labels x base) (base + gap) gap y xs (rw e at out) ∙ get_or-set_other labels x y base 0 ne')
    ]

-- spread labels from another start
spaced_from : (labels : List ℕ) (base gap k : ℕ) (xs : List ℕ) → IsSpaced labels (base + gap) gap k xs → IsSpaced labels base gap (k + 1) xs
spaced_from labels base gap k [] s = tt
spaced_from labels base gap k (x ∷ xs) s = (omega (arith, s.0), spaced_from labels base gap (k + 1) xs s.1)

pub even_spaced : (old labels : List ℕ) (n low high base gap : ℕ) (xs : List ℕ) → Rises old low high xs → AllBelow n xs → length labels ≡ n
    → IsSpaced (set_evenly labels base gap xs) base gap 0 xs
even_spaced old labels n low high base gap [] r b len = tt
even_spaced old labels n low high base gap (x ∷ xs) r b len =
    let within : x < length labels = omega (arith, b.0, len) in
    let here : slice_index (set_evenly (set labels x base) (base + gap) gap xs) x ≡ base = even_other (set labels x base) (base + gap) gap x xs (not_later old
    xs low high x r) ∙ rw get_or-set_same refl in
    let len' : length (set labels x base) ≡ n = simp length-set len in (
      omega (arith, here),
      spaced_from (set_evenly (set labels x base) (base + gap) gap xs) base gap 0 xs
          (even_spaced old (set labels x base) n (slice_index old x + 1) high (base + gap) gap xs r.2 b.1 len'),
    )

-- spread labels rise
pub spaced_rises : (labels : List ℕ) (base gap k low high : ℕ) (xs : List ℕ) → 1 ≤ gap → low ≤ base + k * gap → base + (k + length xs) * gap ≤ high
    → IsSpaced labels base gap k xs → Rises labels low high xs
spaced_rises labels base gap k low high [] some le fits s = tt
spaced_rises labels base gap k low high (x ∷ xs) some le fits
    s = (
      omega (arith, s.0),
      omega (arith, s.0, fits_one (length xs) gap),
      spaced_rises labels base gap (k + 1) (slice_index labels x + 1) high xs some
          (omega (arith, s.0)) (omega (arith, fits)) s.1,
    )
  where
    fits_one : (n gap : ℕ) → gap ≤ (1 + n) * gap
    fits_one n gap = omega arith

-- labels that stay are in the same order
falls_same : (labels labels' : List ℕ) (high : ℕ) (xs : List ℕ) → ((y : ℕ) → is_in y xs ≡ true → slice_index labels' y ≡ slice_index labels y)
    → Falls labels high xs → Falls labels' high xs
falls_same labels labels' high [] same f = tt
falls_same labels labels' high (x ∷ xs) same f =
    let here = same x (head_in x xs) in (
      omega (arith, f.0, here),
      subst (λ h. Falls labels' h xs) (sym here)
          (falls_same labels labels' (slice_index labels x) xs (λ y h. same y (in_rest y x xs h)) f.1),
    )

rises_same : (labels labels' : List ℕ) (low high : ℕ) (xs : List ℕ) → ((y : ℕ) → is_in y xs ≡ true → slice_index labels' y ≡ slice_index labels y)
    → Rises labels low high xs → Rises labels' low high xs
rises_same labels labels' low high [] same r = tt
rises_same labels labels' low high (x ∷ xs) same r =
    let here = same x (head_in x xs) in (
      omega (arith, r.0, here),
      omega (arith, r.1, here),
      subst (λ h. Rises labels' (h + 1) high xs) (sym here)
          (rises_same labels labels' (slice_index labels x + 1) high xs (λ y h. same y (in_rest y x xs h)) r.2),
    )

falls_below : (labels : List ℕ) (high y : ℕ) (xs : List ℕ) → Falls labels high xs → is_in y xs ≡ true → slice_index labels y < high
falls_below labels high y [] f h = cc
falls_below labels high y (x ∷ xs) f h =
    elim (tested (x == y)) [
      | inl e ↦ (let s = eq_of x y e in subst (λ z. slice_index labels z < high) s f.0)
      | inr e ↦ (let below = falls_below labels (slice_index labels x) y xs f.1 (rw e at h) in omega (arith, below, f.0))
    ]

-- an item with a label outside of a range is none of the items with labels in it
out_of : (labels : List ℕ) (low high y : ℕ) (xs : List ℕ) → Rises labels low high xs → (slice_index labels y < low) ⊎ (high ≤ slice_index labels y)
    → is_in y xs ≡ false
out_of labels low high y xs r out =
    elim (tested (is_in y xs)) [
      | inl e ↦ elim out [
        | inl lt ↦ absurd (omega (arith, lt, later_above labels xs low high y r e))
        | inr ge ↦ absurd (omega (arith, ge, later_below labels xs low high y r e))
      ]
      | inr e ↦ e
    ]

-- the next item of one that is not among the first items
next_behind : (x : ℕ) (behind rest : List ℕ) → ((y : ℕ) → is_in y behind ≡ true → y ≢ x) → next_of x (put_before behind rest) ≡ next_of x rest
next_behind x [] rest out = refl
next_behind x (p ∷ ps) rest out =
    let ne = out p (head_in p ps) in
    next_behind x ps (p ∷ rest) (λ y h. out y (in_rest y p ps h)) ∙ next_after p rest ne
  where
    next_after : (p : ℕ) (rest : List ℕ) → p ≢ x → next_of x (p ∷ rest) ≡ next_of x rest
    next_after p rest ne = elim (tested (p == x)) [ inl e ↦ absurd (ne (eq_of p x e)) | inr e ↦ rw e refl ]

-- between an item of a window and the next item there is a gap
pub spaced_gap : (labels : List ℕ) (base gap k high x : ℕ) (xs ahead : List ℕ) → base + (k + length xs) * gap ≤ high → high ≤ 2 ^ 62
    → IsSpaced labels base gap k xs → Rises labels high (2 ^ 62) ahead → is_in x xs ≡ true
    → slice_index labels x + gap ≤ high_by labels (next_of x (xs ++ ahead))
spaced_gap labels base gap k high x [] ahead fits le s r h = cc
spaced_gap labels base gap k high x (z ∷ []) [] fits le s r h =
    elim (tested (z == x)) [
      | inl e ↦ (let a = ap (slice_index labels) (eq_of z x e) in rw e (omega (arith, s.0, a)))
      | inr e ↦ (let no = rw e at h in cc)
    ]
spaced_gap labels base gap k high x (z ∷ []) (w ∷ ws) fits le s r h =
    elim (tested (z == x)) [
      | inl e ↦ (let a = ap (slice_index labels) (eq_of z x e) in rw e (omega (arith, s.0, a, r.0)))
      | inr e ↦ (let no = rw e at h in cc)
    ]
spaced_gap labels base gap k high x (z ∷ y ∷ ys) ahead fits le s r h =
    elim (tested (z == x)) [
      | inl e ↦ (let a = ap (slice_index labels) (eq_of z x e) in rw e (omega (arith, s.0, s.1.0, a)))
      | inr e ↦ rw e (spaced_gap labels base gap (k + 1) high x (y ∷ ys) ahead (omega arith) le s.1 r (rw e at h))
    ]

in_filter : (p : ℕ → Bool) (x : ℕ) (xs : List ℕ) → p x ≡ true → is_in x xs ≡ true → is_in x (filter p xs) ≡ true
in_filter p x [] t h = cc
in_filter p x (z ∷ zs) t h =
    elim (tested (z == x)) [
      | inl e ↦ (let s = eq_of z x e in let t' : p z ≡ true = ap p s ∙ t in rw t' (rw e refl))
      | inr e ↦ (
          let there = in_filter p x zs t (rw e at h) in
          elim (tested (p z)) [
            | inl f ↦ rw f (in_rest x z (filter p zs) there)
            | inr f ↦ rw f there
          ])
    ]

-- an item is one of its window
in_members : (labels order : List ℕ) (x i : ℕ) → is_in x order ≡ true → is_in x (members labels order x i) ≡ true
in_members labels order x i h =
    let label = slice_index labels x in
    in_filter (λ y. is_between (base_of i label) (base_of i label + 2 ^ i) (slice_index labels y)) x order
    (is_in_range (base_of i label) (base_of i label + 2 ^ i) label (base_le i label) (label_below i label)) h

length_some : (xs : List ℕ) (x : ℕ) → head_of xs ≡ Some x → 1 ≤ length xs
length_some [] x h = cc
length_some (z ∷ zs) x h = omega arith

leads_from : (nexts : List (Option ℕ)) (xs ahead : List ℕ) (x : ℕ) → head_of xs ≡ Some x → Linked nexts (xs ++ ahead) → Leads nexts (Some x) (xs ++ ahead)
leads_from nexts [] ahead x h l = cc
leads_from nexts (z ∷ zs) ahead x h l = (sym h, leads_linked nexts z (zs ++ ahead) l)

-- a relabelling
module _ (labels : List ℕ) (nexts prevs : List (Option ℕ)) (order : List ℕ) (x : ℕ) (w : Window)
    (k : Keeps labels nexts prevs order) (x_in : x < length nexts) (f : IsFound labels nexts prevs order x w) where
  abbrev i : ℕ
  i = f.size

  abbrev base : ℕ
  base = base_of i (slice_index labels x)

  abbrev high : ℕ
  high = base + 2 ^ i

  abbrev items : List ℕ
  items = f.span.items

  abbrev ahead : List ℕ
  ahead = f.span.ahead

  abbrev gap : ℕ
  gap = gap_of i (length items)

  abbrev labels' : List ℕ
  labels' = set_evenly labels base gap items

  few : high ≤ 2 ^ 62
  few = fits labels nexts prevs order x i k x_in f.least.most

  same_items : members labels order x i ≡ items
  same_items = members_are labels nexts prevs order x i f.found f.span

  some : 1 ≤ length items
  some = length_some items f.found.first f.span.first

  two : 2 ≤ gap
  two =
      let sparse : IsSparse i (length items) = subst (λ (xs : List ℕ). IsSparse i (length xs)) same_items f.least.sparse in
      let n = length items in
      (le-div_iff_mul-le {k = n} {x = 2} {y = 2 ^ i} (omega (arith, some))).1 (omega (arith, gap_two i n f.least.some sparse))

  all_fit : base + (0 + length items) * gap ≤ high
  all_fit = omega (arith, mul-div-le (2 ^ i) (length items))

  below_all : AllBelow (length nexts) f.span.behind × AllBelow (length nexts) (items ++ ahead)
  below_all = put_before_below (length nexts) f.span.behind (items ++ ahead) (subst (AllBelow (length nexts)) f.span.parts k.below)

  below_items : AllBelow (length nexts) items
  below_items = (below_append (length nexts) items ahead below_all.1).0

  linked_items : Linked nexts (items ++ ahead)
  linked_items = linked_from nexts f.span.behind (items ++ ahead) (subst (Linked nexts) f.span.parts k.linked)

  w_is : w ≡ record { first = record { 0 = f.found.first }; items = length items; base = base; gap = gap }
  w_is = f.is ∙ ap (λ n. record { first = record { 0 = f.found.first }; items = n; base = base; gap = gap_of i n }) f.span.count

  pub route : IsRoute labels nexts w items ahead
  route = subst (λ v. IsRoute labels nexts v items ahead) (sym w_is) (record {
    leads = leads_from nexts items ahead f.found.first f.span.first linked_items;
    count = refl;
    below = below_items;
    same_count = k.same_count;
    fits = omega (arith, all_fit, few);
  })

  -- the labels that a spread over the window gives
  pub labels_are : (new : List ℕ) → new ≡ set_evenly labels w.base w.gap items → new ≡ labels'
  labels_are new is = is ∙ ap (λ (v : Window). set_evenly labels v.base v.gap items) w_is

  other : (y : ℕ) → (slice_index labels y < base) ⊎ (high ≤ slice_index labels y) → slice_index labels' y ≡ slice_index labels y
  other y out = even_other labels base gap y items (out_of labels base high y items f.span.inside out)

  spaced : IsSpaced labels' base gap 0 items
  spaced = even_spaced labels labels (length nexts) base high base gap items f.span.inside below_items k.same_count

  rises_ahead' : Rises labels' high (2 ^ 62) ahead
  rises_ahead' = rises_same labels labels' high (2 ^ 62) ahead (λ y h. other y (inr (later_above labels ahead high (2 ^ 62) y f.span.rises h))) f.span.rises

  rises' : Rises labels' 0 (2 ^ 62) order
  rises' =
      let falls' = falls_same labels labels' base f.span.behind (λ y h. other y (inl (falls_below labels base y f.span.behind f.span.falls h))) f.span.falls in
      let inside' = spaced_rises labels' base gap 0 base high items (omega (arith, two)) (omega arith) all_fit spaced in
      let rest' = rises_append labels' base high (2 ^ 62) items ahead (omega arith) few inside' rises_ahead' in
      subst (Rises labels' 0 (2 ^ 62)) (sym f.span.parts) (rises_join labels' base (2 ^ 62) f.span.behind (items ++ ahead) (omega (arith, few)) falls' rest')

  pub keeps' : Keeps labels' nexts prevs order
  keeps' = record {
    linked = k.linked;
    back = k.back;
    count = k.count;
    same_count = even_length labels base gap items ∙ k.same_count;
    prev_count = k.prev_count;
    below = k.below;
    whole = k.whole;
    rises = rises';
  }

  pub spread' : IsSpread labels order x w labels'
  spread' =
      let window : IsWindowOf labels order x w = record {
        size = i;
        least = f.least;
        is = found_is_window labels nexts prevs order x w f;
        segment = found_segment labels nexts prevs order x w f;
      } in
      let spaced_in : IsSpaced labels' base gap 0 (members labels order x i) = subst (λ (xs : List ℕ). IsSpaced labels' base gap 0
      xs) (sym same_items) spaced in
      record {
        window = window;
        counted = even_length labels base gap items;
        spaced = subst (λ (v : Window). IsSpaced labels' v.base v.gap 0 (members labels order x i)) (sym w_is) spaced_in;
        others = λ y out. even_other labels base gap y items (subst (λ xs. is_in y xs ≡ false) same_items out);
      }

  pub between' : slice_index labels' x + 2 ≤ high_by labels' (next_of x order)
  between' =
      let there : is_in x items ≡ true = subst (λ xs. is_in x xs ≡ true) same_items (in_members labels order x i (k.whole x x_in)) in
      let not_behind : (y : ℕ) → is_in y f.span.behind ≡ true → y ≢ x = λ y h s. absurd (omega (
        arith,
        falls_below labels base y f.span.behind f.span.falls h,
        base_le i (slice_index labels x),
        ap (slice_index labels) s,
      )) in
      let next : next_of x order ≡ next_of x (items ++ ahead) = ap (next_of x) f.span.parts ∙ next_behind x f.span.behind (items ++ ahead) not_behind in
      subst (λ o. slice_index labels' x + 2 ≤ high_by labels' o) (sym next)
      (omega (arith, two, spaced_gap labels' base gap 0 high x items ahead all_fit few spaced rises_ahead' there))
