-- An item that is put after another.
use Rattle.std.proofs.Common.{◌≡◌, ◌≢◌, ℕ, zero, suc, ◌+◌, ◌<◌, ◌≤◌, ◌^◌, true, false, List, [], ◌∷◌, ◌++◌, inl, inr, length, length-append, get_or, set, sym}
use Rattle.std.proofs.Common.{◌∙◌, subst, refl, ap, arith, get_or-set_same, get_or-set_other}
use Rattle.std.specs.Prelude.{Option, Some, None, IfSome, ◌==◌, slice_index, slice_set}
use Rattle.std.proofs.Math.ListN.{length-set, get_or-append}
use Rattle.std.proofs.Math.Seq.{get_or-append_seam}
use Rattle.std.proofs.lemmas.Bool.Decides.{nat_tests}
use Rattle.order_list.specs.Ordered.{put_after, is_in, next_of, high_by}
use Rattle.order_list.specs.Chain.{walk, Linked, LinkedBack, Keeps, with_prev}
use Rattle.order_list.specs.Ordered.{AllBelow, IsNumbered, IsKept, Rises}
use Rattle.order_list.proofs.Chains.{tested, eq_of, later_above, kept_next}

-- an item does not come again behind itself
pub not_later : (labels xs : List ℕ) (low high x : ℕ) → Rises labels low high (x ∷ xs) → is_in x xs ≡ false
not_later labels xs low high x r =
    elim (tested (is_in x xs)) [
      | inl e ↦ absurd (let above = later_above labels xs (slice_index labels x + 1) high x r.2 e in omega (arith, above))
      | inr e ↦ e
    ]

pub other : (z x : ℕ) (zs : List ℕ) → is_in x (z ∷ zs) ≡ false → z ≢ x
other z x zs h same = let e : (z == x) ≡ true = grind (arith, nat_tests) in let no = rw e at h in cc

pub apart : (z x : ℕ) → (z == x) ≡ false → z ≢ x
apart z x e same = let f : (z == x) ≡ true = grind (arith, nat_tests) in cc

module _ (labels labels' : List ℕ) (nexts nexts' : List (Option ℕ)) (n x item label : ℕ)
    (same : (z : ℕ) → z < n → z ≢ x → get_or nexts' z None ≡ get_or nexts z None)
    (at_x : get_or nexts' x None ≡ Some item)
    (same_label : (z : ℕ) → z < n → slice_index labels' z ≡ slice_index labels z)
    (at_item : slice_index labels' item ≡ label) where
  -- where x is not, nothing changes
  linked_rest : (zs : List ℕ) → AllBelow n zs → is_in x zs ≡ false → Linked nexts zs → Linked nexts' zs
  linked_rest [] b out l = tt
  linked_rest (z ∷ []) b out l = same z b.0 (other z x [] out) ∙ l
  linked_rest (z ∷ y ∷ ys) b out l =
      elim (tested (z == x)) [
        | inl e ↦ (let no = rw e at out in cc)
        | inr e ↦ (same z b.0 (other z x (y ∷ ys) out) ∙ l.0, linked_rest (y ∷ ys) b.1 (rw e at out) l.1)
      ]

  linked_insert : (zs : List ℕ) (low : ℕ) → AllBelow n zs → Rises labels low (2 ^ 62) zs → Linked nexts zs → is_in x zs ≡ true
      → get_or nexts' item None ≡ next_of x zs → Linked nexts' (put_after x (item ∷ []) zs)
  linked_insert [] low b r l in_ at = tt
  linked_insert (z ∷ []) low b r l in_ at =
      elim (tested (z == x)) [
        | inl e ↦ (let s = eq_of z x e in rw e (rw s at_x, rw e at at))
        | inr e ↦ (let no = rw e at in_ in cc)
      ]
  linked_insert (z ∷ y ∷ ys) low b r l in_ at =
      elim (tested (z == x)) [
        | inl e ↦ (
            let s = eq_of z x e in
            let out : is_in x (y ∷ ys) ≡ false = subst (λ v. is_in v (y ∷ ys) ≡ false) s (not_later labels (y ∷ ys) low (2 ^ 62) z r) in
            rw e (rw s at_x, (rw e at at, linked_rest (y ∷ ys) b.1 out l.1)))
        | inr e ↦ rw e (same z b.0 (apart z x e) ∙ l.0, linked_insert (y ∷ ys) (slice_index labels z + 1) b.1 r.2 l.1 (rw e at in_) (rw e at at))
      ]

  rises_rest : (zs : List ℕ) (low : ℕ) → AllBelow n zs → Rises labels low (2 ^ 62) zs → Rises labels' low (2 ^ 62) zs
  rises_rest [] low b r = tt
  rises_rest (z ∷ zs) low b r = rw (same_label z b.0) (r.0, r.1, rises_rest zs (slice_index labels z + 1) b.1 r.2)

  rises_insert : (zs : List ℕ) (low : ℕ) → AllBelow n zs → Rises labels low (2 ^ 62) zs → is_in x zs ≡ true → slice_index labels x < label
      → label < high_by labels (next_of x zs) → Rises labels' low (2 ^ 62) (put_after x (item ∷ []) zs)
  rises_insert [] low b r in_ lt up = tt
  rises_insert (z ∷ []) low b r in_ lt up =
      elim (tested (z == x)) [
        | inl e ↦ (
            let s = ap (slice_index labels) (eq_of z x e) in
            let up' : label < 2 ^ 62 = rw e at up in
            rw e (rw (same_label z b.0, at_item) (r.0, r.1, (omega (arith, s), up', tt))))
        | inr e ↦ (let no = rw e at in_ in cc)
      ]
  rises_insert (z ∷ y ∷ ys) low b r in_ lt up =
      elim (tested (z == x)) [
        | inl e ↦ (
            let s = ap (slice_index labels) (eq_of z x e) in
            let up' : label < slice_index labels y = rw e at up in
            rw e (rw (same_label z b.0, at_item) (
              r.0,
              r.1,
              (
                omega (arith, s),
                omega (arith, up', r.2.1),
                rises_rest (y ∷ ys) (label + 1) b.1
                    (omega (arith, up'), r.2.1, r.2.2),
              ),
            )))
        | inr e ↦ rw e (rw (same_label z b.0) (r.0, r.1, rises_insert (y ∷ ys) (slice_index labels z + 1) b.1 r.2 (rw e at in_) lt (rw e at up)))
      ]

below_more : (n m : ℕ) → n ≤ m → (zs : List ℕ) → AllBelow n zs → AllBelow m zs
below_more n m le [] b = tt
below_more n m le (z ∷ zs) b = (omega (arith, b.0), below_more n m le zs b.1)

below_insert : (n x item : ℕ) → n ≡ item → (zs : List ℕ) → AllBelow n zs → AllBelow (n + 1) (put_after x (item ∷ []) zs)
below_insert n x item is [] b = tt
below_insert n x item is (z ∷ zs) b =
    elim (tested (z == x)) [
      | inl e ↦ rw e (omega (arith, b.0), (omega arith, below_more n (n + 1) (omega arith) zs b.1))
      | inr e ↦ rw e (omega (arith, b.0), below_insert n x item is zs b.1)
    ]

pub count_insert : (x item : ℕ) (zs : List ℕ) → is_in x zs ≡ true → length (put_after x (item ∷ []) zs) ≡ length zs + 1
count_insert x item [] in_ = cc
count_insert x item (z ∷ zs) in_ =
    elim (tested (z == x)) [
      | inl e ↦ rw e (omega arith)
      | inr e ↦ rw e (let c = count_insert x item zs (rw e at in_) in omega arith)
    ]

pub in_rest : (y z : ℕ) (zs : List ℕ) → is_in y zs ≡ true → is_in y (z ∷ zs) ≡ true
in_rest y z zs h = elim (tested (z == y)) [ inl e ↦ rw e refl | inr e ↦ rw e h ]

in_insert : (x item y : ℕ) (zs : List ℕ) → is_in y zs ≡ true → is_in y (put_after x (item ∷ []) zs) ≡ true
in_insert x item y [] h = cc
in_insert x item y (z ∷ zs) h =
    elim (tested (z == y)) [
      | inl f ↦ rw f refl
      | inr f ↦ elim (tested (z == x)) [
        | inl e ↦ rw (f, e) (in_rest y item zs (rw f at h))
        | inr e ↦ rw (f, e) (in_insert x item y zs (rw f at h))
      ]
    ]

pub below_in : (n y : ℕ) (zs : List ℕ) → AllBelow n zs → is_in y zs ≡ true → y < n
below_in n y [] b h = cc
below_in n y (z ∷ zs) b h =
    elim (tested (z == y)) [
      | inl e ↦ (let s = eq_of z y e in omega (arith, b.0))
      | inr e ↦ below_in n y zs b.1 (rw e at h)
    ]

pub head_in : (y : ℕ) (zs : List ℕ) → is_in y (y ∷ zs) ≡ true
head_in y zs = elim (tested (y == y)) [ inl e ↦ rw e refl | inr e ↦ absurd (apart y y e refl) ]

item_in : (x item : ℕ) (zs : List ℕ) → is_in x zs ≡ true → is_in item (put_after x (item ∷ []) zs) ≡ true
item_in x item [] h = cc
item_in x item (z ∷ zs) h =
    elim (tested (z == item)) [
      | inl f ↦ rw f refl
      | inr f ↦ elim (tested (z == x)) [
        | inl e ↦ rw (f, e) (head_in item zs)
        | inr e ↦ rw (f, e) (item_in x item zs (rw e at h))
      ]
    ]

-- the next item is one of the list
next_in : (x y : ℕ) (zs : List ℕ) → next_of x zs ≡ Some y → is_in y zs ≡ true
next_in x y [] h = cc
next_in x y (z ∷ []) h =
    elim (tested (z == x)) [
      | inl e ↦ (let no = rw e at h in cc)
      | inr e ↦ (let no = rw e at h in cc)
    ]
next_in x y (z ∷ w ∷ ws) h =
    elim (tested (z == x)) [
      | inl e ↦ (let h' = rw e at h in let same : w ≡ y = cc in in_rest y z (w ∷ ws) (subst (λ v. is_in v (w ∷ ws) ≡ true) same (head_in w ws)))
      | inr e ↦ in_rest y z (w ∷ ws) (next_in x y (w ∷ ws) (rw e at h))
    ]

module _ (labels : List ℕ) (prevs prevs' : List (Option ℕ)) (n x item : ℕ) (next : Option ℕ)
    (same : (z : ℕ) → z < n → next ≢ Some z → get_or prevs' z None ≡ get_or prevs z None)
    (at_next : (y : ℕ) → next ≡ Some y → get_or prevs' y None ≡ Some item)
    (at_item : get_or prevs' item None ≡ Some x) where
  -- where the next item is not, nothing changes
  back_rest : (zs : List ℕ) (at : Option ℕ) → AllBelow n zs → ((z : ℕ) → is_in z zs ≡ true → next ≢ Some z) → LinkedBack prevs at zs → LinkedBack prevs' at zs
  back_rest [] at b out l = tt
  back_rest (z ∷ zs) at b out l = (same z b.0 (out z (head_in z zs)) ∙ l.0, back_rest zs (Some z) b.1 (λ y h. out y (in_rest y z zs h)) l.1)

  back_insert : (zs : List ℕ) (at : Option ℕ) (low : ℕ) → AllBelow n zs → Rises labels low (2 ^ 62) zs → is_in x zs ≡ true → next_of x zs ≡ next
      → LinkedBack prevs at zs → LinkedBack prevs' at (put_after x (item ∷ []) zs)
  back_insert [] at low b r in_ is l = tt
  back_insert (z ∷ []) at low b r in_ is l =
      elim (tested (z == x)) [
        | inl e ↦ (
            let s = eq_of z x e in
            let none : None ≡ next = rw e at is in
            rw e (same z b.0 (λ some. cc) ∙ l.0, (at_item ∙ ap (λ v. Some v) (sym s), tt)))
        | inr e ↦ (let no = rw e at in_ in cc)
      ]
  back_insert (z ∷ y ∷ ys) at low b r in_ is l =
      elim (tested (z == x)) [
        | inl e ↦ (
            let s = eq_of z x e in
            let next_is : Some y ≡ next = rw e at is in
            let apart_z : next ≢ Some z = λ some. (let t : y ≡ z = cc in absurd (omega (arith, r.2.0, ap (slice_index labels) t))) in
            let out : (w : ℕ) → is_in w ys ≡ true → next ≢ Some w = λ w h some. (let t : y ≡ w = cc in
            absurd (omega (arith, later_above labels ys (slice_index labels y + 1) (2 ^ 62) w r.2.2 h, ap (slice_index labels) t))) in
            rw e (same z b.0 apart_z ∙ l.0, (at_item ∙ ap (λ v. Some v) (sym s), (at_next y (sym next_is), back_rest ys (Some y) b.1.1 out l.1.1))))
        | inr e ↦ (
            let is' : next_of x (y ∷ ys) ≡ next = rw e at is in
            let apart_z : next ≢ Some z = λ some. absurd (omega (
              arith,
              later_above labels (y ∷ ys) (slice_index labels z + 1) (2 ^ 62) z r.2
                  (next_in x z (y ∷ ys) (is' ∙ some)),
            )) in
            rw e (same z b.0 apart_z ∙ l.0, back_insert (y ∷ ys) (Some z) (slice_index labels z + 1) b.1 r.2 (rw e at in_) is' l.1))
      ]

-- the chain is the list that it links
walk_is : (nexts : List (Option ℕ)) (n : ℕ) (zs : List ℕ) (z : ℕ) → Linked nexts (z ∷ zs) → length (z ∷ zs) ≤ n → walk nexts n (Some z) ≡ z ∷ zs
walk_is nexts zero zs z l le = absurd (omega arith)
walk_is nexts (suc zero) [] z l le = refl
walk_is nexts (suc (suc n)) [] z l le = rw l refl
walk_is nexts (suc n) (y ∷ ys) z l le = rw l.0 (ap (λ r. z ∷ r) (walk_is nexts n ys y l.1 (omega arith)))

-- the chain has each number below its length
pub numbered : (labels : List ℕ) (nexts prevs : List (Option ℕ)) (order : List ℕ) → Keeps labels nexts prevs order → IsNumbered order
numbered labels nexts prevs order k =
    record { below = subst (λ n. AllBelow n order) (sym k.count) k.below; whole = λ x lt. k.whole x (omega (arith, lt, k.count)) }

-- what the fields keep, as the value shows it
pub kept : (labels : List ℕ) (nexts prevs : List (Option ℕ)) (order : List ℕ) (room : ℕ) → Keeps labels nexts prevs order
    → IsKept (record { order = order; labels = labels; room = room })
kept labels nexts prevs order room k =
    record { numbered = numbered labels nexts prevs order k; counted = k.same_count ∙ sym k.count; rises = k.rises }

-- an insert makes a list longer by one
pub grown_by_one : (x item : ℕ) (old new : List ℕ) → IsNumbered old → x < length old → new ≡ put_after x (item ∷ []) old → length new ≡ length old + 1
grown_by_one x item old new n lt is = ap (length {A = ℕ}) is ∙ count_insert x item old (n.whole x lt)

-- the fields after an item was put after x
pub record IsLinked (labels : List ℕ) (nexts prevs : List (Option ℕ)) (n : ℕ) (order : List ℕ) : Type 0 where
  pub keeps : Keeps labels nexts prevs (walk nexts n (Some 0))
  pub order_is : walk nexts n (Some 0) ≡ order

module _ (labels : List ℕ) (nexts prevs : List (Option ℕ)) (x label : ℕ) (order : List ℕ)
    (k : Keeps labels nexts prevs order) (x_in : x < length order)
    (lt : slice_index labels x < label) (up : label < high_by labels (next_of x order)) where
  abbrev item : ℕ
  item = length nexts

  abbrev labels' : List ℕ
  labels' = labels ++ label ∷ []

  abbrev nexts' : List (Option ℕ)
  nexts' = set (nexts ++ next_of x order ∷ []) x (Some item)

  abbrev prevs' : List (Option ℕ)
  prevs' = with_prev (prevs ++ Some x ∷ []) (next_of x order) item

  x_below : x < length nexts
  x_below = omega (arith, k.count)

  x_there : is_in x order ≡ true
  x_there = k.whole x x_below

  same : (z : ℕ) → z < length nexts → z ≢ x → get_or nexts' z None ≡ get_or nexts z None
  same z lt ne = rw get_or-set_other (get_or-append nexts (next_of x order ∷ []) None z lt)

  at_x : get_or nexts' x None ≡ Some item
  at_x = let lt : x < length (nexts ++ next_of x order ∷ []) = omega (arith, x_below, length-append nexts (next_of x order ∷ [])) in rw get_or-set_same

  same_label : (z : ℕ) → z < length nexts → slice_index labels' z ≡ slice_index labels z
  same_label z lt = get_or-append labels (label ∷ []) 0 z (omega (arith, k.same_count))

  at_item_label : slice_index labels' item ≡ label
  at_item_label = rw (← k.same_count) (get_or-append_seam labels label [] 0)

  at_item : get_or nexts' item None ≡ next_of x order
  at_item = let ne : item ≢ x = (λ e. absurd (omega (arith, x_below, e))) in rw get_or-set_other (get_or-append_seam nexts (next_of x order) [] None)

  prev_grown : length (prevs ++ Some x ∷ []) ≡ item + 1
  prev_grown = simp length-append (omega (arith, k.prev_count))

  set_prev_count : (o : Option ℕ) (ps : List (Option ℕ)) → length (with_prev ps o item) ≡ length ps
  set_prev_count None ps = refl
  set_prev_count (Some y) ps = simp length-set

  set_prev_same : (o : Option ℕ) (ps : List (Option ℕ)) (z : ℕ) → o ≢ Some z → get_or (with_prev ps o item) z None ≡ get_or ps z None
  set_prev_same None ps z ne = refl
  set_prev_same (Some y) ps z ne = let apart' : z ≢ y = (λ e. ne (ap (λ v. Some v) (sym e))) in get_or-set_other ps y z (Some item) None apart'

  same_prev : (z : ℕ) → z < length nexts → next_of x order ≢ Some z → get_or prevs' z None ≡ get_or prevs z None
  same_prev z lt ne = set_prev_same (next_of x order) (prevs ++ Some x ∷ []) z ne ∙ get_or-append prevs (Some x ∷ []) None z (omega (arith, k.prev_count))

  next_below : (y : ℕ) → next_of x order ≡ Some y → y < length nexts
  next_below y is = below_in (length nexts) y order k.below (next_in x y order is)

  at_next_prev : (y : ℕ) → next_of x order ≡ Some y → get_or prevs' y None ≡ Some item
  at_next_prev y is =
      let lt' : y < length (prevs ++ Some x ∷ []) = omega (arith, prev_grown, next_below y is) in
      subst (λ o. get_or (with_prev (prevs ++ Some x ∷ []) o item) y None ≡ Some item) (sym is) (rw get_or-set_same refl)

  at_item_prev : get_or prevs' item None ≡ Some x
  at_item_prev =
      let ne : next_of x order ≢ Some item = (λ e. absurd (omega (arith, next_below item e))) in
      set_prev_same (next_of x order) (prevs ++ Some x ∷ []) item ne ∙ rw (← k.prev_count) (get_or-append_seam prevs (Some x) [] None)

  grown : length nexts' ≡ length nexts + 1
  grown = simp (length-set, length-append) (omega arith)

  whole' : (y : ℕ) → y < length nexts' → is_in y (put_after x (item ∷ []) order) ≡ true
  whole' y lt =
      elim (tested (y == item)) [
        | inl e ↦ (let s = eq_of y item e in subst (λ v. is_in v (put_after x (item ∷ []) order) ≡ true) (sym s) (item_in x item order x_there))
        | inr e ↦ (let ne = apart y item e in in_insert x item y order (k.whole y (omega (arith, grown))))
      ]

  pub insert_keeps : Keeps labels' nexts' prevs' (put_after x (item ∷ []) order)
  insert_keeps = record {
    linked = linked_insert labels labels' nexts nexts' item x item label same at_x same_label at_item_label order 0 k.below k.rises k.linked x_there at_item;
    back = back_insert labels prevs prevs' item x item (next_of x order) same_prev at_next_prev at_item_prev order None 0 k.below k.rises x_there refl k.back;
    count = (let c = count_insert x item order x_there in omega (arith, grown, k.count));
    same_count = simp length-append (omega (arith, grown, k.same_count));
    prev_count = set_prev_count (next_of x order) (prevs ++ Some x ∷ []) ∙ (prev_grown ∙ sym grown);
    below = rw grown (below_insert item x item refl order k.below);
    rises = rises_insert labels labels' nexts nexts' item x item label same at_x same_label at_item_label order 0 k.below k.rises x_there lt up;
    whole = whole';
  }

-- after the writes the chain is the list with the item put in, and what is kept holds of it
pub linked_in : (labels : List ℕ) (nexts prevs : List (Option ℕ)) (n m x label item : ℕ) (next : Option ℕ) (labels' : List ℕ) (grown back : List (Option ℕ))
    → n ≡ length nexts → m ≡ n + 1 → item ≡ n → next ≡ get_or nexts x next → labels' ≡ labels ++ label ∷ [] → grown ≡ nexts ++ next ∷ []
    → back ≡ prevs ++ Some x ∷ [] → Keeps labels nexts prevs (walk nexts n (Some 0)) → x < length (walk nexts n (Some 0)) → slice_index labels x < label
    → label < high_by labels (next_of x (walk nexts n (Some 0)))
    → IsLinked labels' (slice_set grown x (Some item)) (with_prev back next item) m (put_after x (item ∷ []) (walk nexts n (Some 0)))
linked_in labels nexts prevs zero m x label item next labels' grown back n_is m_is item_is next_is' labels_is grown_is back_is k
    x_in lt up = absurd (omega arith)
linked_in labels nexts prevs (suc n) m x label item next labels' grown back n_is m_is item_is next_is' labels_is grown_is back_is k x_in lt up =
    let order = walk nexts (suc n) (Some 0) in
    let read : next ≡ next_of x order = kept_next labels nexts prevs order x next k x_in next_is' in
    let item_len : item ≡ length nexts = item_is ∙ n_is in
    let kept = insert_keeps labels nexts prevs x label order k x_in lt up in
    let len = count_insert x (length nexts) order (k.whole x (omega (arith, k.count))) in
    let chain = walk_is (set (nexts ++ next_of x order ∷ []) x (Some (length nexts))) m _ 0 kept.linked (omega (arith, len, k.count)) in
    let P : ℕ → Option ℕ → List ℕ → List (Option ℕ) → List (Option ℕ) → Type 0 = λ i o ls ns ps. IsLinked ls (slice_set ns x (Some i)) (with_prev ps o
    i) m (put_after x (i ∷ []) order) in
    let grown_to : grown ≡ nexts ++ next_of x order ∷ [] = grown_is ∙ ap (λ o. nexts ++ o ∷ []) read in
    let ns = nexts ++ next_of x order ∷ [] in
    let ps = prevs ++ Some x ∷ [] in
    let ls = labels ++ label ∷ [] in
    subst (λ i. P i next labels' grown back) (sym item_len) (subst (λ o. P (length nexts) o labels' grown back) (sym read)
    (subst (λ l. P (length nexts) (next_of x order) l grown back) (sym labels_is)
    (subst (λ l. P (length nexts) (next_of x order) ls l back) (sym grown_to) (subst (λ l. P (length nexts) (next_of x order) ls ns l) (sym back_is)
    (record {
      keeps = subst (λ o. Keeps ls (set ns x (Some (length nexts))) (with_prev ps (next_of x order) (length nexts)) o) (sym chain) kept;
      order_is = chain;
    })))))

-- the next item is one of the list, and its label is greater
pub record Next (labels : List ℕ) (n x : ℕ) (o : Option ℕ) : Type 0 where
  pub below : IfSome o (λ y. y < n)
  pub above : slice_index labels x < high_by labels o
  pub most : high_by labels o ≤ 2 ^ 62

next_at : (labels : List ℕ) (n x low : ℕ) (zs : List ℕ) → AllBelow n zs → Rises labels low (2 ^ 62) zs → is_in x zs ≡ true → Next labels n x (next_of x zs)
next_at labels n x low [] b r h = cc
next_at labels n x low (z ∷ []) b r h =
    elim (tested (z == x)) [
      | inl e ↦ (let s = ap (slice_index labels) (eq_of z x e) in rw e (record { below = tt; above = omega (arith, r.1, s); most = omega arith }))
      | inr e ↦ (let no = rw e at h in cc)
    ]
next_at labels n x low (z ∷ y ∷ ys) b r h =
    elim (tested (z == x)) [
      | inl e ↦ (let s = ap (slice_index labels) (eq_of z x e) in rw e (record { below = b.1.0; above = omega (arith, r.2.0, s); most = omega (arith, r.2.1) }))
      | inr e ↦ rw e (next_at labels n x (slice_index labels z + 1) (y ∷ ys) b.1 r.2 (rw e at h))
    ]

-- the same of the next item that was read
pub next_read : (labels : List ℕ) (nexts prevs : List (Option ℕ)) (order : List ℕ) (x : ℕ) (o : Option ℕ) → Keeps labels nexts prevs order → x < length order
    → o ≡ get_or nexts x o → Next labels (length nexts) x o
next_read labels nexts prevs order x o k x_in is =
    let c = k.count in
    subst (λ p. Next labels (length nexts) x p) (sym (kept_next labels nexts prevs order x o k x_in is))
    (next_at labels (length nexts) x 0 order k.below k.rises (k.whole x (omega arith)))
