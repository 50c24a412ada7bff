-- Lists whose labels rise, and chains.
use Rattle.std.proofs.Common.{◌≡◌, ℕ, ◌+◌, ◌^◌, ◌<◌, ◌≤◌, Bool, true, false, List, [], ◌∷◌, ◌⊎◌, inl, inr, length, get_or, sym, ◌∙◌, subst, refl, ap, arith}
use Rattle.std.specs.Prelude.{Option, None, ◌==◌, nat_lt, slice_index}
use Rattle.std.proofs.lemmas.Bool.Decides.{nat_tests}
use Rattle.std.proofs.lemmas.List.{get_or_read}
use Rattle.order_list.specs.Ordered.{Rises, is_in, stands_before, next_of}
use Rattle.order_list.specs.Chain.{Linked, Keeps}

pub tested : (b : Bool) → (b ≡ true) ⊎ (b ≡ false)
tested true = inl refl
tested false = inr refl

pub eq_of : (x y : ℕ) → (x == y) ≡ true → x ≡ y
eq_of x y e = grind (arith, nat_tests)

-- an item of a list whose labels rise has a label of their range
pub later_above : (labels : List ℕ) (xs : List ℕ) (low high y : ℕ) → Rises labels low high xs → is_in y xs ≡ true → low ≤ slice_index labels y
later_above labels [] low high y r h = cc
later_above labels (x ∷ xs) low high y r h =
    elim (tested (x == y)) [
      | inl e ↦ (let same = eq_of x y e in subst (λ z. low ≤ slice_index labels z) same r.0)
      | inr e ↦ (let above = later_above labels xs (slice_index labels x + 1) high y r.2 (rw e at h) in omega (arith, r.0, above))
    ]

pub later_below : (labels : List ℕ) (xs : List ℕ) (low high y : ℕ) → Rises labels low high xs → is_in y xs ≡ true → slice_index labels y < high
later_below labels [] low high y r h = cc
later_below labels (x ∷ xs) low high y r h =
    elim (tested (x == y)) [
      | inl e ↦ (let same = eq_of x y e in subst (λ z. slice_index labels z < high) same r.1)
      | inr e ↦ later_below labels xs (slice_index labels x + 1) high y r.2 (rw e at h)
    ]

before_lt : (labels xs : List ℕ) (low high x y : ℕ) → Rises labels low high xs → stands_before x y xs ≡ true → slice_index labels x < slice_index labels y
before_lt labels [] low high x y r h = cc
before_lt labels (z ∷ zs) low high x y r h =
    elim (tested (z == x)) [
      | inl e ↦ (let same = eq_of z x e in let above = later_above labels zs (slice_index labels z + 1) high y r.2 (rw e at h) in
          subst (λ v. slice_index labels v < slice_index labels y) same (omega (arith, above)))
      | inr e ↦ (
          let h' = rw e at h in
          elim (tested (z == y)) [
            | inl f ↦ (let no = rw f at h' in cc)
            | inr f ↦ before_lt labels zs (slice_index labels z + 1) high x y r.2 (rw f at h')
          ])
    ]

not_before : (labels xs : List ℕ) (low high x y : ℕ) → Rises labels low high xs → is_in x xs ≡ true → is_in y xs ≡ true → stands_before x y xs ≡ false
    → slice_index labels y ≤ slice_index labels x
not_before labels [] low high x y r hx hy h = cc
not_before labels (z ∷ zs) low high x y r hx hy h =
    elim (tested (z == x)) [
      | inl e ↦ elim (tested (z == y)) [
        | inl f ↦ (let s = ap (slice_index labels) (sym (eq_of z x e) ∙ eq_of z y f) in omega (arith, s))
        | inr f ↦ (let out = rw e at h in let in_ = rw f at hy in cc)
      ]
      | inr e ↦ elim (tested (z == y)) [
        | inl f ↦ (let s = ap (slice_index labels) (eq_of z y f) in omega (arith, s, later_above labels zs (slice_index labels z + 1) high x r.2 (rw e at hx)))
        | inr f ↦ not_before labels zs (slice_index labels z + 1) high x y r.2 (rw e at hx) (rw f at hy) (rw (e, f) at h)
      ]
    ]

lt_is : (t : Bool) (a b : ℕ) → (t ≡ true → a < b) → (t ≡ false → b ≤ a) → nat_lt a b ≡ t
lt_is true a b h k = let lt = h refl in grind (arith, nat_tests)
lt_is false a b h k = let le = k refl in grind (arith, nat_tests)

-- labels tell the order
pub before_is : (labels xs : List ℕ) (low high x y : ℕ) → Rises labels low high xs → is_in x xs ≡ true → is_in y xs ≡ true
    → nat_lt (slice_index labels x) (slice_index labels y) ≡ stands_before x y xs
before_is labels xs low high x y r hx hy = lt_is _ _ _ (before_lt labels xs low high x y r) (not_before labels xs low high x y r hx hy)

-- an item's next one is kept
pub next_is : (nexts : List (Option ℕ)) (xs : List ℕ) (x : ℕ) → Linked nexts xs → is_in x xs ≡ true → get_or nexts x None ≡ next_of x xs
next_is nexts [] x l h = cc
next_is nexts (z ∷ []) x l h =
    elim (tested (z == x)) [
      | inl e ↦ (let s = eq_of z x e in rw e (rw s at l))
      | inr e ↦ (let no = rw e at h in cc)
    ]
next_is nexts (z ∷ y ∷ ys) x l h =
    elim (tested (z == x)) [
      | inl e ↦ (let s = eq_of z x e in rw e (rw s at l.0))
      | inr e ↦ rw e (next_is nexts (y ∷ ys) x l.1 (rw e at h))
    ]

-- what labels that were read say of the order
pub kept_before : (labels : List ℕ) (nexts prevs : List (Option ℕ)) (order : List ℕ) (x y a b : ℕ) → Keeps labels nexts prevs order → x < length order
    → y < length order → a ≡ get_or labels x a → b ≡ get_or labels y b → nat_lt a b ≡ stands_before x y order
kept_before labels nexts prevs order x y a b k x_in y_in a_is b_is =
    let c = k.count in
    let s = k.same_count in
    let ra : a ≡ slice_index labels x = get_or_read labels x a (omega arith) a_is 0 in
    let rb : b ≡ slice_index labels y = get_or_read labels y b (omega arith) b_is 0 in
    rw (ra, rb) (before_is labels order 0 (2 ^ 62) x y k.rises (k.whole x (omega arith)) (k.whole y (omega arith)))

-- the next item that was read is the next one of the order
pub kept_next : (labels : List ℕ) (nexts prevs : List (Option ℕ)) (order : List ℕ) (x : ℕ) (o : Option ℕ) → Keeps labels nexts prevs order → x < length order
    → o ≡ get_or nexts x o → o ≡ next_of x order
kept_next labels nexts prevs order x o k x_in is =
    let c = k.count in
    get_or_read nexts x o (omega arith) is None ∙ next_is nexts order x k.linked (k.whole x (omega arith))
