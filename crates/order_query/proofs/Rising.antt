-- Labels that strictly rise along a list tell its order.
use Rattle.std.proofs.Common.{◌≡◌, ◌≢◌, ℕ, ◌+◌, ◌<◌, ◌≤◌, true, false, List, [], ◌∷◌, inl, inr, sym, ◌∙◌, subst, refl, ap, arith}
use Rattle.std.specs.Prelude.{◌==◌, nat_lt}
use Rattle.std.proofs.lemmas.Bool.Decides.{nat_tests}
use Rattle.order_list.specs.Ordered.{is_in, put_after}
use Rattle.order_list.proofs.Chains.{tested, eq_of}
use Rattle.order_list.proofs.Inserting.{apart}
use Rattle.order_query.specs.Logs.{grown, order_of, StrictlyRise}
use Rattle.order_query.proofs.Growing.{TellOrder, before_skip, in_skip, in_put, zero_below}

itself : (x : ℕ) → (x == x) ≡ true
itself x = grind (arith, nat_tests)

is_lt : (a b : ℕ) → a < b → nat_lt a b ≡ true
is_lt a b e = grind (arith, nat_tests)

is_not_lt : (a b : ℕ) → b ≤ a → nat_lt a b ≡ false
is_not_lt a b e = grind (arith, nat_tests)

-- no item comes again
abbrev AreDistinct : List ℕ → Type 0
AreDistinct [] = Unit {0}
AreDistinct (x ∷ xs) = (is_in x xs ≡ false) × AreDistinct xs

below_later : (label : ℕ → ℕ) (x : ℕ) (xs : List ℕ) (b : ℕ) → StrictlyRise label (x ∷ xs) → is_in b xs ≡ true → label x < label b
below_later label x [] b r h = cc
below_later label x (y ∷ ys) b r h =
    elim (tested (y == b)) [
      | inl e ↦ subst (λ (k : ℕ). label x < label k) (eq_of y b e) r.0
      | inr e ↦ (let more = below_later label y ys b r.1 (rw e at h) in omega (arith, r.0, more))
    ]

tail_rises : (label : ℕ → ℕ) (x : ℕ) (xs : List ℕ) → StrictlyRise label (x ∷ xs) → StrictlyRise label xs
tail_rises label x [] r = tt
tail_rises label x (y ∷ ys) r = r.1

rise_tells : (label : ℕ → ℕ) (order : List ℕ) → AreDistinct order → StrictlyRise label order → TellOrder label order
rise_tells label [] d r = λ a b ia ib. cc
rise_tells label (x ∷ xs) d r = λ a b ia ib.
    elim (tested (x == a)) [
      | inl e ↦ elim (tested (x == b)) [
        | inl f ↦ (
            let same : label a ≡ label b = ap label (sym (eq_of x a e) ∙ eq_of x b f) in
            let out : is_in b xs ≡ false = subst (λ (k : ℕ). is_in k xs ≡ false) (eq_of x b f) d.0 in
            is_not_lt (label a) (label b) (omega (arith, same)) ∙ sym (rw e out))
        | inr f ↦ (
            let later : is_in b xs ≡ true = rw f at ib in
            let lt = below_later label x xs b r later in
            is_lt (label a) (label b) (subst (λ (k : ℕ). label k < label b) (eq_of x a e) lt) ∙ sym (rw e later))
      ]
      | inr e ↦ elim (tested (x == b)) [
        | inl f ↦ (
            let later : is_in a xs ≡ true = rw e at ia in
            let lt = below_later label x xs a r later in
            is_not_lt (label a) (label b) (let same = ap label (eq_of x b f) in omega (arith, lt, same)) ∙ sym (rw (e, f) refl))
        | inr f ↦ rise_tells label xs d.1 (tail_rises label x xs r) a b (rw e at ia) (rw f at ib) ∙ sym (before_skip x a b xs (apart x a e) (apart x b f))
      ]
    ]

distinct_put : (a item : ℕ) (zs : List ℕ) → AreDistinct zs → is_in item zs ≡ false → AreDistinct (put_after a (item ∷ []) zs)
distinct_put a item [] d out = tt
distinct_put a item (z ∷ zs) d out =
    elim (tested (z == item)) [
      | inl f ↦ (let off = rw f at out in cc)
      | inr f ↦ (
          let out' : is_in item zs ≡ false = rw f at out in
          let ne : item ≢ z = λ e. apart z item f (sym e) in
          elim (tested (z == a)) [
            | inl e ↦ rw e (in_skip item z zs ne ∙ d.0, (out', d.1))
            | inr e ↦ rw e (in_put a item z zs ne ∙ d.0, distinct_put a item zs d.1 out')
          ])
    ]

distinct_grown : (item : ℕ) (order afters : List ℕ) → AreDistinct order → ((z : ℕ) → is_in z order ≡ true → z < item) → AreDistinct (grown item order afters)
distinct_grown item order [] d below = d
distinct_grown item order (a ∷ as') d below =
    let out : is_in item order ≡ false = elim (tested (is_in item order)) [ inl e ↦ absurd (let lt = below item e in omega (arith, lt)) | inr e ↦ e ] in
    distinct_grown (item + 1) (put_after a (item ∷ []) order) as' (distinct_put a item order d out) (λ z iz. elim (tested (item == z)) [
      | inl e ↦ (let same = eq_of item z e in omega (arith, same))
      | inr e ↦ (let old = below z (sym (in_put a item z order (apart item z e)) ∙ iz) in omega (arith, old))
    ])

-- labels that strictly rise along the list of a log tell its order
pub rising_tell : (label : ℕ → ℕ) (afters : List ℕ) → StrictlyRise label (order_of afters) → TellOrder label (order_of afters)
rising_tell label afters r = rise_tells label (order_of afters) (distinct_grown 1 (0 ∷ []) afters (refl, tt) zero_below) r
