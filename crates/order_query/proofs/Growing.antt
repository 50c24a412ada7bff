-- The lists that a log makes.
use Rattle.std.proofs.Common.{◌≡◌, ◌≢◌, ℕ, zero, suc, ◌+◌, ◌<◌, true, false, List, [], ◌∷◌, ◌++◌, ◌⊎◌, inl, inr, map, length, sym, ◌∙◌, subst, refl, ap, arith}
use Rattle.std.proofs.Common.{add-zero}
use Rattle.std.specs.Prelude.{◌==◌, nat_lt}
use Rattle.std.proofs.lemmas.Bool.Decides.{nat_tests}
use Rattle.std.proofs.lemmas.List.{map-append, length-map}
use Rattle.order_list.specs.Ordered.{put_after, stands_before, is_in}
use Rattle.order_list.proofs.Chains.{tested, eq_of}
use Rattle.order_list.proofs.Inserting.{head_in, count_insert}
use Rattle.order_query.specs.declared.view.Insert.{Insert}
use Rattle.order_query.specs.Logs.{grown, order_of, AreEarlier, StartsWith, OrdersStay, afters_english, english_of}

differs : (x y : ℕ) → x ≢ y → (x == y) ≡ false
differs x y ne = elim (tested (x == y)) [ inl e ↦ absurd (ne (eq_of x y e)) | inr e ↦ e ]

pub in_skip : (item y : ℕ) (zs : List ℕ) → item ≢ y → is_in y (item ∷ zs) ≡ is_in y zs
in_skip item y zs ne = rw (differs item y ne) refl

pub before_skip : (item x y : ℕ) (zs : List ℕ) → item ≢ x → item ≢ y → stands_before x y (item ∷ zs) ≡ stands_before x y zs
before_skip item x y zs nx ny = rw (differs item x nx, differs item y ny) refl

-- an item that is put somewhere is the one item more
pub in_put : (a item y : ℕ) (zs : List ℕ) → item ≢ y → is_in y (put_after a (item ∷ []) zs) ≡ is_in y zs
in_put a item y [] ne = refl
in_put a item y (z ∷ zs) ne =
    elim (tested (z == y)) [
      | inl f ↦ rw f refl
      | inr f ↦ elim (tested (z == a)) [ inl e ↦ rw (f, e) (in_skip item y zs ne) | inr e ↦ rw (f, e) (in_put a item y zs ne) ]
    ]

-- and the order of others stays
pub before_put : (a item x y : ℕ) (zs : List ℕ) → item ≢ x → item ≢ y → stands_before x y (put_after a (item ∷ []) zs) ≡ stands_before x y zs
before_put a item x y [] nx ny = refl
before_put a item x y (z ∷ zs) nx ny =
    elim (tested (z == x)) [
      | inl f ↦ elim (tested (z == a)) [ inl e ↦ rw (f, e) (in_skip item y zs ny) | inr e ↦ rw (f, e) (in_put a item y zs ny) ]
      | inr f ↦ elim (tested (z == y)) [
        | inl g ↦ rw (f, g) refl
        | inr g ↦ elim (tested (z == a)) [ inl e ↦ rw (f, g, e) (before_skip item x y zs nx ny) | inr e ↦ rw (f, g, e) (before_put a item x y zs nx ny) ]
      ]
    ]

item_in : (a item : ℕ) (zs : List ℕ) → is_in a zs ≡ true → is_in item (put_after a (item ∷ []) zs) ≡ true
item_in a item [] h = cc
item_in a item (z ∷ zs) h =
    elim (tested (z == item)) [
      | inl f ↦ rw f refl
      | inr f ↦ elim (tested (z == a)) [
        | inl e ↦ rw (f, e) (head_in item zs)
        | inr e ↦ rw (f, e) (item_in a item zs (rw e at h))
      ]
    ]

-- more inserts keep the items and their order
pub in_grown : (item : ℕ) (order afters : List ℕ) (y : ℕ) → y < item → is_in y (grown item order afters) ≡ is_in y order
in_grown item order [] y lt = refl
in_grown item order (a ∷ as') y lt = in_grown (item + 1) (put_after a (item ∷ []) order) as' y (omega (arith, lt))
    ∙ in_put a item y order (λ e. omega (arith, e, lt))

pub before_grown : (item : ℕ) (order afters : List ℕ) (x y : ℕ) → x < item → y < item → stands_before x y (grown item order afters) ≡ stands_before x y order
before_grown item order [] x y lx ly = refl
before_grown item order (a ∷ as') x y lx ly =
    before_grown (item + 1) (put_after a (item ∷ []) order) as' x y (omega (arith, lx)) (omega (arith, ly))
    ∙ before_put a item x y order (λ e. omega (arith, e, lx)) (λ e. omega (arith, e, ly))

pub grown_append : (item : ℕ) (order as' bs : List ℕ) → grown item order (as' ++ bs) ≡ grown (item + length as') (grown item order as') bs
grown_append item order [] bs = ap (λ n. grown n order bs) (sym (add-zero item))
grown_append item order (a ∷ as') bs =
    let next = put_after a (item ∷ []) order in
    let place : (item + 1) + length as' ≡ item + suc (length as') = omega arith in
    grown_append (item + 1) next as' bs ∙ ap (λ n. grown n (grown (item + 1) next as') bs) place

-- the items are those below the count
pub below_or : (y item : ℕ) → y < item + 1 → (y < item) ⊎ (item ≡ y)
below_or y item lt = elim (tested (item == y)) [ inl e ↦ inr (eq_of item y e) | inr e ↦ inl (grind (arith, nat_tests)) ]

pub all_in : (item : ℕ) (order afters : List ℕ) → AreEarlier item afters → ((z : ℕ) → z < item → is_in z order ≡ true) → (x : ℕ) → x < item + length afters
    → is_in x (grown item order afters) ≡ true
all_in item order [] e h x lt = h x (omega (arith, lt))
all_in item order (a ∷ as') e h x lt =
    all_in (item + 1) (put_after a (item ∷ []) order) as' e.1 (λ z zl. elim (below_or z item zl) [
      | inl old ↦ in_put a item z order (λ same. omega (arith, same, old)) ∙ h z old
      | inr new ↦ subst (λ i. is_in i (put_after a (item ∷ []) order) ≡ true) new (item_in a item order (h a e.0))
    ]) x (omega (arith, lt))

pub only_below : (item : ℕ) (order afters : List ℕ) → ((z : ℕ) → is_in z order ≡ true → z < item) → (x : ℕ) → is_in x (grown item order afters) ≡ true
    → x < item + length afters
only_below item order [] h x in_ = omega (arith, h x in_)
only_below item order (a ∷ as') h x in_ =
    let r = only_below (item + 1) (put_after a (item ∷ []) order) as' (λ z iz. elim (tested (item == z)) [
      | inl e ↦ (let same = eq_of item z e in omega (arith, same))
      | inr e ↦ (let old = h z (sym (in_put a item z order (λ same. grind (arith, nat_tests))) ∙ iz) in omega (arith, old))
    ]) x in_ in
    omega (arith, r)

zero_in : (z : ℕ) → z < 1 → is_in z (0 ∷ []) ≡ true
zero_in zero lt = refl
zero_in (suc z) lt = absurd (omega (arith, lt))

pub zero_below : (z : ℕ) → is_in z (0 ∷ []) ≡ true → z < 1
zero_below z h = elim (tested (0 == z)) [ inl e ↦ (let same = eq_of 0 z e in omega (arith, same)) | inr e ↦ (let no = rw e at h in cc) ]

pub order_in : (afters : List ℕ) → AreEarlier 1 afters → (x : ℕ) → x < length afters + 1 → is_in x (order_of afters) ≡ true
order_in afters e x lt = all_in 1 (0 ∷ []) afters e zero_in x (omega (arith, lt))

pub order_below : (afters : List ℕ) (x : ℕ) → is_in x (order_of afters) ≡ true → x < length afters + 1
order_below afters x h = let r = only_below 1 (0 ∷ []) afters zero_below x h in omega (arith, r)

-- labels tell the order: one is less than another exactly where its item stands before
abbrev pub TellOrder : (ℕ → ℕ) → List ℕ → Type 0
TellOrder label order = (x y : ℕ) → is_in x order ≡ true → is_in y order ≡ true → nat_lt (label x) (label y) ≡ stands_before x y order

-- what is told of a longer log holds of the items of a shorter one
pub told : (label : ℕ → ℕ) (as' bs : List ℕ) (x y : ℕ) → AreEarlier 1 as' → x < length as' + 1 → y < length as' + 1 → TellOrder label (order_of (as' ++ bs))
    → nat_lt (label x) (label y) ≡ stands_before x y (order_of as')
told label as' bs x y e lx ly t =
    let n = 1 + length as' in
    let old = order_of as' in
    let same : order_of (as' ++ bs) ≡ grown n old bs = grown_append 1 (0 ∷ []) as' bs in
    let xn : x < n = omega (arith, lx) in
    let yn : y < n = omega (arith, ly) in
    let t' : TellOrder label (grown n old bs) = subst (TellOrder label) same t in
    t' x y (in_grown n old bs x xn ∙ order_in as' e x lx) (in_grown n old bs y yn ∙ order_in as' e y ly) ∙ before_grown n old bs x y xn yn

-- how many items there are
grown_length : (item : ℕ) (order afters : List ℕ) → AreEarlier item afters → ((z : ℕ) → z < item → is_in z order ≡ true)
    → length (grown item order afters) ≡ length order + length afters
grown_length item order [] e h = sym (add-zero (length order))
grown_length item order (a ∷ as') e h =
    let r = grown_length (item + 1) (put_after a (item ∷ []) order) as' e.1 (λ z zl. elim (below_or z item zl) [
      | inl old ↦ in_put a item z order (λ same. omega (arith, same, old)) ∙ h z old
      | inr new ↦ subst (λ i. is_in i (put_after a (item ∷ []) order) ≡ true) new (item_in a item order (h a e.0))
    ]) in
    omega (arith, r, count_insert a item order (h a e.0))

pub order_count : (afters : List ℕ) → AreEarlier 1 afters → length (order_of afters) ≡ length afters + 1
order_count afters e = let r = grown_length 1 (0 ∷ []) afters e zero_in in omega (arith, r)

pub earlier_snoc : (item : ℕ) (afters : List ℕ) (x : ℕ) → AreEarlier item afters → x < item + length afters → AreEarlier item (afters ++ x ∷ [])
earlier_snoc item [] x e lt = (omega (arith, lt), tt)
earlier_snoc item (a ∷ as') x e lt = (e.0, earlier_snoc (item + 1) as' x e.1 (omega (arith, lt)))

stays : (f : Insert → ℕ) (log start : List Insert) → StartsWith log start → (x y : ℕ) → x < length start + 1 → y < length start + 1
    → stands_before x y (order_of (map f log)) ≡ stands_before x y (order_of (map f start))
stays f log start s x y lx ly =
    let as' = map f start in
    let parts : map f log ≡ as' ++ map f s.0 = ap (map f) s.1 ∙ map-append f start s.0 in
    let n : length as' ≡ length start = length-map start f in
    ap (λ (l : List ℕ). stands_before x y (order_of l)) parts
    ∙ ap (stands_before x y) (grown_append 1 (0 ∷ []) as' (map f s.0))
    ∙ before_grown (1 + length as') (order_of as') (map f s.0) x y (omega (arith, lx, n)) (omega (arith, ly, n))

pub orders_stay : OrdersStay
orders_stay log start s x y lx ly = (stays (λ p. p.english) log start s x y lx ly, stays (λ p. p.hebrew) log start s x y lx ly)

-- the list of a log has as many items as the log says
pub english_count : (log : List Insert) → AreEarlier 1 (afters_english log) → length (english_of log) ≡ length log + 1
english_count log e = order_count (afters_english log) e ∙ ap (λ (n : ℕ). n + 1) (length-map log (λ (p : Insert). p.english))
