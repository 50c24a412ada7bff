-- Members of lists, and lists with falling tickets.
use Rattle.std.proofs.Common.{◌≡◌, ℕ, zero, suc, ◌+◌, ◌<◌, Bool, true, false, cond, List, [], ◌∷◌}
use Rattle.std.proofs.Common.{◌++◌, ◌⊎◌, inl, inr, refl, sym, ap, ◌∙◌, subst, arith, true≢false, map}
use Rattle.std.proofs.lemmas.Option.{same_Some}
use Rattle.fut_base.proofs.Members.{among_left, among_right, among_split}
use Rattle.std.proofs.lemmas.List.{reverse-append, map-append, append-nil}
use Rattle.std.proofs.lemmas.List.Elements.{filter-append}
use Rattle.std.proofs.lemmas.List.Sums.{sum_by-cons}
use Rattle.std.proofs.lemmas.Bool.{cases_Bool}
use Rattle.std.specs.Prelude.{Some, reverse, filter, count_by, slice_get}
use Rattle.fut_base.specs.Dag.{Among}
use Rattle.event_clock.specs.Rule.{Rises}
use Rattle.merge_laws.specs.Parts.{Drawn, all_of}

-- ---- members

pub among_reverse : {X : Type 0} (x : X) (xs : List X) → Among x xs → Among x (reverse xs)
among_reverse x [] h = absurd h
among_reverse x (y ∷ xs) (inl same) = subst (Among x) (sym (reverse-append (y ∷ []) xs)) (among_right x (reverse xs) (y ∷ []) (inl same))
among_reverse x (y ∷ xs) (inr h) = subst (Among x) (sym (reverse-append (y ∷ []) xs)) (among_left x (reverse xs) (y ∷ []) (among_reverse x xs h))

pub reverse_among : {X : Type 0} (x : X) (xs : List X) → Among x (reverse xs) → Among x xs
reverse_among x [] h = absurd h
reverse_among x (y ∷ xs) h = elim (among_split x (reverse xs) (y ∷ []) (subst (Among x) (reverse-append (y ∷ []) xs) h)) [
  | inl l ↦ inr (reverse_among x xs l)
  | inr r ↦ elim r [ inl same ↦ inl same | inr none ↦ absurd none ]
]

pub among_map : {X Y : Type 0} (f : X → Y) (x : X) (xs : List X) → Among x xs → Among (f x) (map f xs)
among_map f x [] h = absurd h
among_map f x (y ∷ xs) (inl same) = inl (ap f same)
among_map f x (y ∷ xs) (inr h) = inr (among_map f x xs h)

pub map_among : {X Y : Type 0} (f : X → Y) (y : Y) (xs : List X) → Among y (map f xs) → (x : X) × Among x xs × (f x ≡ y)
map_among f y [] h = absurd h
map_among f y (x ∷ xs) (inl same) = (x, inl refl, same)
map_among f y (x ∷ xs) (inr h) = let k = map_among f y xs h in (k.0, inr k.1, k.2)

among_if : {X : Type 0} (x y : X) (xs ys : List X) (b : Bool) → (y ≡ x → b ≡ true) → (Among x xs → Among x ys) → Among x (y ∷ xs) → Among x (cond b (y ∷ ys) ys)
among_if x y xs ys true f ih (inl same) = inl same
among_if x y xs ys true f ih (inr h) = inr (ih h)
among_if x y xs ys false f ih (inl same) = absurd (true≢false (sym (f same)))
among_if x y xs ys false f ih (inr h) = ih h

if_among : {X : Type 0} (x y : X) (ys : List X) (b : Bool) → Among x (cond b (y ∷ ys) ys) → ((y ≡ x) × (b ≡ true)) ⊎ Among x ys
if_among x y ys true (inl same) = inl (same, refl)
if_among x y ys true (inr h) = inr h
if_among x y ys false h = inr h

pub among_filter : {X : Type 0} (p : X → Bool) (x : X) (xs : List X) → Among x xs → p x ≡ true → Among x (filter p xs)
among_filter p x [] h is = absurd h
among_filter p x (y ∷ xs) h is = among_if x y xs (filter p xs) (p y) (λ same. ap p same ∙ is) (λ a. among_filter p x xs a is) h

pub filter_among : {X : Type 0} (p : X → Bool) (x : X) (xs : List X) → Among x (filter p xs) → Among x xs × (p x ≡ true)
filter_among p x [] h = absurd h
filter_among p x (y ∷ xs) h = elim (if_among x y (filter p xs) (p y) h) [
  | inl own ↦ (inl own.0, ap p (sym own.0) ∙ own.1)
  | inr rest ↦ (let k = filter_among p x xs rest in (inr k.0, k.1))
]

pub among_all : (x : Drawn) (own : List Drawn) (owns : List (List Drawn)) → Among own owns → Among x own → Among x (all_of owns)
among_all x own [] o h = absurd o
among_all x own (other ∷ owns) (inl same) h = among_left x other (all_of owns) (subst (Among x) (sym same) h)
among_all x own (other ∷ owns) (inr o) h = among_right x other (all_of owns) (among_all x own owns o h)

pub all_among : (x : Drawn) (owns : List (List Drawn)) → Among x (all_of owns) → (own : List Drawn) × Among own owns × Among x own
all_among x [] h = absurd h
all_among x (own ∷ owns) h = elim (among_split x own (all_of owns) h) [
  | inl l ↦ (own, inl refl, l)
  | inr r ↦ (let k = all_among x owns r in (k.0, inr k.1, k.2))
]

pub among_get : {X : Type 0} (x : X) (xs : List X) → Among x xs → (i : ℕ) × (slice_get xs i ≡ Some x)
among_get x [] h = absurd h
among_get x (y ∷ xs) (inl same) = (0, ap Some same)
among_get x (y ∷ xs) (inr h) = let k = among_get x xs h in (suc k.0, k.1)

pub get_among : {X : Type 0} (x : X) (xs : List X) (i : ℕ) → slice_get xs i ≡ Some x → Among x xs
get_among x [] i h = cc
get_among x (y ∷ xs) zero h = inl (same_Some y x h)
get_among x (y ∷ xs) (suc i) h = inr (get_among x xs i h)

-- ---- turned lists

pub reverse_map : {X Y : Type 0} (f : X → Y) (xs : List X) → reverse (map f xs) ≡ map f (reverse xs)
reverse_map f [] = refl
reverse_map f (x ∷ xs) =
    reverse-append (f x ∷ []) (map f xs) ∙ ap (λ l. l ++ f x ∷ []) (reverse_map f xs)
    ∙ sym (map-append f (reverse xs) (x ∷ [])) ∙ ap (map f) (sym (reverse-append (x ∷ []) xs))

reverse_if : {X : Type 0} (x : X) (ys zs : List X) (b : Bool) → reverse ys ≡ zs → reverse (cond b (x ∷ ys) ys) ≡ zs ++ cond b (x ∷ []) []
reverse_if x ys zs true h = reverse-append (x ∷ []) ys ∙ ap (λ l. l ++ x ∷ []) h
reverse_if x ys zs false h = h ∙ sym (append-nil zs)

pub reverse_kept : {X : Type 0} (p : X → Bool) (xs : List X) → reverse (filter p xs) ≡ filter p (reverse xs)
reverse_kept p [] = refl
reverse_kept p (x ∷ xs) =
    reverse_if x (filter p xs) (filter p (reverse xs)) (p x) (reverse_kept p xs)
    ∙ sym (filter-append p (reverse xs) (x ∷ [])) ∙ ap (filter p) (sym (reverse-append (x ∷ []) xs))

-- ---- falling tickets

abbrev pub IsFalling : List Drawn → Type 0
IsFalling [] = Unit {0}
IsFalling (x ∷ rest) = ((y : Drawn) → Among y rest → y.0 < x.0) × IsFalling rest

falling_end : (xs : List Drawn) (y : Drawn) → IsFalling xs → ((x : Drawn) → Among x xs → y.0 < x.0) → IsFalling (xs ++ y ∷ [])
falling_end [] y f h = ((λ z a. absurd a), tt)
falling_end (x ∷ xs) y f h = (
  λ z a. elim (among_split z xs (y ∷ []) a) [
    | inl l ↦ f.0 z l
    | inr r ↦ elim r [ inl same ↦ subst (λ (w : Drawn). w.0 < x.0) same (h x (inl refl)) | inr none ↦ absurd none ]
  ],
  falling_end xs y f.1 (λ z a. h z (inr a)),
)

pub rising_falls : (xs : List Drawn) → Rises xs → IsFalling (reverse xs)
rising_falls [] r = tt
rising_falls (x ∷ xs) r =
    subst IsFalling (sym (reverse-append (x ∷ []) xs)) (falling_end (reverse xs) x (rising_falls xs r.1) (λ y a. r.0 y (reverse_among y xs a)))

falls_if : (x : Drawn) (ys : List Drawn) (b : Bool) → ((y : Drawn) → Among y ys → y.0 < x.0) → IsFalling ys → IsFalling (cond b (x ∷ ys) ys)
falls_if x ys true h f = (h, f)
falls_if x ys false h f = f

pub filter_falls : (p : Drawn → Bool) (xs : List Drawn) → IsFalling xs → IsFalling (filter p xs)
filter_falls p [] f = tt
filter_falls p (x ∷ xs) f = falls_if x (filter p xs) (p x) (λ y a. f.0 y (filter_among p y xs a).0) (filter_falls p xs f.1)

-- two lists with falling tickets and the same members are one
pub same_list : (xs ys : List Drawn) → IsFalling xs → IsFalling ys → ((x : Drawn) → Among x xs → Among x ys) → ((x : Drawn) → Among x ys → Among x xs) → xs ≡ ys
same_list [] [] f g to back = refl
same_list [] (y ∷ ys) f g to back = absurd (back y (inl refl))
same_list (x ∷ xs) [] f g to back = absurd (to x (inl refl))
same_list (x ∷ xs) (y ∷ ys) f g to back =
    let same : x ≡ y = elim (to x (inl refl)) [
      | inl e ↦ sym e
      | inr a ↦ elim (back y (inl refl)) [
        | inl e ↦ e
        | inr b ↦ absurd (let k : x.0 < y.0 = g.0 x a in let l : y.0 < x.0 = f.0 y b in omega (arith, k, l))
      ]
    ] in
    let rest : xs ≡ ys = same_list xs ys f.1 g.1
    (λ z a. elim (to z (inr a)) [
      | inl e ↦ absurd (let k : z.0 < x.0 = f.0 z a in let l : x.0 ≡ z.0 = ap (λ (w : Drawn). w.0) (same ∙ e) in omega (arith, k, l))
      | inr b ↦ b
    ])
    (λ z a. elim (back z (inr a)) [
      | inl e ↦ absurd (let k : z.0 < y.0 = g.0 z a in let l : y.0 ≡ z.0 = ap (λ (w : Drawn). w.0) (sym same ∙ e) in omega (arith, k, l))
      | inr b ↦ b
    ]) in
    ap (λ z. z ∷ xs) same ∙ ap (λ l. y ∷ l) rest

-- ---- counts

abbrev pub weight : Bool → ℕ
weight b = cond b 1 0

pub count_next : {X : Type 0} (p : X → Bool) (x : X) (xs : List X) → count_by p (x ∷ xs) ≡ weight (p x) + count_by p xs
count_next p x xs = sum_by-cons (λ y. cond (p y) 1 0) x xs

-- a member is counted
pub counted : {X : Type 0} (p : X → Bool) (x : X) (xs : List X) → Among x xs → p x ≡ true → 0 < count_by p xs
counted p x [] h is = absurd h
counted p x (y ∷ xs) (inl same) is = let k = count_next p y xs in let one : weight (p y) ≡ 1 = ap weight (ap p same ∙ is) in omega (arith, k, one)
counted p x (y ∷ xs) (inr h) is = let k = count_next p y xs in let l : 0 < count_by p xs = counted p x xs h is in omega (arith, k, l)

pub has_counted : {X : Type 0} (p : X → Bool) (xs : List X) → 0 < count_by p xs → (x : X) × Among x xs × (p x ≡ true)
has_counted p [] lt = absurd (omega (arith, lt))
has_counted p (y ∷ xs) lt = elim (cases_Bool (p y)) [
  | inl e ↦ (y, inl refl, e)
  | inr e ↦ (
      let k = count_next p y xs in
      let none : weight (p y) ≡ 0 = ap weight e in
      let r = has_counted p xs (omega (arith, k, none, lt)) in
      (r.0, inr r.1, r.2))
]

-- where one is counted there is one such member
pub one_counted : {X : Type 0} (p : X → Bool) (x y : X) (xs : List X) → count_by p xs ≡ 1 → Among x xs → p x ≡ true → Among y xs → p y ≡ true → x ≡ y
one_counted p x y [] one a px b py = absurd a
one_counted p x y (z ∷ xs) one (inl e) px (inl f) py = sym e ∙ f
one_counted p x y (z ∷ xs) one (inl e) px (inr b) py =
    absurd (let k = count_next p z xs in let n : weight (p z) ≡ 1 = ap weight (ap p e ∙ px) in let l = counted p y xs b py in omega (arith, k, n, l, one))
one_counted p x y (z ∷ xs) one (inr a) px (inl f) py =
    absurd (let k = count_next p z xs in let n : weight (p z) ≡ 1 = ap weight (ap p f ∙ py) in let l = counted p x xs a px in omega (arith, k, n, l, one))
one_counted p x y (z ∷ xs) one (inr a) px (inr b) py =
    let k = count_next p z xs in
    let l : 0 < count_by p xs = counted p x xs a px in
    let rest : count_by p xs ≡ 1 = omega (arith, k, l, one) in
    one_counted p x y xs rest a px b py
