-- Members of lists.
use Rattle.std.proofs.Common.{◌≡◌, ℕ, zero, suc, ◌+◌, ◌<◌, Bool, true, false, ◌&&◌, ◌==◌, ◌≢◌, true≢false, List, [], ◌∷◌}
use Rattle.std.proofs.Common.{length, get_or, take, drop, map, flat_map, ◌⊎◌, inl, inr, subst, ap, sym, refl, ◌∙◌, arith}
use Rattle.std.proofs.lemmas.List.{take-append-drop, take_more}
use Rattle.fut_base.specs.Dag.{Among}
use Rattle.strand_laws.proofs.Places.{by_eq, among_or, among_left, among_right}
use Rattle.strand_laws.proofs.Held.{is_eq}
use Rattle.strand_tree.specs.declared.strand.Strand.{Strand}
use Rattle.reach_table.specs.Telling.{number_of}

pub of_number : (x : ℕ) (ws : List Strand) → Among x (map number_of ws) → (w : Strand) × Among w ws × (w.number ≡ x)
of_number x [] h = absurd h
of_number x (w ∷ ws) (inl e) = (w, inl refl, e)
of_number x (w ∷ ws) (inr a) = let k = of_number x ws a in (k.0, inr k.1, k.2)

pub numbered : (w : Strand) (ws : List Strand) → Among w ws → Among w.number (map number_of ws)
numbered w [] h = absurd h
numbered w (x ∷ xs) (inl e) = inl (ap number_of e)
numbered w (x ∷ xs) (inr a) = inr (numbered w xs a)

pub at_place : {X : Type 0} → (xs : List X) (i : ℕ) (d : X) → i < length xs → Among (get_or xs i d) xs
at_place [] i d lt = absurd (omega arith)
at_place (x ∷ xs) zero d lt = inl refl
at_place (x ∷ xs) (suc i) d lt = inr (at_place xs i d (omega arith))

pub in_take_or_drop : {X : Type 0} → (i : ℕ) (xs : List X) (w : X) → Among w xs → Among w (take i xs) ⊎ Among w (drop i xs)
in_take_or_drop i xs w h = among_or w (take i xs) (drop i xs) (subst (λ l. Among w l) (sym (take-append-drop i xs)) h)

pub from_take : {X : Type 0} → (i : ℕ) (xs : List X) (w : X) → Among w (take i xs) → Among w xs
from_take i xs w h = subst (λ l. Among w l) (take-append-drop i xs) (among_left w (take i xs) (drop i xs) h)

pub from_drop : {X : Type 0} → (i : ℕ) (xs : List X) (w : X) → Among w (drop i xs) → Among w xs
from_drop i xs w h = subst (λ l. Among w l) (take-append-drop i xs) (among_right w (take i xs) (drop i xs) h)

-- one more item of a beginning
pub in_more : {X : Type 0} → (xs : List X) (i : ℕ) (d : X) → i < length xs → (w : X) → Among w (take (i + 1) xs) → Among w (take i xs) ⊎ (get_or xs i d ≡ w)
in_more xs i d lt w h =
    elim (among_or w (take i xs) _ (subst (λ l. Among w l) (take_more xs i d lt) h)) [ inl a ↦ inl a | inr (inl e) ↦ inr e | inr (inr b) ↦ absurd b ]

pub flat_in : (f : ℕ → List ℕ) (x l : ℕ) (xs : List ℕ) → Among l xs → Among x (f l) → Among x (flat_map f xs)
flat_in f x l [] h a = absurd h
flat_in f x l (y ∷ ys) (inl e) a = among_left x (f y) (flat_map f ys) (subst (λ z. Among x (f z)) (sym e) a)
flat_in f x l (y ∷ ys) (inr h) a = among_right x (f y) (flat_map f ys) (flat_in f x l ys h a)

pub flat_out : (f : ℕ → List ℕ) (x : ℕ) (xs : List ℕ) → Among x (flat_map f xs) → (l : ℕ) × Among l xs × Among x (f l)
flat_out f x [] h = absurd h
flat_out f x (y ∷ ys) h = elim (among_or x (f y) (flat_map f ys) h) [
  | inl a ↦ (y, inl refl, a)
  | inr a ↦ (let k = flat_out f x ys a in (k.0, inr k.1, k.2))
]

pub same_strand : (w x : Strand) → w.number ≡ x.number → w.future ≡ x.future → w ≡ x
same_strand w x n f =
    let by_number : ℕ → Strand = λ m. record { number = m; future = w.future } in
    let by_future : ℕ → Strand = λ m. record { number = x.number; future = m } in
    ap by_number n ∙ ap by_future f

pub and_left : (a b : Bool) → (a && b) ≡ true → a ≡ true
and_left true b h = refl
and_left false b h = absurd (true≢false (sym h))

pub and_right : (a b : Bool) → (a && b) ≡ true → b ≡ true
and_right true b h = h
and_right false b h = absurd (true≢false (sym h))

pub equal_strands : (x y : Strand) (b : Bool) → b ≡ ((x.number == y.number) && (x.future == y.future)) → b ≡ true → x ≡ y
equal_strands x y b is yes_b =
    let h : ((x.number == y.number) && (x.future == y.future)) ≡ true = sym is ∙ yes_b in
    same_strand x y (is_eq _ _ (and_left _ _ h)) (is_eq _ _ (and_right (x.number == y.number) _ h))

both_true : (a b : Bool) → a ≡ true → b ≡ true → (a && b) ≡ true
both_true true b h k = k
both_true false b h k = h

self : (n : ℕ) → (n == n) ≡ true
self n = by_eq (λ z. z ≡ true) n n (λ _. refl) (λ ne. absurd (ne refl))

pub unequal_strands : (x y : Strand) (b : Bool) → b ≡ ((x.number == y.number) && (x.future == y.future)) → b ≡ false → x ≢ y
unequal_strands x y b is no_b e =
    let P : Strand → Type 0 = λ z. ((x.number == z.number) && (x.future == z.future)) ≡ true in
    let h : P y = subst P e (both_true _ _ (self x.number) (self x.future)) in
    true≢false (sym h ∙ sym is ∙ no_b)

-- one more strand that is known
pub known_more : (known : ℕ) (ws : List Strand) (i : ℕ) (d : Strand) → i < length ws → ((w : Strand) → Among w (take i ws) → w.number < known)
    → (get_or ws i d).number < known → (w : Strand) → Among w (take (i + 1) ws) → w.number < known
known_more known ws i d lt all here w a =
    let P : Strand → Type 0 = λ z. z.number < known in
    elim (in_more ws i d lt w a) [ inl l ↦ all w l | inr e ↦ subst P e here ]
