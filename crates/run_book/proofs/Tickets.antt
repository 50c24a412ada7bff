-- Entries with tickets: lists one behind the other, and what stands below a ticket.
use Rattle.std.proofs.Common.{◌≡◌, ℕ, ◌<◌, ◌≤◌, Bool, true, false, cond, List, [], ◌∷◌, ◌++◌, inl, inr, refl, sym, ap, ◌∙◌, subst, arith}
use Rattle.std.specs.Prelude.{◌==◌, nat_lt, map, reverse, filter}
use Rattle.std.proofs.lemmas.Bool.{cases_Bool, cases_lt, lt-ltb, ltb-true, false_from_ne_true, both_ways}
use Rattle.std.proofs.lemmas.List.{reverse-append, map-append}
use Rattle.std.proofs.lemmas.List.Elements.{filter-append}
use Rattle.fut_base.proofs.Members.{among_left, among_right, among_split}
use Rattle.fut_base.specs.declared.event.Event.{Event}
use Rattle.fut_base.specs.Dag.{Among}
use Rattle.fut_base.specs.Sound.{IsSoundPast}
use Rattle.event_clock.specs.Rule.{Rises}
use Rattle.run_place.specs.Placed.{events_in}
use Rattle.run_book.specs.Drawn.{past_in, past_below}

-- the events of two lists, one behind the other
pub past_append : (book more : List (ℕ × Event)) → past_in (book ++ more) ≡ past_in more ++ past_in book
past_append book more = ap reverse (map-append (λ (x : ℕ × Event). x.1) book more) ∙ reverse-append (events_in book) (events_in more)

pub below_append : (k : ℕ) (book more : List (ℕ × Event)) → past_below k (book ++ more) ≡ past_below k more ++ past_below k book
below_append k book more =
    ap (λ l. past_in l) (filter-append (λ (x : ℕ × Event). nat_lt x.0 k) book more)
    ∙ past_append (filter (λ (x : ℕ × Event). nat_lt x.0 k) book) (filter (λ (x : ℕ × Event). nat_lt x.0 k) more)

-- ---- what passes a test

pub in_filter : (test : ℕ × Event → Bool) (x : ℕ × Event) (xs : List (ℕ × Event)) → Among x xs → test x ≡ true → Among x (filter test xs)
in_filter test x [] a t = absurd a
in_filter test x (y ∷ ys) (inl e) t =
    let hit : test y ≡ true = ap test e ∙ t in
    subst (λ b. Among x (cond b (y ∷ filter test ys) (filter test ys))) (sym hit) (inl e)
in_filter test x (y ∷ ys) (inr a) t =
    let more = in_filter test x ys a t in
    elim (cases_Bool (test y)) [
      | inl h ↦ subst (λ b. Among x (cond b (y ∷ filter test ys) (filter test ys))) (sym h) (inr more)
      | inr h ↦ subst (λ b. Among x (cond b (y ∷ filter test ys) (filter test ys))) (sym h) more
    ]

pub of_filter : (test : ℕ × Event → Bool) (x : ℕ × Event) (xs : List (ℕ × Event)) → Among x (filter test xs) → Among x xs × (test x ≡ true)
of_filter test x [] a = absurd a
of_filter test x (y ∷ ys) a =
    elim (cases_Bool (test y)) [
      | inl h ↦ elim (subst (λ b. Among x (cond b (y ∷ filter test ys) (filter test ys))) h a) [
        | inl e ↦ (inl e, ap test (sym e) ∙ h)
        | inr b ↦ (let o = of_filter test x ys b in (inr o.0, o.1))
      ]
      | inr h ↦ (let o = of_filter test x ys (subst (λ b. Among x (cond b (y ∷ filter test ys) (filter test ys))) h a) in (inr o.0, o.1))
    ]

-- where nothing passes, nothing is left
pub none_pass : (test : ℕ × Event → Bool) (xs : List (ℕ × Event)) → ((x : ℕ × Event) → Among x xs → test x ≡ false) → filter test xs ≡ []
none_pass test [] f = refl
none_pass test (x ∷ xs) f =
    ap (λ b. cond b (x ∷ filter test xs) (filter test xs)) (f x (inl refl)) ∙ none_pass test xs (λ y a. f y (inr a))

-- where all pass, all are left
pub all_pass : (test : ℕ × Event → Bool) (xs : List (ℕ × Event)) → ((x : ℕ × Event) → Among x xs → test x ≡ true) → filter test xs ≡ xs
all_pass test [] f = refl
all_pass test (x ∷ xs) f =
    ap (λ b. cond b (x ∷ filter test xs) (filter test xs)) (f x (inl refl)) ∙ ap (λ l. x ∷ l) (all_pass test xs (λ y a. f y (inr a)))

-- ---- rising tickets

pub rises_front : (xs ys : List (ℕ × Event)) → Rises (xs ++ ys) → Rises xs
rises_front [] ys r = tt
rises_front (x ∷ xs) ys r = ((λ y a. r.0 y (among_left y xs ys a)), rises_front xs ys r.1)

pub rises_across : (xs ys : List (ℕ × Event)) (x y : ℕ × Event) → Rises (xs ++ ys) → Among x xs → Among y ys → x.0 < y.0
rises_across [] ys x y r a b = absurd a
rises_across (z ∷ xs) ys x y r (inl e) b = subst (λ (w : ℕ × Event). w.0 < y.0) e (r.0 y (behind xs))
  where
    behind : (xs : List (ℕ × Event)) → Among y (xs ++ ys)
    behind [] = b
    behind (v ∷ vs) = inr (behind vs)
rises_across (z ∷ xs) ys x y r (inr a) b = rises_across xs ys x y r.1 a b

-- an entry behind all others
pub rises_one : (book : List (ℕ × Event)) (x : ℕ × Event) → Rises book → ((y : ℕ × Event) → Among y book → y.0 < x.0) → Rises (book ++ x ∷ [])
rises_one [] x r low = ((λ y a. absurd a), tt)
rises_one (z ∷ zs) x r low = (
  (λ y a. elim (among_split y zs (x ∷ []) a) [
    | inl b ↦ r.0 y b
    | inr b ↦ elim b [ inl e ↦ subst (λ (w : ℕ × Event). z.0 < w.0) e (low z (inl refl)) | inr n ↦ absurd n ]
  ]),
  rises_one zs x r.1 (λ y a. low y (inr a)),
)

-- ---- what is below a ticket

pub none_below : (k : ℕ) (xs : List (ℕ × Event)) → ((x : ℕ × Event) → Among x xs → k ≤ x.0) → filter (λ (x : ℕ × Event). nat_lt x.0 k) xs ≡ []
none_below k xs f =
    none_pass (λ (x : ℕ × Event). nat_lt x.0 k) xs
    (λ x a. false_from_ne_true (nat_lt x.0 k) (λ e. (let l = ltb-true x.0 k e in let o = f x a in omega (arith, l, o))))

-- the entries with tickets below k stand in front
pub front : (k : ℕ) (xs : List (ℕ × Event)) → Rises xs → (rest : List (ℕ × Event)) × (filter (λ (x : ℕ × Event). nat_lt x.0 k) xs ++ rest ≡ xs)
front k [] r = ([], refl)
front k (x ∷ xs) r = elim (cases_lt x.0 k) [
  | inl lt ↦ (
      let f = front k xs r.1 in (
        f.0,
        ap (λ t. cond t (x ∷ filter (λ (y : ℕ × Event). nat_lt y.0 k) xs) (filter (λ (y : ℕ × Event). nat_lt y.0 k) xs) ++ f.0) (lt-ltb x.0 k lt)
            ∙ ap (λ l. x ∷ l) f.1,
      ))
  | inr ge ↦ (
    x ∷ xs,
    ap (λ (l : List (ℕ × Event)). l ++ x ∷ xs)
        (none_below k (x ∷ xs)
        (λ y a. elim a [
          | inl s ↦ (let e : x.0 ≡ y.0 = ap (λ (z : ℕ × Event). z.0) s in omega (arith, e, ge))
          | inr b ↦
              (let l : x.0 < y.0 = r.0 y b in omega (arith, l, ge))
        ])),
  )
]

sound_rest : (later past : List Event) → IsSoundPast (later ++ past) → IsSoundPast past
sound_rest [] past sound = sound
sound_rest (e ∷ later) past sound = sound_rest later past sound.0

-- the events below a ticket of a sound list are sound
pub sound_below : (k : ℕ) (book : List (ℕ × Event)) → Rises book → IsSoundPast (past_in book) → IsSoundPast (past_below k book)
sound_below k book rising sound =
    let f = front k book rising in
    let low : List (ℕ × Event) = filter (λ (x : ℕ × Event). nat_lt x.0 k) book in
    let parts : past_in book ≡ past_in f.0 ++ past_in low = ap (λ l. past_in l) (sym f.1) ∙ past_append low f.0 in
    sound_rest (past_in f.0) (past_in low) (subst IsSoundPast parts sound)

-- ---- members

pub among_reverse : {X : Type 0} (x : X) (xs : List X) → Among x xs → Among x (reverse xs)
among_reverse x [] h = absurd h
among_reverse x (y ∷ xs) (inl same) = subst (Among x) (sym (reverse-append (y ∷ []) xs)) (among_right x (reverse xs) (y ∷ []) (inl same))
among_reverse x (y ∷ xs) (inr h) = subst (Among x) (sym (reverse-append (y ∷ []) xs)) (among_left x (reverse xs) (y ∷ []) (among_reverse x xs h))

pub reverse_among : {X : Type 0} (x : X) (xs : List X) → Among x (reverse xs) → Among x xs
reverse_among x [] h = absurd h
reverse_among x (y ∷ xs) h = elim (among_split x (reverse xs) (y ∷ []) (subst (Among x) (reverse-append (y ∷ []) xs) h)) [
  | inl l ↦ inr (reverse_among x xs l)
  | inr r ↦ elim r [ inl same ↦ inl same | inr none ↦ absurd none ]
]

pub among_map : {X Y : Type 0} (f : X → Y) (x : X) (xs : List X) → Among x xs → Among (f x) (map f xs)
among_map f x [] h = absurd h
among_map f x (y ∷ xs) (inl same) = inl (ap f same)
among_map f x (y ∷ xs) (inr h) = inr (among_map f x xs h)

pub map_among : {X Y : Type 0} (f : X → Y) (y : Y) (xs : List X) → Among y (map f xs) → (x : X) × Among x xs × (f x ≡ y)
map_among f y [] h = absurd h
map_among f y (x ∷ xs) (inl same) = (x, inl refl, same)
map_among f y (x ∷ xs) (inr h) = let k = map_among f y xs h in (k.0, inr k.1, k.2)

-- an entry of a list, and its event among those of the list
pub to_past : (x : ℕ × Event) (xs : List (ℕ × Event)) → Among x xs → Among x.1 (past_in xs)
to_past x xs a = among_reverse x.1 (events_in xs) (among_map (λ (y : ℕ × Event). y.1) x xs a)

pub of_past : (e : Event) (xs : List (ℕ × Event)) → Among e (past_in xs) → (x : ℕ × Event) × Among x xs × (x.1 ≡ e)
of_past e xs a = map_among (λ (y : ℕ × Event). y.1) e xs (reverse_among e (events_in xs) a)
