-- Entries that take the places of their tickets, one after the other.
use Rattle.std.proofs.Common.{◌≡◌, ℕ, zero, suc, ◌<◌, List, [], ◌∷◌, ◌++◌, length, ◌⊎◌, inl, inr, refl, sym, ap, ◌∙◌, subst, arith}
use Rattle.std.specs.Prelude.{Some, Option, slice_get, slice_set}
use mathlib.Core.Logic.{dite}
use native.Mathlib.Decide.{ℕ_discrete}
use Rattle.fut_base.specs.declared.record.Entry.{Entry}
use Rattle.fut_base.specs.Dag.{Among}
use Rattle.fut_base.specs.Listed.{Listed}
use Rattle.fut_base.proofs.Members.{among_split, among_left, among_right}
use Rattle.trace_merge.specs.Placing.{HasPlace, AreApart, HavePlaces, entries_in}

pub set_here : {X : Type 0} (xs : List X) (i : ℕ) (x : X) → i < length xs → slice_get (slice_set xs i x) i ≡ Some x
set_here [] i x less = absurd (omega (arith, less))
set_here (y ∷ xs) zero x less = refl
set_here (y ∷ xs) (suc i) x less = set_here xs i x (omega (arith, less))

pub set_off : {X : Type 0} (xs : List X) (i k : ℕ) (x : X) → (k ≡ i → ⊥) → slice_get (slice_set xs i x) k ≡ slice_get xs k
set_off [] i k x ne = refl
set_off (y ∷ xs) zero zero x ne = absurd (ne refl)
set_off (y ∷ xs) zero (suc k) x ne = refl
set_off (y ∷ xs) (suc i) zero x ne = refl
set_off (y ∷ xs) (suc i) (suc k) x ne = set_off xs i k x (λ e. ne (ap suc e))

pub set_length : {X : Type 0} (xs : List X) (i : ℕ) (x : X) → length (slice_set xs i x) ≡ length xs
set_length [] i x = refl
set_length (y ∷ xs) zero x = refl
set_length (y ∷ xs) (suc i) x = ap suc (set_length xs i x)

pub none_placed : (places : List (Option Entry)) → HavePlaces [] places places
none_placed places = record { each = λ x a. absurd a; others = λ k none. refl }

-- one more entry takes its place
pub one_placed : (count : ℕ) (drawn done rest : List (ℕ × Entry)) (x : ℕ × Entry) (old now : List (Option Entry)) → AreApart count drawn
    → done ++ x ∷ rest ≡ drawn → x.0 < length now → HavePlaces done old now → HavePlaces (done ++ x ∷ []) old (slice_set now x.0 (Some x.1))
one_placed count drawn done rest x old now apart parts less have =
    let in_drawn : (y : ℕ × Entry) → Among y (done ++ x ∷ rest) → Among y drawn = λ y a. subst (λ l. Among y l) parts a in
    let here : HasPlace (slice_set now x.0 (Some x.1)) x.0 x.1 = set_here now x.0 (Some x.1) less in
    let old_one : (y : ℕ × Entry) → Among y done → HasPlace (slice_set now x.0 (Some x.1)) y.0 y.1 =
    (λ y a. dite (ℕ_discrete y.0 x.0)
    (λ (same : y.0 ≡ x.0).
    let is : y ≡ x = apart.once y x (in_drawn y (among_left y done (x ∷ rest) a)) (in_drawn x (among_right x done (x ∷ rest) (inl refl))) same in
    subst (λ (z : ℕ × Entry). HasPlace (slice_set now x.0 (Some x.1)) z.0 z.1) (sym is) here)
    (λ ne. set_off now x.0 y.0 (Some x.1) ne ∙ have.each y a)) in
    record {
      each = λ y a. elim (among_split y done (x ∷ []) a) [
        | inl b ↦ old_one y b
        | inr b ↦ elim b [ inl same ↦ subst (λ (z : ℕ × Entry). HasPlace (slice_set now x.0 (Some x.1)) z.0 z.1) same here | inr none ↦ absurd none ]
      ];
      others = λ k none.
          set_off now x.0 k (Some x.1) (λ same. none x (among_right x done (x ∷ []) (inl refl)) (sym same))
          ∙ have.others k (λ y a e. none y (among_left y done (x ∷ []) a) e);
    }

-- an entry with this ticket is among these, or none is
ticket_in : (k : ℕ) (drawn : List (ℕ × Entry)) → ((y : ℕ × Entry) × Among y drawn × (y.0 ≡ k)) ⊎ ((y : ℕ × Entry) → Among y drawn → y.0 ≡ k → ⊥)
ticket_in k [] = inr (λ y a e. a)
ticket_in k (x ∷ drawn) = dite (ℕ_discrete x.0 k)
    (λ same. inl (x, inl refl, same))
    (λ ne. elim (ticket_in k drawn) [
      | inl found ↦ inl (found.0, inr found.1, found.2)
      | inr none ↦ inr (λ y a e. elim a [ inl same ↦ ne (ap (λ (z : ℕ × Entry). z.0) same ∙ e) | inr b ↦ none y b e ])
    ])

-- an item moves from the rest to what comes before it
pub shift : {X : Type 0} (xs rest : List X) (x : X) → (xs ++ x ∷ []) ++ rest ≡ xs ++ x ∷ rest
shift [] rest x = refl
shift (y ∷ xs) rest x = ap (λ l. y ∷ l) (shift xs rest x)

pub no_rest : {X : Type 0} (xs : List X) → xs ++ [] ≡ xs
no_rest [] = refl
no_rest (x ∷ xs) = ap (λ l. x ∷ l) (no_rest xs)

pub entries_append : (ts us : List (Listed (ℕ × Entry))) → entries_in (ts ++ us) ≡ entries_in ts ++ entries_in us
entries_append [] us = refl
entries_append (t ∷ ts) us = ap (λ l. t.items ++ l) (entries_append ts us) ∙ sym (append_three t.items (entries_in ts) (entries_in us))
  where
    append_three : (xs ys zs : List (ℕ × Entry)) → (xs ++ ys) ++ zs ≡ xs ++ (ys ++ zs)
    append_three [] ys zs = refl
    append_three (x ∷ xs) ys zs = ap (λ l. x ∷ l) (append_three xs ys zs)

pub entries_one : (ts : List (Listed (ℕ × Entry))) (t : Listed (ℕ × Entry)) → entries_in (ts ++ t ∷ []) ≡ entries_in ts ++ t.items
entries_one ts t = entries_append ts (t ∷ []) ∙ ap (λ l. entries_in ts ++ l) (no_rest t.items)

-- the entries of one of the traces are apart
pub apart_in : (count : ℕ) (done rest : List (Listed (ℕ × Entry))) (t : Listed (ℕ × Entry)) → AreApart count (entries_in (done ++ t ∷ rest)) → AreApart count t.items
apart_in count done rest t apart =
    let there : (x : ℕ × Entry) → Among x t.items → Among x (entries_in (done ++ t ∷ rest)) =
    (λ x a. subst (λ l. Among x l) (sym (entries_append done (t ∷ rest))) (among_right x (entries_in done) (entries_in (t ∷ rest)) (among_left x t.items (entries_in rest) a))) in
    record { below = λ x a. apart.below x (there x a); once = λ x y a b same. apart.once x y (there x a) (there y b) same }

-- one more trace has its places
pub trace_placed : (count : ℕ) (done rest : List (Listed (ℕ × Entry))) (t : Listed (ℕ × Entry)) (old now new : List (Option Entry))
    → AreApart count (entries_in (done ++ t ∷ rest)) → HavePlaces (entries_in done) old now → HavePlaces t.items now new
    → HavePlaces (entries_in (done ++ t ∷ [])) old new
trace_placed count done rest t old now new apart have more =
    let parts : entries_in (done ++ t ∷ []) ≡ entries_in done ++ t.items = entries_one done t in
    let first : (x : ℕ × Entry) → Among x (entries_in done) → Among x (entries_in (done ++ t ∷ rest)) =
    (λ x a. subst (λ l. Among x l) (sym (entries_append done (t ∷ rest))) (among_left x (entries_in done) (entries_in (t ∷ rest)) a)) in
    let second : (x : ℕ × Entry) → Among x t.items → Among x (entries_in (done ++ t ∷ rest)) =
    (λ x a. subst (λ l. Among x l) (sym (entries_append done (t ∷ rest))) (among_right x (entries_in done) (entries_in (t ∷ rest)) (among_left x t.items (entries_in rest) a))) in
    let stays : (x : ℕ × Entry) → Among x (entries_in done) → HasPlace new x.0 x.1 =
    (λ x a. elim (ticket_in x.0 t.items) [
      | inl found ↦
          let is : found.0 ≡ x = apart.once found.0 x (second found.0 found.1) (first x a) found.2 in
          subst (λ (z : ℕ × Entry). HasPlace new z.0 z.1) is (more.each found.0 found.1)
      | inr none ↦ more.others x.0 none ∙ have.each x a
    ]) in
    subst (λ l. HavePlaces l old new) (sym parts) record {
      each = λ x a. elim (among_split x (entries_in done) t.items a) [ inl b ↦ stays x b | inr b ↦ more.each x b ];
      others = λ k none.
          more.others k (λ y a e. none y (among_right y (entries_in done) t.items a) e)
          ∙ have.others k (λ y a e. none y (among_left y (entries_in done) t.items a) e);
    }

pub get_left : {X : Type 0} (xs ys : List X) (i : ℕ) (x : X) → slice_get xs i ≡ Some x → slice_get (xs ++ ys) i ≡ Some x
get_left [] ys i x h = cc
get_left (y ∷ xs) ys zero x h = h
get_left (y ∷ xs) ys (suc i) x h = get_left xs ys i x h
