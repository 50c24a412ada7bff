-- What is known of a cell, one place further on.
use Rattle.std.proofs.Common.{◌≡◌, ℕ, ◌+◌, List, refl, sym, subst, inl, inr, arith}
use Rattle.std.specs.Prelude.{Option, Some, None, IsSome}
use Rattle.std.proofs.lemmas.Bool.{cases_lt, cases_eq}
use Rattle.fut_base.specs.declared.event.Event.{Event}
use Rattle.fut_base.specs.declared.record.Race.{Race}
use Rattle.fut_base.specs.Racing.{PlacesRace}
use Rattle.race_report.specs.Pairs.{IsLastPair, IsFoundBefore}

-- where the place makes no race on the cell, nothing changes
quiet : (h : List Event) (j c : ℕ) → ((i : ℕ) → PlacesRace h c i j → ⊥) → (o : Option Race) → IsFoundBefore h j c o → IsFoundBefore h (j + 1) c o
quiet h j c none None before = λ i n lt race.
    elim (cases_lt n j) [
      | inl old ↦ before i n old race
      | inr le ↦ (let same : n ≡ j = omega arith in none i (subst (λ m. PlacesRace h c i m) same race))
    ]
quiet h j c none (Some r) before = before

pub no_pair : (h : List Event) (j c : ℕ) → IsLastPair h j None → (o : Option Race) → IsFoundBefore h j c o → IsFoundBefore h (j + 1) c o
no_pair h j c none o before = quiet h j c (none c) o before

-- a cell that has its pair keeps it
known : (h : List Event) (j c : ℕ) (o : Option Race) → (o ≡ None → ⊥) → IsFoundBefore h j c o → IsFoundBefore h (j + 1) c o
known h j c None some before = absurd (some refl)
known h j c (Some r) some before = before

pub other_cell : (h : List Event) (j c : ℕ) (r : Race) → IsLastPair h j (Some r) → (c ≡ r.cell → ⊥) → (o : Option Race) → IsFoundBefore h j c o
    → IsFoundBefore h (j + 1) c o
other_cell h j c r last other o before = quiet h j c (λ i race. other (last.2 c i race).0) o before

some_not_none : (o : Option Race) → IsSome o → o ≡ None → ⊥
some_not_none None some none = cc
some_not_none (Some r) some none = cc

pub known_cell : (h : List Event) (j : ℕ) (r : Race) (found : ℕ → Option Race) → IsLastPair h j (Some r) → IsSome (found r.cell) → (c : ℕ)
    → IsFoundBefore h j c (found c) → IsFoundBefore h (j + 1) c (found c)
known_cell h j r found last some c before =
    elim (cases_eq c r.cell) [
      | inl same ↦ known h j c (found c) (λ none. (let P : ℕ → Type 0 = λ x. IsSome (found x) in some_not_none (found c) (subst P (sym same) some) none)) before
      | inr other ↦ other_cell h j c r last other (found c) before
    ]

first_here : (h : List Event) (j : ℕ) (r : Race) → IsLastPair h j (Some r) → IsFoundBefore h j r.cell None → IsFoundBefore h (j + 1) r.cell (Some r)
first_here h j r last before = (
  refl,
  record {
    race = subst (λ n. PlacesRace h r.cell r.first n) (sym last.0) last.1;
    least = λ m n race. elim (cases_lt n r.second) [
      | inl lt ↦ absurd (before m n (omega (arith, last.0)) race)
      | inr le ↦ le
    ];
    greatest = λ m race. (last.2 r.cell m (subst (λ n. PlacesRace h r.cell m n) last.0 race)).1;
  },
)

pub new_cell : (h : List Event) (j : ℕ) (r : Race) (found more : ℕ → Option Race) → IsLastPair h j (Some r) → found r.cell ≡ None → more r.cell ≡ Some r
    → ((c : ℕ) → (c ≡ r.cell → ⊥) → more c ≡ found c) → (c : ℕ) → IsFoundBefore h j c (found c) → IsFoundBefore h (j + 1) c (more c)
new_cell h j r found more last none put others c before =
    elim (cases_eq c r.cell) [
      | inl same ↦ (
          let old : IsFoundBefore h j r.cell None = subst (λ o. IsFoundBefore h j r.cell o) none (subst (λ x. IsFoundBefore h j x (found x)) same before) in
          subst (λ x. IsFoundBefore h (j + 1) x (more x)) (sym same) (subst (λ o. IsFoundBefore h (j + 1) r.cell o) (sym put) (first_here h j r last old)))
      | inr other ↦ subst (λ o. IsFoundBefore h (j + 1) c o) (sym (others c other)) (other_cell h j c r last other (found c) before)
    ]
