-- A history has one report.
use Rattle.std.proofs.Common.{◌≡◌, ℕ, zero, suc, ◌+◌, ◌<◌, ◌≤◌, List, [], ◌∷◌, refl, sym, ap, ◌∙◌, subst, arith}
use Rattle.std.specs.Prelude.{All, Any}
use Rattle.std.proofs.lemmas.List.Elements.{All-head, All-tail, All-cons, All-weaker}
use Rattle.fut_base.specs.declared.event.Event.{Event}
use Rattle.fut_base.specs.declared.record.Race.{Race}
use Rattle.fut_base.specs.Racing.{PlacesRace, IsFirstPair, AreRising, IsReport}

abbrev race_of : ℕ → ℕ → ℕ → Race
race_of cell first second = record { cell = cell; first = first; second = second }

pub same_race : (a b : Race) → a.cell ≡ b.cell → a.first ≡ b.first → a.second ≡ b.second → a ≡ b
same_race a b cells firsts seconds =
    ap (λ c. race_of c a.first a.second) cells ∙ (ap (λ i. race_of b.cell i a.second) firsts ∙ ap (λ j. race_of b.cell b.first j) seconds)

any_tail : {X : Type 0} (P : X → Type 0) (x : X) (xs : List X) → Any P (x ∷ xs) → (P x → ⊥) → Any P xs
any_tail P x xs (zero, y, lt, at, holds) never = absurd (never (subst P (sym at) holds))
any_tail P x xs (suc k, y, lt, at, holds) never = (k, y, omega (arith, lt), at, holds)

any_of_all : {X : Type 0} (P Q : X → Type 0) (xs : List X) → Any P xs → All Q xs → (x : X) × P x × Q x
any_of_all P Q [] (k, y, lt, at, holds) all = absurd (omega (arith, lt))
any_of_all P Q (x ∷ xs) (zero, y, lt, at, holds) all = (x, subst P (sym at) holds, All-head Q x xs all)
any_of_all P Q (x ∷ xs) (suc k, y, lt, at, holds) all = any_of_all P Q xs (k, y, omega (arith, lt), at, holds) (All-tail Q x xs all)

module _ (h : List Event) where
  abbrev First : Race → Type 0
  First r = IsFirstPair h r.cell r.first r.second

  -- the first pairs of the cells from this one on
  record AreFrom (b : ℕ) (xs : List Race) : Type 0 where
    pub each : All First xs
    pub whole : (c i j : ℕ) → b ≤ c → PlacesRace h c i j → Any (λ (r : Race). r.cell ≡ c) xs
    pub order : AreRising xs

  one_pair : (r s : Race) → r.cell ≡ s.cell → First r → First s → r ≡ s
  one_pair r s cells x y =
      let other : IsFirstPair h r.cell s.first s.second = subst (λ c. IsFirstPair h c s.first s.second) (sym cells) y in
      let up = x.least s.first s.second other.race in
      let down = other.least r.first r.second x.race in
      let seconds : r.second ≡ s.second = omega (arith, up, down) in
      let right = other.greatest r.first (subst (λ n. PlacesRace h r.cell r.first n) seconds x.race) in
      let left = x.greatest s.first (subst (λ n. PlacesRace h r.cell s.first n) (sym seconds) other.race) in
      let firsts : r.first ≡ s.first = omega (arith, left, right) in
      same_race r s cells firsts seconds

  from_next : (b : ℕ) (x : Race) (xs : List Race) → AreFrom b (x ∷ xs) → b ≤ x.cell → AreFrom (x.cell + 1) xs
  from_next b x xs f le =
      record {
        each = All-tail First x xs f.each;
        whole = λ c i j above race. any_tail (λ (r : Race). r.cell ≡ c) x xs (f.whole c i j (omega (arith, above, le)) race)
            (λ same. omega (arith, same, above));
        order = f.order.1;
      }

  -- a cell that has a race is not below the first of them
  not_below : (b : ℕ) (x r : Race) (xs : List Race) → AreFrom b (x ∷ xs) → b ≤ r.cell → First r → x.cell ≤ r.cell
  not_below b x r xs f le first =
      let above = All-cons (λ (s : Race). x.cell ≤ s.cell) x xs (omega arith)
      (All-weaker (λ (s : Race). x.cell < s.cell) (λ (s : Race). x.cell ≤ s.cell) (λ s lt. omega (arith, lt)) xs f.order.0) in
      let found = any_of_all (λ (s : Race). s.cell ≡ r.cell) (λ (s : Race). x.cell ≤ s.cell) (x ∷ xs) (f.whole r.cell r.first r.second le first.race) above in
      let same = found.1 in
      let least = found.2 in
      omega (arith, same, least)

  from_all : (b : ℕ) (x : Race) (xs : List Race) → AreRising (x ∷ xs) → All (λ (s : Race). x.cell + 1 ≤ s.cell) xs
  from_all b x xs order = All-weaker (λ (s : Race). x.cell < s.cell) (λ (s : Race). x.cell + 1 ≤ s.cell) (λ s lt. omega (arith, lt)) xs order.0

  same_from : (b : ℕ) (xs ys : List Race) → All (λ (s : Race). b ≤ s.cell) xs → All (λ (s : Race). b ≤ s.cell) ys → AreFrom b xs → AreFrom b ys → xs ≡ ys
  same_from b [] [] low high f g = refl
  same_from b [] (y ∷ ys) low high f g =
      let first = All-head First y ys g.each in
      let any = f.whole y.cell y.first y.second (All-head (λ (s : Race). b ≤ s.cell) y ys high) first.race in
      absurd (let lt = any.2 in omega (arith, lt))
  same_from b (x ∷ xs) [] low high f g =
      let first = All-head First x xs f.each in
      let any = g.whole x.cell x.first x.second (All-head (λ (s : Race). b ≤ s.cell) x xs low) first.race in
      absurd (let lt = any.2 in omega (arith, lt))
  same_from b (x ∷ xs) (y ∷ ys) low high f g =
      let at_x = All-head (λ (s : Race). b ≤ s.cell) x xs low in
      let at_y = All-head (λ (s : Race). b ≤ s.cell) y ys high in
      let one = All-head First x xs f.each in
      let other = All-head First y ys g.each in
      let up = not_below b x y xs f at_y other in
      let down = not_below b y x ys g at_x one in
      let cells : x.cell ≡ y.cell = omega (arith, up, down) in
      let next : ℕ = x.cell + 1 in
      let later : AreFrom next ys = subst (λ n. AreFrom n ys) (ap (λ n. n + 1) (sym cells)) (from_next b y ys g at_y) in
      let above : All (λ (s : Race). next ≤ s.cell) ys =
      subst (λ n. All (λ (s : Race). n ≤ s.cell) ys) (ap (λ n. n + 1) (sym cells)) (from_all b y ys g.order) in
      ap (λ r. r ∷ xs) (one_pair x y cells one other) ∙ ap (λ l. y ∷ l) (same_from next xs ys (from_all b x xs f.order) above (from_next b x xs f at_x) later)

  from_zero : (xs : List Race) → IsReport h xs → AreFrom 0 xs
  from_zero xs x = record { each = x.each; whole = λ c i j le race. x.whole c i j race; order = x.order }

  pub one_report : (xs ys : List Race) → IsReport h xs → IsReport h ys → xs ≡ ys
  one_report xs ys x y =
      let low : (zs : List Race) → IsReport h zs → All (λ (s : Race). 0 ≤ s.cell) zs =
      λ zs z. All-weaker First (λ (s : Race). 0 ≤ s.cell) (λ s first. omega arith) zs z.each in
      same_from 0 xs ys (low xs x) (low ys y) (from_zero xs x) (from_zero ys y)
