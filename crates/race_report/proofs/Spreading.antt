-- One step followed, and what it does to the set of strands that are reached so far.
use Rattle.std.proofs.Common.{◌≡◌, ℕ, ◌+◌, ◌<◌, ◌≤◌, Bool, true, false, List, length, take, get_or, ◌∙◌, sym, subst, arith, inl, inr}
use Rattle.std.specs.Prelude.{All, ◌||◌, ◌&&◌, ◌==◌, not, if◌then◌else◌, map}
use Rattle.std.proofs.lemmas.Bool.{or_cases, and_parts, eqb-true, or_left}
use Rattle.std.proofs.lemmas.List.Elements.{All-more, All-weaker}
use Rattle.fut_base.specs.Dag.{ReachesBy}
use Rattle.race_report.specs.declared.edges.Edge.{Edge}
use Rattle.race_report.specs.Edges.{ends_of}
use Rattle.race_report.proofs.Paths.{reaches_more, edge_among}

-- q has what p has, and the step's end where the step begins in p
abbrev pub Follows : Edge → (ℕ → Bool) → (ℕ → Bool) → Type 0
Follows e p q = (v : ℕ) → q v ≡ (p v || ((e.to == v) && p e.from))

pub kept_more : (e : Edge) (p q : ℕ → Bool) → Follows e p q → (v : ℕ) → p v ≡ true → q v ≡ true
kept_more e p q adds v h = adds v ∙ or_left (p v) _ h

pub sound_more : (steps : List Edge) (i : ℕ) (d e : Edge) (p q : ℕ → Bool) (start : ℕ) → i < length steps → e ≡ get_or steps i d → Follows e p q
    → ((v : ℕ) → p v ≡ true → ReachesBy (map ends_of steps) start v) → (v : ℕ) → q v ≡ true → ReachesBy (map ends_of steps) start v
sound_more steps i d e p q start lt is adds sound v h =
    elim (or_cases (p v) ((e.to == v) && p e.from) (sym (adds v) ∙ h)) [
      | inl old ↦ sound v old
      | inr new ↦ (
          let both = and_parts (e.to == v) (p e.from) new in
          subst (λ w. ReachesBy (map ends_of steps) start w) (eqb-true e.to v both.0)
          (reaches_more (map ends_of steps) start e.from e.to (sound e.from both.1) (edge_among steps i d e lt is)))
    ]

-- where the set did not grow, the step leads inside it
inside : (a b : Bool) (old mid new : ℕ) → old ≤ mid → new ≡ mid + (if a && not b then 1 else 0) → new ≡ old → a ≡ true → b ≡ true
inside true true old mid new le is same h = h
inside true false old mid new le is same h = absurd (omega (arith, is, same))
inside false b old mid new le is same h = cc

same_set : (e : Edge) (p q : ℕ → Bool) → Follows e p q → (p e.from ≡ true → p e.to ≡ true) → (v : ℕ) → q v ≡ true → p v ≡ true
same_set e p q adds leads v h =
    elim (or_cases (p v) ((e.to == v) && p e.from) (sym (adds v) ∙ h)) [
      | inl old ↦ old
      | inr new ↦ (
          let both = and_parts (e.to == v) (p e.from) new in
          subst (λ w. p w ≡ true) (eqb-true e.to v both.0) (leads both.1))
    ]

pub closed_more : (steps : List Edge) (i : ℕ) (d e : Edge) (p q : ℕ → Bool) (old mid new : ℕ) → i < length steps → e ≡ get_or steps i d → Follows e p q
    → old ≤ mid → new ≡ mid + (if p e.from && not (p e.to) then 1 else 0) → (mid ≡ old → All (λ (s : Edge). p s.from ≡ true → p s.to ≡ true) (take i steps))
    → new ≡ old → All (λ (s : Edge). q s.from ≡ true → q s.to ≡ true) (take (i + 1) steps)
closed_more steps i d e p q old mid new lt is adds le len closed same =
    let P : Edge → Type 0 = λ s. p s.from ≡ true → p s.to ≡ true in
    let Q : Edge → Type 0 = λ s. q s.from ≡ true → q s.to ≡ true in
    let leads : p e.from ≡ true → p e.to ≡ true = inside (p e.from) (p e.to) old mid new le len same in
    let here : mid ≡ old = omega (arith, le, len, same) in
    let turn_in : (s : Edge) → P s → Q s = λ s h at. kept_more e p q adds s.to (h (same_set e p q adds leads s.from at)) in
    All-more Q steps i d lt (All-weaker P Q turn_in (take i steps) (closed here)) (subst Q is (turn_in e leads))
