-- The first pair of a cell whose first racing access is the first write of all.
use Rattle.std.proofs.Common.{◌≡◌, ℕ, ◌<◌, ◌≤◌, Bool, true, false, List, [], ◌∷◌, take, zero, suc, refl, subst, inl, inr, ◌∙◌, arith, eq-eqb}
use Rattle.std.specs.Prelude.{slice_get, Some, not, ◌&&◌, ◌==◌}
use Rattle.std.proofs.lemmas.Bool.{cases_lt, and_parts, not-true, both_ways}
use Rattle.std.proofs.lemmas.Option.{none-some, same_Some}
use Rattle.fut_base.specs.Events.{Event, Action, Reads, Writes, Spawns, Creates, Syncs, Gets, Ends}
use Rattle.fut_base.specs.Racing.{IsAccess, IsWrite, PlacesRace, IsFirstPair}

abbrev pub writes : Action → Bool
writes (Writes _ _) = true
writes _ = false

abbrev pub accesses : ℕ → Action → Bool
accesses c (Reads cell _) = cell == c
accesses c (Writes cell _) = cell == c
accesses c _ = false

is_write : (a : Action) → IsWrite a → writes a ≡ true
is_write (Writes _ _) h = refl
is_write (Reads _ _) h = absurd h
is_write (Spawns _ _ _ _ _) h = absurd h
is_write (Creates _ _ _ _ _) h = absurd h
is_write (Syncs _) h = absurd h
is_write (Gets _ _ _) h = absurd h
is_write (Ends _) h = absurd h

is_access : (c : ℕ) (a : Action) → IsAccess c a → accesses c a ≡ true
is_access c (Reads cell _) h = eq-eqb cell c h
is_access c (Writes cell _) h = eq-eqb cell c h
is_access c (Spawns _ _ _ _ _) h = absurd h
is_access c (Creates _ _ _ _ _) h = absurd h
is_access c (Syncs _) h = absurd h
is_access c (Gets _ _ _) h = absurd h
is_access c (Ends _) h = absurd h

-- no action from a place on passes the test
abbrev pub none_from : (Action → Bool) → ℕ → List Event → Bool
none_from p k [] = true
none_from p zero (e ∷ es) = not (p e.action) && none_from p zero es
none_from p (suc k) (e ∷ es) = none_from p k es

none_at : (p : Action → Bool) (k : ℕ) (xs : List Event) → none_from p k xs ≡ true → (m : ℕ) (x : Event) → k ≤ m → slice_get xs m ≡ Some x → p x.action ≡ true
    → ⊥
none_at p k [] none m x le at passes = none-some x at
none_at p zero (e ∷ es) none zero x le at passes =
    let fails = not-true (p e.action) (and_parts (not (p e.action)) (none_from p zero es) none).0 in
    both_ways (p x.action) (subst (λ (y : Event). p y.action ≡ false) (same_Some e x at) fails) passes
none_at p zero (e ∷ es) none (suc m) x le at passes =
    none_at p zero es (and_parts (not (p e.action)) (none_from p zero es) none).1 m x (omega arith) at passes
none_at p (suc k) (e ∷ es) none zero x le at passes = absurd (omega arith)
none_at p (suc k) (e ∷ es) none (suc m) x le at passes = none_at p k es none m x (omega arith) at passes

at_take : (xs : List Event) (n k : ℕ) → k < n → slice_get (take n xs) k ≡ slice_get xs k
at_take xs zero k lt = absurd (omega arith)
at_take [] (suc n) k lt = refl
at_take (x ∷ xs) (suc n) zero lt = refl
at_take (x ∷ xs) (suc n) (suc k) lt = at_take xs n k (omega arith)

-- where nothing is written before j, and the cell is not accessed between i and j
pub first_write : (h : List Event) (c i j : ℕ) → PlacesRace h c i j → none_from writes 0 (take j h) ≡ true → none_from (accesses c) (suc i) (take j h) ≡ true
    → IsFirstPair h c i j
first_write h c i j race unwritten untouched =
    record {
      race = race;
      least = λ m n other. elim (cases_lt n j) [
        | inl lt ↦ (
            let one = other.events.0 in
            let two = other.events.1 in
            absurd (elim other.events.4.write [
              | inl w ↦ none_at writes 0 (take j h) unwritten m one (omega arith) (at_take h j m (omega (arith, other.order)) ∙ other.events.2)
                  (is_write one.action w)
              | inr w ↦ none_at writes 0 (take j h) unwritten n two (omega arith) (at_take h j n lt ∙ other.events.3) (is_write two.action w)
            ]))
        | inr le ↦ le
      ];
      greatest = λ m other. elim (cases_lt i m) [
        | inl lt ↦ (
            let one = other.events.0 in
            absurd
            (none_at (accesses c) (suc i) (take j h) untouched m one (omega arith) (at_take h j m other.order ∙ other.events.2)
            (is_access c one.action other.events.4.one)))
        | inr le ↦ le
      ];
    }
