-- No path leaves a set of strands that is closed under the edges.
use Rattle.std.proofs.Common.{◌≡◌, ℕ, Bool, true, false, List, [], ◌∷◌, inl, inr, sym, subst}
use Rattle.std.specs.Prelude.{not, ◌||◌, ◌&&◌, slice_get, Some}
use Rattle.std.proofs.lemmas.Bool.{and_parts}
use Rattle.fut_base.specs.Events.{Event}
use Rattle.fut_base.specs.Dag.{Among, IsPath, ReachesBy, AreJoined}
use Rattle.fut_base.specs.Racing.{PlacesRace}

-- an edge that begins in the set ends in it
abbrev pub is_closed : List (ℕ × ℕ) → (ℕ → Bool) → Bool
is_closed [] p = true
is_closed (e ∷ es) p = (not (p e.0) || p e.1) && is_closed es p

imp : (a b : Bool) → (not a || b) ≡ true → a ≡ true → b ≡ true
imp true b h at = h
imp false b h at = cc

ends_in : (es : List (ℕ × ℕ)) (p : ℕ → Bool) → is_closed es p ≡ true → (e : ℕ × ℕ) → Among e es → p e.0 ≡ true → p e.1 ≡ true
ends_in [] p h e among at = absurd among
ends_in (x ∷ es) p h e (inl same) at =
    subst (λ (y : ℕ × ℕ). p y.0 ≡ true → p y.1 ≡ true) same (imp (p x.0) (p x.1) (and_parts (not (p x.0) || p x.1) (is_closed es p) h).0) at
ends_in (x ∷ es) p h e (inr among) at = ends_in es p (and_parts (not (p x.0) || p x.1) (is_closed es p) h).1 e among at

stays : (es : List (ℕ × ℕ)) (p : ℕ → Bool) → is_closed es p ≡ true → (path : List (ℕ × ℕ)) (u v : ℕ) → IsPath es path u v → p u ≡ true → p v ≡ true
stays es p closed [] u v h at = subst (λ w. p w ≡ true) h at
stays es p closed (e ∷ path) u v h at =
    stays es p closed path e.1 v h.2 (ends_in es p closed e h.0 (subst (λ w. p w ≡ true) (sym h.1) at))

-- a strand outside such a set is not reached from inside
pub not_reached : (es : List (ℕ × ℕ)) (p : ℕ → Bool) (u v : ℕ) → is_closed es p ≡ true → p u ≡ true → p v ≡ false → ReachesBy es u v → ⊥
not_reached es p u v closed at out r = let in_ : p v ≡ true = stays es p closed r.0 u v r.1 at in cc

-- places whose strands are joined do not race
pub joined_no_race : (h : List Event) (c i j : ℕ) (a b : Event) → slice_get h i ≡ Some a → slice_get h j ≡ Some b → AreJoined h a.strand b.strand
    → PlacesRace h c i j → ⊥
joined_no_race h c i j a b ea eb joined r =
    let sa : a ≡ r.events.0 = cc in
    let sb : b ≡ r.events.1 = cc in
    let P : Event → Event → Type 0 = λ x y. AreJoined h x.strand y.strand in
    r.events.4.apart (subst (λ x. P x r.events.1) sa (subst (λ y. P a y) sb joined))
