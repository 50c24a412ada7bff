-- Paths back to a strand.
use Rattle.std.proofs.Common.{◌≡◌, ℕ, ◌<◌, Bool, true, List, [], ◌∷◌, length, get_or, map, inl, inr, sym, subst, refl, ap}
use Rattle.std.specs.Prelude.{All}
use Rattle.std.proofs.lemmas.List.Elements.{All-head, All-tail}
use Rattle.fut_base.proofs.Members.{at_place}
use Rattle.fut_base.specs.Dag.{Among, IsPath, ReachesBy}
use Rattle.race_origins.specs.declared.edges.Edge.{Edge}
use Rattle.race_origins.specs.Edges.{ends_of}

among_map : {X Y : Type 0} (f : X → Y) (x : X) (xs : List X) → Among x xs → Among (f x) (map f xs)
among_map f x [] h = absurd h
among_map f x (y ∷ xs) (inl same) = inl (ap f same)
among_map f x (y ∷ xs) (inr h) = inr (among_map f x xs h)

-- an edge in front of a path
pub reaches_back : (edges : List Edge) (i : ℕ) (d : Edge) (end : ℕ) → i < length edges → ReachesBy (map ends_of edges) (get_or edges i d).to end
    → ReachesBy (map ends_of edges) (get_or edges i d).from end
reaches_back edges i d end lt r =
    let e = get_or edges i d in
    (ends_of e ∷ r.0, (among_map ends_of e edges (at_place edges i d lt), refl, r.1))

-- an edge that leads to a strand of the set begins at one
abbrev pub LeadsInside : (ℕ → Bool) → Edge → Type 0
LeadsInside p e = p e.to ≡ true → p e.from ≡ true

begins_inside : (edges : List Edge) (p : ℕ → Bool) → All (LeadsInside p) edges → (a b : ℕ) → Among (a, b) (map ends_of edges) → p b ≡ true → p a ≡ true
begins_inside [] p closed a b h at = absurd h
begins_inside (e ∷ edges) p closed a b (inl same) at =
    subst (λ (q : ℕ × ℕ). p q.1 ≡ true → p q.0 ≡ true) same (All-head (LeadsInside p) e edges closed) at
begins_inside (e ∷ edges) p closed a b (inr h) at = begins_inside edges p (All-tail (LeadsInside p) e edges closed) a b h at

path_inside : (edges : List Edge) (p : ℕ → Bool) → All (LeadsInside p) edges → (path : List (ℕ × ℕ)) (u v : ℕ) → IsPath (map ends_of edges) path u v
    → p v ≡ true → p u ≡ true
path_inside edges p closed [] u v h at = subst (λ w. p w ≡ true) (sym h) at
path_inside edges p closed (e ∷ path) u v h at =
    subst (λ w. p w ≡ true) h.1 (begins_inside edges p closed e.0 e.1 h.0 (path_inside edges p closed path e.1 v h.2 at))

-- no path leads into such a set from outside
pub comes_from_inside : (edges : List Edge) (p : ℕ → Bool) → All (LeadsInside p) edges → (u v : ℕ) → ReachesBy (map ends_of edges) u v
    → p v ≡ true → p u ≡ true
comes_from_inside edges p closed u v r at = path_inside edges p closed r.0 u v r.1 at
