-- Paths that are made longer at the end, turned round, or kept inside a closed set.
use Rattle.std.proofs.Common.{◌≡◌, ℕ, ◌<◌, Bool, true, List, [], ◌∷◌, length, get_or, map, reverse, inl, inr, sym, subst, refl, ap}
use Rattle.std.specs.Prelude.{All, IsTrue, ◌↔◌, ◌||◌}
use Rattle.std.proofs.lemmas.Bool.{or_cases, or_left, or_right}
use Rattle.std.proofs.lemmas.List.{reverse-append, reverse-reverse}
use Rattle.std.proofs.lemmas.List.Elements.{All-head, All-tail}
use Rattle.fut_base.proofs.Members.{among_left, among_right, at_place}
use Rattle.fut_base.specs.Dag.{Among, IsPath, ReachesBy, AreJoinedBy}
use Rattle.race_report.specs.declared.edges.Edge.{Edge}
use Rattle.race_report.specs.Edges.{ends_of, turn}

among_reverse : {X : Type 0} (x : X) (xs : List X) → Among x xs → Among x (reverse xs)
among_reverse x [] h = absurd h
among_reverse x (y ∷ xs) h =
    subst (λ l. Among x l) (sym (reverse-append (y ∷ []) xs)) (elim h [
      | inl same ↦ among_right x (reverse xs) (y ∷ []) (inl same)
      | inr old ↦ among_left x (reverse xs) (y ∷ []) (among_reverse x xs old)
    ])

among_map : {X Y : Type 0} (f : X → Y) (x : X) (xs : List X) → Among x xs → Among (f x) (map f xs)
among_map f x [] h = absurd h
among_map f x (y ∷ xs) (inl same) = inl (ap f same)
among_map f x (y ∷ xs) (inr h) = inr (among_map f x xs h)

among_from_map : {X Y : Type 0} (f : X → Y) (y : Y) (xs : List X) → Among y (map f xs) → (x : X) × Among x xs × (f x ≡ y)
among_from_map f y [] h = absurd h
among_from_map f y (x ∷ xs) (inl same) = (x, inl refl, same)
among_from_map f y (x ∷ xs) (inr h) = let r = among_from_map f y xs h in (r.0, inr r.1, r.2)

-- what holds of each item holds of each that is among them
pub all_among : {X : Type 0} (P : X → Type 0) (xs : List X) → All P xs → (x : X) → Among x xs → P x
all_among P [] all x h = absurd h
all_among P (y ∷ xs) all x (inl same) = subst P same (All-head P y xs all)
all_among P (y ∷ xs) all x (inr h) = all_among P xs (All-tail P y xs all) x h

-- a path with one more edge at its end
longer : (es path : List (ℕ × ℕ)) (u v w : ℕ) → IsPath es path u v → Among (v, w) es → ReachesBy es u w
longer es [] u v w h edge = ((v, w) ∷ [], (edge, sym h, refl))
longer es (e ∷ path) u v w h edge = let r = longer es path e.1 v w h.2 edge in (e ∷ r.0, (h.0, h.1, r.1))

pub reaches_more : (es : List (ℕ × ℕ)) (u v w : ℕ) → ReachesBy es u v → Among (v, w) es → ReachesBy es u w
reaches_more es u v w r edge = longer es r.0 u v w r.1 edge

-- each edge of the one stands turned round in the other
abbrev pub TurnsInto : List (ℕ × ℕ) → List (ℕ × ℕ) → Type 0
TurnsInto es fs = (a b : ℕ) → Among (a, b) es → Among (b, a) fs

turn_path : (es fs : List (ℕ × ℕ)) → TurnsInto es fs → (path : List (ℕ × ℕ)) (u v : ℕ) → IsPath es path u v → ReachesBy fs v u
turn_path es fs turns [] u v h = ([], sym h)
turn_path es fs turns (e ∷ path) u v h =
    subst (λ x. ReachesBy fs v x) h.1 (reaches_more fs v e.1 e.0 (turn_path es fs turns path e.1 v h.2) (turns e.0 e.1 h.0))

turned_onward : (edges : List Edge) → TurnsInto (map ends_of edges) (map ends_of (map turn (reverse edges)))
turned_onward edges a b h =
    let r = among_from_map ends_of (a, b) edges h in
    subst (λ (p : ℕ × ℕ). Among (p.1, p.0) (map ends_of (map turn (reverse edges)))) r.2
    (among_map ends_of (turn r.0) (map turn (reverse edges)) (among_map turn r.0 (reverse edges) (among_reverse r.0 edges r.1)))

turned_back : (edges : List Edge) → TurnsInto (map ends_of (map turn (reverse edges))) (map ends_of edges)
turned_back edges a b h =
    let r = among_from_map ends_of (a, b) (map turn (reverse edges)) h in
    let s = among_from_map turn r.0 (reverse edges) r.1 in
    let there : Among s.0 edges = subst (λ l. Among s.0 l) (reverse-reverse edges) (among_reverse s.0 (reverse edges) s.1) in
    let ends : ends_of (turn s.0) ≡ (a, b) = subst (λ e. ends_of e ≡ (a, b)) (sym s.2) r.2 in
    subst (λ (p : ℕ × ℕ). Among (p.1, p.0) (map ends_of edges)) ends (among_map ends_of s.0 edges there)

-- a path back is a path of the edges turned round
pub reaches_back : (edges : List Edge) (u v : ℕ) → ReachesBy (map ends_of (map turn (reverse edges))) u v → ReachesBy (map ends_of edges) v u
reaches_back edges u v r = turn_path _ (map ends_of edges) (turned_back edges) r.0 u v r.1

pub reaches_turned : (edges : List Edge) (u v : ℕ) → ReachesBy (map ends_of edges) v u → ReachesBy (map ends_of (map turn (reverse edges))) u v
reaches_turned edges u v r = turn_path _ _ (turned_onward edges) r.0 v u r.1

path_inside : (steps : List Edge) (p : ℕ → Bool) → All (λ (e : Edge). p e.from ≡ true → p e.to ≡ true) steps → (path : List (ℕ × ℕ)) (u v : ℕ)
    → IsPath (map ends_of steps) path u v → p u ≡ true → p v ≡ true
path_inside steps p closed [] u v h at = subst (λ w. p w ≡ true) h at
path_inside steps p closed (e ∷ path) u v h at =
    let r = among_from_map ends_of e steps h.0 in
    let P : Edge → Type 0 = λ s. p s.from ≡ true → p s.to ≡ true in
    let step : p r.0.from ≡ true → p r.0.to ≡ true = all_among P steps closed r.0 r.1 in
    let moved : p e.0 ≡ true → p e.1 ≡ true = subst (λ (q : ℕ × ℕ). p q.0 ≡ true → p q.1 ≡ true) r.2 step in
    path_inside steps p closed path e.1 v h.2 (moved (subst (λ w. p w ≡ true) (sym h.1) at))

-- no path leads out of a closed set
pub stays_inside : (steps : List Edge) (p : ℕ → Bool) → All (λ (e : Edge). p e.from ≡ true → p e.to ≡ true) steps → (u v : ℕ)
    → ReachesBy (map ends_of steps) u v → p u ≡ true → p v ≡ true
stays_inside steps p closed u v r at = path_inside steps p closed r.0 u v r.1 at

pub edge_among : (steps : List Edge) (i : ℕ) (d e : Edge) → i < length steps → e ≡ get_or steps i d → Among (e.from, e.to) (map ends_of steps)
edge_among steps i d e h is = among_map ends_of e steps (subst (λ x. Among x steps) (sym is) (at_place steps i d h))

-- what a search back and one onward have together is what is joined
pub joined_iff : (edges : List Edge) (before after : ℕ → Bool) (at : ℕ) →
    ((v : ℕ) → IsTrue (before v) ↔ ReachesBy (map ends_of (map turn (reverse edges))) at v)
    → ((v : ℕ) → IsTrue (after v) ↔ ReachesBy (map ends_of edges) at v) → (v : ℕ) → IsTrue (before v || after v) ↔ AreJoinedBy (map ends_of edges) v at
joined_iff edges before after at back on v = (
  (λ h. elim (or_cases (before v) (after v) h) [ inl b ↦ inl (reaches_back edges at v ((back v).0 b)) | inr a ↦ inr ((on v).0 a) ]),
  (λ j. elim j [
    | inl r ↦ or_left (before v) (after v) ((back v).1 (reaches_turned edges at v r))
    | inr r ↦ or_right (before v) (after v) ((on v).1 r)
  ]),
)
