-- Reaching along edges that come in layers, the newest layer first.
use Rattle.std.proofs.Common.{◌≡◌, ℕ, ◌<◌, ◌≤◌, List, [], ◌∷◌, ◌++◌, ◌⊎◌, inl, inr, subst, sym, refl, ◌∙◌, arith}
use Rattle.fut_base.proofs.Members.{among_split, among_left, among_right}
use Rattle.fut_base.specs.Dag.{Among, IsPath, ReachesBy}

-- these edges lead from below n to one from n on and below m
pub record Up (n m : ℕ) (es : List (ℕ × ℕ)) : Type 0 where
  pub up : (a b : ℕ) → Among (a, b) es → (a < n) × (n ≤ b) × (b < m)
  pub grows : n ≤ m

-- n strands, and in each layer edges into strands that are new there
abbrev pub Ladder : List (List (ℕ × ℕ)) → ℕ → Type 0
Ladder [] m = Unit {0}
Ladder (es ∷ ess) m = (n : ℕ) × Ladder ess n × Up n m es

abbrev pub Far : List (List (ℕ × ℕ)) → ℕ → ℕ → Type 0
Far [] u v = u ≡ v
Far (es ∷ ess) u v = Far ess u v ⊎ ((p : ℕ) × Far ess u p × Among (p, v) es)

abbrev pub flat : List (List (ℕ × ℕ)) → List (ℕ × ℕ)
flat [] = []
flat (es ∷ ess) = flat ess ++ es

pub far_refl : (ess : List (List (ℕ × ℕ))) (u : ℕ) → Far ess u u
far_refl [] u = refl
far_refl (es ∷ ess) u = inl (far_refl ess u)

pub far_le : (ess : List (List (ℕ × ℕ))) (m : ℕ) → Ladder ess m → (u v : ℕ) → Far ess u v → (u ≡ v) ⊎ ((u < v) × (v < m))
far_le [] m l u v f = inl f
far_le (es ∷ ess) m l u v (inl f) =
    elim (far_le ess l.0 l.1 u v f) [
      | inl e ↦ inl e
      | inr b ↦ (let g : l.0 ≤ m = l.2.grows in inr (b.0, omega (arith, b.1)))
    ]
far_le (es ∷ ess) m l u v (inr f) =
    let k = l.2.up f.0 v f.2 in
    elim (far_le ess l.0 l.1 u f.0 f.1) [
      | inl e ↦ inr (omega (arith, k.0, k.1), k.2)
      | inr b ↦ inr (omega (arith, b.0, b.1, k.1), k.2)
    ]

pub far_old : (es : List (ℕ × ℕ)) (ess : List (List (ℕ × ℕ))) (n m : ℕ) → Up n m es → (u v : ℕ) → v < n → Far (es ∷ ess) u v → Far ess u v
far_old es ess n m l u v lt (inl f) = f
far_old es ess n m l u v lt (inr f) = let k = l.up f.0 v f.2 in absurd (omega (arith, k.1))

pub far_trans : (ess : List (List (ℕ × ℕ))) (m : ℕ) → Ladder ess m → (u v w : ℕ) → Far ess u v → Far ess v w → Far ess u w
far_trans [] m l u v w f g = f ∙ g
far_trans (es ∷ ess) m l u v w (inl f) (inl g) = inl (far_trans ess l.0 l.1 u v w f g)
far_trans (es ∷ ess) m l u v w (inl f) (inr g) = inr (g.0, far_trans ess l.0 l.1 u v g.0 f g.1, g.2)
far_trans (es ∷ ess) m l u v w (inr f) (inl g) =
    let k = l.2.up f.0 v f.2 in
    elim (far_le ess l.0 l.1 v w g) [
      | inl e ↦ subst (λ x. Far (es ∷ ess) u x) e (inr f)
      | inr b ↦ absurd (omega (arith, b.0, b.1, k.1))
    ]
far_trans (es ∷ ess) m l u v w (inr f) (inr g) =
    let k = l.2.up f.0 v f.2 in
    let j = l.2.up g.0 w g.2 in
    elim (far_le ess l.0 l.1 v g.0 g.1) [
      | inl e ↦ absurd (omega (arith, k.1, j.0))
      | inr b ↦ absurd (omega (arith, b.0, b.1, k.1))
    ]

path_more : (es fs : List (ℕ × ℕ)) (path : List (ℕ × ℕ)) (u v : ℕ) → IsPath es path u v → IsPath (es ++ fs) path u v
path_more es fs [] u v h = h
path_more es fs (x ∷ path) u v h = (among_left x es fs h.0, h.1, path_more es fs path x.1 v h.2)

path_end : (es : List (ℕ × ℕ)) (path : List (ℕ × ℕ)) (u p v : ℕ) → IsPath es path u p → Among (p, v) es → IsPath es (path ++ (p, v) ∷ []) u v
path_end es [] u p v h a = (a, sym h, refl)
path_end es (x ∷ path) u p v h a = (h.0, h.1, path_end es path x.1 p v h.2 a)

pub path_of_far : (ess : List (List (ℕ × ℕ))) (u v : ℕ) → Far ess u v → ReachesBy (flat ess) u v
path_of_far [] u v f = ([], f)
path_of_far (es ∷ ess) u v (inl f) = let r = path_of_far ess u v f in (r.0, path_more (flat ess) es r.0 u v r.1)
path_of_far (es ∷ ess) u v (inr f) =
    let r = path_of_far ess u f.0 f.1 in
    (r.0 ++ (f.0, v) ∷ [], path_end (flat ess ++ es) r.0 u f.0 v (path_more (flat ess) es r.0 u f.0 r.1) (among_right (f.0, v) (flat ess) es f.2))

pub edge_far : (ess : List (List (ℕ × ℕ))) (a b : ℕ) → Among (a, b) (flat ess) → Far ess a b
edge_far [] a b h = absurd h
edge_far (es ∷ ess) a b h = elim (among_split (a, b) (flat ess) es h) [ inl l ↦ inl (edge_far ess a b l) | inr r ↦ inr (a, far_refl ess a, r) ]

pub far_of_path : (ess : List (List (ℕ × ℕ))) (m : ℕ) → Ladder ess m → (path : List (ℕ × ℕ)) (u v : ℕ) → IsPath (flat ess) path u v → Far ess u v
far_of_path ess m l [] u v h = subst (λ x. Far ess u x) h (far_refl ess u)
far_of_path ess m l (x ∷ path) u v h =
    far_trans ess m l u x.1 v (subst (λ a. Far ess a x.1) h.1 (edge_far ess x.0 x.1 h.0)) (far_of_path ess m l path x.1 v h.2)
