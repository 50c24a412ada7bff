-- The two laws of the orders, over paths as lists of edges.
use Rattle.std.proofs.Common.{◌≡◌, ◌≢◌, ℕ, ◌<◌, true, List, [], ◌∷◌, inl, inr, subst, ap, sym, refl, ◌∙◌, arith}
use Rattle.std.proofs.lemmas.Bool.{and_from, and_parts}
use Rattle.fut_base.proofs.Members.{among_split, among_left, among_right}
use Rattle.fut_base.specs.declared.event.Event.{Event}
use Rattle.fut_base.specs.Dag.{Among, edges_past, IsPath, ReachesBy}
use Rattle.fut_base.specs.Orders.{precedes_past, stands_before, english_past, hebrew_past}
use Rattle.fut_base.specs.Sound.{IsSoundPast, IsWithin, InnerReaches, next_strand, home_of}
use Rattle.fut_base.proofs.Rising.{edges_rise}
use Rattle.strand_laws.specs.Laws.{PrecedesMeansPath, PathsStayInside}
use Rattle.strand_laws.proofs.Places.{before_place, place_before}
use Rattle.strand_laws.proofs.Far.{Far, flat, far_refl, far_trans, far_of_path, path_of_far, edge_far}
use Rattle.strand_laws.proofs.Frames.{layers, inner_layers, inner_by, inner_sub, ladder, inner_ladder, flat_layers}
use Rattle.strand_laws.proofs.Sources.{whole_en, whole_he}
use Rattle.strand_laws.proofs.Steps.{basics, inv}
use Rattle.strand_laws.proofs.Ways.{inside}

flat_sub : (past : List Event) (x : ℕ × ℕ) → Among x (flat (inner_layers past)) → Among x (edges_past past)
flat_sub [] x h = absurd h
flat_sub (e ∷ past) x h = elim (among_split x (flat (inner_layers past)) (inner_by past e.task e.strand e.action) h) [
  | inl l ↦ among_left x (edges_past past) _ (flat_sub past x l)
  | inr r ↦ among_right x (edges_past past) _ (inner_sub past e.task e.strand e.action x r)
]

path_in : (past : List Event) → IsSoundPast past → (f : ℕ) (path : List (ℕ × ℕ)) (u v : ℕ) → home_of past u ≡ f → IsPath (flat (inner_layers past)) path u v
    → IsPath (edges_past past) path u v × IsWithin past f path
path_in past sp f [] u v hu p = (p, tt)
path_in past sp f (x ∷ path) u v hu p =
    let h0 : home_of past x.0 ≡ f = ap (home_of past) p.1 ∙ hu in
    let h1 : home_of past x.0 ≡ home_of past x.1 =
    elim ((basics past sp).le x.0 x.1 (edge_far (inner_layers past) x.0 x.1 p.0)) [ inl e ↦ ap (home_of past) e | inr k ↦ k.2 ] in
    let r = path_in past sp f path x.1 v (sym h1 ∙ h0) p.2 in
    ((flat_sub past x p.0, p.1, r.0), (h0, sym h1 ∙ h0, r.1))

pub inner_of_far : (past : List Event) → IsSoundPast past → (u v : ℕ) → Far (inner_layers past) u v → InnerReaches past u v
inner_of_far past sp u v f =
    let r = path_of_far (inner_layers past) u v f in
    let k = path_in past sp (home_of past u) r.0 u v refl r.1 in
    (r.0, k.0, k.1)

pub far_of_reach : (past : List Event) → IsSoundPast past → (u v : ℕ) → ReachesBy (edges_past past) u v → Far (layers past) u v
far_of_reach past sp u v r =
    far_of_path (layers past) (next_strand past) (ladder past sp) r.0 u v (subst (λ es. IsPath es r.0 u v) (sym (flat_layers past)) r.1)

pub reach_of_far : (past : List Event) (u v : ℕ) → Far (layers past) u v → ReachesBy (edges_past past) u v
reach_of_far past u v f = subst (λ es. ReachesBy es u v) (flat_layers past) (path_of_far (layers past) u v f)

inner_edges : (past : List Event) → IsSoundPast past → (f : ℕ) (path : List (ℕ × ℕ)) (u v : ℕ) → IsPath (edges_past past) path u v → IsWithin past f path
    → Far (inner_layers past) u v
inner_edges past sp f [] u v p w = subst (λ z. Far (inner_layers past) u z) p (far_refl (inner_layers past) u)
inner_edges past sp f (x ∷ path) u v p w =
    let up = edges_rise past sp x.0 x.1 p.0 in
    let one : Far (layers past) x.0 x.1 = edge_far (layers past) x.0 x.1 (subst (λ es. Among x es) (sym (flat_layers past)) p.0) in
    let in_one : Far (inner_layers past) x.0 x.1 = inside past sp x.0 x.1 (omega (arith, up.0, up.1)) up.1 (w.0 ∙ sym w.1) one in
    far_trans (inner_layers past) (next_strand past) (inner_ladder past sp) u x.1 v (subst (λ z. Far (inner_layers past) z x.1) p.1 in_one)
    (inner_edges past sp f path x.1 v p.2 w.2)

pub far_of_inner : (past : List Event) → IsSoundPast past → (u v : ℕ) → InnerReaches past u v → Far (inner_layers past) u v
far_of_inner past sp u v r = inner_edges past sp (home_of past u) r.0 u v r.1 r.2

pub far_of_precedes : (past : List Event) → IsSoundPast past → (u v : ℕ) → u < next_strand past → v < next_strand past → home_of past u ≡ home_of past v
    → u ≢ v → precedes_past past u v ≡ true → Far (inner_layers past) u v
far_of_precedes past sp u v lu lv h ne p =
    let k = and_parts (stands_before u v (english_past past)) (stands_before u v (hebrew_past past)) p in
    ((inv past sp).means u v lu lv h ne).1 (before_place u v _ ne k.0) (before_place u v _ ne k.1)

pub precedes_of_far : (past : List Event) → IsSoundPast past → (u v : ℕ) → u < next_strand past → v < next_strand past → home_of past u ≡ home_of past v
    → u ≢ v → Far (inner_layers past) u v → precedes_past past u v ≡ true
precedes_of_far past sp u v lu lv h ne f =
    let k = ((inv past sp).means u v lu lv h ne).0 f in
    and_from _ _ (place_before u v _ ((whole_en past sp).all v lv) k.0) (place_before u v _ ((whole_he past sp).all v lv) k.1)

pub precedes_means_path : PrecedesMeansPath
precedes_means_path past sp u v a h ne = (
  λ p. inner_of_far past sp u v (far_of_precedes past sp u v a.one a.other h ne p),
  λ r. precedes_of_far past sp u v a.one a.other h ne (far_of_inner past sp u v r),
)

pub paths_stay_inside : PathsStayInside
paths_stay_inside past sp u v a h r = inner_of_far past sp u v (inside past sp u v a.one a.other h (far_of_reach past sp u v r))
