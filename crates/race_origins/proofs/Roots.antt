-- The first strand reaches each on which a task stands.
use Rattle.std.proofs.Common.{◌≡◌, ℕ, List, [], ◌∷◌, ◌++◌, reverse, inl, inr, sym, ap, subst, refl}
use Rattle.std.specs.Prelude.{Some, slice_get}
use Rattle.std.proofs.lemmas.List.{reverse-append}
use Rattle.fut_base.proofs.Members.{among_left, among_right}
use Rattle.fut_base.specs.declared.event.Event.{Event}
use Rattle.fut_base.specs.declared.event.Action.{Action}
use Rattle.fut_base.specs.declared.event.Action.TheVariants.{Reads, Writes, Spawns, Creates, Syncs, Gets, Ends}
use Rattle.fut_base.specs.Dag.{Among, IsPath, ReachesBy, Reaches, edges_by, edges_past}
use Rattle.fut_base.specs.Sound.{current}
use Rattle.race_origins.specs.Laws.{AreStanding, IsInStep, PartingStands}
use Rattle.race_origins.proofs.Standing.{IsNewAt, current_cases, start_is}
use Rattle.race_origins.proofs.Cutting.{cut, rest_standing, standing_at}

-- a path with one more edge at its end
longer : (es path : List (ℕ × ℕ)) (u v w : ℕ) → IsPath es path u v → Among (v, w) es → ReachesBy es u w
longer es [] u v w h edge = ((v, w) ∷ [], (edge, sym h, refl))
longer es (e ∷ path) u v w h edge = let r = longer es path e.1 v w h.2 edge in (e ∷ r.0, (h.0, h.1, r.1))

path_wider : (es fs path : List (ℕ × ℕ)) (u v : ℕ) → IsPath es path u v → IsPath (es ++ fs) path u v
path_wider es fs [] u v h = h
path_wider es fs (e ∷ path) u v h = (among_left e es fs h.0, h.1, path_wider es fs path e.1 v h.2)

wider : (es fs : List (ℕ × ℕ)) (u v : ℕ) → ReachesBy es u v → ReachesBy (es ++ fs) u v
wider es fs u v r = (r.0, path_wider es fs r.0 u v r.1)

-- more events take no path away
later_reaches : (later past : List Event) (u v : ℕ) → ReachesBy (edges_past past) u v → ReachesBy (edges_past (later ++ past)) u v
later_reaches [] past u v r = r
later_reaches (e ∷ later) past u v r =
    wider (edges_past (later ++ past)) (edges_by (later ++ past) e.task e.strand e.action) u v (later_reaches later past u v r)

-- an edge leads to each strand that an action begins
new_edge : (past : List Event) (by s : ℕ) (a : Action) (t x : ℕ) → IsNewAt by a t x → Among (s, x) (edges_by past by s a)
new_edge past by s (Reads _ _) t x h = absurd h
new_edge past by s (Writes _ _) t x h = absurd h
new_edge past by s (Spawns _ _ _ _ _) t x (inl at) = inr (inl (ap (λ y. (s, y)) (sym at.1)))
new_edge past by s (Spawns _ _ _ _ _) t x (inr at) = inl (ap (λ y. (s, y)) (sym at.1))
new_edge past by s (Creates _ _ _ _ _) t x (inl at) = inr (inl (ap (λ y. (s, y)) (sym at.1)))
new_edge past by s (Creates _ _ _ _ _) t x (inr at) = inl (ap (λ y. (s, y)) (sym at.1))
new_edge past by s (Syncs _) t x at = inl (ap (λ y. (s, y)) (sym at.1))
new_edge past by s (Gets _ _ _) t x at = inl (ap (λ y. (s, y)) (sym at.1))
new_edge past by s (Ends _) t x h = absurd h

rooted : (past : List Event) → AreStanding past → (t s : ℕ) → current past t ≡ Some s → ReachesBy (edges_past past) 0 s
rooted [] st t s h = ([], sym (start_is t s h).1)
rooted (e ∷ past) st t s h =
    let es = edges_past past in
    let own = edges_by past e.task e.strand e.action in
    elim (current_cases e.task e.action t (current past t) s h) [
      | inl new ↦ (
          let here = wider es own 0 e.strand (rooted past st.0 e.task e.strand st.1) in
          longer (es ++ own) here.0 0 e.strand s here.1 (among_right (e.strand, s) es own (new_edge past e.task e.strand e.action t s new)))
      | inr old ↦ wider es own 0 s (rooted past st.0 t s old.1)
    ]

-- the first strand reaches that of each entry
from_first : (h : List Event) → IsInStep h → (j : ℕ) (d : Event) → slice_get h j ≡ Some d → Reaches h 0 d.strand
from_first h ok j d at =
    let c = cut h j d at in
    let st = standing_at h ok j d at in
    let here = wider (edges_past c.before) (edges_by c.before d.task d.strand d.action) 0 d.strand (rooted c.before st.0 d.task d.strand st.1) in
    subst (λ past. ReachesBy (edges_past past) 0 d.strand) (sym c.is) (later_reaches c.later (d ∷ c.before) 0 d.strand here)

-- the first entry stands on it
first_stands : (x : Event) (h : List Event) → IsInStep (x ∷ h) → x.strand ≡ 0
first_stands x h ok =
    (start_is x.task x.strand (rest_standing (reverse h) (x ∷ []) (subst AreStanding (reverse-append (x ∷ []) h) ok.standing)).1).1

pub parting_stands : PartingStands
parting_stands [] i j a b ok at there none = cc
parting_stands (x ∷ h) i j a b ok at there none =
    let first = sym (first_stands x h ok) in
    none 0 x refl (record {
      one = subst (λ s. Reaches (x ∷ h) s a.strand) first (from_first (x ∷ h) ok i a at);
      other = subst (λ s. Reaches (x ∷ h) s b.strand) first (from_first (x ∷ h) ok j b there);
    })
