-- On sound lists each edge leads to a later strand.
use Rattle.std.proofs.Common.{◌≡◌, ℕ, ◌+◌, ◌<◌, ◌≤◌, Bool, true, false, List, [], ◌∷◌, inl, inr, subst, ap, arith}
use Rattle.std.specs.Prelude.{Option, Some, None, ◌==◌, ◌&&◌, if◌then◌else◌, IfSome, option_map}
use Rattle.std.specs.List.{cons_option}
use Rattle.fut_base.specs.Events.{Event, Action, Reads, Writes, Spawns, Creates, Syncs, Gets, Ends}
use Rattle.fut_base.specs.Dag.{edges_past, edges_by, joins, block_of, last_of, ends, Among, IsPath, ReachesBy}
use Rattle.fut_base.proofs.Members.{among_split}
use Rattle.fut_base.specs.Sound.{IsSoundPast, MayFollow, MayAct, current, current_by, next_strand, strands_by}

-- where there is a strand, it is below n
abbrev pub IsBelow : Option ℕ → ℕ → Type 0
IsBelow o n = IfSome o (λ s. s < n)

below_more : (o : Option ℕ) (n m : ℕ) → n ≤ m → IsBelow o n → IsBelow o m
below_more None n m le h = h
below_more (Some s) n m le h = omega arith

pick : (b : Bool) (o q : Option ℕ) (n : ℕ) → IsBelow o n → IsBelow q n → IsBelow (if b then o else q) n
pick true o q n h k = h
pick false o q n h k = k

current_by_below : (past : List Event) (t by : ℕ) (a : Action) (old : Option ℕ) → MayAct past by a → IsBelow old (next_strand past)
    → IsBelow (current_by by a t old) (next_strand past + strands_by a)
current_by_below past t by (Reads _ _) old h k = absurd h
current_by_below past t by (Writes _ _) old h k = absurd h
current_by_below past t by (Spawns _ child kid cont _) old h k =
    pick (t == by) (Some cont) _ _ (omega (arith, h.1, h.2)) (pick (t == child) (Some kid) old _ (omega (arith, h.1)) (below_more old _ _ (omega arith) k))
current_by_below past t by (Creates _ child kid cont _) old h k =
    pick (t == by) (Some cont) _ _ (omega (arith, h.1, h.2)) (pick (t == child) (Some kid) old _ (omega (arith, h.1)) (below_more old _ _ (omega arith) k))
current_by_below past t by (Syncs strand) old h k = pick (t == by) (Some strand) old _ (omega (arith, h.0)) (below_more old _ _ (omega arith) k)
current_by_below past t by (Gets _ _ strand) old h k = pick (t == by) (Some strand) old _ (omega (arith, h.0)) (below_more old _ _ (omega arith) k)
current_by_below past t by (Ends _) old h k = below_more old _ _ (omega arith) k

pub current_below : (past : List Event) → IsSoundPast past → (t : ℕ) → IsBelow (current past t) (next_strand past)
current_below [] s t = pick (t == 0) (Some 0) None 1 (omega arith) tt
current_below (e ∷ past) s t = current_by_below past t e.task e.action (current past t) s.1.acts (current_below past s.0 t)

-- the strand on which an event stands is there
pub stands_below : (past : List Event) (e : Event) → IsSoundPast past → MayFollow past e → e.strand < next_strand past
stands_below past e s m = subst (λ o. IsBelow o (next_strand past)) m.stands (current_below past s e.task)

pub last_below : (past : List Event) → IsSoundPast past → (t : ℕ) → IsBelow (last_of past t) (next_strand past)
last_below [] s t = tt
last_below (e ∷ past) s t =
    let at : e.strand < next_strand past = stands_below past e s.0 s.1 in
    pick ((t == e.task) && ends e.action) (Some e.strand) (last_of past t) _ (omega arith)
    (below_more (last_of past t) _ _ (omega arith) (last_below past s.0 t))

-- an action makes two strands at most
pub strands_few : (a : Action) → strands_by a ≤ 2
strands_few (Reads _ _) = omega arith
strands_few (Writes _ _) = omega arith
strands_few (Spawns _ _ _ _ _) = omega arith
strands_few (Creates _ _ _ _ _) = omega arith
strands_few (Syncs _) = omega arith
strands_few (Gets _ _ _) = omega arith
strands_few (Ends _) = omega arith

-- each edge leads from a strand below n to one from n on and below m
abbrev pub LeadsUp : ℕ → ℕ → List (ℕ × ℕ) → Type 0
LeadsUp n m es = (a b : ℕ) → Among (a, b) es → (a < n) × (n ≤ b) × (b < m)

cons_up : (n m strand : ℕ) → n ≤ strand → strand < m → (o : Option ℕ) → IsBelow o n → (rest : List (ℕ × ℕ)) → LeadsUp n m rest
    → LeadsUp n m (cons_option (option_map (λ last. (last, strand)) o) rest)
cons_up n m strand up lt None below rest h a b among = h a b among
cons_up n m strand up lt (Some l) below rest h a b (inl same) =
    let left : l ≡ a = ap (λ (p : ℕ × ℕ). p.0) same in
    let right : strand ≡ b = ap (λ (p : ℕ × ℕ). p.1) same in (omega arith, omega arith, omega arith)
cons_up n m strand up lt (Some l) below rest h a b (inr among) = h a b among

none_up : (n m : ℕ) → LeadsUp n m []
none_up n m a b among = absurd among

joins_up : (past : List Event) → IsSoundPast past → (ts : List ℕ) (m strand : ℕ) → next_strand past ≤ strand → strand < m
    → LeadsUp (next_strand past) m (joins past ts strand)
joins_up past s [] m strand up lt = none_up (next_strand past) m
joins_up past s (t ∷ ts) m strand up lt =
    cons_up (next_strand past) m strand up lt (last_of past t) (last_below past s t) (joins past ts strand) (joins_up past s ts m strand up lt)

one_up : (n m from to : ℕ) → from < n → n ≤ to → to < m → (rest : List (ℕ × ℕ)) → LeadsUp n m rest → LeadsUp n m ((from, to) ∷ rest)
one_up n m from to lt up below rest h = cons_up n m to up below (Some from) lt rest h

two_up : (n m from kid cont : ℕ) → from < n → n ≤ kid → kid < m → n ≤ cont → cont < m → LeadsUp n m ((from, kid) ∷ (from, cont) ∷ [])
two_up n m from kid cont lt k k' c c' =
    one_up n m from kid lt k k' ((from, cont) ∷ []) (one_up n m from cont lt c c' [] (none_up n m))

pub edges_by_up : (past : List Event) → IsSoundPast past → (task from : ℕ) (a : Action) → MayAct past task a → from < next_strand past
    → LeadsUp (next_strand past) (next_strand past + strands_by a) (edges_by past task from a)
edges_by_up past s task from (Reads _ _) h lt = absurd h
edges_by_up past s task from (Writes _ _) h lt = absurd h
edges_by_up past s task from (Spawns _ _ kid cont _) h lt =
    two_up _ _ from kid cont lt (omega (arith, h.1)) (omega (arith, h.1)) (omega (arith, h.1, h.2)) (omega (arith, h.1, h.2))
edges_by_up past s task from (Creates _ _ kid cont _) h lt =
    two_up _ _ from kid cont lt (omega (arith, h.1)) (omega (arith, h.1)) (omega (arith, h.1, h.2)) (omega (arith, h.1, h.2))
edges_by_up past s task from (Syncs strand) h lt =
    one_up _ _ from strand lt (omega (arith, h.0)) (omega (arith, h.0)) (joins past (block_of past task) strand)
    (joins_up past s (block_of past task) _ strand (omega (arith, h.0)) (omega (arith, h.0)))
edges_by_up past s task from (Gets future _ strand) h lt =
    one_up _ _ from strand lt (omega (arith, h.0)) (omega (arith, h.0)) (joins past (future ∷ []) strand)
    (joins_up past s (future ∷ []) _ strand (omega (arith, h.0)) (omega (arith, h.0)))
edges_by_up past s task from (Ends _) h lt = none_up _ _

pub edges_rise : (past : List Event) → IsSoundPast past → (a b : ℕ) → Among (a, b) (edges_past past) → (a < b) × (b < next_strand past)
edges_rise [] s a b among = absurd among
edges_rise (e ∷ past) s a b among =
    elim (among_split (a, b) (edges_past past) (edges_by past e.task e.strand e.action) among) [
      | inl old ↦ (let r = edges_rise past s.0 a b old in (r.0, omega (arith, r.1)))
      | inr new ↦ (
          let up = edges_by_up past s.0 e.task e.strand e.action s.1.acts (stands_below past e s.0 s.1) a b new in
          (omega (arith, up.0, up.1), up.2))
    ]

path_rises : (past : List Event) → IsSoundPast past → (path : List (ℕ × ℕ)) (u v : ℕ) → IsPath (edges_past past) path u v → u ≤ v
path_rises past s [] u v h = omega (arith, h)
path_rises past s (x ∷ path) u v h =
    let r = edges_rise past s x.0 x.1 h.0 in
    omega (arith, r.0, h.1, path_rises past s path x.1 v h.2)

path_stays : (past : List Event) (e : Event) → IsSoundPast (e ∷ past) → (path : List (ℕ × ℕ)) (u v : ℕ) → v < next_strand past
    → IsPath (edges_past (e ∷ past)) path u v → IsPath (edges_past past) path u v
path_stays past e s [] u v lt h = h
path_stays past e s (x ∷ path) u v lt h =
    elim (among_split x (edges_past past) (edges_by past e.task e.strand e.action) h.0) [
      | inl old ↦ (old, h.1, path_stays past e s path x.1 v lt h.2)
      | inr new ↦ (
          let up = edges_by_up past s.0 e.task e.strand e.action s.1.acts (stands_below past e s.0 s.1) x.0 x.1 new in
          let rises = path_rises (e ∷ past) s path x.1 v h.2 in
          absurd (omega (arith, up.1, rises)))
    ]

pub paths_stay : (past : List Event) (e : Event) → IsSoundPast (e ∷ past) → (u v : ℕ) → v < next_strand past → ReachesBy (edges_past (e ∷ past)) u v
    → ReachesBy (edges_past past) u v
paths_stay past e s u v lt r = (r.0, path_stays past e s r.0 u v lt r.1)
