-- Closed sets of places are closed under paths.
use Rattle.std.proofs.Common.{◌≡◌, ℕ, ◌<◌, ◌≤◌, Bool, true, false, cond, List, [], ◌∷◌, length, reverse}
use Rattle.std.proofs.Common.{◌⊎◌, inl, inr, refl, sym, ap, ◌∙◌, subst, arith, if◌then◌else◌, ◌==◌}
use Rattle.std.specs.Prelude.{Some, None, option_map}
use Rattle.std.proofs.lemmas.Bool.{cases_eq}
use Rattle.fut_base.specs.declared.record.Value.{Value}
use Rattle.fut_base.specs.declared.event.Event.{Event}
use Rattle.fut_base.specs.declared.event.Action.{Action}
use Rattle.fut_base.specs.declared.event.Action.TheVariants.{Reads, Writes, Spawns, Creates, Syncs, Gets, Ends}
use Rattle.fut_base.specs.Events.{structural}
use Rattle.fut_base.specs.Dag.{Among, edges_by, edges_past, block_of, block_after, last_of}
use Rattle.fut_base.specs.Sound.{IsSoundPast, MayFollow, current, next_strand, next_task}
use Rattle.fut_syntax.specs.Trees as tree
use Rattle.task_machine.specs.Machine.{Machine}
use Rattle.strand_laws.proofs.Far.{Far, far_old}
use Rattle.strand_laws.proofs.Worlds.{Task}
use Rattle.strand_laws.proofs.Holding.{opened, begun, moved}
use Rattle.strand_laws.proofs.Frames.{advanced, frame, own_of, layers, layer_up}
use Rattle.strand_laws.proofs.Links.{linked, acting, ev, if_self}
use Rattle.strand_laws.proofs.Sources.{joins_from, last_is}
use Rattle.strand_laws.proofs.Steps.{inv}
use Rattle.strand_laws.proofs.Trees.{all_tasks}
use Rattle.strand_laws.proofs.Held.{is_task}
use Rattle.strand_laws.proofs.Ways.{far_edge}
use Rattle.strand_laws.proofs.Inside.{far_of_reach, reach_of_far}
use Rattle.strand_laws.proofs.Early.{sync_cur, else_same, kid_spawn, kid_create}
use Rattle.strand_laws.proofs.Still.{current_ends_paths}
use Rattle.strand_laws.proofs.Structure.{reverse_filter, structure_has_edges, next_grows, sound_rest}
use Rattle.access_shards.specs.Histories.{IsStanding, AreStanding}
use Rattle.access_shards.proofs.Histories.{Stood, stood_lt, stood_of, same_current, same_last}
use Rattle.run_laws.proofs.Pasts.{Came, came, kept_of}
use Rattle.run_laws.proofs.Mirrored.{came_mirrors}
use Rattle.run_laws.proofs.Sound.{came_sound}
use Rattle.clean_laws.specs.Closed.{Makes, HasAll, HasAllOf, waited_by, waited, IsDue, IsClosed}
use Rattle.clean_laws.specs.Laws.{ClosedUnderPaths}

-- ---- what a step says of a sound list

-- accesses change no block
block_next : (past : List Event) → ((t : ℕ) → block_of (kept_of past) t ≡ block_of past t) → (task s : ℕ) (a : Action) (t : ℕ)
    → block_of (kept_of (ev task s a ∷ past)) t ≡ block_of (ev task s a ∷ past) t
block_next past ih task s (Reads c n) t = ih t ∙ sym (same (t == task) (block_of past t))
  where
    same : (b : Bool) (x : List ℕ) → (if b then x else x) ≡ x
    same true x = refl
    same false x = refl
block_next past ih task s (Writes c n) t = ih t ∙ sym (same (t == task) (block_of past t))
  where
    same : (b : Bool) (x : List ℕ) → (if b then x else x) ≡ x
    same true x = refl
    same false x = refl
block_next past ih task s (Spawns d c k y args) t = ap (λ o. if t == task then block_after (Spawns d c k y args) o else o) (ih t)
block_next past ih task s (Creates d c k y args) t = ap (λ o. if t == task then block_after (Creates d c k y args) o else o) (ih t)
block_next past ih task s (Syncs x) t = ap (λ o. if t == task then block_after (Syncs x) o else o) (ih t)
block_next past ih task s (Gets f v x) t = ap (λ o. if t == task then block_after (Gets f v x) o else o) (ih t)
block_next past ih task s (Ends v) t = ap (λ o. if t == task then block_after (Ends v) o else o) (ih t)

pub same_block : (past : List Event) (t : ℕ) → block_of (kept_of past) t ≡ block_of past t
same_block [] t = refl
same_block (e ∷ past) t = block_next past (same_block past) e.task e.strand e.action t

-- where a task stands after an action: as before, or on a new strand
abbrev pub Standing : List Event → ℕ → ℕ → Action → ℕ → Type 0
Standing past t s a q = ((q < next_task past) × ((frame (ev t s a ∷ past) q).cur ≡ (frame past q).cur))
    ⊎ ((next_strand past ≤ (frame (ev t s a ∷ past) q).cur) × ((t ≡ q) ⊎ Makes a q))

module _ (past : List Event) (sp : IsSoundPast past) (t s : ℕ) where
  own_place : (a : Action) (m : MayFollow past (ev t s a)) → Standing past t s a t
  own_place (Reads _ _) m = absurd m.acts
  own_place (Writes _ _) m = absurd m.acts
  own_place (Spawns code c k y args) m =
      let q = ap (λ (z : Task). z.cur)
      (if_self t (opened s c y k (frame past t)) (if t == c then begun k (frame past t).fut t else moved s k (frame past t))) in
      inr (omega (arith, q, m.acts.1, m.acts.2), inl refl)
  own_place (Creates code c k y args) m =
      let q = ap (λ (z : Task). z.cur) (if_self t (advanced s y (frame past t)) (if t == c then begun k c t else moved s y (frame past t))) in
      inr (omega (arith, q, m.acts.1, m.acts.2), inl refl)
  own_place (Syncs x) m = inr (omega (arith, sync_cur past sp t s x (frame past t).block, m.acts.0), inl refl)
  own_place (Gets f g x) m = inr (omega (arith, sync_cur past sp t s x [], m.acts.0), inl refl)
  own_place (Ends v) m = inl
      ((acting past t s (linked past sp) (Ends v) m).0, ap (λ (z : Task). z.cur) (if_self t (record (frame past t) { ended = true }) (frame past t)))

  kid_place : (a : Action) (m : MayFollow past (ev t s a)) (q : ℕ) → q ≡ next_task past → q < next_task (ev t s a ∷ past) → Standing past t s a q
  kid_place (Reads _ _) m q e l = absurd m.acts
  kid_place (Writes _ _) m q e l = absurd m.acts
  kid_place (Spawns code c k y args) m q e l =
      let k1 = kid_spawn past sp t s code c k y args m in
      inr (
        subst (λ z. next_strand past ≤ (frame (ev t s (Spawns code c k y args) ∷ past) z).cur) (m.acts.0 ∙ sym e) (omega (arith, k1, m.acts.1)),
        inr (m.acts.0 ∙ sym e),
      )
  kid_place (Creates code c k y args) m q e l =
      let k1 = kid_create past sp t s code c k y args m in
      inr (
        subst (λ z. next_strand past ≤ (frame (ev t s (Creates code c k y args) ∷ past) z).cur) (m.acts.0 ∙ sym e) (omega (arith, k1, m.acts.1)),
        inr (m.acts.0 ∙ sym e),
      )
  kid_place (Syncs x) m q e l = absurd (omega arith)
  kid_place (Gets f g x) m q e l = absurd (omega arith)
  kid_place (Ends v) m q e l = absurd (omega arith)

  pub placed : (a : Action) (m : MayFollow past (ev t s a)) (q : ℕ) → q < next_task (ev t s a ∷ past) → Standing past t s a q
  placed a m q l = elim (cases_eq q t) [
    | inl e ↦ subst (λ z. Standing past t s a z) (sym e) (own_place a m)
    | inr ne ↦ elim (all_tasks past sp t s a m q l) [
      | inl o ↦ inl (o, else_same past sp t s a m q o ne)
      | inr n ↦ kid_place a m q n.0 l
    ]
  ]

  -- an edge begins on the strand of the event, or on the last one of a task for which it waited
  source : (a : Action) (m : MayFollow past (ev t s a)) (p v : ℕ) → Among (p, v) (edges_by past t s a)
      → (s ≡ p) ⊎ ((d : ℕ) × Among d (waited_by (block_of past t) a) × (last_of past d ≡ Some p))
  source (Reads _ _) m p v h = absurd h
  source (Writes _ _) m p v h = absurd h
  source (Spawns _ _ _ _ _) m p v (inl q) = inl (ap (λ (z : ℕ × ℕ). z.0) q)
  source (Spawns _ _ _ _ _) m p v (inr (inl q)) = inl (ap (λ (z : ℕ × ℕ). z.0) q)
  source (Spawns _ _ _ _ _) m p v (inr (inr q)) = absurd q
  source (Creates _ _ _ _ _) m p v (inl q) = inl (ap (λ (z : ℕ × ℕ). z.0) q)
  source (Creates _ _ _ _ _) m p v (inr (inl q)) = inl (ap (λ (z : ℕ × ℕ). z.0) q)
  source (Creates _ _ _ _ _) m p v (inr (inr q)) = absurd q
  source (Syncs x) m p v (inl q) = inl (ap (λ (z : ℕ × ℕ). z.0) q)
  source (Syncs x) m p v (inr q) = let j = joins_from past (block_of past t) x p v q in inr (j.1.0, j.1.1, j.1.2)
  source (Gets f g x) m p v (inl q) = inl (ap (λ (z : ℕ × ℕ). z.0) q)
  source (Gets f g x) m p v (inr q) = let j = joins_from past (f ∷ []) x p v q in inr (j.1.0, j.1.1, j.1.2)
  source (Ends _) m p v h = absurd h

-- ---- the induction

has_of : (places : List ℕ) (past : List Event) (ts : List ℕ) (t : ℕ) → Among t ts → HasAllOf places past ts → HasAll places past t
has_of places past [] t a h = absurd a
has_of places past (x ∷ ts) t (inl e) h = subst (HasAll places past) e h.0
has_of places past (x ∷ ts) t (inr a) h = has_of places past ts t a h.1

-- the strand of an event is one of the structure
module _ (past : List Event) (e : Event) (sound : IsSoundPast (kept_of past)) (standing : IsStanding past e) where
  cur_here : current (kept_of past) e.task ≡ Some e.strand
  cur_here = same_current past e.task ∙ standing.stands

  run_here : last_of (kept_of past) e.task ≡ None
  run_here = same_last past e.task ∙ standing.running

  -- the acting task, in the frames
  frame_here : (e.task < next_task (kept_of past)) × ((frame (kept_of past) e.task).cur ≡ e.strand)
  frame_here = (linked (kept_of past) sound).cur e.task e.strand cur_here

  pub strand_lt : e.strand < next_strand (kept_of past)
  strand_lt = let c = ((inv (kept_of past) sound).each e.task frame_here.0).cur_in in subst (λ z. z < next_strand (kept_of past)) frame_here.1 c

pub strand_in : (past : List Event) → IsSoundPast (kept_of past) → AreStanding past → (i : ℕ) (d : Event) → Stood past i d
    → d.strand < next_strand (kept_of past)
strand_in [] sound standing i d h = absurd h
strand_in (x ∷ past) sound standing i d (inl h) =
    let rest = sound_rest (structural x.action) x (kept_of past) sound in
    let lt = strand_lt past x rest standing.1 in
    let le = next_grows (structural x.action) x (kept_of past) in
    let same = ap (λ (y : Event). y.strand) h.1 in
    omega (arith, lt, le, same)
strand_in (x ∷ past) sound standing i d (inr h) =
    let lt = strand_in past (sound_rest (structural x.action) x (kept_of past) sound) standing.0 i d h in
    let le = next_grows (structural x.action) x (kept_of past) in
    omega (arith, lt, le)

-- from the strand of an event to that on which a task stands: the event is among the places that concern the task
abbrev pub Covers : List ℕ → List Event → Type 0
Covers places past = (t i : ℕ) (d : Event) → t < next_task (kept_of past) → Stood past i d → Far (layers (kept_of past)) d.strand (frame (kept_of past) t).cur
    → HasAll places past t → Among i places

module _ (places : List ℕ) (past : List Event) (e : Event) (sound : IsSoundPast (kept_of past)) (all : AreStanding past) (standing : IsStanding past e)
    (due : Among (length past) places → IsDue places past e) (ih : Covers places past) where
  -- the task stands where it stood before the event
  stay : (t i : ℕ) (d : Event) → t < next_task (kept_of past) → Stood (e ∷ past) i d → Far (layers (kept_of past)) d.strand (frame (kept_of past) t).cur
      → HasAll places (e ∷ past) t → Among i places
  stay t i d l (inl h) f has =
      let here = frame_here past e sound standing in
      let from : Far (layers (kept_of past)) e.strand (frame (kept_of past) t).cur =
      subst (λ (z : Event). Far (layers (kept_of past)) z.strand (frame (kept_of past) t).cur) (sym h.1) f in
      let same : (frame (kept_of past) t).cur ≡ e.strand =
      current_ends_paths (kept_of past) sound e.task e.strand (frame (kept_of past) t).cur (cur_here past e sound standing) (run_here past e sound standing)
      (reach_of_far (kept_of past) e.strand (frame (kept_of past) t).cur from) in
      let one : e.task ≡ t = sym ((inv (kept_of past) sound).each e.task here.0).owns ∙ ap (own_of (kept_of past)) (here.1 ∙ sym same)
      ∙ ((inv (kept_of past) sound).each t l).owns in
      subst (λ z. Among z places) h.0 (has.1 (inl one))
  stay t i d l (inr h) f has = ih t i d l h f has.0

  -- a path to a new strand comes from the event
  comes : (may : MayFollow (kept_of past) e) (i : ℕ) (d : Event) (v : ℕ) → next_strand (kept_of past) ≤ v → Stood (e ∷ past) i d
      → Far (layers (e ∷ kept_of past)) d.strand v → Among (length past) places → Among i places
  comes may i d v new (inl h) f among = subst (λ z. Among z places) h.0 among
  comes may i d v new (inr h) f among =
      let here = frame_here past e sound standing in
      elim (far_edge (kept_of past) sound e.task e.strand e.action may d.strand v new f) [
        | inl same ↦ absurd (let lt = strand_in past sound all i d h in omega (arith, lt, same, new))
        | inr k ↦ elim (source (kept_of past) sound e.task e.strand e.action may k.0 v k.2) [
          | inl own ↦ ih e.task i d here.0 h (subst (λ z. Far (layers (kept_of past)) d.strand z) (sym (here.1 ∙ own)) k.1) (due among).0
          | inr w ↦ (
              let last = last_is (kept_of past) sound w.0 k.0 w.2 in
              let there : Among w.0 (waited past e) = subst (λ (l : List ℕ). Among w.0 (waited_by l e.action)) (same_block past e.task) w.1 in
              ih w.0 i d (is_task (kept_of past) sound w.0 last.0) h (subst (λ z. Far (layers (kept_of past)) d.strand z) (sym last.1) k.1)
              (has_of places past (waited past e) w.0 there (due among).1))
        ]
      ]

  next : (b : Bool) → IsSoundPast (cond b (e ∷ kept_of past) (kept_of past)) → (t i : ℕ) (d : Event)
      → t < next_task (cond b (e ∷ kept_of past) (kept_of past)) → Stood (e ∷ past) i d
      → Far (layers (cond b (e ∷ kept_of past) (kept_of past))) d.strand (frame (cond b (e ∷ kept_of past) (kept_of past)) t).cur → HasAll places (e ∷ past) t
      → Among i places
  next false sp t i d l h f has = stay t i d l h f has
  next true sp t i d l h f has =
      elim (placed (kept_of past) sound e.task e.strand e.action sp.1 t l) [
        | inl o ↦ (
            let lt = ((inv (kept_of past) sound).each t o.0).cur_in in
            let old : Far (layers (e ∷ kept_of past)) d.strand (frame (kept_of past) t).cur = subst (λ z. Far (layers (e ∷ kept_of past)) d.strand z) o.1 f in
            stay t i d o.0 h
            (far_old (edges_by (kept_of past) e.task e.strand e.action) (layers (kept_of past)) (next_strand (kept_of past))
            (next_strand (e ∷ kept_of past)) (layer_up (kept_of past) e sound sp.1) d.strand (frame (kept_of past) t).cur lt old) has)
        | inr n ↦ comes sp.1 i d (frame (e ∷ kept_of past) t).cur n.0 h f (has.1 n.1)
      ]

pub covers : (places : List ℕ) (past : List Event) → IsSoundPast (kept_of past) → AreStanding past → IsClosed places past → Covers places past
covers places [] sound standing closed t i d l h f has = absurd h
covers places (e ∷ past) sound standing closed t i d l h f has =
    let rest = sound_rest (structural e.action) e (kept_of past) sound in
    next places past e rest standing.0 standing.1 closed.1 (covers places past rest standing.0 closed.0) (structural e.action) sound t i d l h f has

far_down : (b : Bool) (e : Event) (rest : List Event) → IsSoundPast (cond b (e ∷ rest) rest) → (u v : ℕ) → v < next_strand rest
    → Far (layers (cond b (e ∷ rest) rest)) u v → Far (layers rest) u v
far_down true e rest sp u v lt f =
    far_old (edges_by rest e.task e.strand e.action) (layers rest) (next_strand rest) (next_strand (e ∷ rest)) (layer_up rest e sp.0 sp.1) u v lt f
far_down false e rest sp u v lt f = f

pub closed_past : (places : List ℕ) (past : List Event) → IsSoundPast (kept_of past) → AreStanding past → IsClosed places past → (i j : ℕ) (a b : Event)
    → Stood past i a → Stood past j b → i < j → Far (layers (kept_of past)) a.strand b.strand → Among j places → Among i places
closed_past places [] sound standing closed i j a b ha hb lt f among = absurd ha
closed_past places (x ∷ past) sound standing closed i j a b (inl ha) (inl hb) lt f among = absurd (omega (arith, ha.0, hb.0, lt))
closed_past places (x ∷ past) sound standing closed i j a b (inl ha) (inr hb) lt f among = absurd (let k = stood_lt past j b hb in omega (arith, ha.0, k, lt))
closed_past places (x ∷ past) sound standing closed i j a b (inr ha) (inl hb) lt f among =
    let rest = sound_rest (structural x.action) x (kept_of past) sound in
    let here = frame_here past x rest standing.1 in
    let to : Far (layers (kept_of (x ∷ past))) a.strand x.strand = subst (λ (z : Event). Far (layers (kept_of (x ∷ past))) a.strand z.strand) (sym hb.1) f in
    let down = far_down (structural x.action) x (kept_of past) sound a.strand x.strand (strand_lt past x rest standing.1) to in
    covers places past rest standing.0 closed.0 x.task i a here.0 ha (subst (λ z. Far (layers (kept_of past)) a.strand z) (sym here.1) down)
    (closed.1 (subst (λ z. Among z places) (sym hb.0) among)).0
closed_past places (x ∷ past) sound standing closed i j a b (inr ha) (inr hb) lt f among =
    let rest = sound_rest (structural x.action) x (kept_of past) sound in
    closed_past places past rest standing.0 closed.0 i j a b ha hb lt
    (far_down (structural x.action) x (kept_of past) sound a.strand b.strand (strand_in past rest standing.0 j b hb) f) among

-- ---- legal histories

pub came_standing : (P : tree.Program) (past : List Event) (m : Machine) → Came P past m → AreStanding past
came_standing P [] m c = tt
came_standing P (e ∷ past) m (q, c, step) =
    let me = (came_mirrors P past q c).each e.task step.task step.present in (
      came_standing P past q c,
      record {
        stands = sym (same_current past e.task) ∙ (me.strand ∙ ap (λ s. Some s) step.strand);
        running = sym (same_last past e.task) ∙ (me.last ∙ ap (λ o. option_map (λ (v : Value). step.task.strand) o) step.running);
      },
    )

pub closed_under_paths : ClosedUnderPaths
closed_under_paths P h places (m, l) closed i j a b ea eb lt r among =
    let c = came P h m l in
    let sound = came_sound P (reverse h) m c in
    let reach = subst (λ es. Rattle.fut_base.specs.Dag.ReachesBy es a.strand b.strand)
    (sym (structure_has_edges h) ∙ ap edges_past (reverse_filter (λ e. structural e.action) h)) r in
    closed_past places (reverse h) sound (came_standing P (reverse h) m c) closed i j a b (stood_of h i a ea) (stood_of h j b eb) lt
    (far_of_reach (kept_of (reverse h)) sound a.strand b.strand reach) among
