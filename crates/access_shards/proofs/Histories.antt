-- The accesses of a cell in a history: their places, their races, and that no path leads back.
use Rattle.std.proofs.Common.{◌≡◌, ℕ, ◌<◌, ◌≤◌, Bool, true, false, cond, List, [], ◌∷◌, ◌++◌, length, reverse, filter, ◌⊎◌, inl, inr, subst, ap, sym, refl, ◌∙◌}
use Rattle.std.proofs.lemmas.Option.{none-some}
use Rattle.std.proofs.Common.{arith, append_assoc, option_to_list, option_map, slice_get, ◌==◌, ◌&&◌, if◌then◌else◌, length-append}
use Rattle.std.specs.Prelude.{Option, Some, None}
use Rattle.std.proofs.lemmas.Bool.{cases_lt, cases_eq}
use Rattle.std.proofs.lemmas.List.{reverse-append, reverse-reverse, length-reverse, get_or_push}
use Rattle.std.proofs.lemmas.List.Elements.{filter-append}
use Rattle.std.proofs.lemmas.Option.{slice_get-get_or, slice_get_past}
use Rattle.std.proofs.Math.ListN.{get_or-append}
use Rattle.fut_base.specs.declared.event.Event.{Event}
use Rattle.fut_base.specs.declared.event.Action.{Action}
use Rattle.fut_base.specs.declared.event.Action.TheVariants.{Reads, Writes, Spawns, Creates, Syncs, Gets, Ends}
use Rattle.fut_base.specs.Events.{structural, structure_of}
use Rattle.fut_base.specs.Dag.{Among, ReachesBy, Reaches, edges_past, last_of}
use Rattle.fut_base.specs.Sound.{IsSoundPast, current, current_by, next_strand}
use Rattle.fut_base.proofs.Rising.{current_below, IsBelow}
use Rattle.strand_laws.proofs.Links.{ev}
use Rattle.strand_laws.proofs.Structure.{reverse_filter, structure_has_edges}
use Rattle.strand_laws.proofs.Still.{paths_are_kept, current_ends_paths}
use Rattle.access_shards.specs.Touches.{Touch, IsRising}
use Rattle.access_shards.specs.Kept.{Kind, touch}
use Rattle.access_shards.specs.Histories.{kind_of, touches_past, IsStanding, AreStanding, IsInStep}
use Rattle.access_shards.specs.Laws.{NoPathBack, AccessesAreLate}

-- an event stands at a place of a history
abbrev pub Stood : List Event → ℕ → Event → Type 0
Stood [] i e = ⊥
Stood (x ∷ past) i e = ((length past ≡ i) × (x ≡ e)) ⊎ Stood past i e

pub stood_lt : (past : List Event) (i : ℕ) (e : Event) → Stood past i e → i < length past
stood_lt [] i e h = absurd h
stood_lt (x ∷ past) i e (inl h) = omega (arith, h.0)
stood_lt (x ∷ past) i e (inr h) = let k = stood_lt past i e h in omega (arith, k)

get_front : (xs : List Event) (x : Event) (i : ℕ) → i < length xs → slice_get (xs ++ x ∷ []) i ≡ slice_get xs i
get_front xs x i lt =
    slice_get-get_or (xs ++ x ∷ []) i x (let k = length-append xs (x ∷ []) in omega (arith, k, lt))
    ∙ ap Some (get_or-append xs (x ∷ []) x i lt) ∙ sym (slice_get-get_or xs i x lt)

get_last : (xs : List Event) (x : Event) (i : ℕ) → length xs ≡ i → slice_get (xs ++ x ∷ []) i ≡ Some x
get_last xs x i is = slice_get-get_or (xs ++ x ∷ []) i x (let k = length-append xs (x ∷ []) in omega (arith, k, is)) ∙ ap Some (get_or_push xs x x i is)

pub stood_get : (past : List Event) (i : ℕ) (e : Event) → Stood past i e → slice_get (reverse past) i ≡ Some e
stood_get [] i e h = absurd h
stood_get (x ∷ past) i e (inl h) =
    ap (λ l. slice_get l i) (reverse-append (x ∷ []) past) ∙ get_last (reverse past) x i (length-reverse past ∙ h.0) ∙ ap Some h.1
stood_get (x ∷ past) i e (inr h) =
    ap (λ l. slice_get l i) (reverse-append (x ∷ []) past) ∙ get_front (reverse past) x i
    (let k = stood_lt past i e h in let l = length-reverse past in omega (arith, k, l)) ∙ stood_get past i e h

pub get_stood : (past : List Event) (i : ℕ) (e : Event) → slice_get (reverse past) i ≡ Some e → Stood past i e
get_stood [] i e h = none-some e (sym (slice_get_past (reverse []) i (omega arith)) ∙ h)
get_stood (x ∷ past) i e h =
    let turned : slice_get (reverse past ++ x ∷ []) i ≡ Some e = ap (λ l. slice_get l i) (sym (reverse-append (x ∷ []) past)) ∙ h in
    let len = length-reverse past in
    let all = length-append (reverse past) (x ∷ []) in
    elim (cases_lt i (length past)) [
      | inl lt ↦ inr (get_stood past i e (sym (get_front (reverse past) x i (omega (arith, lt, len))) ∙ turned))
      | inr ge ↦ elim (cases_eq (length past) i) [
        | inl is ↦ inl (is, some_same (sym (get_last (reverse past) x i (len ∙ is)) ∙ turned))
        | inr ne ↦ absurd (none-some e (sym (slice_get_past (reverse past ++ x ∷ []) i (omega (arith, ge, ne, len, all))) ∙ turned))
      ]
    ]
  where
    some_same : ◌≡◌ {A = Option Event} (Some x) (Some e) → x ≡ e
    some_same h = cc

-- the accesses of a cell, and the events that they are
touch_new : (c : ℕ) (past : List Event) (e : Event) (o : Option Kind) → kind_of c e.action ≡ o → (t : Touch Kind)
    → Among t (option_to_list (option_map (λ kind. touch (length past) e.strand kind) o) ++ touches_past c past)
    → ((t.place ≡ length past) × (e.strand ≡ t.strand) × (kind_of c e.action ≡ Some t.kind)) ⊎ Among t (touches_past c past)
touch_new c past e None is t h = inr h
touch_new c past e (Some k) is t (inl q) = inl (
  sym (ap (λ (z : Touch Kind). z.place) q),
  ap (λ (z : Touch Kind). z.strand) q,
  is
      ∙ ap (λ (z : Touch Kind). Some z.kind) q,
)
touch_new c past e (Some k) is t (inr h) = inr h

pub touch_stood : (c : ℕ) (past : List Event) (t : Touch Kind) → Among t (touches_past c past)
    → (e : Event) × Stood past t.place e × (e.strand ≡ t.strand) × (kind_of c e.action ≡ Some t.kind)
touch_stood c [] t h = absurd h
touch_stood c (e ∷ past) t h = elim (touch_new c past e (kind_of c e.action) refl t h) [
  | inl n ↦ (e, inl (sym n.0, refl), n.1, n.2)
  | inr o ↦ (let k = touch_stood c past t o in (k.0, inr k.1, k.2, k.3))
]

touch_here : (c : ℕ) (past : List Event) (e : Event) (o : Option Kind) (k : Kind) → o ≡ Some k
    → Among (touch (length past) e.strand k) (option_to_list (option_map (λ kind. touch (length past) e.strand kind) o) ++ touches_past c past)
touch_here c past e o k is = subst (λ z. Among (touch (length past) e.strand k)
    (option_to_list (option_map (λ kind. touch (length past) e.strand kind) z) ++ touches_past c past)) (sym is) (inl refl)

touch_there : (c : ℕ) (past : List Event) (e : Event) (o : Option Kind) (t : Touch Kind) → Among t (touches_past c past)
    → Among t (option_to_list (option_map (λ kind. touch (length past) e.strand kind) o) ++ touches_past c past)
touch_there c past e None t h = h
touch_there c past e (Some k) t h = inr h

pub stood_touch : (c : ℕ) (past : List Event) (i : ℕ) (e : Event) (k : Kind) → Stood past i e → kind_of c e.action ≡ Some k
    → Among (touch i e.strand k) (touches_past c past)
stood_touch c [] i e k h is = absurd h
stood_touch c (x ∷ past) i e k (inl h) is =
    subst (λ n. Among (touch n e.strand k) (touches_past c (x ∷ past))) h.0
    (subst (λ (y : Event). Among (touch (length past) y.strand k) (touches_past c (x ∷ past))) h.1
    (touch_here c past x (kind_of c x.action) k (ap (λ (y : Event). kind_of c y.action) h.1 ∙ is)))
stood_touch c (x ∷ past) i e k (inr h) is = touch_there c past x (kind_of c x.action) (touch i e.strand k) (stood_touch c past i e k h is)

pub touch_below : (c : ℕ) (past : List Event) (t : Touch Kind) → Among t (touches_past c past) → t.place < length past
touch_below c past t h = let k = touch_stood c past t h in stood_lt past t.place k.0 k.1

rise_next : (c : ℕ) (past : List Event) (e : Event) (o : Option Kind) → IsRising (touches_past c past)
    → IsRising (option_to_list (option_map (λ kind. touch (length past) e.strand kind) o) ++ touches_past c past)
rise_next c past e None rest = rest
rise_next c past e (Some k) rest = ((λ a h. touch_below c past a h), rest)

pub touches_rise : (c : ℕ) (past : List Event) → IsRising (touches_past c past)
touches_rise c [] = tt
touches_rise c (e ∷ past) = rise_next c past e (kind_of c e.action) (touches_rise c past)

abbrev pub by_structure : Event → Bool
by_structure e = structural e.action

-- accesses change nothing of the current and last strands
current_next : (past : List Event) → ((t : ℕ) → current (filter by_structure past) t ≡ current past t) → (task s : ℕ) (a : Action) (t : ℕ)
    → current (filter by_structure (ev task s a ∷ past)) t ≡ current (ev task s a ∷ past) t
current_next past ih task s (Reads c n) t = ih t
current_next past ih task s (Writes c n) t = ih t
current_next past ih task s (Spawns d c k y args) t = ap (λ o. current_by task (Spawns d c k y args) t o) (ih t)
current_next past ih task s (Creates d c k y args) t = ap (λ o. current_by task (Creates d c k y args) t o) (ih t)
current_next past ih task s (Syncs x) t = ap (λ o. current_by task (Syncs x) t o) (ih t)
current_next past ih task s (Gets f v x) t = ap (λ o. current_by task (Gets f v x) t o) (ih t)
current_next past ih task s (Ends v) t = ih t

pub same_current : (past : List Event) (t : ℕ) → current (filter by_structure past) t ≡ current past t
same_current [] t = refl
same_current (e ∷ past) t = current_next past (same_current past) e.task e.strand e.action t

if_none : (b : Bool) (o r : Option ℕ) → r ≡ (if b && false then o else r)
if_none true o r = refl
if_none false o r = refl

last_next : (past : List Event) → ((t : ℕ) → last_of (filter by_structure past) t ≡ last_of past t) → (task s : ℕ) (a : Action) (t : ℕ)
    → last_of (filter by_structure (ev task s a ∷ past)) t ≡ last_of (ev task s a ∷ past) t
last_next past ih task s (Reads c n) t = ih t ∙ if_none (t == task) (Some s) (last_of past t)
last_next past ih task s (Writes c n) t = ih t ∙ if_none (t == task) (Some s) (last_of past t)
last_next past ih task s (Spawns d c k y args) t = ap (λ o. if (t == task) && false then Some s else o) (ih t)
last_next past ih task s (Creates d c k y args) t = ap (λ o. if (t == task) && false then Some s else o) (ih t)
last_next past ih task s (Syncs x) t = ap (λ o. if (t == task) && false then Some s else o) (ih t)
last_next past ih task s (Gets f v x) t = ap (λ o. if (t == task) && false then Some s else o) (ih t)
last_next past ih task s (Ends v) t = ap (λ o. if (t == task) && true then Some s else o) (ih t)

pub same_last : (past : List Event) (t : ℕ) → last_of (filter by_structure past) t ≡ last_of past t
same_last [] t = refl
same_last (e ∷ past) t = last_next past (same_last past) e.task e.strand e.action t

-- the structure of an event and those before it
next_grows : (b : Bool) (e : Event) (rest : List Event) → next_strand rest ≤ next_strand (cond b (e ∷ rest) rest)
next_grows true e rest = omega arith
next_grows false e rest = omega arith

sound_rest : (b : Bool) (e : Event) (rest : List Event) → IsSoundPast (cond b (e ∷ rest) rest) → IsSoundPast rest
sound_rest true e rest h = h.0
sound_rest false e rest h = h

-- the strand of an event is one of the structure
strand_in : (past : List Event) → IsSoundPast (filter by_structure past) → AreStanding past → (i : ℕ) (e : Event) → Stood past i e
    → e.strand < next_strand (filter by_structure past)
strand_in [] sound standing i e h = absurd h
strand_in (x ∷ past) sound standing i e (inl h) =
    let rest = sound_rest (by_structure x) x (filter by_structure past) sound in
    let below = current_below (filter by_structure past) rest x.task in
    let cur : current (filter by_structure past) x.task ≡ Some x.strand = same_current past x.task ∙ standing.1.stands in
    let lt : x.strand < next_strand (filter by_structure past) = subst (λ o. IsBelow o (next_strand (filter by_structure past))) cur below in
    let le = next_grows (by_structure x) x (filter by_structure past) in
    let same = ap (λ (y : Event). y.strand) h.1 in
    omega (arith, lt, le, same)
strand_in (x ∷ past) sound standing i e (inr h) =
    let rest = sound_rest (by_structure x) x (filter by_structure past) sound in
    let lt = strand_in past rest standing.0 i e h in
    let le = next_grows (by_structure x) x (filter by_structure past) in
    omega (arith, lt, le)

-- the events before one, among which an earlier one stands
split_at : (past : List Event) (i j : ℕ) (a b : Event) → Stood past i a → Stood past j b → i < j
    → (newer : List Event) × (older : List Event) × (past ≡ newer ++ b ∷ older) × Stood older i a
split_at [] i j a b ha hb lt = absurd ha
split_at (x ∷ past) i j a b (inl ha) (inl hb) lt = absurd (omega (arith, ha.0, hb.0, lt))
split_at (x ∷ past) i j a b (inl ha) (inr hb) lt = let k = stood_lt past j b hb in absurd (omega (arith, ha.0, k, lt))
split_at (x ∷ past) i j a b (inr ha) (inl hb) lt = ([], past, ap (λ y. y ∷ past) hb.1, ha)
split_at (x ∷ past) i j a b (inr ha) (inr hb) lt = let k = split_at past i j a b ha hb lt in (x ∷ k.0, k.1, ap (λ l. x ∷ l) k.2, k.3)

standing_at : (newer : List Event) (b : Event) (older : List Event) → AreStanding (newer ++ b ∷ older) → AreStanding older × IsStanding older b
standing_at [] b older h = (h.0, h.1)
standing_at (x ∷ newer) b older h = standing_at newer b older h.0

sound_tail : (later past : List Event) → IsSoundPast (later ++ past) → IsSoundPast past
sound_tail [] past sound = sound
sound_tail (e ∷ later) past sound = sound_tail later past sound.0

-- no path of the structure leads back, in lists with the newest event first
no_path_back_past : (past : List Event) → IsSoundPast (filter by_structure past) → AreStanding past → (i j : ℕ) (a b : Event) → Stood past i a → Stood past j b
    → i < j → ReachesBy (edges_past (filter by_structure past)) b.strand a.strand → a.strand ≡ b.strand
no_path_back_past past sound standing i j a b ha hb lt r =
    let k = split_at past i j a b ha hb lt in
    let newer = k.0 in
    let older = k.1 in
    let later = filter by_structure newer ++ filter by_structure (b ∷ []) in
    let parts : filter by_structure past ≡ later ++ filter by_structure older =
    ap (filter by_structure) k.2 ∙ filter-append by_structure newer (b ∷ older)
    ∙ ap (λ l. filter by_structure newer ++ l) (filter-append by_structure (b ∷ []) older)
    ∙ sym (append_assoc (filter by_structure newer) (filter by_structure (b ∷ [])) (filter by_structure older)) in
    let whole : IsSoundPast (later ++ filter by_structure older) = subst IsSoundPast parts sound in
    let rest = sound_tail later (filter by_structure older) whole in
    let at = standing_at newer b older (subst AreStanding k.2 standing) in
    let in_ : a.strand < next_strand (filter by_structure older) = strand_in older rest at.0 i a k.3 in
    let path = (paths_are_kept later (filter by_structure older) whole b.strand a.strand
    in_).0 (subst (λ l. ReachesBy (edges_past l) b.strand a.strand) parts r) in
    current_ends_paths (filter by_structure older) rest b.task b.strand a.strand (same_current older b.task ∙ at.1.stands)
    (same_last older b.task ∙ at.1.running) path

module _ (h : List Event) (steps : IsInStep h) where
  abbrev turned : reverse (structure_of h) ≡ filter by_structure (reverse h)
  turned = reverse_filter by_structure h

  sound_past : IsSoundPast (filter by_structure (reverse h))
  sound_past = subst IsSoundPast turned steps.sound

  pub back : (i j : ℕ) (a b : Event) → Stood (reverse h) i a → Stood (reverse h) j b → i < j → Reaches h b.strand a.strand → a.strand ≡ b.strand
  back i j a b ha hb lt r =
      no_path_back_past (reverse h) sound_past steps.standing i j a b ha hb lt
      (subst (λ es. ReachesBy es b.strand a.strand) (sym (structure_has_edges h) ∙ ap edges_past turned) r)

  pub strand_there : (i : ℕ) (a : Event) → Stood (reverse h) i a → a.strand < next_strand (reverse (structure_of h))
  strand_there i a ha = subst (λ l. a.strand < next_strand l) (sym turned) (strand_in (reverse h) sound_past steps.standing i a ha)

pub stood_of : (h : List Event) (i : ℕ) (a : Event) → slice_get h i ≡ Some a → Stood (reverse h) i a
stood_of h i a e = get_stood (reverse h) i a (ap (λ l. slice_get l i) (reverse-reverse h) ∙ e)

pub get_of : (h : List Event) (i : ℕ) (a : Event) → Stood (reverse h) i a → slice_get h i ≡ Some a
get_of h i a st = ap (λ l. slice_get l i) (sym (reverse-reverse h)) ∙ stood_get (reverse h) i a st

pub no_path_back : NoPathBack
no_path_back h steps i j a b ea eb lt r = back h steps i j a b (stood_of h i a ea) (stood_of h j b eb) lt r

pub accesses_are_late : AccessesAreLate
accesses_are_late h c steps = (
  touches_rise c (reverse h),
  λ a b ha hb lt r. (
      let x = touch_stood c (reverse h) a ha in
      let y = touch_stood c (reverse h) b hb in
      sym x.2 ∙ back h steps a.place b.place x.0 y.0 x.1 y.1 lt
      (subst (λ n. Reaches h n x.0.strand) (sym y.2) (subst (λ n. Reaches h b.strand n) (sym x.2) r)) ∙ y.2),
  λ t ht. (let x = touch_stood c (reverse h) t ht in let lt = strand_there h steps t.place x.0 x.1 in omega (arith, lt, x.2)),
)
