-- A ring of links after a task is put in or taken out.
use Rattle.std.proofs.Common.{◌≡◌, ◌≢◌, ℕ, ◌+◌, ◌-◌, ◌<◌, if◌then◌else◌, List, [], ◌∷◌, ◌++◌, length}
use Rattle.std.proofs.Common.{◌⊎◌, inl, inr, refl, sym, ap, ◌∙◌, subst, arith, length-append}
use Rattle.std.specs.Prelude.{Some, slice_get, slice_set}
use Rattle.std.proofs.lemmas.Option.{same_Some}
use Rattle.std.proofs.lemmas.List.{append-nil}
use Rattle.fut_base.specs.Dag.{Among}
use Rattle.fut_base.proofs.Cases.{by_eq}
use Rattle.task_machine.proofs.Places.{get_below, get_new, get_set_other, get_set_same}
use Rattle.run_laws.specs.Ready.{put_before, without}
use Rattle.run_replay.specs.Ready.{Links, AreLinked, LeadAlong, IsRing, StandsIn}
use Rattle.run_replay.proofs.Lining.{set_length, get_set_here}

-- the place before a task on the way is that of the start, or of a task on the way
prior : (l : Links) (from to t : ℕ) (ts : List ℕ) → LeadAlong l from ts to → Among t ts
    → (p : ℕ) × AreLinked l p (t + 1) × ((p ≡ from) ⊎ ((q : ℕ) × Among q ts × (p ≡ q + 1)))
prior l from to t [] g a = absurd a
prior l from to t (x ∷ xs) g a =
    elim a [
      | inl same ↦ (from, subst (λ y. AreLinked l from (y + 1)) same g.0, inl refl)
      | inr later ↦ (
          let b = prior l (x + 1) to t xs g.1 later in
          (b.0, b.1, elim b.2 [ inl i ↦ inr (x, inl refl, i) | inr k ↦ inr (k.0, inr k.1, k.2) ]))
    ]

-- a task on the way leads on
pub further : (l : Links) (from to t : ℕ) (ts : List ℕ) → LeadAlong l from ts to → Among t ts → (n : ℕ) × AreLinked l (t + 1) n
further l from to t [] g a = absurd a
further l from to t (x ∷ xs) g a =
    elim a [
      | inl same ↦ subst (λ y. (n : ℕ) × AreLinked l (y + 1) n) same (begin xs g.1)
      | inr later ↦ further l (x + 1) to t xs g.1 later
    ]
  where
    begin : (ys : List ℕ) → LeadAlong l (x + 1) ys to → (n : ℕ) × AreLinked l (x + 1) n
    begin [] h = (to, h)
    begin (y ∷ ys) h = (y + 1, h.0)

-- where the way does not come back to its start, it does not come back to the next place
apart_next : (l : Links) (from to x : ℕ) (xs : List ℕ) → LeadAlong l from (x ∷ xs) to
    → ((y : ℕ) → Among y (x ∷ xs) → from ≢ y + 1) → (y : ℕ) → Among y xs → x + 1 ≢ y + 1
apart_next l from to x xs g alone y a e =
    let b = prior l (x + 1) to y xs g.1 a in
    let same : b.0 ≡ from = same_Some b.0 from (sym b.1.back ∙ (ap (slice_get l.prevs) (sym e) ∙ g.0.back)) in
    elim b.2 [ inl i ↦ alone x (inl refl) (sym same ∙ i) | inr k ↦ alone k.0 (inr k.1) (sym same ∙ k.2) ]

same_place : (x t : ℕ) → x + 1 ≡ t + 1 → x ≡ t
same_place x t e = omega (arith, e)

-- ---- a child before its maker

module _ (l m : Links) (t c p : ℕ)
    (behind : AreLinked l p (t + 1))
    (on : (v w : ℕ) → v ≢ p → slice_get l.nexts v ≡ Some w → slice_get m.nexts v ≡ Some w)
    (back : (v w : ℕ) → v ≢ t + 1 → slice_get l.prevs v ≡ Some w → slice_get m.prevs v ≡ Some w)
    (first : AreLinked m p (c + 1))
    (second : AreLinked m (c + 1) (t + 1)) where
  keeps : (v w : ℕ) → w ≢ t + 1 → AreLinked l v w → AreLinked m v w
  keeps v w n h =
      record {
        on = on v w (λ e. n (same_Some w (t + 1) (sym h.on ∙ (ap (slice_get l.nexts) e ∙ behind.on)))) h.on;
        back = back w v n h.back;
      }

  put_rest : (ts : List ℕ) (from to : ℕ) → to ≢ t + 1 → (Among t ts → ⊥) → LeadAlong l from ts to → LeadAlong m from ts to
  put_rest [] from to n out g = keeps from to n g
  put_rest (x ∷ xs) from to n out g = (keeps from (x + 1) (λ e. out (inl (same_place x t e))) g.0, put_rest xs (x + 1) to n (λ a. out (inr a)) g.1)

  put_along : (ts : List ℕ) (from to : ℕ) → to ≢ t + 1 → ((y : ℕ) → Among y ts → from ≢ y + 1) → Among t ts
      → LeadAlong l from ts to → LeadAlong m from (put_before t c ts) to
  put_along [] from to n alone a g = absurd a
  put_along (x ∷ xs) from to n alone a g =
      let later = apart_next l from to x xs g alone in
      by_eq (λ b. LeadAlong m from (if b then c ∷ x ∷ xs else x ∷ put_before t c xs) to) x t
      (λ e. (
      let same : from ≡ p = same_Some from p (sym g.0.back ∙ (ap (λ y. slice_get l.prevs (y + 1)) e ∙ behind.back)) in (
        subst (λ v. AreLinked m v (c + 1)) (sym same) first,
        (subst (λ y. AreLinked m (c + 1) (y + 1)) (sym e) second, put_rest xs (x + 1) to n (λ i. later t i (ap (λ y. y + 1) e)) g.1),
      )))
      (λ k. (
        keeps from (x + 1) (λ e. k (same_place x t e)) g.0,
        put_along xs (x + 1) to n later (elim a [ inl q ↦ absurd (k q) | inr q ↦ q ]) g.1,
      ))

-- ---- a task that is taken out

module _ (l m : Links) (t p n : ℕ)
    (behind : AreLinked l p (t + 1))
    (ahead : AreLinked l (t + 1) n)
    (on : (v w : ℕ) → v ≢ p → slice_get l.nexts v ≡ Some w → slice_get m.nexts v ≡ Some w)
    (back : (v w : ℕ) → v ≢ n → slice_get l.prevs v ≡ Some w → slice_get m.prevs v ≡ Some w)
    (joined : AreLinked m p n) where
  stays : (v w : ℕ) → v ≢ t + 1 → w ≢ t + 1 → AreLinked l v w → AreLinked m v w
  stays v w nv nw h =
      record {
        on = on v w (λ e. nw (same_Some w (t + 1) (sym h.on ∙ (ap (slice_get l.nexts) e ∙ behind.on)))) h.on;
        back = back w v (λ e. nv (same_Some v (t + 1) (sym h.back ∙ (ap (slice_get l.prevs) e ∙ ahead.back)))) h.back;
      }

  out_rest : (ts : List ℕ) (from to : ℕ) → from ≢ t + 1 → to ≢ t + 1 → (Among t ts → ⊥) → LeadAlong l from ts to → LeadAlong m from ts to
  out_rest [] from to nf nt out g = stays from to nf nt g
  out_rest (x ∷ xs) from to nf nt out g =
      let nx : x + 1 ≢ t + 1 = λ e. out (inl (same_place x t e)) in
      (stays from (x + 1) nf nx g.0, out_rest xs (x + 1) to nx nt (λ a. out (inr a)) g.1)

  -- the way behind the task is joined to the place before it
  out_here : (ts : List ℕ) (to : ℕ) → to ≢ t + 1 → (Among t ts → ⊥) → LeadAlong l (t + 1) ts to → LeadAlong m p ts to
  out_here [] to nt out g = subst (AreLinked m p) (same_Some n to (sym ahead.on ∙ g.on)) joined
  out_here (y ∷ ys) to nt out g = (
    subst (AreLinked m p) (same_Some n (y + 1) (sym ahead.on ∙ g.0.on)) joined,
    out_rest ys (y + 1) to (λ e. out (inl (same_place y t e))) nt (λ a. out (inr a)) g.1,
  )

  out_along : (ts : List ℕ) (from to : ℕ) → from ≢ t + 1 → to ≢ t + 1 → ((y : ℕ) → Among y ts → from ≢ y + 1) → Among t ts
      → LeadAlong l from ts to → LeadAlong m from (without t ts) to
  out_along [] from to nf nt alone a g = absurd a
  out_along (x ∷ xs) from to nf nt alone a g =
      let later = apart_next l from to x xs g alone in
      by_eq (λ b. LeadAlong m from (if b then xs else x ∷ without t xs) to) x t
      (λ e. (
      let same : from ≡ p = same_Some from p (sym g.0.back ∙ (ap (λ y. slice_get l.prevs (y + 1)) e ∙ behind.back)) in
      subst (λ v. LeadAlong m v xs to) (sym same) (out_here xs to nt (λ i. later t i (ap (λ y. y + 1) e)) (subst (λ y. LeadAlong l (y + 1) xs to) e g.1))))
      (λ k. (
      let nx : x + 1 ≢ t + 1 = λ e. k (same_place x t e) in
      (stays from (x + 1) nf nx g.0, out_along xs (x + 1) to nx nt later (elim a [ inl q ↦ absurd (k q) | inr q ↦ q ]) g.1)))

-- ---- whole rings

not_start : (t : ℕ) → 0 ≢ t + 1
not_start t e = absurd (omega (arith, e))

-- the places beside a task of a ring
pub behind_it : (l : Links) (tasks t back : ℕ) (order : List ℕ) → StandsIn tasks order l t → slice_get l.prevs (t + 1) ≡ Some back → AreLinked l back (t + 1)
behind_it l tasks t back order s read =
    let b = prior l 0 0 t order s.ring.leads s.there in
    subst (λ p. AreLinked l p (t + 1)) (same_Some b.0 back (sym b.1.back ∙ read)) b.1

pub ahead_of_it : (l : Links) (tasks t next : ℕ) (order : List ℕ) → StandsIn tasks order l t → slice_get l.nexts (t + 1) ≡ Some next → AreLinked l (t + 1) next
ahead_of_it l tasks t next order s read =
    let b = further l 0 0 t order s.ring.leads s.there in
    subst (AreLinked l (t + 1)) (same_Some b.0 next (sym b.1.on ∙ read)) b.1

-- a task of a ring has a place
pub has_place : (l : Links) (tasks t : ℕ) (order : List ℕ) → StandsIn tasks order l t → t < tasks
has_place l tasks t order s =
    let b = prior l 0 0 t order s.ring.leads s.there in
    let below = get_below l.prevs (t + 1) b.0 b.1.back in
    omega (arith, below, s.ring.prevs_count)

set_else : (xs : List ℕ) (i x t r : ℕ) → t ≢ i → slice_get xs t ≡ Some r → slice_get (slice_set xs i x) t ≡ Some r
set_else xs i x t r other h = subst (λ zs. slice_get zs t ≡ Some r) (append-nil (slice_set xs i x)) (get_set_other xs [] i x t r other h)

pub put_ring : (l : Links) (t c back : ℕ) (order : List ℕ) → StandsIn c order l t → slice_get l.prevs (t + 1) ≡ Some back
    → IsRing (c + 1) (put_before t c order)
    (record { nexts = slice_set l.nexts back (c + 1) ++ (t + 1) ∷ []; prevs = slice_set l.prevs (t + 1) (c + 1) ++ back ∷ [] })
put_ring l t c back order s read =
    let nexts = slice_set l.nexts back (c + 1) in
    let prevs = slice_set l.prevs (t + 1) (c + 1) in
    let m : Links = record { nexts = nexts ++ (t + 1) ∷ []; prevs = prevs ++ back ∷ [] } in
    let behind = behind_it l c t back order s read in
    let nexts_are : length nexts ≡ c + 1 = set_length l.nexts back (c + 1) ∙ s.ring.nexts_count in
    let prevs_are : length prevs ≡ c + 1 = set_length l.prevs (t + 1) (c + 1) ∙ s.ring.prevs_count in
    let first : AreLinked m back (c + 1) =
    record {
      on = get_set_same l.nexts ((t + 1) ∷ []) back (c + 1) (t + 1) behind.on;
      back = subst (λ k. slice_get (prevs ++ back ∷ []) k ≡ Some back) prevs_are (get_new prevs [] back);
    } in
    let second : AreLinked m (c + 1) (t + 1) =
    record {
      on = subst (λ k. slice_get (nexts ++ (t + 1) ∷ []) k ≡ Some (t + 1)) nexts_are (get_new nexts [] (t + 1));
      back = get_set_same l.prevs (back ∷ []) (t + 1) (c + 1) back behind.back;
    } in
    record {
      nexts_count = length-append nexts ((t + 1) ∷ []) ∙ ap (λ k. k + 1) nexts_are;
      prevs_count = length-append prevs (back ∷ []) ∙ ap (λ k. k + 1) prevs_are;
      leads =
          put_along l m t c back behind (λ v w n h. get_set_other l.nexts ((t + 1) ∷ []) back (c + 1) v w n h)
          (λ v w n h. get_set_other l.prevs (back ∷ []) (t + 1) (c + 1) v w n h) first second order 0 0 (not_start t) (λ y a. not_start y) s.there s.ring.leads;
    }

pub out_ring : (l : Links) (tasks t back next : ℕ) (order : List ℕ) → StandsIn tasks order l t
    → slice_get l.prevs (t + 1) ≡ Some back → slice_get l.nexts (t + 1) ≡ Some next
    → IsRing tasks (without t order) (record { nexts = slice_set l.nexts back next; prevs = slice_set l.prevs next back })
out_ring l tasks t back next order s read_back read_next =
    let m : Links = record { nexts = slice_set l.nexts back next; prevs = slice_set l.prevs next back } in
    let behind = behind_it l tasks t back order s read_back in
    let ahead = ahead_of_it l tasks t next order s read_next in
    let joined : AreLinked m back next =
    record {
      on = get_set_here l.nexts back next (get_below l.nexts back (t + 1) behind.on);
      back = get_set_here l.prevs next back (get_below l.prevs next (t + 1) ahead.back);
    } in
    record {
      nexts_count = set_length l.nexts back next ∙ s.ring.nexts_count;
      prevs_count = set_length l.prevs next back ∙ s.ring.prevs_count;
      leads =
          out_along l m t back next behind ahead (λ v w n h. set_else l.nexts back next v w n h)
          (λ v w n h. set_else l.prevs next back v w n h) joined order 0 0
          (not_start t) (not_start t) (λ y a. not_start y) s.there s.ring.leads;
    }

-- ---- the first task

pub none_first : (l : Links) (order : List ℕ) → LeadAlong l 0 order 0 → slice_get l.nexts 0 ≡ Some 0 → order ≡ []
none_first l [] g h = refl
none_first l (x ∷ xs) g h = absurd (let e : x + 1 ≡ 0 = same_Some (x + 1) 0 (sym g.0.on ∙ h) in omega (arith, e))

pub some_first : (l : Links) (order : List ℕ) (next : ℕ) → LeadAlong l 0 order 0 → slice_get l.nexts 0 ≡ Some next → 0 < next
    → (ts : List ℕ) × (order ≡ (next - 1) ∷ ts)
some_first l [] next g h lt = absurd (let e : 0 ≡ next = same_Some 0 next (sym g.on ∙ h) in omega (arith, e, lt))
some_first l (x ∷ xs) next g h lt =
    let e : x + 1 ≡ next = same_Some (x + 1) next (sym g.0.on ∙ h) in
    let is : x ≡ next - 1 = omega (arith, e) in
    (xs, ap (λ y. y ∷ xs) is)
