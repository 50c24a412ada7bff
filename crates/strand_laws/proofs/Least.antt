-- The first task in English order waits for none, and how a path is found.
use Rattle.std.proofs.Common.{◌≡◌, ◌≢◌, ℕ, ◌<◌, Bool, true, false, List, [], ◌∷◌, ◌⊎◌, inl, inr, subst, ap, refl, ◌∙◌, arith, ◌==◌, if◌then◌else◌}
use Rattle.std.specs.Prelude.{Some, None}
use Rattle.std.proofs.lemmas.Bool.{cases_eq}
use Rattle.fut_base.specs.declared.event.Event.{Event}
use Rattle.fut_base.specs.declared.event.Action.{Action}
use Rattle.fut_base.specs.declared.event.Action.TheVariants.{Reads, Writes, Spawns, Creates, Syncs, Gets, Ends}
use Rattle.fut_base.specs.Dag.{Among, last_of, edges_past, ReachesBy}
use Rattle.fut_base.specs.Orders.{english_past, precedes_past}
use Rattle.fut_base.specs.Sound.{IsSoundPast, MayFollow, next_task, current, home_of}
use Rattle.fut_base.specs.Tables.{table_past}
use Rattle.strand_laws.specs.Laws.{Covers, IsLeast, LeastWaitsForNone, TryMeansPath}
use Rattle.strand_laws.proofs.Places.{place, before_place}
use Rattle.strand_laws.proofs.Far.{Far, far_refl}
use Rattle.strand_laws.proofs.Frames.{frame, layers}
use Rattle.strand_laws.proofs.Links.{Linked, linked, shown, ev, if_on, if_off}
use Rattle.strand_laws.proofs.Steps.{inv}
use Rattle.strand_laws.proofs.Held.{is_root}
use Rattle.strand_laws.proofs.Ways.{inside, outward}
use Rattle.strand_laws.proofs.Inside.{far_of_reach, reach_of_far, far_of_precedes, precedes_of_far}
use Rattle.strand_laws.proofs.Ones.{table_means_path}
use Rattle.strand_laws.proofs.Early.{spot, block_early, held_early}

one_moves : (past : List Event) (t q x : ℕ) → ((a : ℕ) × (current past q ≡ Some a)) → (a : ℕ) × ((if q == t then Some x else current past q) ≡ Some a)
one_moves past t q x k = elim (cases_eq q t) [
  | inl e ↦ (x, if_on q t (Some x) (current past q) e)
  | inr ne ↦ (k.0, if_off q t (Some x) (current past q) ne ∙ k.1)
]

one_begins : (past : List Event) (t c q y k : ℕ) → (q ≢ c → (a : ℕ) × (current past q ≡ Some a))
    → (a : ℕ) × ((if q == t then Some y else (if q == c then Some k else current past q)) ≡ Some a)
one_begins past t c q y k h = elim (cases_eq q t) [
  | inl e ↦ (y, if_on q t (Some y) (if q == c then Some k else current past q) e)
  | inr ne ↦ elim (cases_eq q c) [
    | inl e ↦ (k, if_off q t (Some y) (if q == c then Some k else current past q) ne ∙ if_on q c (Some k) (current past q) e)
    | inr n ↦ (let r = h n in (r.0, if_off q t (Some y) (if q == c then Some k else current past q) ne ∙ if_off q c (Some k) (current past q) n ∙ r.1))
  ]
]

stands_next : (past : List Event) → ((q : ℕ) → q < next_task past → (a : ℕ) × (current past q ≡ Some a)) → (t s : ℕ) (a : Action) → MayFollow past (ev t s a)
    → (q : ℕ) → q < next_task (ev t s a ∷ past) → (b : ℕ) × (current (ev t s a ∷ past) q ≡ Some b)
stands_next past ih t s (Reads _ _) m q l = absurd m.acts
stands_next past ih t s (Writes _ _) m q l = absurd m.acts
stands_next past ih t s (Spawns code c k y args) m q l = one_begins past t c q y k (λ n. ih q (let e : c ≡ next_task past = m.acts.0 in omega arith))
stands_next past ih t s (Creates code c k y args) m q l = one_begins past t c q y k (λ n. ih q (let e : c ≡ next_task past = m.acts.0 in omega arith))
stands_next past ih t s (Syncs x) m q l = one_moves past t q x (ih q (omega arith))
stands_next past ih t s (Gets f v x) m q l = one_moves past t q x (ih q (omega arith))
stands_next past ih t s (Ends v) m q l = ih q (omega arith)

stands_somewhere : (past : List Event) → IsSoundPast past → (q : ℕ) → q < next_task past → (a : ℕ) × (current past q ≡ Some a)
stands_somewhere [] sp q l = (0, if_on q 0 (Some 0) None (omega arith))
stands_somewhere (e ∷ past) sp q l = stands_next past (stands_somewhere past sp.0) e.task e.strand e.action sp.1 q l

least_waits : (past : List Event) → IsSoundPast past → (t b : ℕ) → IsLeast past t b → (q : ℕ) → q < next_task past → spot past q < spot past t
    → (last : ℕ) × (last_of past q ≡ Some last)
least_waits past sp t b k q lq h = go (frame past q).ended refl
  where
    l : Linked past
    l = linked past sp

    go : (e : Bool) → (frame past q).ended ≡ e → (last : ℕ) × (last_of past q ≡ Some last)
    go true e = ((frame past q).cur, l.last q ∙ ap (λ z. shown z (frame past q).cur) e)
    go false e =
        let run : last_of past q ≡ None = l.last q ∙ ap (λ z. shown z (frame past q).cur) e in
        let st = stands_somewhere past sp q lq in
        let at : place (frame past q).cur (english_past past) ≡ place st.0 (english_past past) = ap (λ z. place z (english_past past)) (l.cur q st.0 st.1).1 in
        let bt : place (frame past t).cur (english_past past) ≡ place b (english_past past) = ap (λ z. place z (english_past past)) (l.cur t b k.stands).1 in
        elim (k.least q st.0 st.1 run) [
          | inl i ↦ absurd (let z : spot past q ≡ spot past t = ap (λ z. spot past z) i in omega arith)
          | inr i ↦ absurd (
              let ne : b ≢ st.0 =
              λ z. (let w : place b (english_past past) ≡ place st.0 (english_past past) = ap (λ z. place z (english_past past)) z in omega arith) in
              let p : place b (english_past past) < place st.0 (english_past past) = before_place b st.0 (english_past past) ne i in
              omega arith)
        ]

pub least_waits_for_none : LeastWaitsForNone
least_waits_for_none past sp t b k q (inl h) = least_waits past sp t b k q (is_root past sp t q h).1 (held_early past sp t q h)
least_waits_for_none past sp t b k q (inr h) =
    let l = linked past sp in
    let lt = (l.cur t b k.stands).0 in
    let a : Among q (frame past t).block = subst (λ z. Among q z) (l.block t) h in
    least_waits past sp t b k q (((inv past sp).each t lt).kin q a).lt (block_early past sp t q lt a)

pub try_means_path : TryMeansPath
try_means_path past sp u v a = (there, back)
  where
    there : ReachesBy (edges_past past) u v → ((home_of past u ≡ home_of past v) × ((u ≡ v) ⊎ (precedes_past past u v ≡ true)))
        ⊎ ((home_of past u ≢ home_of past v) × Covers past (table_past past v) u)
    there r = elim (cases_eq (home_of past u) (home_of past v)) [
      | inl h ↦ inl (
        h,
        elim (cases_eq u v) [
          | inl e ↦ inl e
          | inr ne ↦ inr (precedes_of_far past sp u v a.one a.other h ne (inside past sp u v a.one a.other h (far_of_reach past sp u v r)))
        ],
      )
      | inr n ↦ inr (n, (table_means_path past sp u v a n).0 r)
    ]

    back : ((home_of past u ≡ home_of past v) × ((u ≡ v) ⊎ (precedes_past past u v ≡ true)))
        ⊎ ((home_of past u ≢ home_of past v) × Covers past (table_past past v) u) → ReachesBy (edges_past past) u v
    back (inl k) = reach_of_far past u v (elim k.1 [
      | inl e ↦ subst (λ z. Far (layers past) u z) e (far_refl (layers past) u)
      | inr p ↦ elim (cases_eq u v) [
        | inl e ↦ subst (λ z. Far (layers past) u z) e (far_refl (layers past) u)
        | inr ne ↦ outward past u v (far_of_precedes past sp u v a.one a.other k.0 ne p)
      ]
    ])
    back (inr k) = (table_means_path past sp u v a k.0).1 k.1
