-- The tasks that have not ended stand in English order.
use Rattle.std.proofs.Common.{◌≡◌, ◌≢◌, ℕ, zero, suc, ◌+◌, ◌<◌, if◌then◌else◌, List, [], ◌∷◌, ◌++◌, length, ◌⊎◌, inl, inr, refl, sym, ap, ◌∙◌, subst, arith}
use Rattle.std.specs.Prelude.{reverse, Option, Some, None, IsSome, slice_get, slice_set}
use Rattle.std.proofs.lemmas.Option.{same_Some}
use Rattle.std.proofs.lemmas.Bool.{cases_eq, cases_lt}
use Rattle.std.proofs.lemmas.List.{reverse-append}
use Rattle.task_machine.proofs.Leading.{leads_further}
use Rattle.fut_base.proofs.Cases.{by_eq}
use Rattle.fut_base.specs.declared.record.Value.{Value}
use Rattle.fut_base.specs.declared.event.Event.{Event}
use Rattle.fut_base.specs.declared.event.Action.{Action}
use Rattle.fut_base.specs.declared.event.Action.TheVariants.{Reads, Writes, Spawns, Creates, Syncs, Gets, Ends}
use Rattle.fut_base.specs.Events.{structural}
use Rattle.fut_base.specs.Dag.{Among}
use Rattle.fut_base.specs.Orders.{english_past, english_by, put_after}
use Rattle.fut_syntax.specs.Trees as tree
use Rattle.task_machine.specs.Texts.{main_of}
use Rattle.task_machine.specs.Machine.{Machine, Running, opening, begins, acted, child_of, Permits, IsStep, Leads, EachEnded, IsRunning}
use Rattle.task_machine.proofs.Places.{Behind}
use Rattle.task_machine.proofs.Making.{acting_task, others_stay, child_comes}
use Rattle.strand_laws.proofs.Places.{place, place_before}
use Rattle.strand_laws.proofs.Puts.{Whole, Fresh, place_head, place_next, put_keeps, put_at, put_anch, fresh_one, fresh_two}
use Rattle.strand_laws.proofs.Sources.{whole_en}
use Rattle.task_types.proofs.Running.{running_has_wish}
use Rattle.run_laws.specs.Laws.{past_of}
use Rattle.run_laws.specs.Ready.{put_before, without, ready_by, ready_past, ready_of, ReadyRun, ReadyIsFirst, NoneIsReady, FirstMayGoOn}
use Rattle.run_laws.proofs.Pasts.{Came, came, kept_of, past_is, get_after}
use Rattle.run_laws.proofs.Mirrored.{kept_on, kept_off, came_mirrors, only, mirrors}
use Rattle.run_laws.proofs.Sound.{came_sound, sound_past}
use Rattle.run_laws.proofs.Once.{Apart, apart, not_both, ended_at}
use Rattle.run_laws.proofs.Stuck.{none_is_stuck}
use Rattle.run_laws.proofs.Typed.{well_typed_has_cells}

-- ---- lists in the order of a rank

abbrev pub Sorted : (ℕ → ℕ) → List ℕ → Type 0
Sorted f [] = Unit {0}
Sorted f (x ∷ xs) = ((y : ℕ) → Among y xs → f x < f y) × Sorted f xs

sorted_map : (f g : ℕ → ℕ) (xs : List ℕ) → ((x y : ℕ) → Among x xs → Among y xs → f x < f y → g x < g y) → Sorted f xs → Sorted g xs
sorted_map f g [] h s = tt
sorted_map f g (x ∷ xs) h s = (λ y a. h x y (inl refl) (inr a) (s.0 y a), sorted_map f g xs (λ y z a b. h y z (inr a) (inr b)) s.1)

put_members : (t c x : ℕ) (xs : List ℕ) → Among x (put_before t c xs) → (x ≡ c) ⊎ Among x xs
put_members t c x [] a = absurd a
put_members t c x (z ∷ zs) a =
    by_eq (λ b. Among x (if b then c ∷ z ∷ zs else z ∷ put_before t c zs) → (x ≡ c) ⊎ Among x (z ∷ zs)) z t
    (λ e i. elim i [ inl q ↦ inl (sym q) | inr q ↦ inr q ])
    (λ n i. elim i [ inl q ↦ inr (inl q) | inr q ↦ elim (put_members t c x zs q) [ inl p ↦ inl p | inr p ↦ inr (inr p) ] ])
    a

put_old : (t c x : ℕ) (xs : List ℕ) → Among x xs → Among x (put_before t c xs)
put_old t c x [] a = absurd a
put_old t c x (z ∷ zs) a =
    by_eq (λ b. Among x (if b then c ∷ z ∷ zs else z ∷ put_before t c zs)) z t
    (λ e. inr a)
    (λ n. elim a [ inl q ↦ inl q | inr q ↦ inr (put_old t c x zs q) ])

put_new : (t c : ℕ) (xs : List ℕ) → Among t xs → Among c (put_before t c xs)
put_new t c [] a = absurd a
put_new t c (z ∷ zs) a =
    by_eq (λ b. Among c (if b then c ∷ z ∷ zs else z ∷ put_before t c zs)) z t
    (λ e. inl refl)
    (λ n. elim a [ inl q ↦ absurd (n q) | inr q ↦ inr (put_new t c zs q) ])

put_sorted : (g : ℕ → ℕ) (t c : ℕ) (xs : List ℕ) → Sorted g xs → Among t xs → g c < g t → ((x : ℕ) → Among x xs → g x < g t → g x < g c)
    → Sorted g (put_before t c xs)
put_sorted g t c [] s a below h = absurd a
put_sorted g t c (z ∷ zs) s a below h =
    by_eq (λ b. Sorted g (if b then c ∷ z ∷ zs else z ∷ put_before t c zs)) z t
    (λ e. (
      λ y i. elim i [
        | inl q ↦ subst (λ k. g c < g k) (sym e ∙ q) below
        | inr q ↦ (let k : g z < g y = s.0 y q in let j : g c < g z = subst (λ k'. g c < g k') (sym e) below in omega arith)
      ],
      s,
    ))
    (λ n. (
    let there : Among t zs = elim a [ inl q ↦ absurd (n q) | inr q ↦ q ] in (
      λ y i. elim (put_members t c y zs i) [
        | inl q ↦ subst (λ k. g z < g k) (sym q) (h z (inl refl) (s.0 t there))
        | inr q ↦ s.0 y q
      ],
      put_sorted g t c zs s.1 there below (λ x i l. h x (inr i) l),
    )))

without_members : (g : ℕ → ℕ) (t x : ℕ) (xs : List ℕ) → Sorted g xs → Among x (without t xs) → Among x xs × (x ≢ t)
without_members g t x [] s a = absurd a
without_members g t x (z ∷ zs) s a =
    by_eq (λ b. Among x (if b then zs else z ∷ without t zs) → Among x (z ∷ zs) × (x ≢ t)) z t
    (λ e i. (inr i, λ q. (let k : g z < g x = s.0 x i in let j : g z ≡ g x = ap g (e ∙ sym q) in omega arith)))
    (λ n i. elim i [
      | inl q ↦ (inl q, λ p. n (q ∙ p))
      | inr q ↦ (let r = without_members g t x zs s.1 q in (inr r.0, r.1))
    ])
    a

without_old : (t x : ℕ) (xs : List ℕ) → Among x xs → x ≢ t → Among x (without t xs)
without_old t x [] a n = absurd a
without_old t x (z ∷ zs) a n =
    by_eq (λ b. Among x (if b then zs else z ∷ without t zs)) z t
    (λ e. elim a [ inl q ↦ absurd (n (sym q ∙ e)) | inr q ↦ q ])
    (λ k. elim a [ inl q ↦ inl q | inr q ↦ inr (without_old t x zs q n) ])

without_some : (t y : ℕ) (xs : List ℕ) → Among y (without t xs) → Among y xs
without_some t y [] a = absurd a
without_some t y (z ∷ zs) a =
    by_eq (λ b. Among y (if b then zs else z ∷ without t zs) → Among y (z ∷ zs)) z t
    (λ e i. inr i)
    (λ n i. elim i [ inl q ↦ inl q | inr q ↦ inr (without_some t y zs q) ])
    a

without_sorted : (g : ℕ → ℕ) (t : ℕ) (xs : List ℕ) → Sorted g xs → Sorted g (without t xs)
without_sorted g t [] s = tt
without_sorted g t (z ∷ zs) s =
    by_eq (λ b. Sorted g (if b then zs else z ∷ without t zs)) z t (λ e. s.1) (λ n. (λ y i. s.0 y (without_some t y zs i), without_sorted g t zs s.1))

-- ---- the rank of a task: the place of its strand

abbrev strand_of : List ℕ → Option Running → ℕ
strand_of en None = 0
strand_of en (Some r) = place r.strand en

abbrev rank : Machine → List ℕ → ℕ → ℕ
rank m en t = strand_of en (slice_get m.tasks t)

rank_is : (m : Machine) (en : List ℕ) (t : ℕ) (r : Running) → slice_get m.tasks t ≡ Some r → rank m en t ≡ place r.strand en
rank_is m en t r h = ap (strand_of en) h

-- the list of a machine: the tasks that have not ended, by rank
record Ready (m : Machine) (en xs : List ℕ) : Type 0 where
  runs : (t : ℕ) → Among t xs → (r : Running) × IsRunning m t r
  all : (t : ℕ) (r : Running) → IsRunning m t r → Among t xs
  sorted : Sorted (rank m en) xs

-- the order after an event
en_step : (e : Event) (past : List Event) (a : Action) → e.action ≡ a → english_past (kept_of (e ∷ past)) ≡ english_by e.strand a (english_past (kept_of past))
en_step e past (Reads cell value) h = ap english_past (kept_off past e (ap structural h))
en_step e past (Writes cell value) h = ap english_past (kept_off past e (ap structural h))
en_step e past (Spawns code child kid cont args) h =
    ap english_past (kept_on past e (ap structural h)) ∙ ap (λ a. english_by e.strand a (english_past (kept_of past))) h
en_step e past (Creates code child kid cont args) h =
    ap english_past (kept_on past e (ap structural h)) ∙ ap (λ a. english_by e.strand a (english_past (kept_of past))) h
en_step e past (Syncs strand) h = ap english_past (kept_on past e (ap structural h)) ∙ ap (λ a. english_by e.strand a (english_past (kept_of past))) h
en_step e past (Gets future value strand) h =
    ap english_past (kept_on past e (ap structural h)) ∙ ap (λ a. english_by e.strand a (english_past (kept_of past))) h
en_step e past (Ends value) h = ap english_past (kept_on past e (ap structural h)) ∙ ap (λ a. english_by e.strand a (english_past (kept_of past))) h

-- ---- one step

-- a step of a machine whose strands are the items of an order
record Stepping (P : tree.Program) (m : Machine) (e : Event) (n : Machine) (en : List ℕ) : Type 0 where
  step : IsStep P m e n
  apart : Apart m
  whole : Whole m.strands en

module _ (P : tree.Program) (m : Machine) (e : Event) (n : Machine) (en : List ℕ) (k : Stepping P m e n en) where
  own : slice_get n.tasks e.task ≡ Some (acted k.step.task k.step.stop e.action)
  own = acting_task P m e n k.step

  other : (x : ℕ) (r : Running) → x ≢ e.task → slice_get m.tasks x ≡ Some r → slice_get n.tasks x ≡ Some r
  other x r ne h = others_stay P m e n x r k.step ne h

  -- a task whose strand stays has its rank
  same_rank : (en' : List ℕ) → en' ≡ en → (acted k.step.task k.step.stop e.action).strand ≡ k.step.task.strand → (x : ℕ) (r : Running)
      → slice_get m.tasks x ≡ Some r → rank n en' x ≡ rank m en x
  same_rank en' same strand x r h =
      elim (cases_eq x e.task) [
        | inl t ↦ (
            let task : k.step.task ≡ r = same_Some k.step.task r (sym k.step.present ∙ subst (λ i. slice_get m.tasks i ≡ Some r) t h) in
            let here : slice_get n.tasks x ≡ Some (acted k.step.task k.step.stop e.action) =
            subst (λ i. slice_get n.tasks i ≡ Some (acted k.step.task k.step.stop e.action)) (sym t) own in
            rank_is n en' x (acted k.step.task k.step.stop e.action) here ∙ ap (λ s. place s en') (strand ∙ ap (λ (q : Running). q.strand) task)
            ∙ ap (place r.strand) same ∙ sym (rank_is m en x r h))
        | inr ne ↦ rank_is n en' x r (other x r ne h) ∙ ap (place r.strand) same ∙ sym (rank_is m en x r h)
      ]

  -- ranks after new strands were put behind the acting one
  moved : (u : ℕ) (items : List ℕ) (en' : List ℕ) (z : ℕ) → Fresh m.strands u items → en' ≡ put_after e.strand items en → Among z items
      → (acted k.step.task k.step.stop e.action).strand ≡ z → (x y : ℕ) (r q : Running) → slice_get m.tasks x ≡ Some r → slice_get m.tasks y ≡ Some q
      → rank m en x < rank m en y → rank n en' x < rank n en' y
  moved u items en' z fresh same in_items strand x y r q hx hy lt =
      let la : e.strand < m.strands = subst (λ s. s < m.strands) k.step.strand (k.apart.made e.task k.step.task k.step.present) in
      let keeps = put_keeps m.strands u e.strand items en k.whole la fresh in
      let anch = put_anch m.strands u e.strand items en k.whole la fresh z in_items in
      let rx : r.strand < m.strands = k.apart.made x r hx in
      let ry : q.strand < m.strands = k.apart.made y q hy in
      let lt' : place r.strand en < place q.strand en =
      subst (λ i. i < place q.strand en) (rank_is m en x r hx) (subst (λ i. rank m en x < i) (rank_is m en y q hy) lt) in
      let t_rank : rank n en' e.task ≡ place z (put_after e.strand items en) =
      rank_is n en' e.task (acted k.step.task k.step.stop e.action) own ∙ ap (λ s. place s en') strand ∙ ap (place z) same in
      let o_rank : (i : ℕ) (p : Running) → i ≢ e.task → slice_get m.tasks i ≡ Some p → rank n en' i ≡ place p.strand (put_after e.strand items en) =
      λ i p ne h. rank_is n en' i p (other i p ne h) ∙ ap (place p.strand) same in
      let here : (i : ℕ) (p : Running) → i ≡ e.task → slice_get m.tasks i ≡ Some p → p.strand ≡ e.strand =
      λ i p at h.
      (let task : k.step.task ≡ p =
      same_Some k.step.task p (sym k.step.present ∙ subst (λ j. slice_get m.tasks j ≡ Some p) at h) in ap (λ (w : Running). w.strand) (sym task)
      ∙ k.step.strand) in
      elim (cases_eq x e.task) [
        | inl tx ↦ elim (cases_eq y e.task) [
          | inl ty ↦
              absurd (let same_strand : place r.strand en ≡ place q.strand en = ap (λ s. place s en) (here x r tx hx ∙ sym (here y q ty hy)) in omega arith)
          | inr ny ↦ (
              let a : place z (put_after e.strand items en) < place q.strand (put_after e.strand items en) =
              anch.high q.strand ry (subst (λ s. place s en < place q.strand en) (here x r tx hx) lt') in
              subst (λ i. i < rank n en' y) (sym (ap (rank n en') tx ∙ t_rank))
              (subst (λ i. place z (put_after e.strand items en) < i) (sym (o_rank y q ny hy)) a))
        ]
        | inr nx ↦ elim (cases_eq y e.task) [
          | inl ty ↦ (
              let below : place r.strand en < place e.strand en = subst (λ s. place r.strand en < place s en) (here y q ty hy) lt' in
              let a : place r.strand (put_after e.strand items en) < place z (put_after e.strand items en) = anch.low r.strand rx (omega arith) in
              subst (λ i. i < rank n en' y) (sym (o_rank x r nx hx))
              (subst (λ i. place r.strand (put_after e.strand items en) < i) (sym (ap (rank n en') ty ∙ t_rank)) a))
          | inr ny ↦ (
              let a : place r.strand (put_after e.strand items en) < place q.strand (put_after e.strand items en) = keeps.lt r.strand q.strand rx ry lt' in
              subst (λ i. i < rank n en' y) (sym (o_rank x r nx hx)) (subst (λ i. place r.strand (put_after e.strand items en) < i) (sym (o_rank y q ny hy)) a))
        ]
      ]

  -- the tasks of a list that go on
  runs_on : (acted k.step.task k.step.stop e.action).value ≡ None → (xs : List ℕ) → ((t : ℕ) → Among t xs → (r : Running) × IsRunning m t r) → (t : ℕ)
      → Among t xs → (r : Running) × IsRunning n t r
  runs_on value xs runs t a =
      let r = runs t a in
      elim (cases_eq t e.task) [
        | inl at ↦
            (acted k.step.task k.step.stop e.action, (subst (λ i. slice_get n.tasks i ≡ Some (acted k.step.task k.step.stop e.action)) (sym at) own, value))
        | inr ne ↦ (r.0, (other t r.0 ne r.1.0, r.1.1))
      ]

  -- a task of the machine after the step: the acting one, an old one, or the child
  which : (t : ℕ) (r : Running) → slice_get n.tasks t ≡ Some r → ((t ≡ e.task) × (acted k.step.task k.step.stop e.action ≡ r))
      ⊎ (((t ≢ e.task) × (slice_get m.tasks t ≡ Some r)) ⊎ Behind m.tasks (child_of P k.step.task e.action) t r)
  which t r h =
      let whole : slice_get (slice_set m.tasks e.task (acted k.step.task k.step.stop e.action) ++ child_of P k.step.task e.action) t ≡ Some r =
      subst (λ (q : Machine). slice_get q.tasks t ≡ Some r) k.step.gives h in
      get_after m.tasks (child_of P k.step.task e.action) e.task (acted k.step.task k.step.stop e.action) k.step.task k.step.present t r whole

  -- no child
  all_on : child_of P k.step.task e.action ≡ [] → (xs : List ℕ) → ((t : ℕ) (r : Running) → IsRunning m t r → Among t xs) → (t : ℕ) (r : Running)
      → IsRunning n t r → Among t xs
  all_on none xs all t r run =
      elim (which t r run.0) [
        | inl o ↦ subst (λ i. Among i xs) (sym o.0) (all e.task k.step.task (k.step.present, k.step.running))
        | inr i ↦ elim i [
          | inl o ↦ all t r (o.1, run.1)
          | inr b ↦
              absurd (let q : slice_get [] b.0 ≡ Some r = subst (λ (ys : List Running). slice_get ys b.0 ≡ Some r) none b.2 in let p : None ≡ Some r = q in cc)
        ]
      ]

  -- an event that leaves its task on its strand
  stays : (en' xs : List ℕ) → en' ≡ en → (acted k.step.task k.step.stop e.action).strand ≡ k.step.task.strand
      → (acted k.step.task k.step.stop e.action).value ≡ None → child_of P k.step.task e.action ≡ [] → Ready m en xs → Ready n en' xs
  stays en' xs same strand value none x =
      record {
        runs = runs_on value xs x.runs;
        all = all_on none xs x.all;
        sorted = sorted_map (rank m en) (rank n en') xs (λ y z a b l. (
            let ry = x.runs y a in
            let rz = x.runs z b in
            subst (λ i. i < rank n en' z) (sym (same_rank en' same strand y ry.0 ry.1.0))
            (subst (λ i. rank m en y < i) (sym (same_rank en' same strand z rz.0 rz.1.0)) l))) x.sorted;
      }

  -- an event by which its task goes on to one new strand
  goes : (en' xs : List ℕ) (z : ℕ) → z ≡ m.strands → en' ≡ put_after e.strand (z ∷ []) en → (acted k.step.task k.step.stop e.action).strand ≡ z
      → (acted k.step.task k.step.stop e.action).value ≡ None → child_of P k.step.task e.action ≡ [] → Ready m en xs → Ready n en' xs
  goes en' xs z new same strand value none x =
      record {
        runs = runs_on value xs x.runs;
        all = all_on none xs x.all;
        sorted = sorted_map (rank m en) (rank n en') xs (λ y w a b l. (
            let ry = x.runs y a in
            let rw' = x.runs w b in
            moved (m.strands + 1) (z ∷ []) en' z (fresh_one m.strands z new) same (inl refl) strand y w ry.0 rw'.0 ry.1.0 rw'.1.0 l)) x.sorted;
      }

  -- a task that ends
  ends : (en' xs : List ℕ) → en' ≡ en → (acted k.step.task k.step.stop e.action).strand ≡ k.step.task.strand
      → IsSome (acted k.step.task k.step.stop e.action).value → child_of P k.step.task e.action ≡ [] → Ready m en xs → Ready n en' (without e.task xs)
  ends en' xs same strand value none x =
      record {
        runs = λ t a. (
            let o = without_members (rank m en) e.task t xs x.sorted a in
            let r = x.runs t o.0 in
            (r.0, (other t r.0 o.1 r.1.0, r.1.1)));
        all = λ t r run. elim (which t r run.0) [
          | inl o ↦ absurd (not_both r.value run.1 (subst (λ (q : Running). IsSome q.value) o.1 value))
          | inr i ↦ elim i [
            | inl o ↦ without_old e.task t xs (x.all t r (o.1, run.1)) o.0
            | inr b ↦
                absurd
                (let q : slice_get [] b.0 ≡ Some r = subst (λ (ys : List Running). slice_get ys b.0 ≡ Some r) none b.2 in let p : None ≡ Some r = q in cc)
          ]
        ];
        sorted = without_sorted (rank n en') e.task xs (sorted_map (rank m en) (rank n en') xs (λ y z a b l. (
            let ry = x.runs y a in
            let rz = x.runs z b in
            subst (λ i. i < rank n en' z) (sym (same_rank en' same strand y ry.0 ry.1.0))
            (subst (λ i. rank m en y < i) (sym (same_rank en' same strand z rz.0 rz.1.0)) l))) x.sorted);
      }

  -- an event that begins a child on `kid`, and by which its task goes on to `cont`
  forks : (en' xs : List ℕ) (child kid cont : ℕ) (c : Running) → child ≡ length m.tasks → kid ≡ m.strands → cont ≡ kid + 1
      → en' ≡ put_after e.strand (kid ∷ cont ∷ []) en → (acted k.step.task k.step.stop e.action).strand ≡ cont
      → (acted k.step.task k.step.stop e.action).value ≡ None → child_of P k.step.task e.action ≡ c ∷ [] → c.strand ≡ kid → c.value ≡ None → Ready m en xs
      → Ready n en' (put_before e.task child xs)
  forks en' xs child kid cont c number first next same strand value made on runs x =
      let items = kid ∷ cont ∷ [] in
      let fresh = fresh_two m.strands kid cont first next in
      let la : e.strand < m.strands = subst (λ s. s < m.strands) k.step.strand (k.apart.made e.task k.step.task k.step.present) in
      let there : slice_get n.tasks child ≡ Some c = subst (λ i. slice_get n.tasks i ≡ Some c) (sym number) (child_comes P m e n c k.step made) in
      let t_in : Among e.task xs = x.all e.task k.step.task (k.step.present, k.step.running) in
      let c_rank : rank n en' child ≡ place kid (put_after e.strand items en) = rank_is n en' child c there ∙ ap (λ s. place s en') on ∙ ap (place kid) same in
      let t_rank : rank n en' e.task ≡ place cont (put_after e.strand items en) =
      rank_is n en' e.task (acted k.step.task k.step.stop e.action) own ∙ ap (λ s. place s en') strand ∙ ap (place cont) same in
      let kid_at = put_at m.strands (m.strands + 2) e.strand items en k.whole la fresh kid (inl refl) in
      let cont_at = put_at m.strands (m.strands + 2) e.strand items en k.whole la fresh cont (inr (inl refl)) in
      let head = place_head kid (cont ∷ []) in
      let behind = place_next kid cont [] (λ q. (let z : kid ≡ kid + 1 = q ∙ next in omega arith)) in
      let child_first : rank n en' child < rank n en' e.task = omega (arith, c_rank, t_rank, kid_at, cont_at, head, behind) in
      let kid_anch = put_anch m.strands (m.strands + 2) e.strand items en k.whole la fresh kid (inl refl) in
      let cont_anch = put_anch m.strands (m.strands + 2) e.strand items en k.whole la fresh cont (inr (inl refl)) in
      record {
        runs = λ t a. elim (put_members e.task child t xs a) [
          | inl q ↦ (c, (subst (λ i. slice_get n.tasks i ≡ Some c) (sym q) there, runs))
          | inr q ↦ runs_on value xs x.runs t q
        ];
        all = λ t r run. elim (which t r run.0) [
          | inl o ↦ put_old e.task child t xs (subst (λ i. Among i xs) (sym o.0) t_in)
          | inr i ↦ elim i [
            | inl o ↦ put_old e.task child t xs (x.all t r (o.1, run.1))
            | inr b ↦ (
                let z = only c r b.0 (subst (λ (ys : List Running). slice_get ys b.0 ≡ Some r) made b.2) in
                let first_one : b.0 ≡ 0 = z.0 in
                let at : child ≡ t = number ∙ (let q : length m.tasks ≡ t = omega (arith, b.1, first_one) in q) in
                subst (λ i. Among i (put_before e.task child xs)) at (put_new e.task child xs t_in))
          ]
        ];
        sorted =
            put_sorted (rank n en') e.task child xs
            (sorted_map (rank m en) (rank n en') xs (λ y w a b l. (
            let ry = x.runs y a in
            let rw' = x.runs w b in
            moved (m.strands + 2) items en' cont fresh same (inr (inl refl)) strand y w ry.0 rw'.0 ry.1.0 rw'.1.0 l)) x.sorted)
            t_in child_first
            (λ y a l. (
            let r = x.runs y a in
            let made_strand : r.0.strand < m.strands = k.apart.made y r.0 r.1.0 in
            elim (cases_eq y e.task) [
              | inl q ↦ absurd (let z : rank n en' y ≡ rank n en' e.task = ap (rank n en') q in omega arith)
              | inr ne ↦ (
                  let o_rank : rank n en' y ≡ place r.0.strand (put_after e.strand items en) =
                  rank_is n en' y r.0 (other y r.0 ne r.1.0) ∙ ap (place r.0.strand) same in
                  elim (cases_lt (place e.strand en) (place r.0.strand en)) [
                    | inl hi ↦
                        absurd
                        (let z : place cont (put_after e.strand items en) < place r.0.strand (put_after e.strand items en) =
                        cont_anch.high r.0.strand made_strand hi in omega (arith, o_rank, t_rank))
                    | inr lo ↦
                        (let z : place r.0.strand (put_after e.strand items en) < place kid (put_after e.strand items en) =
                        kid_anch.low r.0.strand made_strand lo in omega (arith, o_rank, c_rank))
                  ])
            ]));
      }

ready_step : (P : tree.Program) (past : List Event) (m : Machine) (e : Event) (n : Machine) (a : Action)
    → (k : Stepping P m e n (english_past (kept_of past))) → e.action ≡ a → Ready m (english_past (kept_of past)) (ready_past past)
    → Ready n (english_past (kept_of (e ∷ past))) (ready_by e.task a (ready_past past))
ready_step P past m e n (Reads cell value) k is x =
    stays P m e n (english_past (kept_of past)) k (english_past (kept_of (e ∷ past))) (ready_past past) (en_step e past (Reads cell value) is)
    (ap (λ b. (acted k.step.task k.step.stop b).strand) is) (ap (λ b. (acted k.step.task k.step.stop b).value) is ∙ k.step.running)
    (ap (child_of P k.step.task) is) x
ready_step P past m e n (Writes cell value) k is x =
    stays P m e n (english_past (kept_of past)) k (english_past (kept_of (e ∷ past))) (ready_past past) (en_step e past (Writes cell value) is)
    (ap (λ b. (acted k.step.task k.step.stop b).strand) is) (ap (λ b. (acted k.step.task k.step.stop b).value) is ∙ k.step.running)
    (ap (child_of P k.step.task) is) x
ready_step P past m e n (Spawns code child kid cont args) k is x =
    let may : Permits m k.step.task (Spawns code child kid cont args) = subst (Permits m k.step.task) is k.step.permits in
    forks P m e n (english_past (kept_of past)) k (english_past (kept_of (e ∷ past))) (ready_past past) child kid cont
    (begins P code args kid k.step.task.future) may.0 may.1 (may.2 ∙ ap (λ i. i + 1) (sym may.1)) (en_step e past (Spawns code child kid cont args) is)
    (ap (λ b. (acted k.step.task k.step.stop b).strand) is) (ap (λ b. (acted k.step.task k.step.stop b).value) is ∙ k.step.running)
    (ap (child_of P k.step.task) is) refl refl x
ready_step P past m e n (Creates code child kid cont args) k is x =
    let may : Permits m k.step.task (Creates code child kid cont args) = subst (Permits m k.step.task) is k.step.permits in
    forks P m e n (english_past (kept_of past)) k (english_past (kept_of (e ∷ past))) (ready_past past) child kid cont
    (begins P code args kid child) may.0 may.1 (may.2 ∙ ap (λ i. i + 1) (sym may.1)) (en_step e past (Creates code child kid cont args) is)
    (ap (λ b. (acted k.step.task k.step.stop b).strand) is) (ap (λ b. (acted k.step.task k.step.stop b).value) is ∙ k.step.running)
    (ap (child_of P k.step.task) is) refl refl x
ready_step P past m e n (Syncs strand) k is x =
    let may : Permits m k.step.task (Syncs strand) = subst (Permits m k.step.task) is k.step.permits in
    goes P m e n (english_past (kept_of past)) k (english_past (kept_of (e ∷ past))) (ready_past past) strand may.0 (en_step e past (Syncs strand) is)
    (ap (λ b. (acted k.step.task k.step.stop b).strand) is) (ap (λ b. (acted k.step.task k.step.stop b).value) is ∙ k.step.running)
    (ap (child_of P k.step.task) is) x
ready_step P past m e n (Gets future value strand) k is x =
    let may : Permits m k.step.task (Gets future value strand) = subst (Permits m k.step.task) is k.step.permits in
    goes P m e n (english_past (kept_of past)) k (english_past (kept_of (e ∷ past))) (ready_past past) strand may.0
    (en_step e past (Gets future value strand) is) (ap (λ b. (acted k.step.task k.step.stop b).strand) is)
    (ap (λ b. (acted k.step.task k.step.stop b).value) is ∙ k.step.running) (ap (child_of P k.step.task) is) x
ready_step P past m e n (Ends value) k is x =
    ends P m e n (english_past (kept_of past)) k (english_past (kept_of (e ∷ past))) (ready_past past) (en_step e past (Ends value) is)
    (ap (λ b. (acted k.step.task k.step.stop b).strand) is) (subst IsSome (sym (ap (λ b. (acted k.step.task k.step.stop b).value) is)) refl)
    (ap (child_of P k.step.task) is) x

-- ---- whole histories

-- a machine to which events lead, the newest first, is led to by the history
leads_of : (P : tree.Program) (past : List Event) (m : Machine) → Came P past m → Leads P (opening P) (reverse past) m
leads_of P [] m c = c
leads_of P (e ∷ past) m (q, c, step) =
    subst (λ h. Leads P (opening P) h m) (sym (reverse-append (e ∷ []) past)) (leads_further P (opening P) (reverse past) e q m (leads_of P past q c) step)

first_rank : (P : tree.Program) → Ready (opening P) (0 ∷ []) (0 ∷ [])
first_rank P =
    record {
      runs =
          λ t a. elim a [
            | inl q ↦
                (begins P (main_of P) [] 0 0, (subst (λ i. slice_get (opening P).tasks i ≡ Some (begins P (main_of P) [] 0 0)) q refl, refl))
            | inr q ↦ absurd q
          ];
      all = λ t r run. inl (sym (only (begins P (main_of P) [] 0 0) r t run.0).0);
      sorted = (λ y a. absurd a, tt);
    }

came_ready : (P : tree.Program) (past : List Event) (m : Machine) → Came P past m → Ready m (english_past (kept_of past)) (ready_past past)
came_ready P [] m c = subst (λ (q : Machine). Ready q (0 ∷ []) (0 ∷ [])) c (first_rank P)
came_ready P (e ∷ past) m (q, c, step) =
    let sound = came_sound P past q c in
    let strands = (came_mirrors P past q c).strands in
    let whole : Whole q.strands (english_past (kept_of past)) = subst (λ i. Whole i (english_past (kept_of past))) strands (whole_en (kept_of past) sound) in
    ready_step P past q e m e.action (record { step = step; apart = apart P (reverse past) q (leads_of P past q c); whole = whole }) refl
    (came_ready P past q c)

ready : (P : tree.Program) (h : List Event) (m : Machine) → Leads P (opening P) h m → Ready m (english_past (past_of h)) (ready_of h)
ready P h m l = subst (λ p. Ready m (english_past p) (ready_of h)) (past_is h) (came_ready P (reverse h) m (came P h m l))

pub ready_run : ReadyRun
ready_run P h m t l = (λ a. (ready P h m l).runs t a, λ r. (ready P h m l).all t r.0 r.1)

pub ready_is_first : ReadyIsFirst
ready_is_first P h m t ts l e =
    let x = ready P h m l in
    let en = english_past (past_of h) in
    let s : Sorted (rank m en) (t ∷ ts) = subst (Sorted (rank m en)) e x.sorted in
    let r = x.runs t (subst (Among t) (sym e) (inl refl)) in
    let whole : Whole m.strands en = subst (λ i. Whole i en) ((mirrors P h m l).strands) (whole_en (past_of h) (sound_past P h m l)) in (
      r.0,
      record {
        running = r.1;
        least = λ u q run. (
            let a : Among u (t ∷ ts) = subst (Among u) e (x.all u q run) in
            elim a [
              | inl same ↦ inl (sym same)
              | inr later ↦ inr (
                  let lt : rank m en t < rank m en u = s.0 u later in
                  let lt' : place r.0.strand en < place q.strand en =
                  subst (λ i. i < place q.strand en) (rank_is m en t r.0 r.1.0) (subst (λ i. rank m en t < i) (rank_is m en u q run.0) lt) in
                  place_before r.0.strand q.strand en (whole.all q.strand ((apart P h m l).made u q run.0)) lt')
            ]);
      },
    )

each_ended : (rs : List Running) → ((t : ℕ) (r : Running) → slice_get rs t ≡ Some r → r.value ≡ None → ⊥) → EachEnded rs
each_ended [] h = tt
each_ended (r ∷ rs) h = (has_value r.value (h zero r refl), each_ended rs (λ t q g. h (suc t) q g))
  where
    has_value : (o : Option Value) → (o ≡ None → ⊥) → IsSome o
    has_value None n = absurd (n refl)
    has_value (Some v) n = refl

nothing_in : (xs : List ℕ) → ((t : ℕ) → Among t xs → ⊥) → xs ≡ []
nothing_in [] h = refl
nothing_in (x ∷ xs) h = absurd (h x (inl refl))

pub none_is_ready : NoneIsReady
none_is_ready P h m l =
    let x = ready P h m l in (
      λ e. each_ended m.tasks (λ t r g v. (let a : Among t [] = subst (Among t) e (x.all t r (g, v)) in absurd a)),
      λ all. nothing_in (ready_of h) (λ t a. (let r = x.runs t a in not_both r.0.value r.1.1 (ended_at m.tasks t r.0 all r.1.0))),
    )

pub first_may_go_on : FirstMayGoOn
first_may_go_on P h m t r w l first =
    none_is_stuck P h m t r l (well_typed_has_cells P w) first (λ s at wish. running_has_wish P h m t r s w l first.running.0 first.running.1 at wish)
