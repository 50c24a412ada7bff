-- Each strand is begun once, and left once.
use Rattle.std.proofs.Common.{◌≡◌, ◌≢◌, ℕ, zero, suc, ◌+◌, ◌<◌, ◌≤◌, Bool, true, false, cond, ◌==◌, ◌||◌}
use Rattle.std.proofs.Common.{List, [], ◌∷◌, ◌++◌, length, ◌⊎◌, inl, inr, refl, sym, ap, ◌∙◌, subst, arith}
use Rattle.std.proofs.lemmas.List.Sums.{sum_by-cons}
use Rattle.std.specs.Prelude.{◌&&◌, Option, Some, None, IsSome, is_some, count_by, slice_get}
use Rattle.std.proofs.lemmas.Option.{same_Some}
use Rattle.std.proofs.lemmas.Bool.{cases_Bool, cases_eq, cases_lt}
use Rattle.fut_base.proofs.Cases.{by_eq}
use Rattle.fut_base.specs.declared.record.Value.{Value}
use Rattle.fut_base.specs.declared.event.Event.{Event}
use Rattle.fut_base.specs.declared.event.Action.{Action}
use Rattle.fut_base.specs.declared.event.Action.TheVariants.{Reads, Writes, Spawns, Creates, Syncs, Gets, Ends}
use Rattle.fut_base.specs.Events.{structural}
use Rattle.fut_base.specs.Dag.{Among}
use Rattle.fut_base.specs.Orders.{is_in}
use Rattle.fut_base.specs.Sound.{strands_by, value_by}
use Rattle.fut_syntax.specs.Trees as tree
use Rattle.task_machine.specs.Texts.{main_of}
use Rattle.task_machine.specs.Machine.{Machine, Running, opening, begins, acted, child_of, strand_after, Permits, IsStep, Leads, EachEnded}
use Rattle.task_machine.proofs.Leading.{split, join}
use Rattle.task_machine.proofs.Making.{strands_rise, strands_were_made, acting_task, others_stay, child_comes}
use Rattle.task_machine.proofs.Places.{Behind}
use Rattle.strand_laws.proofs.Frames.{own_of}
use Rattle.strand_laws.proofs.Links.{linked, ev}
use Rattle.strand_laws.proofs.Steps.{inv}
use Rattle.run_laws.specs.Laws.{past_of, begun_by, begins_strand, leaves_strand, BegunOnce, LeftOnce, LeftForGood, StrandsAreOwn, WholeLeavesEach}
use Rattle.run_laws.proofs.Pasts.{get_after}
use Rattle.run_laws.proofs.Mirrored.{only, mirrors}
use Rattle.run_laws.proofs.Sound.{sound_past}

-- ---- the strands that an action begins have the next numbers

in_one : (v x : ℕ) → v ≡ x → ((x == v) || false) ≡ true
in_one v x e = by_eq (λ b. (b || false) ≡ true) x v (λ _. refl) (λ n. absurd (n (sym e)))

in_one_is : (v x : ℕ) → ((x == v) || false) ≡ true → v ≡ x
in_one_is v x = by_eq (λ b. (b || false) ≡ true → v ≡ x) x v (λ e _. sym e) (λ n h. cc)

in_two : (v x y : ℕ) → (v ≡ x) ⊎ (v ≡ y) → ((x == v) || ((y == v) || false)) ≡ true
in_two v x y (inl e) = by_eq (λ b. (b || ((y == v) || false)) ≡ true) x v (λ _. refl) (λ n. absurd (n (sym e)))
in_two v x y (inr e) = by_eq (λ b. (b || ((y == v) || false)) ≡ true) x v (λ _. refl) (λ n. in_one v y e)

in_two_is : (v x y : ℕ) → ((x == v) || ((y == v) || false)) ≡ true → (v ≡ x) ⊎ (v ≡ y)
in_two_is v x y = by_eq (λ b. (b || ((y == v) || false)) ≡ true → (v ≡ x) ⊎ (v ≡ y)) x v (λ e _. inl (sym e)) (λ n h. inr (in_one_is v y h))

one_of_two : (v n : ℕ) → n ≤ v → v < n + 2 → (v ≡ n) ⊎ (v ≡ n + 1)
one_of_two v n le lt = grind arith

begun_new : (m : Machine) (r : Running) (a : Action) (v : ℕ) → Permits m r a → is_in v (begun_by a) ≡ true → (m.strands ≤ v) × (v < m.strands + strands_by a)
begun_new m r (Reads _ _) v may h = cc
begun_new m r (Writes _ _) v may h = cc
begun_new m r (Spawns _ child kid cont _) v may h =
    elim (in_two_is v kid cont h) [ inl e ↦ (omega (arith, may.1), omega (arith, may.1)) | inr e ↦ (omega (arith, may.2), omega (arith, may.2)) ]
begun_new m r (Creates _ child kid cont _) v may h =
    elim (in_two_is v kid cont h) [ inl e ↦ (omega (arith, may.1), omega (arith, may.1)) | inr e ↦ (omega (arith, may.2), omega (arith, may.2)) ]
begun_new m r (Syncs strand) v may h = let e = in_one_is v strand h in (omega (arith, may.0), omega (arith, may.0))
begun_new m r (Gets _ _ strand) v may h = let e = in_one_is v strand h in (omega (arith, may.0), omega (arith, may.0))
begun_new m r (Ends _) v may h = cc

new_begun : (m : Machine) (r : Running) (a : Action) (v : ℕ) → Permits m r a → m.strands ≤ v → v < m.strands + strands_by a → is_in v (begun_by a) ≡ true
new_begun m r (Reads _ _) v may le lt = absurd (omega arith)
new_begun m r (Writes _ _) v may le lt = absurd (omega arith)
new_begun m r (Spawns _ child kid cont _) v may le lt =
    in_two v kid cont (elim (one_of_two v m.strands le lt) [ inl e ↦ inl (e ∙ sym may.1) | inr e ↦ inr (e ∙ sym may.2) ])
new_begun m r (Creates _ child kid cont _) v may le lt =
    in_two v kid cont (elim (one_of_two v m.strands le lt) [ inl e ↦ inl (e ∙ sym may.1) | inr e ↦ inr (e ∙ sym may.2) ])
new_begun m r (Syncs strand) v may le lt = in_one v strand (omega (arith, may.0))
new_begun m r (Gets _ _ strand) v may le lt = in_one v strand (omega (arith, may.0))
new_begun m r (Ends _) v may le lt = absurd (omega arith)

pub count_on : (p : Event → Bool) (e : Event) (h : List Event) → p e ≡ true → count_by p (e ∷ h) ≡ 1 + count_by p h
count_on p e h st = sum_by-cons (λ x. cond (p x) 1 0) e h ∙ ap (λ (b : Bool). cond b 1 0 + count_by p h) st

pub count_off : (p : Event → Bool) (e : Event) (h : List Event) → p e ≡ false → count_by p (e ∷ h) ≡ count_by p h
count_off p e h off = sum_by-cons (λ x. cond (p x) 1 0) e h ∙ ap (λ (b : Bool). cond b 1 0 + count_by p h) off
    ∙ (let z : 0 + count_by p h ≡ count_by p h = omega arith in z)

pub strands_grow : (P : tree.Program) (m : Machine) (h : List Event) (n : Machine) → Leads P m h n → m.strands ≤ n.strands
strands_grow P m [] n l = let e : m.strands ≡ n.strands = ap (λ (q : Machine). q.strands) l in omega arith
strands_grow P m (e ∷ h) n (next, step, rest) =
    let a : next.strands ≡ m.strands + strands_by e.action = strands_rise P m e next step in
    let b : next.strands ≤ n.strands = strands_grow P next h n rest in
    omega arith

-- an old strand is not begun again
begun_before : (P : tree.Program) (m : Machine) (h : List Event) (n : Machine) (v : ℕ) → Leads P m h n → v < m.strands → count_by (begins_strand v) h ≡ 0
begun_before P m [] n v l lt = refl
begun_before P m (e ∷ h) n v (next, step, rest) lt =
    let a : next.strands ≡ m.strands + strands_by e.action = strands_rise P m e next step in
    let ih : count_by (begins_strand v) h ≡ 0 = begun_before P next h n v rest (omega arith) in
    elim (cases_Bool (begins_strand v e)) [
      | inl st ↦ absurd (let k : m.strands ≤ v = (begun_new m step.task e.action v step.permits st).0 in omega arith)
      | inr off ↦ count_off (begins_strand v) e h off ∙ ih
    ]

begun_behind : (P : tree.Program) (m : Machine) (h : List Event) (n : Machine) (v : ℕ) → Leads P m h n → n.strands ≤ v → count_by (begins_strand v) h ≡ 0
begun_behind P m [] n v l le = refl
begun_behind P m (e ∷ h) n v (next, step, rest) le =
    let a : next.strands ≡ m.strands + strands_by e.action = strands_rise P m e next step in
    let b : next.strands ≤ n.strands = strands_grow P next h n rest in
    let ih : count_by (begins_strand v) h ≡ 0 = begun_behind P next h n v rest le in
    elim (cases_Bool (begins_strand v e)) [
      | inl st ↦ absurd (let k : v < m.strands + strands_by e.action = (begun_new m step.task e.action v step.permits st).1 in omega arith)
      | inr off ↦ count_off (begins_strand v) e h off ∙ ih
    ]

begun_between : (P : tree.Program) (m : Machine) (h : List Event) (n : Machine) (v : ℕ) → Leads P m h n → m.strands ≤ v → v < n.strands
    → count_by (begins_strand v) h ≡ 1
begun_between P m [] n v l le lt = absurd (let e : m.strands ≡ n.strands = ap (λ (q : Machine). q.strands) l in omega arith)
begun_between P m (e ∷ h) n v (next, step, rest) le lt =
    let a : next.strands ≡ m.strands + strands_by e.action = strands_rise P m e next step in
    elim (cases_lt v next.strands) [
      | inl here ↦ (
          let b : begins_strand v e ≡ true = new_begun m step.task e.action v step.permits le (omega arith) in
          let k : count_by (begins_strand v) h ≡ 0 = begun_before P next h n v rest here in
          count_on (begins_strand v) e h b ∙ ap (λ z. 1 + z) k)
      | inr later ↦ (
          let ih : count_by (begins_strand v) h ≡ 1 = begun_between P next h n v rest later lt in
          elim (cases_Bool (begins_strand v e)) [
            | inl st ↦ absurd (let k : v < m.strands + strands_by e.action = (begun_new m step.task e.action v step.permits st).1 in omega arith)
            | inr off ↦ count_off (begins_strand v) e h off ∙ ih
          ])
    ]

pub begun_once : BegunOnce
begun_once P h m v l =
    record {
      once = λ lo hi. begun_between P (opening P) h m v l (omega arith) hi;
      first = λ e. begun_before P (opening P) h m v l (omega arith);
      later = λ le. begun_behind P (opening P) h m v l le;
    }

-- ---- no event stands on a strand that was left

-- each task stands on a strand that was made, and on one of its own
pub record Apart (m : Machine) : Type 0 where
  pub made : (t : ℕ) (r : Running) → slice_get m.tasks t ≡ Some r → r.strand < m.strands
  pub own : (t u : ℕ) (r q : Running) → slice_get m.tasks t ≡ Some r → slice_get m.tasks u ≡ Some q → r.strand ≡ q.strand → t ≡ u

pub apart : (P : tree.Program) (h : List Event) (m : Machine) → Leads P (opening P) h m → Apart m
apart P h m l =
    let x = mirrors P h m l in
    let sp = sound_past P h m l in
    let k = linked (past_of h) sp in
    record {
      made = λ t r g. strands_were_made P h m t r l g;
      own = λ t u r q g g' e. (
          let a = k.cur t r.strand (x.each t r g).strand in
          let b = k.cur u q.strand (x.each u q g').strand in
          sym ((inv (past_of h) sp).each t a.0).owns ∙ ap (own_of (past_of h)) (a.1 ∙ e ∙ sym b.1) ∙ ((inv (past_of h) sp).each u b.0).owns);
    }

pub strands_are_own : StrandsAreOwn
strands_are_own P h m t u r q l g g' e = (apart P h m l).own t u r q g g' e

-- no task that runs stands on a strand that was made
pub record Dead (m : Machine) (s : ℕ) : Type 0 where
  pub made : s < m.strands
  pub off : (t : ℕ) (r : Running) → slice_get m.tasks t ≡ Some r → r.value ≡ None → r.strand ≢ s

strand_moves : (m : Machine) (r : Running) (a : Action) → Permits m r a → (strand_after a r.strand ≡ r.strand) ⊎ (m.strands ≤ strand_after a r.strand)
strand_moves m r (Reads _ _) may = inl refl
strand_moves m r (Writes _ _) may = inl refl
strand_moves m r (Spawns _ child kid cont _) may = inr (omega (arith, may.2))
strand_moves m r (Creates _ child kid cont _) may = inr (omega (arith, may.2))
strand_moves m r (Syncs strand) may = inr (omega (arith, may.0))
strand_moves m r (Gets _ _ strand) may = inr (omega (arith, may.0))
strand_moves m r (Ends _) may = inl refl

leaving_moves : (m : Machine) (r : Running) (a : Action) → structural a ≡ true → Permits m r a → value_by a r.value ≡ None → m.strands ≤ strand_after a r.strand
leaving_moves m r (Reads _ _) st may run = cc
leaving_moves m r (Writes _ _) st may run = cc
leaving_moves m r (Spawns _ child kid cont _) st may run = omega (arith, may.2)
leaving_moves m r (Creates _ child kid cont _) st may run = omega (arith, may.2)
leaving_moves m r (Syncs strand) st may run = omega (arith, may.0)
leaving_moves m r (Gets _ _ strand) st may run = omega (arith, may.0)
leaving_moves m r (Ends _) st may run = cc

child_strand : (P : tree.Program) (m : Machine) (r : Running) (a : Action) (t : ℕ) (q : Running) → Permits m r a → Behind m.tasks (child_of P r a) t q
    → m.strands ≤ q.strand
child_strand P m r (Reads _ _) t q may (k, at, is) = cc
child_strand P m r (Writes _ _) t q may (k, at, is) = cc
child_strand P m r (Spawns code child kid cont args) t q may (k, at, is) =
    let e : kid ≡ q.strand = ap (λ (z : Running). z.strand) (only (begins P code args kid r.future) q k is).1 in omega (arith, may.1)
child_strand P m r (Creates code child kid cont args) t q may (k, at, is) =
    let e : kid ≡ q.strand = ap (λ (z : Running). z.strand) (only (begins P code args kid child) q k is).1 in omega (arith, may.1)
child_strand P m r (Syncs _) t q may (k, at, is) = cc
child_strand P m r (Gets _ _ _) t q may (k, at, is) = cc
child_strand P m r (Ends _) t q may (k, at, is) = cc

module _ (P : tree.Program) (m : Machine) (e : Event) (n : Machine) (x : IsStep P m e n) where
  rises : n.strands ≡ m.strands + strands_by e.action
  rises = strands_rise P m e n x

  -- where each task of the next machine comes from
  pub comes : (t : ℕ) (q : Running) → slice_get n.tasks t ≡ Some q
      → ((t ≡ e.task) × (acted x.task x.stop e.action ≡ q))
      ⊎ (((t ≢ e.task) × (slice_get m.tasks t ≡ Some q)) ⊎ Behind m.tasks (child_of P x.task e.action) t q)
  comes t q h =
      get_after m.tasks (child_of P x.task e.action) e.task (acted x.task x.stop e.action) x.task x.present t q
      (subst (λ (z : Machine). slice_get z.tasks t ≡ Some q) x.gives h)

  pub dead_next : (s : ℕ) → Dead m s → (e.strand ≢ s) × Dead n s
  dead_next s d = (
    λ k. d.off e.task x.task x.present x.running (x.strand ∙ k),
    record {
      made = (let a : s < m.strands = d.made in let b = rises in omega arith);
      off = λ t q h run k. (
          let a : s < m.strands = d.made in
          elim (comes t q h) [
            | inl own ↦ (
                let z : strand_after e.action x.task.strand ≡ q.strand = ap (λ (y : Running). y.strand) own.1 in
                elim (strand_moves m x.task e.action x.permits) [
                  | inl same ↦ d.off e.task x.task x.present x.running (sym same ∙ z ∙ k)
                  | inr new ↦ omega arith
                ])
            | inr other ↦ elim other [
              | inl old ↦ d.off t q old.1 run k
              | inr new ↦ (let z : m.strands ≤ q.strand = child_strand P m x.task e.action t q x.permits new in omega arith)
            ]
          ]);
    },
  )

  pub dead_left : Apart m → structural e.action ≡ true → Dead n e.strand
  dead_left p st =
      let on : x.task.strand ≡ e.strand = x.strand in
      let low : x.task.strand < m.strands = p.made e.task x.task x.present in
      record {
        made = (let b = rises in omega arith);
        off = λ t q h run k. (
            elim (comes t q h) [
              | inl own ↦ (
                  let z : strand_after e.action x.task.strand ≡ q.strand = ap (λ (y : Running). y.strand) own.1 in
                  let w : value_by e.action x.task.value ≡ None = ap (λ (y : Running). y.value) own.1 ∙ run in
                  let b : m.strands ≤ strand_after e.action x.task.strand = leaving_moves m x.task e.action st x.permits w in
                  omega arith)
              | inr other ↦ elim other [
                | inl old ↦ old.0 (p.own t e.task q x.task old.1 x.present (k ∙ sym on))
                | inr new ↦ (let z : m.strands ≤ q.strand = child_strand P m x.task e.action t q x.permits new in omega arith)
              ]
            ]);
      }

dead_rest : (P : tree.Program) (m : Machine) (h : List Event) (n : Machine) (s : ℕ) → Leads P m h n → Dead m s → (d : Event) → Among d h → d.strand ≢ s
dead_rest P m [] n s l dead d a = absurd a
dead_rest P m (e ∷ h) n s (next, step, rest) dead d (inl same) = subst (λ (z : Event). z.strand ≢ s) same (dead_next P m e next step s dead).0
dead_rest P m (e ∷ h) n s (next, step, rest) dead d (inr a) = dead_rest P next h n s rest (dead_next P m e next step s dead).1 d a

pub left_for_good : LeftForGood
left_for_good P before e later (m, l) st d a =
    let k = split P (opening P) before (e ∷ later) m l in
    let p : Apart k.0 = apart P before k.0 k.1 in
    dead_rest P k.2.0 later m e.strand k.2.2 (dead_left P k.0 e k.2.0 k.2.1 p st) d a

leaves_is : (v : ℕ) (e : Event) → leaves_strand v e ≡ true → (structural e.action ≡ true) × (e.strand ≡ v)
leaves_is v e h = go (structural e.action) h
  where
    eq : (e.strand == v) ≡ true → e.strand ≡ v
    eq = by_eq (λ b. b ≡ true → e.strand ≡ v) e.strand v (λ q _. q) (λ _ k. cc)

    go : (b : Bool) → (b && (e.strand == v)) ≡ true → (b ≡ true) × (e.strand ≡ v)
    go true k = (refl, eq k)
    go false k = cc

leaves_not : (v : ℕ) (e : Event) → e.strand ≢ v → leaves_strand v e ≡ false
leaves_not v e ne = elim (cases_Bool (leaves_strand v e)) [ inl st ↦ absurd (ne (leaves_is v e st).1) | inr off ↦ off ]

count_none : (v : ℕ) (h : List Event) → ((d : Event) → Among d h → d.strand ≢ v) → count_by (leaves_strand v) h ≡ 0
count_none v [] f = refl
count_none v (e ∷ h) f = count_off (leaves_strand v) e h (leaves_not v e (f e (inl refl))) ∙ count_none v h (λ d a. f d (inr a))

-- a history, as one event behind another
pub shifted : (P : tree.Program) (before : List Event) (m : Machine) (e : Event) (next : Machine) → Leads P (opening P) before m → IsStep P m e next
    → Leads P (opening P) (before ++ e ∷ []) next
shifted P before m e next l step = join P (opening P) before (e ∷ []) next m l (next, step, refl)

left_from : (P : tree.Program) (before h : List Event) (m n : Machine) (v : ℕ) → Leads P (opening P) before m → Leads P m h n → count_by (leaves_strand v) h ≤ 1
left_from P before [] m n v c l = omega arith
left_from P before (e ∷ h) m n v c (next, step, rest) =
    elim (cases_Bool (leaves_strand v e)) [
      | inl st ↦ (
          let k = leaves_is v e st in
          let d : Dead next v = subst (λ z. Dead next z) k.1 (dead_left P m e next step (apart P before m c) k.0) in
          let none : count_by (leaves_strand v) h ≡ 0 = count_none v h (dead_rest P next h n v rest d) in
          let all : count_by (leaves_strand v) (e ∷ h) ≡ 1 + count_by (leaves_strand v) h = count_on (leaves_strand v) e h st in
          omega arith)
      | inr off ↦ (
          let ih : count_by (leaves_strand v) h ≤ 1 = left_from P (before ++ e ∷ []) h next n v (shifted P before m e next c step) rest in
          let all : count_by (leaves_strand v) (e ∷ h) ≡ count_by (leaves_strand v) h = count_off (leaves_strand v) e h off in
          omega arith)
    ]

pub left_once : LeftOnce
left_once P h m v l = left_from P [] h (opening P) m v refl l

-- ---- where all tasks have ended each strand was left

-- a task that runs stands on a strand
pub record Live (m : Machine) (s : ℕ) : Type 0 where
  pub task : ℕ
  pub state : Running
  pub present : slice_get m.tasks task ≡ Some state
  pub running : state.value ≡ None
  pub stands : state.strand ≡ s

pub ended_at : (rs : List Running) (t : ℕ) (r : Running) → EachEnded rs → slice_get rs t ≡ Some r → IsSome r.value
ended_at [] t r h g = cc
ended_at (q ∷ rs) zero r h g = let e : q ≡ r = cc in subst (λ (z : Running). IsSome z.value) e h.0
ended_at (q ∷ rs) (suc t) r h g = ended_at rs t r h.1 g

pub not_both : (o : Option Value) → o ≡ None → IsSome o → ⊥
not_both o e h = let z : false ≡ true = sym (ap (λ (p : Option Value). is_some p) e) ∙ h in cc

stays_put : (a : Action) (r : Running) → structural a ≡ false → r.value ≡ None → (value_by a r.value ≡ None) × (strand_after a r.strand ≡ r.strand)
stays_put (Reads _ _) r off run = (run, refl)
stays_put (Writes _ _) r off run = (run, refl)
stays_put (Spawns _ _ _ _ _) r off run = cc
stays_put (Creates _ _ _ _ _) r off run = cc
stays_put (Syncs _) r off run = cc
stays_put (Gets _ _ _) r off run = cc
stays_put (Ends _) r off run = cc

not_structural : (v : ℕ) (e : Event) → e.strand ≡ v → leaves_strand v e ≡ false → structural e.action ≡ false
not_structural v e at h = go (structural e.action) h
  where
    eq : (e.strand == v) ≡ true
    eq = by_eq (λ b. b ≡ true) e.strand v (λ _. refl) (λ n. absurd (n at))

    go : (b : Bool) → (b && (e.strand == v)) ≡ false → b ≡ false
    go true k = sym eq ∙ k
    go false k = refl

live_next : (P : tree.Program) (m : Machine) (e : Event) (n : Machine) (s : ℕ) → IsStep P m e n → Live m s → leaves_strand s e ≡ false → Live n s
live_next P m e n s x l off =
    elim (cases_eq l.task e.task) [
      | inl same ↦ (
          let is : l.state ≡ x.task = same_Some l.state x.task (sym l.present ∙ ap (λ z. slice_get m.tasks z) same ∙ x.present) in
          let at : e.strand ≡ s = sym x.strand ∙ ap (λ (z : Running). z.strand) (sym is) ∙ l.stands in
          let k = stays_put e.action x.task (not_structural s e at off) x.running in
          record {
            task = e.task;
            state = acted x.task x.stop e.action;
            present = acting_task P m e n x;
            running = k.0;
            stands = k.1 ∙ x.strand ∙ at;
          })
      | inr ne ↦ record { task = l.task; state = l.state; present = others_stay P m e n l.task l.state x ne l.present; running = l.running; stands = l.stands }
    ]

live_left : (P : tree.Program) (m : Machine) (h : List Event) (n : Machine) (s : ℕ) → Leads P m h n → EachEnded n.tasks → Live m s
    → 1 ≤ count_by (leaves_strand s) h
live_left P m [] n s l all live =
    absurd
    (not_both live.state.value live.running (ended_at m.tasks live.task live.state (subst (λ (z : Machine). EachEnded z.tasks) (sym l) all) live.present))
live_left P m (e ∷ h) n s (next, step, rest) all live =
    elim (cases_Bool (leaves_strand s e)) [
      | inl st ↦ (let k : count_by (leaves_strand s) (e ∷ h) ≡ 1 + count_by (leaves_strand s) h = count_on (leaves_strand s) e h st in omega arith)
      | inr off ↦ (
          let ih : 1 ≤ count_by (leaves_strand s) h = live_left P next h n s rest all (live_next P m e next s step live off) in
          let k : count_by (leaves_strand s) (e ∷ h) ≡ count_by (leaves_strand s) h = count_off (leaves_strand s) e h off in
          omega arith)
    ]

module _ (P : tree.Program) (m : Machine) (t at : ℕ) (n : Machine) where
  acting_live : (a : Action) (x : IsStep P m (ev t at a) n) (s : ℕ) → value_by a x.task.value ≡ None → strand_after a x.task.strand ≡ s → Live n s
  acting_live a x s run on = record { task = t; state = acted x.task x.stop a; present = acting_task P m (ev t at a) n x; running = run; stands = on }

  fresh_live : (a : Action) (x : IsStep P m (ev t at a) n) (s : ℕ) → m.strands ≤ s → s < m.strands + strands_by a → Live n s
  fresh_live (Reads _ _) x s le lt = absurd (omega arith)
  fresh_live (Writes _ _) x s le lt = absurd (omega arith)
  fresh_live (Spawns code child kid cont args) x s le lt =
      elim (one_of_two s m.strands le lt) [
        | inl e ↦ (
            let q : Running = begins P code args kid x.task.future in
            record {
              task = length m.tasks;
              state = q;
              present = child_comes P m (ev t at (Spawns code child kid cont args)) n q x refl;
              running = refl;
              stands = x.permits.1 ∙ sym e;
            })
        | inr e ↦ acting_live (Spawns code child kid cont args) x s x.running (x.permits.2 ∙ sym e)
      ]
  fresh_live (Creates code child kid cont args) x s le lt =
      elim (one_of_two s m.strands le lt) [
        | inl e ↦ (
            let q : Running = begins P code args kid child in
            record {
              task = length m.tasks;
              state = q;
              present = child_comes P m (ev t at (Creates code child kid cont args)) n q x refl;
              running = refl;
              stands = x.permits.1 ∙ sym e;
            })
        | inr e ↦ acting_live (Creates code child kid cont args) x s x.running (x.permits.2 ∙ sym e)
      ]
  fresh_live (Syncs strand) x s le lt = let e : strand ≡ s =
      (let z : strand ≡ m.strands = x.permits.0 in omega arith) in acting_live (Syncs strand) x s x.running e
  fresh_live (Gets f v strand) x s le lt = let e : strand ≡ s =
      (let z : strand ≡ m.strands = x.permits.0 in omega arith) in acting_live (Gets f v strand) x s x.running e
  fresh_live (Ends _) x s le lt = absurd (omega arith)

more_left : (s : ℕ) (e : Event) (h : List Event) → 1 ≤ count_by (leaves_strand s) h → 1 ≤ count_by (leaves_strand s) (e ∷ h)
more_left s e h le =
    elim (cases_Bool (leaves_strand s e)) [
      | inl st ↦ (let k : count_by (leaves_strand s) (e ∷ h) ≡ 1 + count_by (leaves_strand s) h = count_on (leaves_strand s) e h st in omega arith)
      | inr off ↦ (let k : count_by (leaves_strand s) (e ∷ h) ≡ count_by (leaves_strand s) h = count_off (leaves_strand s) e h off in omega arith)
    ]

new_left : (P : tree.Program) (m : Machine) (h : List Event) (n : Machine) (s : ℕ) → Leads P m h n → EachEnded n.tasks → m.strands ≤ s → s < n.strands
    → 1 ≤ count_by (leaves_strand s) h
new_left P m [] n s l all le lt = absurd (let e : m.strands ≡ n.strands = ap (λ (q : Machine). q.strands) l in omega arith)
new_left P m (e ∷ h) n s (next, step, rest) all le lt =
    let a : next.strands ≡ m.strands + strands_by e.action = strands_rise P m e next step in
    more_left s e h (elim (cases_lt s next.strands) [
      | inl here ↦ live_left P next h n s rest all (fresh_live P m e.task e.strand next e.action step s le (omega arith))
      | inr later ↦ new_left P next h n s rest all later lt
    ])

first_live : (P : tree.Program) → Live (opening P) 0
first_live P = record { task = 0; state = begins P (main_of P) [] 0 0; present = refl; running = refl; stands = refl }

whole_from : (P : tree.Program) (h : List Event) (m : Machine) (s : ℕ) → Leads P (opening P) h m → EachEnded m.tasks → s < m.strands
    → 1 ≤ count_by (leaves_strand s) h
whole_from P h m zero l all lt = live_left P (opening P) h m 0 l all (first_live P)
whole_from P h m (suc s) l all lt = new_left P (opening P) h m (suc s) l all (omega arith) lt

pub whole_leaves_each : WholeLeavesEach
whole_leaves_each P h m v l all lt =
    let a : count_by (leaves_strand v) h ≤ 1 = left_once P h m v l in
    let b : 1 ≤ count_by (leaves_strand v) h = whole_from P h m v l all lt in
    omega arith
