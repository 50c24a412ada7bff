-- The numbers of tasks and strands in the machines of a history.
use Rattle.std.proofs.Common.{◌≡◌, ℕ, zero, suc, ◌+◌, ◌<◌, ◌≤◌, List, [], ◌∷◌, ◌++◌, length, inl, inr, refl, sym, ap, subst, arith, length-append}
use Rattle.std.specs.Prelude.{Some, slice_get, slice_set}
use Rattle.std.proofs.Math.ListN.{length-set}
use Rattle.std.proofs.lemmas.Option.{same_Some}
use Rattle.fut_base.specs.declared.record.Value.{Value}
use Rattle.fut_base.specs.declared.event.Event.{Event}
use Rattle.fut_base.specs.declared.event.Action.{Action}
use Rattle.fut_base.specs.declared.event.Action.TheVariants.{Reads, Writes, Spawns, Creates, Syncs, Gets, Ends}
use Rattle.fut_base.specs.Dag.{Among}
use Rattle.fut_base.specs.Sound.{strands_by, tasks_by}
use Rattle.fut_base.proofs.Members.{among_split}
use Rattle.fut_syntax.specs.Trees as tree
use Rattle.task_machine.specs.Texts.{main_of}
use Rattle.task_machine.specs.State.{TaskState}
use Rattle.task_machine.specs.Machine.{Machine, Running, opening, begins, after, acted, child_of, Permits, IsStep, Leads}
use Rattle.task_machine.proofs.Places.{get_set_append, get_below, get_set_same, get_set_other, get_new}

pub strands_rise : (P : tree.Program) (m : Machine) (e : Event) (n : Machine) → IsStep P m e n → n.strands ≡ m.strands + strands_by e.action
strands_rise P m e n x = ap (λ (q : Machine). q.strands) x.gives

-- a task stands on a strand that was made, and the children of its block come after it and exist
pub record Numbered (tasks strands t : ℕ) (r : Running) : Type 0 where
  pub strand : r.strand < strands
  pub later : (c : ℕ) → Among c r.block → (t < c) × (c < tasks)

abbrev pub AllNumbered : Machine → Type 0
AllNumbered m = (t : ℕ) (r : Running) → slice_get m.tasks t ≡ Some r → Numbered (length m.tasks) m.strands t r

more : (n k s z t : ℕ) (r : Running) → n ≤ k → s ≤ z → Numbered n s t r → Numbered k z t r
more n k s z t r le le' x = record { strand = omega (arith, x.strand); later = λ c a. (let l = x.later c a in (l.0, omega (arith, l.1))) }

begun : (P : tree.Program) (t : ℕ) (r : Running) → slice_get (opening P).tasks t ≡ Some r → Numbered 1 1 t r
begun P zero r h = subst (λ (q : Running). Numbered 1 1 zero q) (same_Some (begins P (main_of P) [] 0 0) r h)
    (record { strand = omega arith; later = λ c a. absurd a })
begun P (suc t) r h = cc

-- an action that makes no strand and leaves the block
same_place : (n s t : ℕ) (r q : Running) → q.strand ≡ r.strand → q.block ≡ r.block → Numbered n s t r → Numbered (n + 0) (s + 0) t q
same_place n s t r q strand block x =
    record {
      strand = omega (arith, x.strand, strand);
      later = λ c a. (let l = x.later c (subst (Among c) block a) in (l.0, omega (arith, l.1)));
    }

-- a child joins the block
joined : (n s t child kid cont : ℕ) (block : List ℕ) → t < n → (child ≡ n) × (kid ≡ s) × (cont ≡ s + 1) → ((c : ℕ) → Among c block → (t < c) × (c < n))
    → (c : ℕ) → Among c (block ++ child ∷ []) → (t < c) × (c < n + 1)
joined n s t child kid cont block below next old c a =
    elim (among_split c block (child ∷ []) a) [
      | inl b ↦ (let l = old c b in (l.0, omega (arith, l.1)))
      | inr b ↦ elim b [ inl same ↦ (omega (arith, next.0, same), omega (arith, next.0, same)) | inr none ↦ absurd none ]
    ]

acted_numbered : (m : Machine) (r : Running) (stop : TaskState) (a : Action) (t : ℕ) → Permits m r a → t < length m.tasks
    → Numbered (length m.tasks) m.strands t r → Numbered (length m.tasks + tasks_by a) (m.strands + strands_by a) t (acted r stop a)
acted_numbered m r stop (Reads cell value) t may below x = same_place _ _ t r _ refl refl x
acted_numbered m r stop (Writes cell value) t may below x = same_place _ _ t r _ refl refl x
acted_numbered m r stop (Spawns code child kid cont args) t may below x =
    record { strand = omega (arith, may.2); later = joined _ _ t child kid cont r.block below may x.later }
acted_numbered m r stop (Creates code child kid cont args) t may below x =
    record { strand = omega (arith, may.2); later = λ c a. (let l = x.later c a in (l.0, omega (arith, l.1))) }
acted_numbered m r stop (Syncs strand) t may below x = record { strand = omega (arith, may.0); later = λ c a. absurd a }
acted_numbered m r stop (Gets future value strand) t may below x =
    record { strand = omega (arith, may.0); later = λ c a. (let l = x.later c a in (l.0, omega (arith, l.1))) }
acted_numbered m r stop (Ends value) t may below x = same_place _ _ t r _ refl refl x

new_numbered : (P : tree.Program) (n s t code kid future : ℕ) (args : List Value) (k : ℕ) (q : Running) → kid < s
    → slice_get (begins P code args kid future ∷ []) k ≡ Some q → Numbered n s t q
new_numbered P n s t code kid future args zero q below h =
    subst (λ (x : Running). Numbered n s t x) (same_Some (begins P code args kid future) q h) (record { strand = below; later = λ c a. absurd a })
new_numbered P n s t code kid future args (suc k) q below h = cc

none_numbered : (n s t k : ℕ) (q : Running) → slice_get [] k ≡ Some q → Numbered n s t q
none_numbered n s t k q h = cc

child_numbered : (P : tree.Program) (m : Machine) (r : Running) (a : Action) (n t k : ℕ) (q : Running) → Permits m r a → slice_get (child_of P r a) k ≡ Some q
    → Numbered n (m.strands + strands_by a) t q
child_numbered P m r (Reads cell value) n t k q may h = none_numbered _ _ t k q h
child_numbered P m r (Writes cell value) n t k q may h = none_numbered _ _ t k q h
child_numbered P m r (Spawns code child kid cont args) n t k q may h = new_numbered P _ _ t code kid r.future args k q (omega (arith, may.1)) h
child_numbered P m r (Creates code child kid cont args) n t k q may h = new_numbered P _ _ t code kid child args k q (omega (arith, may.1)) h
child_numbered P m r (Syncs strand) n t k q may h = none_numbered _ _ t k q h
child_numbered P m r (Gets future value strand) n t k q may h = none_numbered _ _ t k q h
child_numbered P m r (Ends value) n t k q may h = none_numbered _ _ t k q h

child_count : (P : tree.Program) (r : Running) (a : Action) → length (child_of P r a) ≡ tasks_by a
child_count P r (Reads cell value) = refl
child_count P r (Writes cell value) = refl
child_count P r (Spawns code child kid cont args) = refl
child_count P r (Creates code child kid cont args) = refl
child_count P r (Syncs strand) = refl
child_count P r (Gets future value strand) = refl
child_count P r (Ends value) = refl

pub task_count : (P : tree.Program) (m : Machine) (e : Event) (r : Running) (stop : TaskState)
    → length (after P m e r stop).tasks ≡ length m.tasks + tasks_by e.action
task_count P m e r stop =
    let both = length-append (slice_set m.tasks e.task (acted r stop e.action)) (child_of P r e.action) in
    let set = length-set m.tasks e.task (acted r stop e.action) in
    let new = child_count P r e.action in
    omega arith

step_numbered : (P : tree.Program) (m : Machine) (e : Event) (r : Running) (stop : TaskState) → slice_get m.tasks e.task ≡ Some r → Permits m r e.action
    → AllNumbered m → AllNumbered (after P m e r stop)
step_numbered P m e r stop present may x t q h =
    subst (λ n. Numbered n (m.strands + strands_by e.action) t q) (sym (task_count P m e r stop))
    (elim (get_set_append m.tasks (child_of P r e.action) e.task (acted r stop e.action) t q h) as
    (λ _. Numbered (length m.tasks + tasks_by e.action) (m.strands + strands_by e.action) t q) [
      | inl own ↦ (
          subst (λ (y : Running). Numbered (length m.tasks + tasks_by e.action) (m.strands + strands_by e.action) t y) own.1
          (subst (λ i. Numbered (length m.tasks + tasks_by e.action) (m.strands + strands_by e.action) i (acted r stop e.action)) (sym own.0)
          (acted_numbered m r stop e.action e.task may (get_below m.tasks e.task r present) (x e.task r present))))
      | inr other ↦ elim other [
        | inl old ↦ more _ _ _ _ t q (omega arith) (omega arith) (x t q old)
        | inr new ↦ child_numbered P m r e.action _ t new.0 q may new.2
      ]
    ])

pub leads_numbered : (P : tree.Program) (m : Machine) (h : List Event) (n : Machine) → Leads P m h n → AllNumbered m → AllNumbered n
leads_numbered P m [] n x all = subst AllNumbered x all
leads_numbered P m (e ∷ h) n (next, step, rest) all =
    leads_numbered P next h n rest (subst AllNumbered (sym step.gives) (step_numbered P m e step.task step.stop step.present step.permits all))

pub children_come_later : (P : tree.Program) (h : List Event) (m : Machine) (t : ℕ) (r : Running) → Leads P (opening P) h m → slice_get m.tasks t ≡ Some r
    → (c : ℕ) → Among c r.block → (t < c) × (c < length m.tasks)
children_come_later P h m t r x present = (leads_numbered P (opening P) h m x (begun P) t r present).later

pub strands_were_made : (P : tree.Program) (h : List Event) (m : Machine) (t : ℕ) (r : Running) → Leads P (opening P) h m → slice_get m.tasks t ≡ Some r
    → r.strand < m.strands
strands_were_made P h m t r x present = (leads_numbered P (opening P) h m x (begun P) t r present).strand

pub acting_task : (P : tree.Program) (m : Machine) (e : Event) (n : Machine) → (x : IsStep P m e n)
    → slice_get n.tasks e.task ≡ Some (acted x.task x.stop e.action)
acting_task P m e n x =
    subst (λ (q : Machine). slice_get q.tasks e.task ≡ Some (acted x.task x.stop e.action)) (sym x.gives)
    (get_set_same m.tasks (child_of P x.task e.action) e.task (acted x.task x.stop e.action) x.task x.present)

pub others_stay : (P : tree.Program) (m : Machine) (e : Event) (n : Machine) (t : ℕ) (r : Running) → IsStep P m e n → (t ≡ e.task → ⊥)
    → slice_get m.tasks t ≡ Some r → slice_get n.tasks t ≡ Some r
others_stay P m e n t r x other present =
    subst (λ (q : Machine). slice_get q.tasks t ≡ Some r) (sym x.gives)
    (get_set_other m.tasks (child_of P x.task e.action) e.task (acted x.task x.stop e.action) t r other present)

pub child_comes : (P : tree.Program) (m : Machine) (e : Event) (n : Machine) (r : Running) → (x : IsStep P m e n) → child_of P x.task e.action ≡ r ∷ []
    → slice_get n.tasks (length m.tasks) ≡ Some r
child_comes P m e n r x made =
    let whole : n ≡ after P m e x.task x.stop = x.gives in
    let same = length-set m.tasks e.task (acted x.task x.stop e.action) in
    subst (λ (q : Machine). slice_get q.tasks (length m.tasks) ≡ Some r) (sym whole)
    (subst (λ k. slice_get (slice_set m.tasks e.task (acted x.task x.stop e.action) ++ child_of P x.task e.action) k ≡ Some r) same
    (subst
    (λ (ys : List Running). slice_get (slice_set m.tasks e.task (acted x.task x.stop e.action) ++ ys)
    (length (slice_set m.tasks e.task (acted x.task x.stop e.action))) ≡ Some r) (sym made)
    (get_new (slice_set m.tasks e.task (acted x.task x.stop e.action)) [] r)))
