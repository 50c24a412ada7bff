-- The tasks that a task may wait for stand before it in English order.
use Rattle.std.proofs.Common.{◌≡◌, ℕ, zero, suc, ◌<◌, true, List, [], ◌∷◌, length, ◌⊎◌, inl, inr, refl, sym, ◌∙◌, subst, arith}
use Rattle.std.specs.Prelude.{Some, reverse, slice_get}
use Rattle.fut_base.specs.declared.record.Value.{Value}
use Rattle.fut_base.specs.declared.record.Value.TheVariants.{Fut}
use Rattle.fut_base.specs.declared.event.Event.{Event}
use Rattle.fut_base.specs.Dag.{Among, block_of}
use Rattle.fut_base.specs.Sound.{HoldsValue, holds_handle, next_task}
use Rattle.fut_syntax.specs.Trees as tree
use Rattle.task_machine.specs.Variables.{Slot, Variables, values_of}
use Rattle.task_machine.specs.Machine.{Machine, Running, opening, Leads}
use Rattle.task_machine.proofs.Making.{children_come_later}
use Rattle.strand_laws.proofs.Early.{waited_stands_before}
use Rattle.strand_laws.proofs.Held.{is_root, value_held}
use Rattle.strand_laws.proofs.Links.{linked}
use Rattle.run_laws.specs.Laws.{past_of, HandlesAreHeld, HasHandle, Knows, IsFutureBefore, StandsBefore, HandlesStandBefore, ChildrenStandBefore}
use Rattle.run_laws.proofs.Pasts.{came, past_is}
use Rattle.run_laws.proofs.Mirrored.{mirrors}
use Rattle.run_laws.proofs.Handles.{Each, InAll, steps_all}
use Rattle.run_laws.proofs.Holding.{Holder, AllHold, numbers, came_holds}
use Rattle.run_laws.proofs.Sound.{sound_past}

pub get_some : {X : Type 0} (xs : List X) (n : ℕ) → n < length xs → (x : X) × (slice_get xs n ≡ Some x)
get_some [] n lt = absurd (omega arith)
get_some (x ∷ xs) zero lt = (x, refl)
get_some (x ∷ xs) (suc n) lt = get_some xs n (omega arith)

pub all_hold : (P : tree.Program) (h : List Event) (m : Machine) → Leads P (opening P) h m → AllHold (past_of h) m
all_hold P h m l = subst (λ z. AllHold z m) (past_is h) (came_holds P (reverse h) m (came P h m l))

pub each_among : (V : Value → Type 0) (vs : List Value) (v : Value) → Each V vs → Among v vs → V v
each_among V [] v h a = absurd a
each_among V (x ∷ vs) v h (inl e) = subst V e h.0
each_among V (x ∷ vs) v h (inr a) = each_among V vs v h.1 a

all_among : (V : Value → Type 0) (vars : Variables) (v : List ℕ × Slot) → InAll V vars → Among v vars → Each V (values_of v.1)
all_among V [] v h a = absurd a
all_among V (x ∷ vars) v h (inl e) = subst (λ (z : List ℕ × Slot). Each V (values_of z.1)) e h.0
all_among V (x ∷ vars) v h (inr a) = all_among V vars v h.1 a

handle_held : (V : Value → Type 0) (vars : Variables) (f : ℕ) → InAll V vars → HasHandle vars f → V (Fut f)
handle_held V vars f h (v, among, here) = each_among V (values_of v.1) (Fut f) (all_among V vars v h among) here

-- what a task knows it holds in the structure
pub handles_are_held : HandlesAreHeld
handles_are_held P h m t r l present f (inl (n, s, steps, has)) =
    let V : Value → Type 0 = HoldsValue (past_of h) t in
    let own : Holder (past_of h) t r = all_hold P h m l t r present in
    let k = steps_all V (numbers (past_of h) t) n r.state s own.vars steps in
    handle_held V s.vars f k.1 has
handles_are_held P h m t r l present f (inr is) =
    value_held (past_of h) (sound_past P h m l) t (Fut f) (((mirrors P h m l).each t r present).value ∙ is)

module _ (P : tree.Program) (h : List Event) (m : Machine) (l : Leads P (opening P) h m) (t : ℕ) (r : Running) (present : slice_get m.tasks t ≡ Some r) where
  waited : (q : ℕ) → q < length m.tasks → (holds_handle (past_of h) t q ≡ true) ⊎ Among q (block_of (past_of h) t) → StandsBefore h m q r.strand
  waited q lt why =
      let x = mirrors P h m l in
      let o = get_some m.tasks q lt in
      record {
        task = o.0;
        present = o.1;
        before = waited_stands_before (past_of h) (sound_past P h m l) t q o.0.strand r.strand (x.each t r present).strand (x.each q o.0 o.1).strand why;
      }

  future_before : (f : ℕ) → Knows r f → IsFutureBefore h m f r.strand
  future_before f k =
      let x = mirrors P h m l in
      let sp = sound_past P h m l in
      let held = handles_are_held P h m t r l present f k in
      let root = is_root (past_of h) sp t f held in
      let lt : f < next_task (past_of h) = root.1 in
      let count : next_task (past_of h) ≡ length m.tasks = x.tasks in
      let b : StandsBefore h m f r.strand = waited f (omega arith) (inl held) in
      record { stands = b; root = sym (x.each f b.task b.present).future ∙ (linked (past_of h) sp).fut f lt ∙ root.3 }

  child_before : (c : ℕ) → Among c r.block → StandsBefore h m c r.strand
  child_before c a =
      waited c (children_come_later P h m t r l present c a).1 (inr (subst (λ z. Among c z) (sym ((mirrors P h m l).each t r present).block) a))

pub handles_stand_before : HandlesStandBefore
handles_stand_before P h m t r l present f k = future_before P h m l t r present f k

pub children_stand_before : ChildrenStandBefore
children_stand_before P h m t r l present c a = child_before P h m l t r present c a
