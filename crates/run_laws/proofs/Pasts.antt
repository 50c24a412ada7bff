-- Histories with the newest event first.
use Rattle.std.proofs.Common.{◌≡◌, ◌≢◌, ℕ, List, [], ◌∷◌, ◌++◌, ◌⊎◌, inl, inr, refl, sym, ap, ◌∙◌, subst, append_assoc, append-nil}
use Rattle.std.proofs.lemmas.List.{reverse-append}
use Rattle.std.specs.Prelude.{reverse, filter, Some, slice_get, slice_set}
use Rattle.std.proofs.lemmas.Option.{same_Some}
use Rattle.std.proofs.lemmas.Bool.{cases_eq}
use Rattle.fut_base.specs.declared.event.Event.{Event}
use Rattle.fut_base.specs.Events.{structural}
use Rattle.fut_syntax.specs.Trees as tree
use Rattle.task_machine.specs.Machine.{Machine, opening, IsStep, Leads}
use Rattle.task_machine.proofs.Places.{Behind, get_set_append, get_set_same}
use Rattle.strand_laws.proofs.Structure.{reverse_filter}
use Rattle.run_laws.specs.Laws.{past_of}

-- events, the newest first, are steps from the opening state to a machine
abbrev pub Came : tree.Program → List Event → Machine → Type 0
Came P [] m = opening P ≡ m
Came P (e ∷ past) m = (q : Machine) × Came P past q × IsStep P q e m

pub came_on : (P : tree.Program) (past h : List Event) (m n : Machine) → Came P past m → Leads P m h n → Came P (reverse h ++ past) n
came_on P past [] m n c l = subst (λ x. Came P past x) l c
came_on P past (e ∷ h) m n c (next, step, rest) =
    let k : Came P (reverse h ++ e ∷ past) n = came_on P (e ∷ past) h next n (m, c, step) rest in
    let same : reverse (e ∷ h) ++ past ≡ reverse h ++ e ∷ past =
    ap (λ (l : List Event). l ++ past) (reverse-append (e ∷ []) h) ∙ append_assoc (reverse h) (e ∷ []) past in
    subst (λ l. Came P l n) (sym same) k

pub came : (P : tree.Program) (h : List Event) (m : Machine) → Leads P (opening P) h m → Came P (reverse h) m
came P h m l = subst (λ x. Came P x m) (append-nil (reverse h)) (came_on P [] h (opening P) m refl l)

-- the structural events, newest first
abbrev pub kept_of : List Event → List Event
kept_of past = filter (λ e. structural e.action) past

pub past_is : (h : List Event) → kept_of (reverse h) ≡ past_of h
past_is h = sym (reverse_filter (λ e. structural e.action) h)

-- an item after one was set and others were added: the one that was set, another old one, or one that was added
pub get_after : {X : Type 0} (xs ys : List X) (i : ℕ) (x old : X) → slice_get xs i ≡ Some old → (t : ℕ) (r : X) → slice_get (slice_set xs i x ++ ys) t ≡ Some r
    → ((t ≡ i) × (x ≡ r)) ⊎ (((t ≢ i) × (slice_get xs t ≡ Some r)) ⊎ Behind xs ys t r)
get_after xs ys i x old h t r g =
    elim (cases_eq t i) [
      | inl e ↦ inl (e, same_Some x r (sym (get_set_same xs ys i x old h) ∙ subst (λ k. slice_get (slice_set xs i x ++ ys) k ≡ Some r) e g))
      | inr ne ↦ elim (get_set_append xs ys i x t r g) [
        | inl own ↦ absurd (ne own.0)
        | inr other ↦ elim other [ inl o ↦ inr (inl (ne, o)) | inr b ↦ inr (inr b) ]
      ]
    ]
