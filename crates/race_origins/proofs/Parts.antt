-- What a parting entry can be.
use Rattle.std.proofs.Common.{◌≡◌, ◌≢◌, ℕ, ◌<◌, ◌≤◌, true, List, inl, inr, refl, sym, ◌∙◌, subst, arith}
use Rattle.std.specs.Prelude.{Option, Some, None, IsSome, slice_get}
use Rattle.std.proofs.lemmas.Bool.{cases_lt}
use Rattle.std.proofs.lemmas.Option.{same_Some}
use Rattle.fut_base.specs.declared.event.Event.{Event}
use Rattle.fut_base.specs.declared.event.Action.{Action}
use Rattle.fut_base.specs.declared.event.Action.TheVariants.{Reads, Writes, Spawns, Creates, Syncs, Gets, Ends}
use Rattle.fut_base.specs.Events.{structural}
use Rattle.fut_base.specs.Dag.{Reaches, AreJoined, last_of}
use Rattle.fut_base.specs.Sound.{current, next_strand}
use Rattle.race_origins.specs.Parting.{IsParting, ReachesBoth}
use Rattle.race_origins.specs.Laws.{parts, IsInStep, PartingParts}
use Rattle.race_origins.proofs.Standing.{IsFresh, IsKnown, known}
use Rattle.race_origins.proofs.Cutting.{cut, standing_at, fresh_at}
use Rattle.race_origins.proofs.Leading.{LeadsTo, leads_structural, IsSourceAt, GoesOn, goes_on}

module _ (h : List Event) (ok : IsInStep h) where
  known_at : (j : ℕ) (d : Event) (at : slice_get h j ≡ Some d) → IsKnown (cut h j d at).before
  known_at j d at = known (cut h j d at).before (standing_at h ok j d at).0 (fresh_at h ok j d at).0

  -- no event stands on a strand that a structural one left
  left_for_good : (i j : ℕ) (e d : Event) → i < j → slice_get h i ≡ Some e → slice_get h j ≡ Some d → structural e.action ≡ true → d.strand ≢ e.strand
  left_for_good i j e d lt at there st same =
      let c = cut h j d there in
      let stands = standing_at h ok j d there in
      let ended : IsSome (last_of c.before d.task) =
      (known_at j d there).left e (c.earlier i e lt at) st d.task (subst (λ s. current c.before d.task ≡ Some s) same stands.1) in
      let none : IsSome {T = ℕ} None = subst (λ (o : Option ℕ). IsSome o) stands.2 ended in
      cc

  -- the events up to a place stand on strands below those that the event there begins
  stands_below : (i j : ℕ) (e d : Event) → i ≤ j → (at : slice_get h i ≡ Some e) → (there : slice_get h j ≡ Some d)
      → e.strand < next_strand (cut h j d there).before
  stands_below i j e d le at there =
      elim (cases_lt i j) [
        | inl lt ↦ (known_at j d there).on e ((cut h j d there).earlier i e lt at)
        | inr ge ↦ (
            let place : i ≡ j = omega (arith, le, ge) in
            let same : d ≡ e = same_Some d e (sym there ∙ subst (λ k. slice_get h k ≡ Some e) place at) in
            subst (λ (x : Event). x.strand < next_strand (cut h j d there).before) same
            ((known_at j d there).below d.task d.strand (standing_at h ok j d there).1))
      ]

  module _ (u v i : ℕ) (apart : AreJoined h u v → ⊥) (p : IsParting h u v i) where
    -- an entry from which both are reached stands at the parting entry or before it
    not_behind : (j : ℕ) (d : Event) → slice_get h j ≡ Some d → ReachesBoth h u v d.strand → j ≤ i
    not_behind j d at r = elim (cases_lt i j) [ inl lt ↦ absurd (p.last j d lt at r) | inr le ↦ le ]

    -- a strand that reaches both goes on
    on_to_one : (a : ℕ) → ReachesBoth h u v a → GoesOn h a u
    on_to_one a r = elim (goes_on h a u r.one) [ inl same ↦ absurd (apart (inl (subst (λ x. Reaches h x v) same r.other))) | inr on ↦ on ]

    on_to_other : (a : ℕ) → ReachesBoth h u v a → GoesOn h a v
    on_to_other a r = elim (goes_on h a v r.other) [ inl same ↦ absurd (apart (inr (subst (λ x. Reaches h x u) same r.one))) | inr on ↦ on ]

    -- the strand of the parting entry is left by that entry
    leads_here : (b : ℕ) → IsSourceAt h p.entry.strand b → LeadsTo p.entry.action b
    leads_here b s =
        let le = not_behind s.place s.entry s.stands (subst (λ a. ReachesBoth h u v a) (sym s.here) p.reaches) in
        elim (cases_lt s.place i) [
          | inl lt ↦
              absurd (left_for_good s.place i s.entry p.entry lt s.stands p.stands (leads_structural s.entry.action b s.leads) (sym s.here))
          | inr ge ↦ (
              let place : s.place ≡ i = omega (arith, le, ge) in
              let same : s.entry ≡ p.entry = same_Some s.entry p.entry (sym s.stands ∙ subst (λ k. slice_get h k ≡ Some p.entry) (sym place) p.stands) in
              subst (λ (e : Event). LeadsTo e.action b) same s.leads)
        ]

    -- a strand that the parting entry alone begins would reach both as well
    not_one : (x : ℕ) → ((b : ℕ) → LeadsTo p.entry.action b → b ≡ x) → next_strand (cut h i p.entry p.stands).before ≤ x → ⊥
    not_one x only new =
        let one = on_to_one p.entry.strand p.reaches in
        let other = on_to_other p.entry.strand p.reaches in
        let both : ReachesBoth h u v x = record {
          one = subst (λ b. Reaches h b u) (only one.next (leads_here one.next one.source)) one.onward;
          other = subst (λ b. Reaches h b v) (only other.next (leads_here other.next other.source)) other.onward;
        } in
        let s = (on_to_one x both).source in
        let le = not_behind s.place s.entry s.stands (subst (λ a. ReachesBoth h u v a) (sym s.here) both) in
        let lt = stands_below s.place i s.entry p.entry le s.stands p.stands in
        omega (arith, lt, s.here, new)

    by_action : (a : Action) → p.entry.action ≡ a → IsFresh (next_strand (cut h i p.entry p.stands).before) a → parts a ≡ true
    by_action (Reads _ _) is f =
        let one = on_to_one p.entry.strand p.reaches in
        absurd (subst (λ a. LeadsTo a one.next) is (leads_here one.next one.source))
    by_action (Writes _ _) is f =
        let one = on_to_one p.entry.strand p.reaches in
        absurd (subst (λ a. LeadsTo a one.next) is (leads_here one.next one.source))
    by_action (Spawns _ _ _ _ _) is f = refl
    by_action (Creates _ _ _ _ _) is f = refl
    by_action (Syncs x) is f = absurd (not_one x (λ b l. subst (λ a. LeadsTo a b) is l) (omega (arith, f)))
    by_action (Gets _ _ x) is f = absurd (not_one x (λ b l. subst (λ a. LeadsTo a b) is l) (omega (arith, f)))
    by_action (Ends _) is f = refl

pub parting_parts : PartingParts
parting_parts h u v i ok apart p = by_action h ok u v i apart p p.entry.action refl (fresh_at h ok i p.entry p.stands).1
