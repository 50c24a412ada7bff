-- Whether a run has ended in a given way.
use Rattle.std.proofs.Common.{◌≡◌, ◌↔◌, ℕ, Bool, true, false, List, refl, sym, ◌∙◌, subst}
use Rattle.std.specs.Prelude.{Option, Some, None, is_some, IsTrue, not, slice_get, MatchOption}
use Rattle.std.proofs.lemmas.Bool.{false≢true}
use Rattle.std.proofs.lemmas.Option.{same_Some}
use Rattle.fut_base.specs.declared.limits.TheConstants.{MOST_LOCAL_STEPS, MOST_CREATES}
use Rattle.fut_base.specs.declared.event.Event.{Event}
use Rattle.fut_base.specs.declared.record.Finish.TheVariants as finish
use Rattle.fut_syntax.specs.Trees as tree
use Rattle.task_machine.specs.State.{TaskState}
use Rattle.task_machine.specs.Runs.{StandsAt, IsOutOfSteps}
use Rattle.task_machine.specs.Machine.{Machine, Running, opening, EachEnded, IsWhole, IsRunning, create_count, WishesCreate, FinishHolds}
use Rattle.task_machine.proofs.Leading.{leads_to_one}
use Rattle.task_machine.proofs.Stepping.{stands_or_goes_on}
use Rattle.task_code.specs.Flat.{Compiled}
use Rattle.task_code.specs.Tasks.{Wishes}
use Rattle.task_code.specs.declared.task.Wish as asked
use Rattle.task_code.specs.declared.task.Wish.TheVariants as wish
use Rattle.run_laws.specs.Laws.{IsFirst}
use Rattle.run_replay.specs.Next.{is_create}
use Rattle.run_replay.specs.Replays.{ReplayNow, IsReplayOf, IsEvent, is_running}
use Rattle.run_replay.proofs.Waiting.{at_event}
use Rattle.run_replay.proofs.Answering.{create_of, only_create, idle}
use Rattle.run_replay.proofs.Serially.{not_whole}

-- a task that stands at an event is not out of steps
not_out : (P : tree.Program) (s : TaskState) (w : asked.Wish) → IsEvent w → Wishes P MOST_LOCAL_STEPS s w → IsOutOfSteps s → ⊥
not_out P s (wish.Read _) is w out = stands_or_goes_on s w.0 (at_event s w.0 w.1) out
not_out P s (wish.Write _ _) is w out = stands_or_goes_on s w.0 (at_event s w.0 w.1) out
not_out P s (wish.Spawn _) is w out = stands_or_goes_on s w.0 (at_event s w.0 w.2) out
not_out P s (wish.Create _) is w out = stands_or_goes_on s w.0 (at_event s w.0 w.2) out
not_out P s wish.Sync is w out = stands_or_goes_on s w.0 (at_event s w.0 w.1) out
not_out P s (wish.Get _) is w out = stands_or_goes_on s w.0 (at_event s w.0 w.1) out
not_out P s (wish.End _) is w out = stands_or_goes_on s w.0 (at_event s w.0 w.1) out
not_out P s wish.Long is w out = absurd is

module _ (P : tree.Program) (code : Compiled) (h : List Event) (now : ReplayNow) (m : Machine) (x : IsReplayOf P code h now m) where
  pub whole_by : (first : Option ℕ) (none : Bool) → is_some first ≡ not none → MatchOption first (EachEnded m.tasks) (λ t. (r : Running) × IsFirst h m t r)
      → IsTrue none ↔ IsWhole P h
  whole_by None true is each = (λ yes. (m, x.leads, each), λ whole. refl)
  whole_by None false is each = absurd (false≢true is)
  whole_by (Some t) true is first = absurd (false≢true (sym is))
  whole_by (Some t) false is first = (λ no. absurd (false≢true no), λ whole. absurd (not_whole P h m t first.0 x.leads first.1.running whole))

  pub cut_by : (b : ℕ) (w : Bool) → now.entries ≡ b → IsTrue w ↔ IsWhole P h → IsTrue (not w) ↔ FinishHolds P h (finish.Events b)
  cut_by b true same k = (λ is. absurd (false≢true is), λ cut. absurd (cut.1 (k.0 refl)))
  cut_by b false same k = (λ is. (sym x.entries ∙ same, λ whole. false≢true (k.1 whole)), λ cut. refl)

  pub other_bound : (b : ℕ) → (now.entries ≡ b → ⊥) → IsTrue false ↔ FinishHolds P h (finish.Events b)
  other_bound b other = (λ is. absurd (false≢true is), λ cut. absurd (other (x.entries ∙ cut.0)))

  -- the task of such an end is one of this machine
  spent : (t : ℕ) → FinishHolds P h (finish.Local t) → (r : Running) × IsRunning m t r × IsOutOfSteps r.state
  spent t (n, r, leads, run, out) = (r, subst (λ q. IsRunning q t r) (leads_to_one P (opening P) h n m leads x.leads) run, out)

  full : (t : ℕ) → FinishHolds P h (finish.Futures t) → (r : Running) × IsRunning m t r × (create_count h ≡ MOST_CREATES) × WishesCreate P r
  full t (n, r, leads, run, many, wishes) = (r, subst (λ q. IsRunning q t r) (leads_to_one P (opening P) h n m leads x.leads) run, many, wishes)

  pub local_idle : (t : ℕ) → is_running (slice_get now.lines t) ≡ false → IsTrue false ↔ FinishHolds P h (finish.Local t)
  local_idle t is = (λ no. absurd (false≢true no), λ end. absurd (let s = spent t end in idle P code h now m t s.0 x is s.1))

  pub local_by : (t : ℕ) (r : Running) (w : asked.Wish) (long : Bool) → IsRunning m t r → Wishes P MOST_LOCAL_STEPS r.state w → (long ≡ true → w ≡ wish.Long)
      → (long ≡ false → IsEvent w) → IsTrue long ↔ FinishHolds P h (finish.Local t)
  local_by t r w true run wishes is event =
      (λ yes. (m, r, x.leads, run, (MOST_LOCAL_STEPS, refl, subst (λ z. Wishes P MOST_LOCAL_STEPS r.state z) (is refl) wishes)), λ end. refl)
  local_by t r w false run wishes is event = (
    λ no. absurd (false≢true no),
    λ end. absurd (
        let s = spent t end in
        not_out P r.state w (event refl) wishes (subst (λ (q : Running). IsOutOfSteps q.state) (same_Some s.0 r (sym s.1.0 ∙ run.0)) s.2)),
  )

  pub other_count : (t : ℕ) → (now.creates ≡ MOST_CREATES → ⊥) → IsTrue false ↔ FinishHolds P h (finish.Futures t)
  other_count t other = (λ no. absurd (false≢true no), λ end. absurd (other (x.creates ∙ (full t end).2)))

  pub futures_idle : (t : ℕ) → is_running (slice_get now.lines t) ≡ false → IsTrue false ↔ FinishHolds P h (finish.Futures t)
  futures_idle t is = (λ no. absurd (false≢true no), λ end. absurd (let s = full t end in idle P code h now m t s.0 x is s.1))

  pub futures_by : (t : ℕ) (r : Running) (w : asked.Wish) → now.creates ≡ MOST_CREATES → IsRunning m t r → Wishes P MOST_LOCAL_STEPS r.state w
      → IsTrue (is_create w) ↔ FinishHolds P h (finish.Futures t)
  futures_by t r w many run wishes = (
    λ is. (m, r, x.leads, run, sym x.creates ∙ many, create_of P r w is wishes),
    λ end. (
        let s = full t end in
        let c = s.3 in
        only_create P r w c.0 c.1 c.2 (subst (λ (q : Running). StandsAt q.state c.0) (same_Some s.0 r (sym s.1.0 ∙ run.0)) c.3) c.4 wishes),
  )
