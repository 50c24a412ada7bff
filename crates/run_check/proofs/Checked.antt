-- A record beside its program.
use Rattle.std.proofs.Common.{◌≡◌, ℕ, ◌<◌, List, length, take, map, sym, ap, ◌∙◌, subst, inr, arith}
use Rattle.std.specs.Prelude.{Some, option_map, slice_get}
use Rattle.std.proofs.lemmas.Option.{slice_get-map}
use Rattle.std.proofs.lemmas.List.{take-map, length-map, length-take-le}
use Rattle.fut_base.specs.declared.event.Event.{Event}
use Rattle.fut_base.specs.declared.record.Entry.{Entry}
use Rattle.fut_base.specs.declared.record.Finish.{Finish}
use Rattle.fut_base.specs.declared.record.Race.{Race}
use Rattle.fut_base.specs.Events.{event_of}
use Rattle.fut_syntax.specs.Trees as tree
use Rattle.task_machine.specs.Machine.{Machine, opening, Leads}
use Rattle.task_code.specs.Flat.{Compiled}
use Rattle.run_check.specs.Checks.{AreThoseOf, IsNoStepAt, IsRefusedAt}
use Rattle.run_replay.specs.Replays.{ReplayNow, IsReplayOf}
use Rattle.run_replay.specs.Steps.{IsNoStep}

taken_count : (xs : List Entry) (i : ℕ) → i < length xs → length (map event_of (take i xs)) ≡ i
taken_count xs i lt = length-map (take i xs) event_of ∙ length-take-le i xs (omega (arith, lt))

pub no_step_at : (P : tree.Program) (xs : List Entry) (i n : ℕ) (x : Entry) (m : Machine) → i < length xs → n ≡ length (map event_of (take i xs))
    → slice_get xs i ≡ Some x → Leads P (opening P) (map event_of (take i xs)) m → IsNoStep P m (event_of x) → IsNoStepAt P (map event_of xs) n
no_step_at P xs i n x m lt count is leads none =
    subst (λ k. IsNoStepAt P (map event_of xs) k) (sym (count ∙ taken_count xs i lt))
    (record {
      machine = m;
      before = subst (λ h. Leads P (opening P) h m) (sym (take-map event_of i xs)) leads;
      entry = event_of x;
      stands = slice_get-map event_of xs i ∙ ap (option_map event_of) is;
      none = none;
    })

pub others_by : (P : tree.Program) (code : Compiled) (h : List Event) (now : ReplayNow) (m : Machine) (races : List Race) (end : Finish) (k : ℕ)
    → IsReplayOf P code h now m → k ≡ now.entries → (AreThoseOf P h races end → ⊥) → IsRefusedAt P h races end k
others_by P code h now m races end k x count others = inr (record { legal = (m, x.leads); number = count ∙ x.entries; others = others })
