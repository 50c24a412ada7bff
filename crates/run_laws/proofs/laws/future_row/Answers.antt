use Rattle.std.proofs.Common.{◌≡◌, ◌≢◌, ℕ, zero, suc, ◌<◌, true, [], ◌⊎◌, inl, inr, refl, ap, subst, lit<}
use Rattle.std.specs.Prelude.{codes, pos, Some, None}
use Rattle.std.proofs.lemmas.Option.{same_Some}
use Rattle.fut_base.specs.declared.record.Value.TheVariants.{Int, Fut}
use Rattle.fut_base.specs.declared.event.Action.TheVariants.{Creates}
use Rattle.fut_base.specs.Events.{structure_of}
use Rattle.fut_base.specs.Orders.{english_of, stands_before}
use Rattle.fut_base.specs.Rows.{ev}
use Rattle.task_machine.specs.Texts.{CellArray}
use Rattle.task_machine.specs.Variables.{One}
use Rattle.task_machine.specs.State.{TaskState, NoWish, ToEnd, wish_of}
use Rattle.task_machine.specs.Runs.{StandsAt}
use Rattle.task_machine.specs.Machine.{Machine, Running, opening, IsAllowed, IsRunning, Leads}
use Rattle.task_machine.proofs.Stepping.{stands_at_one, stands_or_goes_on, stands_here}
use Rattle.task_machine.proofs.Worked.{task_of, next, machine_after, leads_all}
use Rattle.run_laws.specs.Laws.{HasCells, IsFirst, Knows}
use Rattle.run_laws.specs.Rows.{future_program, future_history, made, MadeRow}
use Rattle.run_laws.proofs.Mirrored.{mirrors}
use Rattle.run_laws.proofs.Sound.{legal_is_sound}
use Rattle.run_laws.proofs.Stuck.{none_is_stuck}
use Rattle.run_laws.proofs.Waits.{handles_stand_before}
use Rattle.run_laws.proofs.laws.future_row.Goals as goal

abbrev m0 : Machine
m0 = opening future_program

abbrev m1 : Machine
m1 = next future_program m0 (ev 0 0 (Creates 0 1 1 2 []))

made_leads : Leads future_program (opening future_program) made m1
made_leads = leads_all future_program m0 made ((refl, refl, refl, refl, refl, (refl, refl, refl)), tt)

cells : HasCells future_program
cells a (inl e) = subst (λ n. 0 < n) (ap (λ (x : CellArray). x.length) e) (lit< tt)
cells a (inr h) = absurd h

least : (u : ℕ) (q : Running) → IsRunning m1 u q
    → (u ≡ 1) ⊎ (stands_before (task_of future_program m1 1).strand q.strand (english_of (structure_of made)) ≡ true)
least zero q h =
    inr
    (subst (λ (z : Running). stands_before (task_of future_program m1 1).strand z.strand (english_of (structure_of made)) ≡ true)
    (same_Some (task_of future_program m1 0) q h.0) refl)
least (suc zero) q h = inl refl
least (suc (suc u)) q h = absurd (let e : None ≡ Some q = h.0 in cc)

first : IsFirst made m1 1 (task_of future_program m1 1)
first = record { running = (refl, refl); least = least }

wishes : (s : TaskState) → StandsAt (task_of future_program m1 1).state s → wish_of future_program s ≢ NoWish
wishes s at =
    let same : (task_of future_program m1 1).state ≡ s =
    stands_at_one (task_of future_program m1 1).state (task_of future_program m1 1).state s (stands_here (task_of future_program m1 1).state refl) at in
    subst (λ z. wish_of future_program z ≢ NoWish) same (λ e. (let k : ToEnd (Int (pos 7)) ≡ NoWish = e in cc))

goes : IsAllowed future_program m1 1
goes =
    elim (none_is_stuck future_program made m1 1 (task_of future_program m1 1) made_leads cells first wishes) [
      | inl out ↦
          absurd
          (stands_or_goes_on (task_of future_program m1 1).state (task_of future_program m1 1).state (stands_here (task_of future_program m1 1).state refl) out)
      | inr on ↦ on
    ]

knows : Knows (task_of future_program m1 0) 1
knows = inl (0, (task_of future_program m1 0).state, refl, ((codes "x", One (Fut 1)), inl refl, inl refl))

early : MadeRow m1 (task_of future_program m1 0) (task_of future_program m1 1)
early =
    record {
      leads = made_leads;
      main_is = refl;
      kid_is = refl;
      mirrors = mirrors future_program made m1 made_leads;
      knows = knows;
      before = handles_stand_before future_program made m1 0 (task_of future_program m1 0) made_leads refl 1 knows;
      first = first;
      goes = goes;
    }

pub returns : goal.returns
returns c =
    let m4 : Machine = machine_after future_program m0 future_history in
    let l : Leads future_program (opening future_program) future_history m4 =
    leads_all future_program m0 future_history (
      (refl, refl, refl, refl, refl, (refl, refl, refl)),
      ((refl, refl, refl, refl, refl, tt), ((refl, refl, refl, refl, refl, (refl, refl)), ((refl, refl, refl, refl, refl, tt), tt))),
    ) in
    record {
      cells = cells;
      whole = (m4, l, (refl, (refl, tt)));
      sound = legal_is_sound future_program future_history (m4, l);
      begun = (refl, refl, refl, refl);
      left = (refl, refl, refl);
      got = record { strand = 1; earlier = inr (inl refl); once = refl };
      early = (m1, task_of future_program m1 0, task_of future_program m1 1, early);
    }
