-- A run goes on alone, or stops.
use Rattle.std.proofs.Common.{◌≡◌, ℕ, ◌+◌, ◌<◌, ◌≤◌, Bool, true, false, List, [], ◌∷◌, ◌++◌, length, refl, sym, ap, ◌∙◌, subst, arith}
use Rattle.std.specs.Prelude.{reverse, ℤ}
use Rattle.std.proofs.lemmas.List.{reverse-append, append_assoc, append-nil}
use Rattle.fut_base.specs.declared.limits.TheConstants.{MOST_CREATES}
use Rattle.fut_base.specs.declared.record.Limits.{Limits}
use Rattle.fut_base.specs.declared.record.Finish.{Finish}
use Rattle.fut_base.specs.declared.record.Finish.TheVariants as finish
use Rattle.fut_base.specs.declared.event.Event.{Event}
use Rattle.fut_syntax.specs.Trees as tree
use Rattle.task_machine.specs.Machine.{Machine, Running, opening, Leads, IsRunning, creates, create_count, FinishHolds}
use Rattle.task_code.specs.Flat.{Compiled}
use Rattle.run_laws.specs.Laws.{IsFirst}
use Rattle.run_replay.specs.Replays.{ReplayNow, IsReplayOf, creates_by}
use Rattle.run_replay.specs.Next.{IsMade}
use Rattle.run_replay.specs.Serials.{Stops}
use Rattle.run_replay.proofs.Acting.{creates_further, longer}
use Rattle.run_replay.proofs.Serially.{not_whole}
use Rattle.fut_engine.specs.Going.{GoesFirst, Goes}
use Rattle.fut_engine.specs.Runs.{IsRun}
use Rattle.fut_engine.proofs.Running.{ends_of}

pub few_creates : (b : Bool) (n most : ℕ) → (b ≡ true → n < most) → n ≤ most → n + creates_by b ≤ most
few_creates true n most f le = let lt = f refl in omega (arith, lt)
few_creates false n most f le = omega (arith, le)

pub more_creates : (h : List Event) (e : Event) (most : ℕ) → (creates e.action ≡ true → create_count h < most) → create_count h ≤ most
    → create_count (h ++ e ∷ []) ≤ most
more_creates h e most f le =
    let c = creates_further h e in
    let l = few_creates (creates e.action) (create_count h) most f le in
    omega (arith, c, l)

none_yet : (P : tree.Program) (h : List Event) → GoesFirst P h h
none_yet P h = record { past = []; is = sym (append-nil h); first = tt }

one_more : (P : tree.Program) (start h : List Event) (m : Machine) (e : Event) (r : Running) → GoesFirst P start h → Leads P (opening P) h m
    → IsFirst h m e.task r → GoesFirst P start (h ++ e ∷ [])
one_more P start h m e r g leads first =
    record {
      past = e ∷ g.past;
      is = ap (λ l. l ++ e ∷ []) g.is ∙ (append_assoc start (reverse g.past) (e ∷ []) ∙ ap (λ l. start ++ l) (sym (reverse-append (e ∷ []) g.past)));
      first = (subst (λ k. (m : Machine) × (r : Running) × Leads P (opening P) k m × IsFirst k m e.task r) g.is (m, r, leads, first), g.first);
    }

module _ (P : tree.Program) (code : Compiled) (limits : Limits) (start h : List Event) where
  pub goes_further : (old new : ReplayNow) (x : Goes P code limits start h old) (t : ℕ) (r : Running) (e : Event) → IsFirst h x.machine t r
      → IsMade P code limits h x.machine t e new → Goes P code limits start (h ++ e ∷ []) new
  goes_further old new x t r e first made =
      let more = longer h e in
      let few = made.few in
      record {
        machine = made.next;
        replay = made.run;
        few = omega (arith, more, few);
        creates_few = more_creates h e limits.futures made.creates_few x.creates_few;
        goes = one_more P start h x.machine e r x.goes x.replay.leads (subst (λ n. IsFirst h x.machine n r) (sym made.task) first);
      }

  pub stays : (g : List Event) (old new : ReplayNow) (x : Goes P code limits start h old) (f : Finish) → g ≡ h → IsReplayOf P code h new x.machine
      → Stops P limits h x.machine f → (y : Goes P code limits start g new) × Stops P limits g y.machine f
  stays g old new x f same k s =
      subst (λ l. (y : Goes P code limits start l new) × Stops P limits l y.machine f) (sym same)
      (record { machine = x.machine; replay = k; few = x.few; creates_few = x.creates_few; goes = x.goes }, s)

  stops_hold : (now : ReplayNow) (x : Goes P code limits start h now) (f : Finish) → limits.futures ≡ MOST_CREATES → Stops P limits h x.machine f
      → FinishHolds P h f
  stops_hold now x finish.Whole most s = (x.machine, x.replay.leads, s)
  stops_hold now x (finish.Events b) most (t, r, first, (is, many, may, full)) =
      (let few = x.few in omega (arith, is, many, few), not_whole P h x.machine t r x.replay.leads first.running)
  stops_hold now x (finish.Local u) most (t, r, first, (is, (q, run, out))) =
      (x.machine, q, x.replay.leads, subst (λ n. IsRunning x.machine n q) (sym is) run, out)
  stops_hold now x (finish.Futures u) most (t, r, first, (is, full)) = (
    x.machine,
    full.task,
    x.replay.leads,
    subst (λ n. IsRunning x.machine n full.task) (sym is) full.running,
    (let few = x.creates_few in let many = full.many in omega (arith, few, many, most)),
    full.wishes,
  )

  pub run_of : (now : ReplayNow) (x : Goes P code limits start h now) (f : Finish) → limits.futures ≡ MOST_CREATES → Stops P limits h x.machine f
      → IsRun P limits h f now.cells
  run_of now x f most s =
      record {
        machine = x.machine;
        leads = x.replay.leads;
        few = x.few;
        creates_few = x.creates_few;
        ends = ends_of P limits h x.machine f s;
        holds = stops_hold now x f most s;
        cells_are = x.replay.cells;
      }

pub goes_first : (P : tree.Program) (code : Compiled) (limits : Limits) (h : List Event) (now : ReplayNow) (m : Machine) → IsReplayOf P code h now m
    → length h ≤ limits.events → create_count h ≤ limits.futures → Goes P code limits h h now
goes_first P code limits h now m k few creates_few = record { machine = m; replay = k; few = few; creates_few = creates_few; goes = none_yet P h }

pub run_as : (P : tree.Program) (limits : Limits) (h g : List Event) (f k : Finish) (cells ds : List ℤ) → g ≡ h → k ≡ f → ds ≡ cells
    → IsRun P limits h f cells → IsRun P limits g k ds
run_as P limits h g f k cells ds a b e x =
    subst (λ l. IsRun P limits l k ds) (sym a) (subst (λ l. IsRun P limits h l ds) (sym b) (subst (λ l. IsRun P limits h f l) (sym e) x))
