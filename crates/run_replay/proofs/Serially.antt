-- The serial run goes on, or stops.
use Rattle.std.proofs.Common.{◌≡◌, ℕ, ◌+◌, ◌<◌, ◌≤◌, Bool, true, false, List, [], ◌∷◌, ◌++◌, refl, sym, ap, ◌∙◌, subst, arith, ◌⊎◌, inl, inr}
use Rattle.std.specs.Prelude.{Option, is_some, reverse, map, ℤ}
use Rattle.std.proofs.lemmas.List.{reverse-append, map-append}
use Rattle.std.proofs.lemmas.Bool.{false≢true}
use Rattle.std.proofs.lemmas.Option.{same_Some}
use Rattle.run_laws.proofs.Once.{ended_at}
use Rattle.fut_base.specs.declared.limits.TheConstants.{MOST_CREATES}
use Rattle.fut_base.specs.declared.record.Value.{Value}
use Rattle.fut_base.specs.declared.record.Limits.{Limits}
use Rattle.fut_base.specs.declared.record.Finish.{Finish}
use Rattle.fut_base.specs.declared.record.Finish.TheVariants as finish
use Rattle.fut_base.specs.declared.event.Event.{Event}
use Rattle.fut_base.specs.declared.record.Entry.{Entry}
use Rattle.fut_base.specs.Events.{event_of}
use Rattle.fut_syntax.specs.Trees as tree
use Rattle.fut_check.specs.Items.{IsWellTyped}
use Rattle.task_machine.specs.Machine.{Machine, Running, opening, Leads, EachEnded, IsWhole, IsRunning, creates, create_count, FinishHolds}
use Rattle.task_machine.proofs.Leading.{leads_to_one, split}
use Rattle.task_machine.proofs.Stepping.{stands_or_goes_on}
use Rattle.task_code.specs.Flat.{Compiled}
use Rattle.run_laws.specs.Laws.{IsFirst}
use Rattle.run_laws.specs.Ready.{ready_of}
use Rattle.run_laws.proofs.Ready.{first_may_go_on, none_is_ready, ready_is_first}
use Rattle.run_replay.specs.Replays.{ReplayNow, IsReplayOf, creates_by}
use Rattle.run_replay.specs.Next.{IsWaiting, IsSpent, IsMade, MayGoOn}
use Rattle.run_replay.specs.Serials.{IsSerialPast, IsSerial, Stops, IsNotStuck, IsNeverStuck, IsSerialRun, Runs}
use Rattle.run_replay.proofs.Acting.{creates_further, longer}

pub stops_of : (P : tree.Program) (limits : Limits) (h : List Event) (m : Machine) (t : ℕ) (r : Running) (f : Finish) → IsFirst h m t r
    → IsSpent P limits h m t f → Stops P limits h m f
stops_of P limits h m t r finish.Whole first spent = absurd spent
stops_of P limits h m t r (finish.Events b) first spent = (t, r, first, spent)
stops_of P limits h m t r (finish.Local u) first spent = (t, r, first, spent)
stops_of P limits h m t r (finish.Futures u) first spent = (t, r, first, spent)

-- the first task never waits
pub never_waits : (P : tree.Program) (h : List Event) (m : Machine) (t : ℕ) (r : Running) (future : Option ℕ) → IsWellTyped P → Leads P (opening P) h m
    → IsFirst h m t r → IsWaiting P m t future → ⊥
never_waits P h m t r future typed leads first w =
    let same : w.task ≡ r = same_Some w.task r (sym w.running.0 ∙ first.running.0) in
    elim (first_may_go_on P h m t r typed leads first) [
      | inl out ↦ stands_or_goes_on w.task.state w.stop w.stands (subst (λ (q : Running). Rattle.task_machine.specs.Runs.IsOutOfSteps q.state) (sym same) out)
      | inr may ↦ w.barred may
    ]

turned_back : (h : List Event) → reverse (reverse h) ≡ h
turned_back [] = refl
turned_back (e ∷ h) = ap reverse (reverse-append (e ∷ []) h) ∙ (reverse-append (reverse h) (e ∷ []) ∙ ap (λ l. e ∷ l) (turned_back h))

serial_further : (P : tree.Program) (h : List Event) (m : Machine) (e : Event) (r : Running) → Leads P (opening P) h m → IsFirst h m e.task r → IsSerial P h
    → IsSerial P (h ++ e ∷ [])
serial_further P h m e r leads first serial =
    subst (λ l. IsSerialPast P l) (sym (reverse-append h (e ∷ [])))
    (subst (λ k. (m : Machine) × (r : Running) × Leads P (opening P) k m × IsFirst k m e.task r) (sym (turned_back h)) (m, r, leads, first), serial)

few_creates : (b : Bool) (n most : ℕ) → (b ≡ true → n < most) → n ≤ most → n + creates_by b ≤ most
few_creates true n most f le = let lt = f refl in omega (arith, lt)
few_creates false n most f le = omega (arith, le)

pub runs_further : (P : tree.Program) (code : Compiled) (limits : Limits) (h : List Event) (old new : ReplayNow) (x : Runs P code limits h old) (t : ℕ)
    (r : Running) (e : Event) → IsFirst h x.machine t r → IsMade P code limits h x.machine t e new → Runs P code limits (h ++ e ∷ []) new
runs_further P code limits h old new x t r e first made =
    let more = longer h e in
    let few = made.few in
    record {
      machine = made.next;
      replay = made.run;
      serial = serial_further P h x.machine e r x.replay.leads (subst (λ n. IsFirst h x.machine n r) (sym made.task) first) x.serial;
      few = omega (arith, more, few);
      creates_few =
          (let c = creates_further h e in let l =
          few_creates (creates e.action) (create_count h) limits.futures made.creates_few x.creates_few in omega (arith, c, l));
    }

-- ---- the end

pub not_ended : (m : Machine) (t : ℕ) (r : Running) → EachEnded m.tasks → IsRunning m t r → ⊥
not_ended m t r each run = false≢true (sym (ap (λ (o : Option Value). is_some o) run.1) ∙ ended_at m.tasks t r each run.0)

pub not_whole : (P : tree.Program) (h : List Event) (m : Machine) (t : ℕ) (r : Running) → Leads P (opening P) h m → IsRunning m t r → IsWhole P h → ⊥
not_whole P h m t r leads run all =
    let same : all.0 ≡ m = leads_to_one P (opening P) h all.0 m all.1 leads in
    not_ended m t r (subst (λ (n : Machine). EachEnded n.tasks) same all.2) run

pub stops_hold : (P : tree.Program) (code : Compiled) (limits : Limits) (h : List Event) (now : ReplayNow) (x : Runs P code limits h now) (f : Finish)
    → limits.futures ≡ MOST_CREATES → Stops P limits h x.machine f → FinishHolds P h f
stops_hold P code limits h now x finish.Whole most s = (x.machine, x.replay.leads, s)
stops_hold P code limits h now x (finish.Events b) most (t, r, first, (is, many, may, full)) =
    (let few = x.few in omega (arith, is, many, few), not_whole P h x.machine t r x.replay.leads first.running)
stops_hold P code limits h now x (finish.Local u) most (t, r, first, (is, (q, run, out))) =
    (x.machine, q, x.replay.leads, subst (λ n. IsRunning x.machine n q) (sym is) run, out)
stops_hold P code limits h now x (finish.Futures u) most (t, r, first, (is, full)) = (
  x.machine,
  full.task,
  x.replay.leads,
  subst (λ n. IsRunning x.machine n full.task) (sym is) full.running,
  (let few = x.creates_few in let many = full.many in omega (arith, few, many, most)),
  full.wishes,
)

pub serial_run : (P : tree.Program) (code : Compiled) (limits : Limits) (h : List Event) (now : ReplayNow) (x : Runs P code limits h now) (f : Finish)
    → limits.futures ≡ MOST_CREATES → Stops P limits h x.machine f → IsSerialRun P limits h f now.cells
serial_run P code limits h now x f most s =
    record {
      machine = x.machine;
      leads = x.replay.leads;
      serial = x.serial;
      few = x.few;
      creates_few = x.creates_few;
      stops = s;
      holds = stops_hold P code limits h now x f most s;
      cells_are = x.replay.cells;
    }

pub runs_first : (P : tree.Program) (code : Compiled) (limits : Limits) (now : ReplayNow) → IsReplayOf P code [] now (opening P) → Runs P code limits [] now
runs_first P code limits now x = record { machine = opening P; replay = x; serial = tt; few = omega arith; creates_few = omega arith }

-- ---- one turn

pub stays : (P : tree.Program) (code : Compiled) (limits : Limits) (h g : List Event) (old new : ReplayNow) (x : Runs P code limits h old) (f : Finish)
    → g ≡ h → IsReplayOf P code h new x.machine → Stops P limits h x.machine f → (y : Runs P code limits g new) × Stops P limits g y.machine f
stays P code limits h g old new x f same k s =
    subst (λ l. (y : Runs P code limits l new) × Stops P limits l y.machine f) (sym same)
    (record { machine = x.machine; replay = k; serial = x.serial; few = x.few; creates_few = x.creates_few }, s)

pub event_added : (hs rs ns : List Entry) (e : Entry) → rs ≡ hs → ns ≡ rs ++ e ∷ [] → map event_of ns ≡ map event_of hs ++ event_of e ∷ []
event_added hs rs ns e kept added =
    ap (map event_of) (added ∙ ap (λ (l : List Entry). l ++ e ∷ []) kept) ∙ map-append event_of hs (e ∷ [])

-- ---- no history is stuck

not_stuck : (P : tree.Program) (h : List Event) (m : Machine) → IsWellTyped P → Leads P (opening P) h m → IsNotStuck P h
not_stuck P h m typed leads = (m, leads, by (ready_of h) refl)
  where
    by : (ts : List ℕ) → ready_of h ≡ ts → EachEnded m.tasks ⊎ ((t : ℕ) × MayGoOn P m t)
    by [] is = inl ((none_is_ready P h m leads).0 is)
    by (t ∷ ts) is =
        (let first = ready_is_first P h m t ts leads is in inr (t, (first.0, first.1.running, first_may_go_on P h m t first.0 typed leads first.1)))

pub never_stuck : (P : tree.Program) (h : List Event) (m : Machine) → IsWellTyped P → Leads P (opening P) h m → IsNeverStuck P h
never_stuck P h m typed leads before later is =
    let parts = split P (opening P) before later m (subst (λ l. Leads P (opening P) l m) is leads) in
    not_stuck P before parts.0 typed parts.1

pub serial_as : (P : tree.Program) (limits : Limits) (h g : List Event) (f k : Finish) (cells ds : List ℤ) → g ≡ h → k ≡ f → ds ≡ cells
    → IsSerialRun P limits h f cells → IsSerialRun P limits g k ds
serial_as P limits h g f k cells ds a b e x =
    subst (λ l. IsSerialRun P limits l k ds) (sym a) (subst (λ l. IsSerialRun P limits h l ds) (sym b) (subst (λ l. IsSerialRun P limits h f l) (sym e) x))
