-- Two serial runs of a program within the same limits are one run.
use Rattle.std.proofs.Common.{◌≡◌, ℕ, ◌+◌, ◌≤◌, true, List, [], ◌∷◌, ◌++◌, length, refl, sym, ap, ◌∙◌, subst, arith, ◌⊎◌, inl, inr, append_assoc, length-append}
use Rattle.std.specs.Prelude.{slice_get, reverse, cond, ℤ}
use Rattle.std.proofs.lemmas.List.{reverse-append, append-nil}
use Rattle.std.proofs.lemmas.List.Sums.{sum_by-append}
use Rattle.std.proofs.lemmas.Option.{same_Some}
use Rattle.fut_base.specs.declared.record.Limits.{Limits}
use Rattle.fut_base.specs.declared.record.Finish.{Finish}
use Rattle.fut_base.specs.declared.record.Finish.TheVariants as finish
use Rattle.fut_base.specs.declared.record.Value.{Value}
use Rattle.fut_base.specs.declared.event.Event.{Event}
use Rattle.fut_base.specs.declared.event.Action.{Action}
use Rattle.fut_base.specs.declared.event.Action.TheVariants.{Reads, Writes, Spawns, Creates, Syncs, Gets, Ends}
use Rattle.fut_syntax.specs.Trees as tree
use Rattle.task_machine.specs.State.{Wish, ToCreate, wish_of, Answers, TaskState}
use Rattle.task_machine.specs.Runs.{IsOutOfSteps}
use Rattle.task_machine.specs.Machine.{Machine, Running, opening, Leads, IsStep, EachEnded, IsRunning, IsAllowed, creates, create_count, WishesCreate}
use Rattle.task_machine.proofs.Leading.{leads_to_one, leads_further}
use Rattle.task_machine.proofs.Stepping.{step_is_one, stands_at_one, stands_or_goes_on}
use Rattle.run_laws.specs.Laws.{IsFirst}
use Rattle.run_laws.proofs.Stuck.{first_is_one}
use Rattle.run_replay.specs.Replays.{creates_by}
use Rattle.run_replay.specs.Next.{IsFull, IsSpent}
use Rattle.run_replay.specs.Serials.{IsSerialPast, IsSerial, Stops, IsSerialRun}
use Rattle.run_replay.specs.Laws.{SerialIsOne}
use Rattle.run_replay.proofs.Acting.{creates_further, longer}
use Rattle.run_replay.proofs.Only.{one_action, steps_can}
use Rattle.run_replay.proofs.Serially.{not_ended}

-- ---- a serial history from its beginning on

-- an event is of the task that is first after a past
abbrev IsTurn : tree.Program → List Event → Event → Type 0
IsTurn P past e = (m : Machine) × (r : Running) × Leads P (opening P) (reverse past) m × IsFirst (reverse past) m e.task r

abbrev GoOn : tree.Program → List Event → List Event → Type 0
GoOn P past [] = Unit {0}
GoOn P past (e ∷ h) = IsTurn P past e × GoOn P (e ∷ past) h

older : (P : tree.Program) (new past : List Event) → IsSerialPast P (new ++ past) → IsSerialPast P past
older P [] past x = x
older P (e ∷ new) past x = older P new past x.1

reverse_onto : (e : Event) (h past : List Event) → reverse (e ∷ h) ++ past ≡ reverse h ++ (e ∷ past)
reverse_onto e h past = ap (λ l. l ++ past) (reverse-append (e ∷ []) h) ∙ append_assoc (reverse h) (e ∷ []) past

onward : (P : tree.Program) (past h : List Event) → IsSerialPast P (reverse h ++ past) → GoOn P past h
onward P past [] x = tt
onward P past (e ∷ h) x =
    let y = subst (IsSerialPast P) (reverse_onto e h past) x in
    ((older P (reverse h) (e ∷ past) y).0, onward P (e ∷ past) h y)

-- ---- the first task makes one event

abbrev event_by : ℕ → ℕ → Action → Event
event_by t s a = record { task = t; strand = s; action = a }

one_event : (P : tree.Program) (m n k : Machine) (d e : Event) → d.task ≡ e.task → IsStep P m d n → IsStep P m e k → d ≡ e
one_event P m n k d e same x y =
    let run : IsRunning m e.task y.task = (y.present, y.running) in
    let at_d : IsRunning m d.task y.task = subst (λ t. IsRunning m t y.task) (sym same) run in
    let a = steps_can P m n d y.task at_d x in
    let b = steps_can P m k e y.task run y in
    let strand : d.strand ≡ e.strand = sym a.1 ∙ b.1 in
    let action : d.action ≡ e.action = one_action P m y.task d.action e.action a.0 b.0 in
    ap (λ t. event_by t d.strand d.action) same ∙ (ap (λ s. event_by e.task s d.action) strand ∙ ap (λ c. event_by e.task e.strand c) action)

-- ---- the cause of an end

is_create_of : (w : Wish) (a : Action) (code : ℕ) (args : List Value) → w ≡ ToCreate code args → Answers w a → creates a ≡ true
is_create_of w (Creates _ _ _ _ _) code args is x = refl
is_create_of w (Reads _ _) code args is x = cc
is_create_of w (Writes _ _) code args is x = cc
is_create_of w (Spawns _ _ _ _ _) code args is x = cc
is_create_of w (Syncs _) code args is x = cc
is_create_of w (Gets _ _ _) code args is x = cc
is_create_of w (Ends _) code args is x = cc

-- a task that wishes to create makes no other event
makes_create : (P : tree.Program) (m n : Machine) (e : Event) (r : Running) → IsRunning m e.task r → WishesCreate P r → IsStep P m e n → creates e.action ≡ true
makes_create P m n e r run (stop, code, args, stands, is) step =
    let can = (steps_can P m n e r run step).0 in
    let same = stands_at_one r.state stop can.stop stands can.stands in
    is_create_of (wish_of P can.stop) e.action code args (subst (λ (s : TaskState). wish_of P s ≡ ToCreate code args) same is) can.answers

-- a task that may make an event is not out of steps
not_out : (P : tree.Program) (m n : Machine) (e : Event) (r : Running) → IsRunning m e.task r → IsStep P m e n → IsOutOfSteps r.state → ⊥
not_out P m n e r run step out = let can = (steps_can P m n e r run step).0 in stands_or_goes_on r.state can.stop can.stands out

one_task : (m : Machine) (t u : ℕ) (r q : Running) → t ≡ u → IsRunning m t r → IsRunning m u q → r ≡ q
one_task m t u r q same x y = same_Some r q (sym x.0 ∙ (ap (λ n. slice_get m.tasks n) same ∙ y.0))

counts : (h k : List Event) → create_count (h ++ k) ≡ create_count h + create_count k
counts h k = sum_by-append (λ x. cond (creates x.action) 1 0) h k

-- a history that stops does not go on within the same limits
goes_no_further : (P : tree.Program) (limits : Limits) (h later : List Event) (m n : Machine) (e : Event) (r : Running) (f : Finish)
    → Leads P (opening P) h m → Stops P limits h m f → IsFirst h m e.task r → IsStep P m e n
    → length ((h ++ e ∷ []) ++ later) ≤ limits.events → create_count ((h ++ e ∷ []) ++ later) ≤ limits.futures → ⊥
goes_no_further P limits h later m n e r finish.Whole leads s first step few creates_few = not_ended m e.task r s first.running
goes_no_further P limits h later m n e r (finish.Events b) leads (t, q, other, (is, many, may, full)) first step few creates_few =
    let l = length-append (h ++ e ∷ []) later in
    let more = longer h e in
    omega (arith, l, more, many, few)
goes_no_further P limits h later m n e r (finish.Local u) leads (t, q, other, (is, (a, run, out))) first step few creates_few =
    let at = first_is_one P h m t e.task q r leads other first in
    not_out P m n e a (subst (λ x. IsRunning m x a) at run) step out
goes_no_further P limits h later m n e r (finish.Futures u) leads (t, q, other, (is, full)) first step few creates_few =
    let at = first_is_one P h m t e.task q r leads other first in
    let made = makes_create P m n e full.task (subst (λ x. IsRunning m x full.task) at full.running) full.wishes step in
    let all = counts (h ++ e ∷ []) later in
    let one = creates_further h e in
    let by : creates_by (creates e.action) ≡ 1 = ap creates_by made in
    let many = full.many in
    omega (arith, all, one, by, many, creates_few)

-- ---- one history

-- a history within the limits that stops
record Ended (P : tree.Program) (limits : Limits) (h : List Event) (m : Machine) (f : Finish) : Type 0 where
  few : length h ≤ limits.events
  creates_few : create_count h ≤ limits.futures
  stops : Stops P limits h m f

no_more : (P : tree.Program) (limits : Limits) (past : List Event) (e : Event) (g : List Event) (m n : Machine) (f k : Finish)
    → Leads P (opening P) (reverse past) m → IsTurn P past e → Leads P m (e ∷ g) n → Ended P limits (reverse past ++ []) m f
    → Ended P limits (reverse past ++ e ∷ g) n k → ⊥
no_more P limits past e g m n f k leads (m', r, leads', first) (next, step, rest) x y =
    let same = leads_to_one P (opening P) (reverse past) m' m leads' leads in
    let here = sym (append_assoc (reverse past) (e ∷ []) g) in
    goes_no_further P limits (reverse past) g m next e r f leads (subst (λ l. Stops P limits l m f) (append-nil (reverse past)) x.stops)
    (subst (λ (q : Machine). IsFirst (reverse past) q e.task r) same first) step
    (subst (λ (l : List Event). length l ≤ limits.events) here y.few) (subst (λ (l : List Event). create_count l ≤ limits.futures) here y.creates_few)

pushed : (past : List Event) (e : Event) (h : List Event) → reverse past ++ e ∷ h ≡ reverse (e ∷ past) ++ h
pushed past e h = sym (reverse_onto e past h)

same_turn : (P : tree.Program) (past : List Event) (d e : Event) → IsTurn P past d → IsTurn P past e → d.task ≡ e.task
same_turn P past d e (m, r, leads, first) (n, q, leads', first') =
    let same = leads_to_one P (opening P) (reverse past) n m leads' leads in
    first_is_one P (reverse past) m d.task e.task r q leads first (subst (λ (k : Machine). IsFirst (reverse past) k e.task q) same first')

one_history : (P : tree.Program) (limits : Limits) (past h g : List Event) (m a b : Machine) (f k : Finish)
    → Leads P (opening P) (reverse past) m → GoOn P past h → GoOn P past g → Leads P m h a → Leads P m g b
    → Ended P limits (reverse past ++ h) a f → Ended P limits (reverse past ++ g) b k → h ≡ g
one_history P limits past [] [] m a b f k leads x y to_a to_b p q = refl
one_history P limits past [] (e ∷ g) m a b f k leads x y to_a to_b p q =
    absurd (no_more P limits past e g m b f k leads y.0 to_b (subst (λ n. Ended P limits (reverse past ++ []) n f) (sym to_a) p) q)
one_history P limits past (d ∷ h) [] m a b f k leads x y to_a to_b p q =
    absurd (no_more P limits past d h m a k f leads x.0 to_a (subst (λ n. Ended P limits (reverse past ++ []) n k) (sym to_b) q) p)
one_history P limits past (d ∷ h) (e ∷ g) m a b f k leads x y (n, step, to_a) (n', step', to_b) p q =
    let same : d ≡ e = one_event P m n n' d e (same_turn P past d e x.0 y.0) step step' in
    let next : n' ≡ n = step_is_one P m d n' n (subst (λ c. IsStep P m c n') (sym same) step') step in
    let further : Leads P (opening P) (reverse (d ∷ past)) n =
    subst (λ l. Leads P (opening P) l n) (sym (reverse-append (d ∷ []) past)) (leads_further P (opening P) (reverse past) d m n leads step) in
    let rest = one_history P limits (d ∷ past) h g n a b f k further x.1 (subst (λ c. GoOn P (c ∷ past) g) (sym same) y.1) to_a
    (subst (λ c. Leads P c g b) next to_b)
    (subst (λ l. Ended P limits l a f) (pushed past d h) p)
    (subst (λ l. Ended P limits l b k) (pushed past d g) (subst (λ c. Ended P limits (reverse past ++ c ∷ g) b k) (sym same) q)) in
    cc

-- ---- one cause

-- a task that is out of steps neither may make an event nor wishes to create
out_and_allowed : (P : tree.Program) (m : Machine) (t : ℕ) (r : Running) → IsRunning m t r → IsOutOfSteps r.state → IsAllowed P m t → ⊥
out_and_allowed P m t r run out (e, is, n, step) = not_out P m n e r (subst (λ x. IsRunning m x r) (sym is) run) step out

out_and_full : (P : tree.Program) (limits : Limits) (h : List Event) (m : Machine) (t : ℕ) (r : Running) → IsRunning m t r → IsOutOfSteps r.state
    → IsFull P limits h m t → ⊥
out_and_full P limits h m t r run out full =
    let same : r ≡ full.task = one_task m t t r full.task refl run full.running in
    let (stop, code, args, stands, is) = full.wishes in
    stands_or_goes_on full.task.state stop stands (subst (λ (x : Running). IsOutOfSteps x.state) same out)

one_spent : (P : tree.Program) (limits : Limits) (h : List Event) (m : Machine) (t : ℕ) (f k : Finish) → IsSpent P limits h m t f → IsSpent P limits h m t k
    → f ≡ k
one_spent P limits h m t finish.Whole k x y = absurd x
one_spent P limits h m t (finish.Events b) finish.Whole x y = absurd y
one_spent P limits h m t (finish.Events b) (finish.Events c) x y = let e : b ≡ c = x.0 ∙ sym y.0 in cc
one_spent P limits h m t (finish.Events b) (finish.Local u) (is, many, may, full) (at, (r, run, out)) = absurd (out_and_allowed P m t r run out may)
one_spent P limits h m t (finish.Events b) (finish.Futures u) (is, many, may, full) y = absurd (full y.1)
one_spent P limits h m t (finish.Local u) finish.Whole x y = absurd y
one_spent P limits h m t (finish.Local u) (finish.Events c) (at, (r, run, out)) (is, many, may, full) = absurd (out_and_allowed P m t r run out may)
one_spent P limits h m t (finish.Local u) (finish.Local v) x y = let e : u ≡ v = x.0 ∙ sym y.0 in cc
one_spent P limits h m t (finish.Local u) (finish.Futures v) (at, (r, run, out)) y = absurd (out_and_full P limits h m t r run out y.1)
one_spent P limits h m t (finish.Futures u) finish.Whole x y = absurd y
one_spent P limits h m t (finish.Futures u) (finish.Events c) x (is, many, may, full) = absurd (full x.1)
one_spent P limits h m t (finish.Futures u) (finish.Local v) x (at, (r, run, out)) = absurd (out_and_full P limits h m t r run out x.1)
one_spent P limits h m t (finish.Futures u) (finish.Futures v) x y = let e : u ≡ v = x.0 ∙ sym y.0 in cc

-- a run stops whole, or at its first task
abbrev Why : tree.Program → Limits → List Event → Machine → Finish → Type 0
Why P limits h m f = (EachEnded m.tasks × (f ≡ finish.Whole)) ⊎ ((t : ℕ) × (r : Running) × IsFirst h m t r × IsSpent P limits h m t f)

why : (P : tree.Program) (limits : Limits) (h : List Event) (m : Machine) (f : Finish) → Stops P limits h m f → Why P limits h m f
why P limits h m finish.Whole s = inl (s, refl)
why P limits h m (finish.Events b) s = inr s
why P limits h m (finish.Local u) s = inr s
why P limits h m (finish.Futures u) s = inr s

one_why : (P : tree.Program) (limits : Limits) (h : List Event) (m : Machine) (f k : Finish) → Leads P (opening P) h m → Why P limits h m f
    → Why P limits h m k → f ≡ k
one_why P limits h m f k leads (inl (all, is)) (inl (all', is')) = is ∙ sym is'
one_why P limits h m f k leads (inl (all, is)) (inr (t, r, first, spent)) = absurd (not_ended m t r all first.running)
one_why P limits h m f k leads (inr (t, r, first, spent)) (inl (all, is)) = absurd (not_ended m t r all first.running)
one_why P limits h m f k leads (inr (t, r, first, spent)) (inr (u, q, first', spent')) =
    let same = first_is_one P h m u t q r leads first' first in
    one_spent P limits h m t f k spent (subst (λ n. IsSpent P limits h m n k) same spent')

one_cause : (P : tree.Program) (limits : Limits) (h : List Event) (m : Machine) (f k : Finish) → Leads P (opening P) h m → Stops P limits h m f
    → Stops P limits h m k → f ≡ k
one_cause P limits h m f k leads x y = one_why P limits h m f k leads (why P limits h m f x) (why P limits h m k y)

-- ---- one run

ended : (P : tree.Program) (limits : Limits) (h : List Event) (f : Finish) (cells : List ℤ) (x : IsSerialRun P limits h f cells) → Ended P limits h x.machine f
ended P limits h f cells x = record { few = x.few; creates_few = x.creates_few; stops = x.stops }

goes_on : (P : tree.Program) (h : List Event) → IsSerial P h → GoOn P [] h
goes_on P h x = onward P [] h (subst (IsSerialPast P) (sym (append-nil (reverse h))) x)

one_end : (P : tree.Program) (limits : Limits) (h : List Event) (f k : Finish) (cells values : List ℤ) → IsSerialRun P limits h f cells
    → IsSerialRun P limits h k values → (f ≡ k) × (cells ≡ values)
one_end P limits h f k cells values x y =
    let same : y.machine ≡ x.machine = leads_to_one P (opening P) h y.machine x.machine y.leads x.leads in (
      one_cause P limits h x.machine f k x.leads x.stops (subst (λ n. Stops P limits h n k) same y.stops),
      x.cells_are
          ∙ (ap (λ (m : Machine). m.cells) (sym same) ∙ sym y.cells_are),
    )

pub serial_is_one : SerialIsOne
serial_is_one P limits h g f e cells values x y =
    let same : h ≡ g = one_history P limits [] h g (opening P) x.machine y.machine f e refl (goes_on P h x.serial) (goes_on P g y.serial) x.leads y.leads
    (ended P limits h f cells x) (ended P limits g e values y) in
    let end = one_end P limits h f e cells values x (subst (λ l. IsSerialRun P limits l e values) (sym same) y) in
    (same, end.0, end.1)
