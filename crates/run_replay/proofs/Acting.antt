-- An event that the run takes is a step of the machine.
use Rattle.std.proofs.Common.{◌≡◌, ℕ, ◌+◌, ◌≤◌, Bool, true, false, List, [], ◌∷◌, ◌++◌, length, refl, sym, ap, ◌∙◌, subst, arith, length-append}
use Rattle.std.specs.Prelude.{Option, Some, None, is_some, slice_get, slice_set, count_by, cond}
use Rattle.std.proofs.lemmas.List.{reverse-append}
use Rattle.std.proofs.lemmas.List.Sums.{sum_by-append, sum_by-cons}
use Rattle.std.proofs.lemmas.Bool.{false≢true}
use Rattle.std.proofs.lemmas.Option.{same_Some}
use Rattle.fut_base.proofs.Rising.{strands_few}
use Rattle.fut_base.specs.declared.record.Value.{Value}
use Rattle.fut_base.specs.declared.event.Event.{Event}
use Rattle.fut_base.specs.declared.event.Action.{Action}
use Rattle.fut_base.specs.declared.event.Action.TheVariants.{Reads, Writes, Spawns, Creates, Syncs, Gets, Ends}
use Rattle.fut_base.specs.Dag.{Among, block_after}
use Rattle.fut_base.specs.Sound.{strands_by, value_by}
use Rattle.fut_syntax.specs.Trees as tree
use Rattle.fut_check.specs.Items.{IsWellTyped}
use Rattle.task_machine.specs.Machine.{Machine, Running, opening, begins, strand_after, acted, child_of}
use Rattle.task_machine.specs.Machine.{cells_after, after, IsStep, Permits, creates, create_count}
use Rattle.task_machine.proofs.Leading.{leads_further}
use Rattle.task_types.specs.Typed.{ArgsFit, ActionFits, any_future}
use Rattle.task_types.specs.Running.{Passes}
use Rattle.task_types.proofs.Running.{steps_fit, children_fit}
use Rattle.task_code.specs.Flat.{Compiled, IsCodeOf}
use Rattle.task_code.specs.Tasks.{IsStill}
use Rattle.run_replay.specs.declared.line.TaskLine.{TaskLine}
use Rattle.access_shards.specs.Histories.{IsInStep}
use Rattle.run_laws.specs.Ready.{ready_by, ready_past, ready_of}
use Rattle.run_laws.proofs.Ready.{ready_run}
use Rattle.run_replay.specs.Ready.{IsNextChild, IsRing, StandsIn, tasks_by}
use Rattle.run_replay.specs.Replays.{ReplayNow, IsLineOf, AreLinesOf, IsReplayOf, AreBegun, StillAt, Takes, Finds, CanAct, IsLegalAct, creates_by}
use Rattle.run_replay.proofs.Lining.{task_of_line, set_line, add_lines, set_length, count_lines}
use Rattle.run_replay.proofs.Finding.{in_step_further}

not_some : {X : Type 0} (o : Option X) → is_some o ≡ false → o ≡ None
not_some None h = refl
not_some (Some x) h = absurd (false≢true (sym h))

-- ---- what a further event makes of the counts and of the order

count_one : (p : Event → Bool) (e : Event) → count_by p (e ∷ []) ≡ creates_by (p e)
count_one p e = sum_by-cons (λ x. cond (p x) 1 0) e [] ∙ by (p e)
  where
    by : (b : Bool) → cond b 1 0 + 0 ≡ creates_by b
    by true = refl
    by false = refl

pub creates_further : (h : List Event) (e : Event) → create_count (h ++ e ∷ []) ≡ create_count h + creates_by (creates e.action)
creates_further h e =
    sum_by-append (λ x. cond (creates x.action) 1 0) h (e ∷ [])
    ∙ ap (λ n. create_count h + n) (count_one (λ x. creates x.action) e)

pub ready_further : (h : List Event) (e : Event) → ready_of (h ++ e ∷ []) ≡ ready_by e.task e.action (ready_of h)
ready_further h e = ap ready_past (reverse-append h (e ∷ []))

pub longer : (h : List Event) (e : Event) → length (h ++ e ∷ []) ≡ length h + 1
longer h e = length-append h (e ∷ [])

-- ---- the lines

-- the lines that an action begins are those of its children
begun_lines : (P : tree.Program) (code : Compiled) (r : Running) (x : TaskLine) (a : Action) (lines : List TaskLine) → IsWellTyped P → IsCodeOf P code
    → IsLineOf P code x r → ((which : ℕ) (args : List Value) → Passes a which args → ArgsFit any_future P which args) → AreBegun code x.future a lines
    → AreLinesOf P code lines (child_of P r a)
begun_lines P code r x (Reads _ _) lines typed of l fit b = subst (λ z. AreLinesOf P code z []) (sym b) tt
begun_lines P code r x (Writes _ _) lines typed of l fit b = subst (λ z. AreLinesOf P code z []) (sym b) tt
begun_lines P code r x (Syncs _) lines typed of l fit b = subst (λ z. AreLinesOf P code z []) (sym b) tt
begun_lines P code r x (Gets _ _ _) lines typed of l fit b = subst (λ z. AreLinesOf P code z []) (sym b) tt
begun_lines P code r x (Ends _) lines typed of l fit b = subst (λ z. AreLinesOf P code z []) (sym b) tt
begun_lines P code r x (Spawns which child kid cont args) lines typed of l fit (line, is, b) =
    subst (λ z. AreLinesOf P code z (begins P which args kid r.future ∷ [])) (sym is) (
      record {
        args = args;
        task = b.state P typed of (fit which args (refl, refl));
        which = b.which_is;
        ended = b.runs;
        strand = b.strand_is;
        future = b.future_is ∙ l.future;
        block = b.block;
        value = b.value;
      },
      tt,
    )
begun_lines P code r x (Creates which child kid cont args) lines typed of l fit (line, is, b) =
    subst (λ z. AreLinesOf P code z (begins P which args kid child ∷ [])) (sym is) (
      record {
        args = args;
        task = b.state P typed of (fit which args (refl, refl));
        which = b.which_is;
        ended = b.runs;
        strand = b.strand_is;
        future = b.future_is;
        block = b.block;
        value = b.value;
      },
      tt,
    )

-- they are as many as the tasks that it begins
begun_count : (code : Compiled) (future : ℕ) (a : Action) (lines : List TaskLine) → AreBegun code future a lines → length lines ≡ tasks_by a
begun_count code future (Reads _ _) lines b = ap length b
begun_count code future (Writes _ _) lines b = ap length b
begun_count code future (Syncs _) lines b = ap length b
begun_count code future (Gets _ _ _) lines b = ap length b
begun_count code future (Ends _) lines b = ap length b
begun_count code future (Spawns _ _ _ _ _) lines (line, is, b) = ap length is
begun_count code future (Creates _ _ _ _ _) lines (line, is, b) = ap length is

few_begun : (a : Action) → tasks_by a ≤ 1
few_begun (Reads _ _) = omega arith
few_begun (Writes _ _) = omega arith
few_begun (Syncs _) = omega arith
few_begun (Gets _ _ _) = omega arith
few_begun (Ends _) = omega arith
few_begun (Spawns _ _ _ _ _) = omega arith
few_begun (Creates _ _ _ _ _) = omega arith

-- a child that the machine permits has the next number
pub next_child : (m : Machine) (r : Running) (a : Action) (tasks : ℕ) → tasks ≡ length m.tasks → Permits m r a → IsNextChild tasks a
next_child m r (Reads _ _) tasks is may = tt
next_child m r (Writes _ _) tasks is may = tt
next_child m r (Syncs _) tasks is may = tt
next_child m r (Gets _ _ _) tasks is may = tt
next_child m r (Ends _) tasks is may = tt
next_child m r (Spawns _ _ _ _ _) tasks is may = may.0 ∙ sym is
next_child m r (Creates _ _ _ _ _) tasks is may = may.0 ∙ sym is

-- ---- a step

abbrev pub can_step : (P : tree.Program) (m : Machine) (t : ℕ) (r : Running) (a : Action) → slice_get m.tasks t ≡ Some r → r.value ≡ None
    → (can : CanAct P m r a) → IsStep P m (record { task = t; strand = r.strand; action = a })
    (after P m (record { task = t; strand = r.strand; action = a }) r can.stop)
can_step P m t r a present runs can =
    record {
      task = r;
      stop = can.stop;
      present = present;
      running = runs;
      strand = refl;
      stands = can.stands;
      answers = can.answers;
      permits = can.permits;
      gives = refl;
    }

-- a run that has taken an action that the machine permits has made a step
pub takes_step : (P : tree.Program) (code : Compiled) (h : List Event) (m : Machine) (old new : ReplayNow) (t : ℕ) (a : Action) (e : Event) (r : Running)
    → IsReplayOf P code h old m → Takes code old new t a e → StillAt code old.lines t → slice_get m.tasks t ≡ Some r → r.value ≡ None → CanAct P m r a
    → (n : Machine) × IsStep P m e n × IsReplayOf P code (h ++ e ∷ []) new n
takes_step P code h m old new t a e r x k st present runs can =
    let found = task_of_line P code old.lines m.tasks t k.before x.lines k.present in
    let same : found.0 ≡ r = same_Some found.0 r (sym found.1 ∙ present) in
    let l : IsLineOf P code k.before r = subst (λ (q : Running). IsLineOf P code k.before q) same found.2 in
    let own : Event = record { task = t; strand = r.strand; action = a } in
    let is : e ≡ own = k.event ∙ ap (λ s. at t s a) l.strand in
    let n : Machine = after P m own r can.stop in
    let step : IsStep P m own n = can_step P m t r a present runs can in
    let still : k.before.task.spot.ended ≡ false = l.ended ∙ ap (λ (o : Option Value). is_some o) runs in
    let fed = k.acts.fed still (subst (λ (z : TaskLine). IsStill code z.task) (same_Some st.0 k.before (sym st.1 ∙ k.present)) st.3) in
    let fits : ActionFits any_future P k.before.task.which can.stop a =
    subst (λ w. ActionFits any_future P w can.stop a) (sym l.which) (steps_fit P h m own n x.typed x.leads step) in
    let line : IsLineOf P code k.after (acted r can.stop a) =
    record {
      args = l.args;
      task = fed.state P x.typed x.code_is l.args r.state can.stop l.task can.stands can.answers fits;
      which = fed.which ∙ l.which;
      ended = fed.ended ∙ ap (λ (o : Option Value). is_some (value_by a o)) (sym runs);
      strand = k.acts.strand ∙ ap (strand_after a) l.strand;
      future = k.acts.future ∙ l.future;
      block = k.acts.block ∙ ap (block_after a) l.block;
      value = k.acts.value ∙ ap (value_by a) l.value;
    } in
    let begun = begun_lines P code r k.before a k.begun x.typed x.code_is l
    (λ which args p. children_fit P h m own n which args x.typed x.leads step p) k.are_begun in
    let lines = add_lines P code (slice_set old.lines t k.after) k.begun (slice_set m.tasks t (acted r can.stop a)) (child_of P r a)
    (set_line P code old.lines m.tasks t k.after (acted r can.stop a) x.lines line) begun in
    let more = few_begun a in
    let size = ap length k.lines ∙ (length-append (slice_set old.lines t k.after) k.begun ∙ ap (λ s. s + length k.begun) (set_length old.lines t k.after)) in
    let count : length new.lines ≡ length old.lines + tasks_by a =
    size ∙ ap (λ s. length old.lines + s) (begun_count code k.before.future a k.begun k.are_begun) in
    let there : Among t (ready_of h) = (ready_run P h m t x.leads).1 (r, (present, runs)) in
    let ring = k.ready (length old.lines) (ready_of h) (record { ring = x.ready; there = there })
    (next_child m r a (length old.lines) (count_lines P code old.lines m.tasks x.lines) can.permits) in
    let few = x.few in
    let made = x.made in
    let two = strands_few a in
    let one = k.entries in
    let strands = k.strands in
    subst (λ (d : Event). (n : Machine) × IsStep P m d n × IsReplayOf P code (h ++ d ∷ []) new n) (sym is) (
      n,
      step,
      record {
        typed = x.typed;
        code_is = x.code_is;
        leads = leads_further P (opening P) h own m n x.leads step;
        lines = subst (λ z. AreLinesOf P code z n.tasks) (sym k.lines) lines;
        cells = k.cells ∙ ap (cells_after a) x.cells;
        strands = k.strands ∙ ap (λ s. s + strands_by a) x.strands;
        entries = k.entries ∙ (ap (λ s. s + 1) x.entries ∙ sym (longer h own));
        creates = k.creates_are ∙ (ap (λ s. s + creates_by (creates a)) x.creates ∙ sym (creates_further h own));
        ready = subst (λ ts. IsRing (length new.lines) ts new.ready) (sym (ready_further h own))
            (subst (λ s. IsRing s (ready_by t a (ready_of h)) new.ready) (sym count) ring);
        few = omega (arith, more, count, few, one);
        made = omega (arith, made, two, one, strands);
        found = subst (λ (d : Event). Finds old.finder new.finder d) is k.finds h x.found (in_step_further P h m n own x.leads step x.found.steps);
      },
    )
  where
    at : ℕ → ℕ → Action → Event
    at t s a = record { task = t; strand = s; action = a }

-- the finder of a run may take the event of a task that may act so
pub may_find : (code : Compiled) (now : ReplayNow) (t : ℕ) (a : Action) (x : TaskLine) (e : Event) (k : IsLegalAct code now t a)
    → slice_get now.lines t ≡ Some x → e ≡ record { task = t; strand = x.strand; action = a } → IsInStep (k.history ++ e ∷ [])
may_find code now t a x e k present is =
    let found = task_of_line k.program code now.lines k.machine.tasks t x k.replay.lines present in
    let same : found.0 ≡ k.task = same_Some found.0 k.task (sym found.1 ∙ k.running.0) in
    let strand : x.strand ≡ k.task.strand = found.2.strand ∙ ap (λ (r : Running). r.strand) same in
    let step = can_step k.program k.machine t k.task a k.running.0 k.running.1 k.can in
    let own = in_step_further k.program k.history k.machine _ _ k.replay.leads step k.replay.found.steps in
    subst (λ (d : Event). IsInStep (k.history ++ d ∷ [])) (sym (is ∙ ap (λ s. at t s a) strand)) own
  where
    at : ℕ → ℕ → Action → Event
    at t s a = record { task = t; strand = s; action = a }

-- the task stands in the ring of its run, and its child has the next number
pub stands_in : (code : Compiled) (now : ReplayNow) (t : ℕ) (a : Action) (k : IsLegalAct code now t a)
    → StandsIn (length now.lines) (ready_of k.history) now.ready t × IsNextChild (length now.lines) a
stands_in code now t a k =
    let x = k.replay in (
      record { ring = x.ready; there = (ready_run k.program k.history k.machine t x.leads).1 (k.task, k.running) },
      next_child k.machine k.task a (length now.lines) (count_lines k.program code now.lines k.machine.tasks x.lines) k.can.permits,
    )
