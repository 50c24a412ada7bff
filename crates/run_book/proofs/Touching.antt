-- What holds of a task after an access, which another holder drew.
use Rattle.std.proofs.Common.{◌≡◌, ℕ, ◌<◌, ◌≤◌, Bool, true, false, cond, List, [], ◌∷◌, ◌++◌, inl, inr, refl, sym, ap, ◌∙◌, subst, arith}
use Rattle.std.specs.Prelude.{Some}
use Rattle.std.proofs.lemmas.List.{append-nil}
use Rattle.std.proofs.lemmas.List.Elements.{filter-append}
use Rattle.fut_base.specs.declared.record.Value.{Value}
use Rattle.fut_base.specs.declared.event.Event.{Event}
use Rattle.fut_base.specs.declared.event.Action.{Action}
use Rattle.fut_base.specs.declared.event.Action.TheVariants.{Reads, Writes, Spawns, Creates, Syncs, Gets, Ends}
use Rattle.fut_base.specs.Events.{structural}
use Rattle.fut_base.specs.Dag.{Among, ends}
use Rattle.fut_base.specs.Sound.{current}
use Rattle.fut_syntax.specs.Trees as tree
use Rattle.fut_check.specs.Items.{IsWellTyped}
use Rattle.task_machine.specs.State.{TaskState, wish_of, effect_of, Answers}
use Rattle.task_machine.specs.Runs.{StandsAt}
use Rattle.task_types.specs.Typed.{ActionFits, any_future}
use Rattle.task_code.specs.Flat.{Compiled, IsCodeOf}
use Rattle.task_code.specs.Tasks.{TaskNow, IsTaskOf, ended_after}
use Rattle.strand_tree.specs.declared.strand.Strand.{Strand}
use Rattle.run_place.specs.Placed.{events_in}
use Rattle.run_book.specs.Drawn.{drawn_of, structural_in, past_in, past_below}
use Rattle.run_book.specs.Jobs.{StartsAs, Stands, IsEntryOf, IsTraceBy, NoneEnds, IsTaskIn}
use Rattle.run_book.proofs.Drawn.{last_or, all_past}
use Rattle.run_book.proofs.Handles.{runs_by}

-- an action accesses a cell
abbrev pub IsAccess : Action → Type 0
IsAccess (Reads _ _) = Unit {0}
IsAccess (Writes _ _) = Unit {0}
IsAccess _ = ⊥

not_structural : (a : Action) → IsAccess a → structural a ≡ false
not_structural (Reads _ _) is = refl
not_structural (Writes _ _) is = refl
not_structural (Spawns _ _ _ _ _) is = absurd is
not_structural (Creates _ _ _ _ _) is = absurd is
not_structural (Syncs _) is = absurd is
not_structural (Gets _ _ _) is = absurd is
not_structural (Ends _) is = absurd is

not_end : (a : Action) → IsAccess a → ends a ≡ false
not_end (Reads _ _) is = refl
not_end (Writes _ _) is = refl
not_end (Spawns _ _ _ _ _) is = refl
not_end (Creates _ _ _ _ _) is = refl
not_end (Syncs _) is = refl
not_end (Gets _ _ _) is = refl
not_end (Ends _) is = absurd is

runs_on : (a : Action) (b : Bool) → IsAccess a → ended_after b a ≡ b
runs_on (Reads _ _) b is = refl
runs_on (Writes _ _) b is = refl
runs_on (Spawns _ _ _ _ _) b is = absurd is
runs_on (Creates _ _ _ _ _) b is = absurd is
runs_on (Syncs _) b is = absurd is
runs_on (Gets _ _ _) b is = absurd is
runs_on (Ends _) b is = absurd is

fits_any : (P : tree.Program) (which : ℕ) (t : TaskState) (a : Action) → IsAccess a → ActionFits any_future P which t a
fits_any P which t (Reads _ _) is = tt
fits_any P which t (Writes _ _) is = tt
fits_any P which t (Spawns _ _ _ _ _) is = absurd is
fits_any P which t (Creates _ _ _ _ _) is = absurd is
fits_any P which t (Syncs _) is = absurd is
fits_any P which t (Gets _ _ _) is = absurd is
fits_any P which t (Ends _) is = absurd is

same_structure : (trace : List (ℕ × Event)) (k : ℕ) (e : Event) → structural e.action ≡ false → structural_in (trace ++ (k, e) ∷ []) ≡ structural_in trace
same_structure trace k e off =
    filter-append (λ (x : ℕ × Event). structural x.1.action) trace ((k, e) ∷ [])
    ∙ ap (λ b. structural_in trace ++ cond b ((k, e) ∷ []) []) off ∙ append-nil (structural_in trace)

-- what holds of the task by the entries that are known, after its access at a ticket above theirs
pub task_touched : (code : Compiled) (book : List (ℕ × Event)) (task : TaskNow) (at : Strand) (table : List Strand) (pace : ℕ)
    (k : ℕ) (e : Event) (new : TaskNow) (pace' : ℕ) → IsTaskIn code book task at table pace
    → e.task ≡ task.number → e.strand ≡ at.number → IsAccess e.action → ((x : ℕ × Event) → Among x book → x.0 < k)
    → Stands code task (λ P w. Answers w e.action)
    → new.number ≡ task.number → new.which ≡ task.which → new.spot.ended ≡ ended_after task.spot.ended e.action
    → drawn_of new.trace.items ≡ drawn_of task.trace.items ++ (k, e) ∷ []
    → ((P : tree.Program) (args : List Value) (s t : TaskState) → IsCodeOf P code → IsTaskOf P code args task s → StandsAt s t → Answers (wish_of P t) e.action
    → ActionFits any_future P task.which t e.action → IsTaskOf P code args new (effect_of t e.action))
    → pace' ≡ 1 → IsTaskIn code book new at table pace'
task_touched code book task at table pace k e new pace' is own strand access low stands number which ended trace feeds one =
    let old : List (ℕ × Event) = drawn_of task.trace.items in
    let here : current (past_in book) task.number ≡ Some e.strand = is.strand ∙ ap (λ n. Some n) (sym strand) in
    let entry : IsEntryOf (past_in book) task.number e =
    record { own = own; stands = here; running = runs_by book task.number old is.trace is.unended } in
    let longer : IsTraceBy book task.number (old ++ (k, e) ∷ []) = record {
      structural = is.trace.structural ∙ sym (same_structure old k e (not_structural e.action access));
      entries = λ x a. elim (last_or x (k, e) old a) [
        | inl was ↦ is.trace.entries x was
        | inr same ↦
            subst (λ (y : ℕ × Event). IsEntryOf (past_below y.0 book) task.number y.1) same
            (subst (λ l. IsEntryOf l task.number e) (sym (all_past k book low)) entry)
      ];
    } in
    record {
      program = is.program;
      running = ended ∙ runs_on e.action task.spot.ended access ∙ is.running;
      unended = subst NoneEnds (sym trace) (λ x a. elim (last_or x (k, e) old a) [
        | inl was ↦ is.unended x was
        | inr same ↦ subst (λ (y : ℕ × Event). ends y.1.action ≡ false) same (not_end e.action access)
      ]);
      started = λ P typed of. (
          let (args, s, starts, state) = is.started P typed of in
          let (stop, at_event, answers) = stands P args s typed of state in (
            args,
            effect_of stop e.action,
            subst (λ n. StartsAs P (events_in book) n new.which args) (sym number)
                (subst (λ w. StartsAs P (events_in book) task.number w args) (sym which) starts),
            feeds P args s stop of state at_event answers (fits_any P task.which stop e.action access),
          ));
      trace = subst (λ n. IsTraceBy book n (drawn_of new.trace.items)) (sym number) (subst (λ l. IsTraceBy book task.number l) (sym trace) longer);
      strand = subst (λ n. current (past_in book) n ≡ Some at.number) (sym number) is.strand;
      placed = is.placed;
      few = omega (arith, one);
      paced = λ zero. absurd (omega (arith, zero, one));
    }
