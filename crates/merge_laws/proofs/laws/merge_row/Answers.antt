use Rattle.std.proofs.Common.{◌≡◌, ℕ, zero, suc, ◌<◌, ◌%◌, List, [], ◌∷◌, ◌⊎◌, inl, inr, refl, sym, ap, subst, lit<}
use Rattle.std.specs.Prelude.{Some, pos, reverse, slice_get}
use Rattle.fut_base.specs.declared.record.Value.TheVariants.{Int}
use Rattle.fut_base.specs.declared.event.Event.{Event}
use Rattle.fut_base.specs.declared.event.Action.TheVariants.{Reads, Writes, Spawns, Syncs, Ends}
use Rattle.fut_base.specs.Dag.{Among}
use Rattle.fut_base.specs.Rows.{ev}
use Rattle.task_machine.specs.Texts.{CellArray}
use Rattle.task_machine.specs.State.{TaskState, start_state, effect_of}
use Rattle.task_machine.proofs.Stepping.{stands_here}
use Rattle.access_shards.specs.Histories.{IsStanding}
use Rattle.run_laws.specs.Laws.{HasCells}
use Rattle.merge_laws.specs.Parts.{Drawn, all_of, IsAccessIn, ReadsAreRight, IsTraced, past_below, IsSharedRun, events_in, IsTraceOf}
use Rattle.event_clock.specs.Rule.{own_of, trace_of}
use Rattle.merge_laws.specs.Logs.{history_of, AreOfHolders}
use Rattle.merge_laws.specs.Rows.{read_program, read_log, book, shards, traces}
use Rattle.merge_laws.proofs.Logging.{log_is_shared, log_has_traces}
use Rattle.merge_laws.proofs.Merging.{merge_is_legal}
use Rattle.merge_laws.proofs.laws.merge_row.Goals as goal

cells : HasCells read_program
cells a (inl e) = subst (λ n. 0 < n) (ap (λ (x : CellArray). x.length) e) (lit< tt)
cells a (inr h) = absurd h

of_three : AreOfHolders 3 read_log
of_three x (inl e) = subst (λ (z : ℕ × Event). z.0 < 3) e (lit< tt)
of_three x (inr (inl e)) = subst (λ (z : ℕ × Event). z.0 < 3) e (lit< tt)
of_three x (inr (inr (inl e))) = subst (λ (z : ℕ × Event). z.0 < 3) e (lit< tt)
of_three x (inr (inr (inr (inl e)))) = subst (λ (z : ℕ × Event). z.0 < 3) e (lit< tt)
of_three x (inr (inr (inr (inr (inl e))))) = subst (λ (z : ℕ × Event). z.0 < 3) e (lit< tt)
of_three x (inr (inr (inr (inr (inr (inl e)))))) = subst (λ (z : ℕ × Event). z.0 < 3) e (lit< tt)
of_three x (inr (inr (inr (inr (inr (inr e)))))) = absurd e

abbrev place : ℕ → ℕ
place c = c % 2

same_own : (xs ys : List Drawn) → Some xs ≡ Some ys → xs ≡ ys
same_own xs ys h = cc

first_list : (x : Drawn) → Among x (own_of 1 read_log) → IsAccessIn place 0 x.1.action
first_list x (inl e) = subst (λ (z : Drawn). IsAccessIn place 0 z.1.action) e refl
first_list x (inr (inl e)) = subst (λ (z : Drawn). IsAccessIn place 0 z.1.action) e refl
first_list x (inr (inr e)) = absurd e

accesses : (i : ℕ) (own : List Drawn) → slice_get shards i ≡ Some own → (x : Drawn) → Among x own → IsAccessIn place i x.1.action
accesses zero own is x a = first_list x (subst (Among x) (sym (same_own (own_of 1 read_log) own is)) a)
accesses (suc zero) own is x a = absurd (subst (Among x) (sym (same_own (own_of 2 read_log) own is)) a)
accesses (suc (suc i)) own is x a = cc

abbrev events_turned : List Drawn → List Event
events_turned own = reverse (events_in own)

reads : (own : List Drawn) → Among own shards → ReadsAreRight (events_turned own)
reads own (inl e) = subst (λ l. ReadsAreRight (events_turned l)) e ((tt, tt), refl)
reads own (inr (inl e)) = subst (λ l. ReadsAreRight (events_turned l)) e tt
reads own (inr (inr e)) = absurd e

which : (x : Drawn) → Among x (all_of (book ∷ shards)) → (x.1.task ≡ 0) ⊎ (x.1.task ≡ 1)
which x (inl e) = inl (ap (λ (z : Drawn). z.1.task) (sym e))
which x (inr (inl e)) = inr (ap (λ (z : Drawn). z.1.task) (sym e))
which x (inr (inr (inl e))) = inl (ap (λ (z : Drawn). z.1.task) (sym e))
which x (inr (inr (inr (inl e)))) = inl (ap (λ (z : Drawn). z.1.task) (sym e))
which x (inr (inr (inr (inr (inl e))))) = inr (ap (λ (z : Drawn). z.1.task) (sym e))
which x (inr (inr (inr (inr (inr (inl e)))))) = inl (ap (λ (z : Drawn). z.1.task) (sym e))
which x (inr (inr (inr (inr (inr (inr e)))))) = absurd e

tasks : (x : Drawn) → Among x (all_of (book ∷ shards)) → (trace : List Drawn) × Among (x.1.task, trace) traces
tasks x a = elim (which x a) [
  | inl e ↦ (trace_of 0 read_log, inl (ap (λ (t : ℕ). (t, trace_of 0 read_log)) (sym e)))
  | inr e ↦ (trace_of 1 read_log, inr (inl (ap (λ (t : ℕ). (t, trace_of 1 read_log)) (sym e))))
]

whole : (r : ℕ × List Drawn) → Among r traces → IsTraceOf (book ∷ shards) r.0 r.1
whole r (inl e) = subst (λ (r : ℕ × List Drawn). IsTraceOf (book ∷ shards) r.0 r.1) e (log_has_traces 3 read_log 0 of_three)
whole r (inr (inl e)) = subst (λ (r : ℕ × List Drawn). IsTraceOf (book ∷ shards) r.0 r.1) e (log_has_traces 3 read_log 1 of_three)
whole r (inr (inr e)) = absurd e

-- main
abbrev s0 : TaskState
s0 = start_state read_program 1 []

abbrev s1 : TaskState
s1 = effect_of s0 (Spawns 0 1 1 2 [])

abbrev s2 : TaskState
s2 = effect_of s1 (Syncs 3)

abbrev s3 : TaskState
s3 = effect_of s2 (Reads 0 (pos 1))

abbrev s4 : TaskState
s4 = effect_of s3 (Ends (Int (pos 1)))

-- its child
abbrev k0 : TaskState
k0 = start_state read_program 0 []

abbrev k1 : TaskState
k1 = effect_of k0 (Writes 0 (pos 1))

abbrev k2 : TaskState
k2 = effect_of k1 (Ends (Int (pos 0)))

abbrev Stands : Drawn → Type 0
Stands x = IsStanding (past_below x.0 book) x.1

main_stands : (x : Drawn) → Among x (trace_of 0 read_log) → Stands x
main_stands x (inl e) = subst Stands e (record { stands = refl; running = refl })
main_stands x (inr (inl e)) = subst Stands e (record { stands = refl; running = refl })
main_stands x (inr (inr (inl e))) = subst Stands e (record { stands = refl; running = refl })
main_stands x (inr (inr (inr (inl e)))) = subst Stands e (record { stands = refl; running = refl })
main_stands x (inr (inr (inr (inr e)))) = absurd e

kid_stands : (x : Drawn) → Among x (trace_of 1 read_log) → Stands x
kid_stands x (inl e) = subst Stands e (record { stands = refl; running = refl })
kid_stands x (inr (inl e)) = subst Stands e (record { stands = refl; running = refl })
kid_stands x (inr (inr e)) = absurd e

main_traced : IsTraced read_program book 0 (trace_of 0 read_log)
main_traced =
    record {
      which = 1;
      args = [];
      state = s4;
      starts = inl (refl, refl, refl);
      leads = (s0, stands_here s0 refl, refl, (s1, stands_here s1 refl, refl, (s2, stands_here s2 refl, refl, (s3, stands_here s3 refl, refl, refl))));
      stands = main_stands;
    }

kid_traced : IsTraced read_program book 1 (trace_of 1 read_log)
kid_traced =
    record {
      which = 0;
      args = [];
      state = k2;
      starts = inr (ev 0 0 (Spawns 0 1 1 2 []), inl refl, (refl, refl, refl));
      leads = (k0, stands_here k0 refl, refl, (k1, stands_here k1 refl, refl, refl));
      stands = kid_stands;
    }

traced : (r : ℕ × List Drawn) → Among r traces → IsTraced read_program book r.0 r.1
traced r (inl e) = subst (λ (r : ℕ × List Drawn). IsTraced read_program book r.0 r.1) e main_traced
traced r (inr (inl e)) = subst (λ (r : ℕ × List Drawn). IsTraced read_program book r.0 r.1) e kid_traced
traced r (inr (inr e)) = absurd e

run : IsSharedRun read_program 6 place book shards traces
run =
    record {
      tickets = (log_is_shared 3 read_log of_three).0;
      sound = (
        (
          ((tt, record { stands = refl; running = refl; acts = (refl, refl, refl, tt) }), record { stands = refl; running = refl; acts = (refl, tt) }),
          record { stands = refl; running = refl; acts = (refl, (refl, tt)) },
        ),
        record { stands = refl; running = refl; acts = (refl, tt) },
      );
      shared = record { accesses = accesses; reads = reads };
      tasks = tasks;
      whole = whole;
      traced = traced;
    }

pub returns : goal.returns
returns c =
    record {
      book_is = refl;
      cells = cells;
      run = run;
      merge = (log_is_shared 3 read_log of_three).1;
      legal = merge_is_legal read_program 6 place book shards traces (history_of read_log) cells run (log_is_shared 3 read_log of_three).1;
    }
