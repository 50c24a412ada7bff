-- The opening state, the first task, and a run that stands still.
use Rattle.std.proofs.Common.{◌≡◌, ℕ, ◌+◌, List, [], ◌∷◌, ◌++◌, length, replicate, refl, sym, ap, ◌∙◌, subst, arith}
use Rattle.std.specs.Prelude.{Option, Some, None, MatchOption, IfSome, slice_get, slice_set, ℤ, pos}
use Rattle.std.proofs.lemmas.Option.{same_Some}
use Rattle.fut_base.specs.declared.event.Event.{Event}
use Rattle.fut_base.specs.declared.event.Action.{Action}
use Rattle.fut_base.specs.Dag.{block_after}
use Rattle.fut_base.specs.Sound.{strands_by, value_by}
use Rattle.fut_syntax.specs.Trees as tree
use Rattle.fut_check.specs.Items.{IsWellTyped}
use Rattle.task_machine.specs.Texts.{main_of}
use Rattle.task_machine.specs.Machine.{Machine, Running, EachEnded, opening, begins, strand_after, cells_after, creates}
use Rattle.task_types.proofs.Mains.{main_fits}
use Rattle.task_types.specs.Typed.{any_future}
use Rattle.task_code.specs.Flat.{Compiled, IsCodeOf}
use Rattle.task_code.specs.Tasks.{IsStill}
use Rattle.race_finder.specs.declared.finder.Finder.{Finder}
use Rattle.race_finder.specs.Finding.{IsFinderOf}
use Rattle.run_laws.specs.Laws.{IsFirst}
use Rattle.run_laws.specs.Ready.{ready_of}
use Rattle.run_laws.proofs.Ready.{first_may_go_on, none_is_ready, ready_is_first}
use Rattle.run_replay.specs.declared.line.TaskLine.{TaskLine}
use Rattle.run_replay.specs.Next.{MayGoOn}
use Rattle.run_replay.specs.Ready.{Links, IsRing, Reorders}
use Rattle.run_replay.specs.Replays.{ReplayNow, IsLineOf, AreLinesOf, IsReplayOf, KeepsLine, KeepsLineAt, StandsStill}
use Rattle.run_replay.specs.Replays.{ActsAs, ActsAt, AreBegun, Begins, StillAt, Takes, Finds, FindsStill, creates_by}
use Rattle.run_replay.proofs.Lining.{kept_lines, kept_length, set_twice, get_set_here}
use Rattle.task_machine.proofs.Places.{get_below}

pub begins_run : (P : tree.Program) (code : Compiled) (main : TaskLine) (now : ReplayNow) → IsWellTyped P → IsCodeOf P code
    → Begins code code.main [] 0 0 main → IsFinderOf [] now.finder
    → now.lines ≡ main ∷ [] → now.cells ≡ replicate code.cells (pos 0) → IsRing 1 (0 ∷ []) now.ready → now.entries ≡ 0 → now.creates ≡ 0 → now.strands ≡ 1
    → IsReplayOf P code [] now (opening P)
begins_run P code main now typed of b found lines cells ready entries creates strands =
    let size = ap length lines in
    let first : IsLineOf P code main (begins P (main_of P) [] 0 0) =
    subst (λ n. IsLineOf P code main (begins P n [] 0 0)) of.main
    (record {
      args = [];
      task = b.state P typed of (subst (λ n. Rattle.task_types.specs.Typed.ArgsFit any_future P n []) (sym of.main) (main_fits any_future P typed));
      which = b.which_is;
      ended = b.runs;
      strand = b.strand_is;
      future = b.future_is;
      block = b.block;
      value = b.value;
    }) in
    record {
      typed = typed;
      code_is = of;
      leads = refl;
      lines = subst (λ z. AreLinesOf P code z (begins P (main_of P) [] 0 0 ∷ [])) (sym lines) (first, tt);
      cells = cells ∙ ap (λ n. replicate n (pos 0)) of.cells;
      strands = strands;
      entries = entries;
      creates = creates;
      ready = subst (λ n. IsRing n (0 ∷ []) now.ready) (sym size) ready;
      few = omega (arith, size, entries);
      made = omega (arith, strands, entries);
      found = found;
    }

-- ---- the first task

pub first_ready : (P : tree.Program) (code : Compiled) (h : List Event) (now : ReplayNow) (m : Machine) (o : Option ℕ) → IsReplayOf P code h now m
    → MatchOption o (ready_of h ≡ []) (λ t. (ts : List ℕ) × (ready_of h ≡ t ∷ ts)) → MatchOption o (EachEnded m.tasks) (λ t. (r : Running) × IsFirst h m t r)
first_ready P code h now m None x k = (none_is_ready P h m x.leads).0 k
first_ready P code h now m (Some t) x k = ready_is_first P h m t k.0 x.leads k.1

pub first_goes_on : (P : tree.Program) (code : Compiled) (h : List Event) (now : ReplayNow) (m : Machine) (o : Option ℕ) → IsReplayOf P code h now m
    → MatchOption o (ready_of h ≡ []) (λ t. (ts : List ℕ) × (ready_of h ≡ t ∷ ts)) → IfSome o (λ t. MayGoOn P m t)
first_goes_on P code h now m None x k = tt
first_goes_on P code h now m (Some t) x k =
    let first = ready_is_first P h m t k.0 x.leads k.1 in
    (first.0, first.1.running, first_may_go_on P h m t first.0 x.typed x.leads first.1)

-- ---- a run that stands still

pub still_by : (code : Compiled) (old new : ReplayNow) (t : ℕ) → KeepsLineAt code old.lines new.lines t → new.cells ≡ old.cells → new.ready ≡ old.ready
    → new.entries ≡ old.entries → new.creates ≡ old.creates → new.strands ≡ old.strands → FindsStill old.finder new.finder → StandsStill code old new
still_by code old new t k cells ready entries creates strands finds P h m x =
    let size = kept_length code old.lines new.lines t k in
    let few = x.few in
    let made = x.made in
    record {
      typed = x.typed;
      code_is = x.code_is;
      leads = x.leads;
      lines = kept_lines P code old.lines new.lines m.tasks t x.typed x.code_is k x.lines;
      cells = cells ∙ x.cells;
      strands = strands ∙ x.strands;
      entries = entries ∙ x.entries;
      creates = creates ∙ x.creates;
      ready = subst (λ n. IsRing n (ready_of h) new.ready) (sym size) (subst (IsRing (length old.lines) (ready_of h)) (sym ready) x.ready);
      few = omega (arith, size, few, entries);
      made = omega (arith, made, strands, entries);
      found = finds h x.found;
    }

-- ---- a run that takes an action

acts_on : (code : Compiled) (x y z : TaskLine) (a : Action) → KeepsLine code x y → IsStill code y.task → ActsAs code y z a → ActsAs code x z a
acts_on code x y z a k still w =
    record {
      fed = λ runs old. (
          let f = w.fed (k.task.ended ∙ runs) still in
          record {
            which = f.which ∙ k.task.which;
            ended = f.ended;
            state = λ P typed of args s t h stands answers fits.
                f.state P typed of args s t (k.task.state P typed of args s h) stands answers
                (subst (λ n. Rattle.task_types.specs.Typed.ActionFits any_future P n t a) (sym k.task.which) fits);
          });
      strand = w.strand ∙ ap (strand_after a) k.strand;
      future = w.future ∙ k.future;
      block = w.block ∙ ap (block_after a) k.block;
      value = w.value ∙ ap (value_by a) k.value;
    }

at : ℕ → ℕ → Action → Event
at t s a = record { task = t; strand = s; action = a }

pub takes_by : (code : Compiled) (old new : ReplayNow) (mid : List TaskLine) (t : ℕ) (a : Action) (e : Event) (begun : List TaskLine) (x : TaskLine)
    → slice_get old.lines t ≡ Some x → KeepsLineAt code old.lines mid t → StillAt code mid t → ActsAt code mid new.lines t a begun
    → AreBegun code x.future a begun → e ≡ record { task = t; strand = x.strand; action = a }
    → new.cells ≡ cells_after a old.cells → new.strands ≡ old.strands + strands_by a → new.entries ≡ old.entries + 1
    → new.creates ≡ old.creates + creates_by (creates a) → Reorders old.ready new.ready t a
    → Finds old.finder new.finder e → Takes code old new t a e
takes_by code old new mid t a e begun x present k st w are event cells strands entries creates ready finds =
    let same : k.before ≡ x = same_Some k.before x (sym k.present ∙ present) in
    let here = get_set_here old.lines t k.after (get_below old.lines t x present) in
    let middle : k.after ≡ w.before = same_Some k.after w.before (sym here ∙ (ap (λ l. slice_get l t) (sym k.is) ∙ w.present)) in
    let keeps : KeepsLine code x w.before =
    subst (λ (z : TaskLine). KeepsLine code z w.before) same (subst (λ (z : TaskLine). KeepsLine code k.before z) middle k.keeps) in
    record {
      before = x;
      after = w.after;
      begun = begun;
      present = present;
      event = event;
      lines = w.is ∙ ap (λ l. l ++ begun) (ap (λ l. slice_set l t w.after) k.is ∙ set_twice old.lines t k.after w.after);
      acts = acts_on code x w.before w.after a keeps
          (subst (λ (z : TaskLine). IsStill code z.task) (same_Some st.0 w.before (sym st.1 ∙ w.present)) st.3) w.acts;
      are_begun = are;
      cells = cells;
      strands = strands;
      entries = entries;
      creates_are = creates;
      ready = ready;
      finds = finds;
    }

-- a run of these parts
abbrev pub now_of : List TaskLine → List ℤ → Links → ℕ → ℕ → ℕ → Finder → ReplayNow
now_of lines cells ready entries creates strands finder =
    record { lines = lines; cells = cells; ready = ready; entries = entries; creates = creates; strands = strands; finder = finder }
