-- The root task is given out.
use Rattle.std.proofs.Common.{◌≡◌, ℕ, ◌+◌, ◌<◌, ◌≤◌, ◌==◌, true, false, if◌then◌else◌, List, [], ◌∷◌, length, reverse, inl, inr, ◌⊎◌, subst, ap, sym, refl, ◌∙◌, arith}
use Rattle.std.specs.Prelude.{◌↔◌, Option, Some, None, IsSome}
use Rattle.atomic_table.specs.Seated.{TableId}
use Rattle.fut_base.specs.declared.event.Event.{Event}
use Rattle.fut_base.specs.declared.record.Entry.{Entry}
use Rattle.fut_base.specs.declared.record.Value.{Value}
use Rattle.fut_base.specs.declared.record.Limits.{Limits}
use Rattle.fut_base.specs.Listed.{Listed}
use Rattle.fut_base.specs.Dag.{Among}
use Rattle.fut_base.specs.Sound.{current}
use Rattle.fut_syntax.specs.Trees as tree
use Rattle.fut_check.specs.Items.{IsWellTyped}
use Rattle.task_machine.specs.Texts.{main_of}
use Rattle.task_machine.specs.State.{start_state}
use Rattle.task_types.specs.Typed.{ArgsFit, any_future}
use Rattle.task_types.proofs.Running.{main_fits_any}
use Rattle.task_code.specs.Flat.{Compiled, IsCodeOf}
use Rattle.task_code.specs.Tasks.{TaskNow, IsTaskOf}
use Rattle.strand_tree.specs.declared.strand.Strand.{Strand}
use Rattle.event_clock.specs.declared.view.View.{View}
use Rattle.event_clock.specs.declared.view.Carried.{Carried}
use Rattle.event_clock.specs.Views.{carries, only_task, without_task, after_note, noted}
use Rattle.event_clock.specs.Seated.{Ticking, Seated}
use Rattle.order_query.specs.Reading.{Reading, Writing}
use Rattle.run_place.specs.Placed.{Placed, IsPlace, book_of, events_in}
use Rattle.run_book.specs.Drawn.{drawn_of, past_in}
use Rattle.run_book.specs.Jobs.{FitsProgram, IsTraceBy, IsStarted, NoneEnds, IsJob}
use Rattle.run_book.specs.Books.{BookNow, IsBook, IsNewBook, carried_by, traces_of}

abbrev pub IsNoneOf : {A : Type 0} → Option A → Type 0
IsNoneOf None = Unit {0}
IsNoneOf (Some x) = ⊥

pub none≢some : {A : Type 0} {x : A} → ◌≡◌ {A = Option A} None (Some x) → ⊥
none≢some {A} e = let P : Option A → Type 0 = λ o. IsNoneOf o in subst P e tt

-- the root task, before any event
abbrev pub root_task : Carried
root_task = record { task = 0; trace = [] }

-- by no entries all that is asked of a job holds of a task that begins
module _ (code : Compiled) (task : TaskNow) (number : task.number ≡ 0) (which : task.which ≡ code.main) (none : task.trace.items ≡ []) where
  fits_none : (P : tree.Program) → IsWellTyped P → IsCodeOf P code → FitsProgram P (events_in [])
  fits_none P typed of = record { passed = λ e w xs a h. absurd a; ended = λ e v a h. absurd a; got = λ e f v s a h. absurd a }

  starts_none : ((P : tree.Program) → IsCodeOf P code → ArgsFit any_future P code.main [] → IsTaskOf P code [] task (start_state P code.main [])) → IsStarted code [] task
  starts_none state = λ P typed of.
      let main_is : code.main ≡ main_of P = of.main in
      ([], start_state P code.main [], inl (number, sym main_is ∙ sym which, refl), state P of (subst (λ n. ArgsFit any_future P n []) (sym main_is) (main_fits_any P typed)))

  traces_none : IsTraceBy [] task.number (drawn_of task.trace.items)
  traces_none = subst (λ (t : List (ℕ × Entry)). IsTraceBy [] task.number (drawn_of t)) (sym none) (record { structural = refl; entries = λ x a. absurd a })

  ends_none : NoneEnds (drawn_of task.trace.items)
  ends_none = subst (λ (t : List (ℕ × Entry)). NoneEnds (drawn_of t)) (sym none) (λ x a. absurd a)

  stands_none : current (past_in []) task.number ≡ Some 0
  stands_none = subst (λ n. current [] n ≡ Some 0) (sym number) refl

root_is : (task : TaskNow) → task.number ≡ 0 → task.trace.items ≡ [] → root_task ≡ record { task = task.number; trace = drawn_of task.trace.items }
root_is task number none =
    let P : ℕ → Type 0 = λ n. root_task ≡ record { task = n; trace = drawn_of task.trace.items } in
    let Q : List (ℕ × Entry) → Type 0 = λ t. root_task ≡ record { task = 0; trace = drawn_of t } in
    subst P (sym number) (subst Q (sym none) refl)

-- the job of the root task
pub root_job : (clock : Ticking) (orders : TableId) (code : Compiled) (task : TaskNow) (place : Placed) (pace : ℕ) (view : View)
    → IsPlace clock orders place → place.pass.view ≡ noted 0 view → book_of view ≡ [] → view.tasks ≡ root_task ∷ [] → place.at.number ≡ 0
    → task.number ≡ 0 → task.which ≡ code.main → task.spot.ended ≡ false → task.trace.items ≡ [] → pace ≡ 1 → (P : tree.Program) × IsCodeOf P code
    → ((P : tree.Program) → IsCodeOf P code → ArgsFit any_future P code.main [] → IsTaskOf P code [] task (start_state P code.main []))
    → IsJob clock orders code (record { task = task; place = place; pace = pace })
root_job clock orders code task place pace view placed pass none tasks at number which runs empty one program state =
    let known : book_of place.pass.view ≡ [] = ap (λ (v : View). book_of v) pass ∙ none in
    let alone : place.pass.view.tasks ≡ root_task ∷ [] = ap (λ (v : View). v.tasks) pass ∙ ap (λ cs. only_task 0 cs) tasks in
    let carried : root_task ≡ record { task = task.number; trace = drawn_of task.trace.items } = root_is task number empty in
    record {
      program = program;
      running = runs;
      unended = ends_none code task number which empty;
      carried = alone ∙ ap (λ (c : Carried). c ∷ []) carried;
      fits = λ P typed of. subst (λ b. FitsProgram P (events_in b)) (sym known) (fits_none code task number which empty P typed of);
      started = subst (λ b. IsStarted code b task) (sym known) (starts_none code task number which empty state);
      trace = subst (λ b. IsTraceBy b task.number (drawn_of task.trace.items)) (sym known) (traces_none code task number which empty);
      place = placed;
      strand = subst (λ b. current (past_in b) task.number ≡ Some place.at.number) (sym known) (stands_none code task number which empty ∙ ap (λ n. Some n) (sym at));
      few = omega (arith, one);
      paced = λ zero. absurd (omega (arith, zero, one));
    }

-- what the start of a task says, by the code of the run
pub as_root : (code now : Compiled) (which : ℕ) (args : List Value) (task : TaskNow) → now ≡ code → which ≡ now.main → args ≡ []
    → ((P : tree.Program) → IsCodeOf P now → ArgsFit any_future P which args → IsTaskOf P now args task (start_state P which args))
    → (P : tree.Program) → IsCodeOf P code → ArgsFit any_future P code.main [] → IsTaskOf P code [] task (start_state P code.main [])
as_root code now which args task same main none state =
    let T : Compiled → ℕ → List Value → Type 0 = λ k n xs. (P : tree.Program) → IsCodeOf P k → ArgsFit any_future P n xs → IsTaskOf P k xs task (start_state P n xs) in
    let main_is : which ≡ code.main = main ∙ ap (λ (k : Compiled). k.main) same in
    subst (λ xs. T code code.main xs) none (subst (λ n. T code n args) main_is (subst (λ k. T k which args) same state))

-- what the holder of a new book carries
pub new_carries : (clock : Ticking) (orders : TableId) (code : Compiled) (limits : Limits) (b : BookNow) → IsBook clock orders code limits b → IsNewBook b
    → b.holder.view.tasks ≡ root_task ∷ []
new_carries clock orders code limits b is new =
    is.carried ∙ ap (λ f. carried_by f (traces_of b)) new.first

-- a new book without its root task
left : (clock : Ticking) (orders : TableId) (code : Compiled) (limits : Limits) (b : BookNow) → IsBook clock orders code limits b → IsNewBook b
    → IsBook clock orders code limits (record b { holder = record { clock = b.holder.clock; view = after_note 0 b.holder.view }; first = None })
left clock orders code limits b is new =
    let tasks = new_carries clock orders code limits b is new in
    let gone : without_task 0 b.holder.view.tasks ≡ [] = ap (λ cs. without_task 0 cs) tasks in
    let none : b.traces ≡ [] = (is.is_new 1 new.first).2 in
    record {
      home = is.home;
      first_holder = is.first_holder;
      limits_are = is.limits_are;
      within = is.within;
      small = is.small;
      creates_few = is.creates_few;
      room = is.room;
      listed = record {
        sound = is.listed.sound;
        fits = is.listed.fits;
        known = is.listed.known;
        rises = is.listed.rises;
        tasks = is.listed.tasks;
        lines = is.listed.lines;
        orders = is.listed.orders;
        creates = is.listed.creates;
      };
      carried = gone ∙ ap (λ ts. carried_by None (traces_of (record b { traces = ts }))) (sym none);
      once = λ t. subst (λ cs. carries t cs ≤ 1) (sym gone) (omega arith);
      ended = is.ended;
      counted = record { events = is.counted.events; waiting = is.counted.waiting; running = is.counted.running; rest = is.counted.rest };
      is_new = λ pace e. absurd (none≢some e);
    }

-- the book after its root task was given out
pub root_left : (clock : Ticking) (orders : TableId) (code : Compiled) (limits : Limits) (b : BookNow) (h : Seated) (w : Writing) (first : Option ℕ)
    → IsBook clock orders code limits b → IsNewBook b → h.clock ≡ b.holder.clock → h.view ≡ after_note 0 b.holder.view → w ≡ b.writer → first ≡ None
    → IsBook clock orders code limits (record b { holder = h; writer = w; first = first })
root_left clock orders code limits b h w first is new clock_is view_is writer_is out =
    let at_first = subst (λ f. IsBook clock orders code limits (record b { holder = record { clock = b.holder.clock; view = after_note 0 b.holder.view }; first = f }))
    (sym out) (left clock orders code limits b is new) in
    let at_view = subst (λ v. IsBook clock orders code limits (record b { holder = record { clock = b.holder.clock; view = v }; first = first })) (sym view_is) at_first in
    let at_clock = subst (λ i. IsBook clock orders code limits (record b { holder = record { clock = i; view = h.view }; first = first })) (sym clock_is) at_view in
    subst (λ x. IsBook clock orders code limits (record b { holder = h; writer = x; first = first })) (sym writer_is) at_clock
