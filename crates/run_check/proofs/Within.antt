-- What is accepted for a well-typed program is within the bounds of a run text.
use Rattle.std.proofs.Common.{◌≡◌, ℕ, zero, suc, ◌+◌, ◌<◌, ◌≤◌, ◌^◌, Bool, List, [], ◌∷◌, ◌++◌, length, refl, sym, ap, subst, arith, ltb-false, length-append}
use Rattle.std.specs.Prelude.{Some, All, slice_get, nat_eq, nat_lt}
use Rattle.std.proofs.lemmas.List.Elements.{All-head, All-tail, All-weaker}
use Rattle.std.proofs.lemmas.Option.{same_Some}
use Rattle.std.proofs.lemmas.Bool.{or_parts}
use Rattle.run_record.specs.declared.bounds.TheConstants.{MOST_RACES, MOST_ARGUMENTS}
use Rattle.task_code.proofs.Serving.{few_cells}
use Rattle.fut_rules.proofs.Slots.{slots_more}
use Rattle.fut_base.specs.declared.limits.TheConstants.{MOST_ENTRIES}
use Rattle.fut_base.specs.declared.record.Value.{Value}
use Rattle.fut_base.specs.declared.record.Race.{Race}
use Rattle.fut_base.specs.declared.event.Event.{Event}
use Rattle.fut_base.specs.declared.event.Action.{Action}
use Rattle.fut_base.specs.declared.event.Action.TheVariants.{Reads, Writes, Spawns, Creates, Syncs, Gets, Ends}
use Rattle.fut_base.specs.Racing.{IsAccess, IsFirstPair, AreRising}
use Rattle.fut_syntax.specs.Trees as tree
use Rattle.fut_rules.specs.declared.fault.Rule.TheVariants as rule
use Rattle.fut_rules.specs.declared.names.Variable.{Variable}
use Rattle.fut_rules.specs.Faults.{fault_if}
use Rattle.fut_rules.specs.Kinds.{kind_of, size}
use Rattle.fut_rules.specs.Names.{cells, slots}
use Rattle.fut_rules.specs.Widths.{param_width}
use Rattle.fut_check.specs.Stmts.{type_faults, declared_faults}
use Rattle.fut_check.specs.Items.{items_of, param_variable, is_over, param_faults, params_faults, IsWellTyped}
use Rattle.task_machine.specs.Texts.{cell_count, count_cells}
use Rattle.task_machine.specs.State.{Wish, Answers}
use Rattle.task_machine.specs.Machine.{Machine, opening, Leads}
use Rattle.task_machine.proofs.Leading.{leads_further}
use Rattle.task_machine.proofs.Places.{get_below}
use Rattle.task_types.specs.Typed.{ParamsFit, ArgsFit, any_future}
use Rattle.task_types.specs.Running.{Passes}
use Rattle.task_types.proofs.Slots.{no_some, nil_left, nil_right, nil_three, not_found}
use Rattle.task_types.proofs.Running.{children_fit}
use Rattle.task_types.proofs.Texts.{good_text}
use Rattle.run_laws.specs.Laws.{HasCells}
use Rattle.run_laws.proofs.Typed.{well_typed_has_cells}
use Rattle.run_laws.proofs.Stuck.{AccessesBelow, wish_below}
use Rattle.run_record.specs.Records.{IsAny, IsActionWith, IsAction, AreNumbered, AreEvents, AreRaces}
use Rattle.run_check.specs.Within.{AcceptedAreWithin}

-- ---- arguments

values_few : (globals : List tree.Item) (gives : ℕ → ℕ → Bool) (before : List Variable) (n : ℕ) (ps : List tree.Param) (vs : List Value)
    → slots before ≤ MOST_ARGUMENTS → params_faults globals before n ps ≡ [] → ParamsFit gives ps vs → slots before + length vs ≤ MOST_ARGUMENTS
values_few globals gives before n [] vs few f fits = let none : length vs ≡ 0 = ap length fits in omega arith
values_few globals gives before n (p ∷ ps) vs few f (own, rest, is, holds, sized, fits) =
    let later = params_faults globals (before ++ param_variable p ∷ []) (n + param_width p) ps in
    let parts = nil_three (declared_faults globals before n (param_variable p)) (fault_if (is_over before (kind_of p.type)) n rule.ConstantLimit)
    (type_faults (n + 2) p.type) (nil_left (param_faults globals before n p) later f) in
    let over = not_found (is_over before (kind_of p.type)) n rule.ConstantLimit parts.1 in
    let fit : slots before + size (kind_of p.type) ≤ 16 =
    ltb-false 16 (slots before + size (kind_of p.type)) (or_parts (nat_eq (length before) 8) (nat_lt 16 (slots before + size (kind_of p.type))) over).1 in
    let more : slots (before ++ param_variable p ∷ []) ≡ slots before + size (kind_of p.type) = slots_more before (param_variable p) in
    let behind : slots (before ++ param_variable p ∷ []) + length rest ≤ MOST_ARGUMENTS =
    values_few globals gives (before ++ param_variable p ∷ []) (n + param_width p) ps rest (omega arith)
    (nil_right (param_faults globals before n p) later f) fits in
    omega (arith, ap length is, length-append own rest, sized)

args_few : (P : tree.Program) (gives : ℕ → ℕ → Bool) (which : ℕ) (args : List Value) → IsWellTyped P → ArgsFit gives P which args → length args ≤ MOST_ARGUMENTS
args_few P gives which args typed (t, is, fits) =
    let good = good_text P which t typed is in
    let few : 0 + length args ≤ MOST_ARGUMENTS = values_few (items_of P) gives [] good.at t.params args (omega arith) good.params fits in
    omega arith

-- a call has at most 16 arguments
abbrev IsShort : Action → Type 0
IsShort (Spawns _ _ _ _ args) = length args ≤ MOST_ARGUMENTS
IsShort (Creates _ _ _ _ args) = length args ≤ MOST_ARGUMENTS
IsShort _ = Unit {0}

short_by : (a : Action) → ((which : ℕ) (args : List Value) → Passes a which args → length args ≤ MOST_ARGUMENTS) → IsShort a
short_by (Reads _ _) few = tt
short_by (Writes _ _) few = tt
short_by (Spawns code _ _ _ args) few = few code args (refl, refl)
short_by (Creates code _ _ _ args) few = few code args (refl, refl)
short_by (Syncs _) few = tt
short_by (Gets _ _ _) few = tt
short_by (Ends _) few = tt

action_within : (a : Action) → IsActionWith IsAny a → IsShort a → IsAction a
action_within (Reads _ _) k s = k
action_within (Writes _ _) k s = k
action_within (Spawns _ _ _ _ _) (code, child, kid, cont, any, args) s = (code, child, kid, cont, s, args)
action_within (Creates _ _ _ _ _) (code, child, kid, cont, any, args) s = (code, child, kid, cont, s, args)
action_within (Syncs _) k s = k
action_within (Gets _ _ _) k s = k
action_within (Ends _) k s = k

events_within : (P : tree.Program) (past h : List Event) (m n : Machine) → IsWellTyped P → Leads P (opening P) past m → Leads P m h n → AreNumbered h
    → AreEvents h
events_within P past [] m n typed before l k = tt
events_within P past (e ∷ h) m n typed before (next, step, rest) ((task, strand, own), k) =
    let few = λ (which : ℕ) (args : List Value) (p : Passes e.action which args). args_few P any_future which args typed
    (children_fit P past m e next which args typed before step p) in (
      (task, strand, action_within e.action own (short_by e.action few)),
      events_within P (past ++ e ∷ []) h next n typed (leads_further P (opening P) past e m next before step) rest k,
    )

-- ---- cells

cell_count_few : (P : tree.Program) → IsWellTyped P → cell_count P ≤ MOST_RACES
cell_count_few P typed = let k : 0 + count_cells (items_of P) ≤ MOST_RACES = few_cells (items_of P) [] 0 (items_of P) (omega arith) typed in omega arith

access_below : (n : ℕ) (w : Wish) (a : Action) (c : ℕ) → AccessesBelow n w → Answers w a → IsAccess c a → c < n
access_below n w (Reads cell _) c below answers is = subst (λ z. z < n) is (subst (AccessesBelow n) answers below)
access_below n w (Writes cell value) c below answers is = subst (λ z. z < n) is (subst (AccessesBelow n) answers below)
access_below n w (Spawns _ _ _ _ _) c below answers is = absurd is
access_below n w (Creates _ _ _ _ _) c below answers is = absurd is
access_below n w (Syncs _) c below answers is = absurd is
access_below n w (Gets _ _ _) c below answers is = absurd is
access_below n w (Ends _) c below answers is = absurd is

-- an entry of a run accesses a cell of the program
accesses_below : (P : tree.Program) (m n : Machine) (h : List Event) (i : ℕ) (e : Event) (c : ℕ) → HasCells P → Leads P m h n → slice_get h i ≡ Some e
    → IsAccess c e.action → c < cell_count P
accesses_below P m n [] i e c some l at is = absurd (no_some e _ at refl)
accesses_below P m n (x ∷ h) zero e c some (next, step, rest) at is =
    access_below (cell_count P) _ x.action c (wish_below P some step.stop) step.answers (subst (λ (z : Event). IsAccess c z.action) (sym (same_Some x e at)) is)
accesses_below P m n (x ∷ h) (suc i) e c some (next, step, rest) at is = accesses_below P next n h i e c some rest at is

-- ---- races

-- a race of a cell of the program, at places of the history
record IsInside (cells entries : ℕ) (r : Race) : Type 0 where
  pub cell : r.cell < cells
  pub order : r.first < r.second
  pub second : r.second < entries

pair_inside : (P : tree.Program) (h : List Event) (m : Machine) → HasCells P → Leads P (opening P) h m → (r : Race) → IsFirstPair h r.cell r.first r.second
    → IsInside (cell_count P) (length h) r
pair_inside P h m some l r pair =
    let (a, b, at_a, at_b, racing) = pair.race.events in
    record {
      cell = accesses_below P (opening P) m h r.first a r.cell some l at_a racing.one;
      order = pair.race.order;
      second = get_below h r.second b at_b;
    }

rising_few : (cells entries : ℕ) (r : Race) (rs : List Race) → IsInside cells entries r → All (IsInside cells entries) rs → AreRising (r ∷ rs)
    → r.cell + length (r ∷ rs) ≤ cells
rising_few cells entries r [] own each up = let k : r.cell < cells = own.cell in omega arith
rising_few cells entries r (s ∷ rs) own each up =
    let k : s.cell + length (s ∷ rs) ≤ cells =
    rising_few cells entries s rs (All-head (IsInside cells entries) s rs each) (All-tail (IsInside cells entries) s rs each) up.1 in
    let less : r.cell < s.cell = All-head (λ (x : Race). r.cell < x.cell) s rs up.0 in
    omega arith

races_few : (cells entries : ℕ) (races : List Race) → All (IsInside cells entries) races → AreRising races → length races ≤ cells
races_few cells entries [] each up = omega arith
races_few cells entries (r ∷ rs) each up =
    let k : r.cell + length (r ∷ rs) ≤ cells =
    rising_few cells entries r rs (All-head (IsInside cells entries) r rs each) (All-tail (IsInside cells entries) r rs each) up in
    omega arith

small : (n most : ℕ) → n < most → most ≤ MOST_ENTRIES → n < 2 ^ 32
small n most lt le = let k : n < 4294967296 = omega arith in k

races_within : (cells entries : ℕ) (races : List Race) → cells ≤ MOST_ENTRIES → entries ≤ MOST_ENTRIES → All (IsInside cells entries) races → AreRaces races
races_within cells entries [] few short each = tt
races_within cells entries (r ∷ rs) few short each =
    let own = All-head (IsInside cells entries) r rs each in
    let order : r.first < r.second = own.order in
    let second : r.second < entries = own.second in
    let first : r.first < entries = omega arith in (
      (small r.cell cells own.cell few, small r.first entries first short, small r.second entries second short),
      races_within cells entries rs few short (All-tail (IsInside cells entries) r rs each),
    )

pub accepted_are_within : AcceptedAreWithin
accepted_are_within P bytes h races end typed accepted short few numbered finished =
    let (m, leads) = accepted.legal in
    let report = accepted.those.0 in
    let inside =
    All-weaker (λ (r : Race). IsFirstPair h r.cell r.first r.second) (IsInside (cell_count P) (length h))
    (pair_inside P h m (well_typed_has_cells P typed) leads) races report.each in
    let cells : cell_count P ≤ MOST_RACES = cell_count_few P typed in
    let some : length races ≤ cell_count P = races_few (cell_count P) (length h) races inside report.order in
    record {
      short = short;
      few = few;
      numbered = events_within P [] h (opening P) m typed refl leads numbered;
      few_races = omega arith;
      raced = races_within (cell_count P) (length h) races (omega arith) few inside;
      finished = finished;
    }
