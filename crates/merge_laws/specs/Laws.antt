-- The merge laws. Lists of events called `past` have the newest event first.
use Rattle.std.specs.Prelude.{◌≡◌, ◌≢◌, ◌↔◌, ℕ, ◌<◌, ◌==◌, IsSome, if◌then◌else◌, List, [], ◌∷◌, ◌++◌}
use Rattle.std.specs.Prelude.{length, reverse, filter, option_map, option_to_list, slice_get, Some, None}
use Rattle.fut_base.specs.declared.record.Value.{Value}
use Rattle.fut_base.specs.declared.event.Event.{Event}
use Rattle.fut_base.specs.Events.{structural, structure_of}
use Rattle.fut_base.specs.Dag.{Among}
use Rattle.fut_base.specs.Sound.{IsSound, next_task, value_of}
use Rattle.fut_syntax.specs.Trees as tree
use Rattle.fut_check.specs.Items.{IsWellTyped}
use Rattle.task_machine.specs.State.{TaskState, start_state, wish_of, effect_of, Answers}
use Rattle.task_machine.specs.Texts.{cell_count}
use Rattle.task_machine.specs.Runs.{StandsAt}
use Rattle.task_machine.specs.Machine.{Machine, Running, opening, Leads, IsLegal, IsWhole, IsAllowed, create_count}
use Rattle.run_laws.specs.Laws.{HasCells}
use Rattle.access_shards.specs.declared.kept.Kept.{Kept}
use Rattle.access_shards.specs.Touches.{Touch}
use Rattle.access_shards.specs.Kept.{Kind, IsKept, touch}
use Rattle.access_shards.specs.Histories.{kind_of, touches_of, IsStanding}
use Rattle.access_shards.specs.Laws.{AreOn, TellsRaces}
use Rattle.event_clock.specs.Rule.{Rises}
use Rattle.merge_laws.specs.Parts.{Drawn, events_in, ShareOut, IsMerge, StartsAs, IsTraced, IsSharedRun, MayGoOn, HasEndedOrWaits, value_left}

-- lists that share out the numbers below n have one merge, of length n
abbrev pub MergeExists : Type 0
MergeExists = (n : ℕ) (owns : List (List Drawn)) → ShareOut n owns → (h : List Event) × IsMerge owns h × (length h ≡ n)

abbrev pub MergeIsOne : Type 0
MergeIsOne = (owns : List (List Drawn)) (h g : List Event) → IsMerge owns h → IsMerge owns g → h ≡ g

-- the merge of the lists of a run is legal
abbrev pub MergeIsLegal : Type 0
MergeIsLegal =
    (P : tree.Program) (n : ℕ) (place : ℕ → ℕ) (book : List Drawn) (shards : List (List Drawn)) (traces : List (ℕ × List Drawn)) (h : List Event)
    → HasCells P → IsSharedRun P n place book shards traces → IsMerge (book ∷ shards) h → IsLegal P h

-- its structure is the book, and each trace has the entries of its task
abbrev pub BookIsStructure : Type 0
BookIsStructure =
    (P : tree.Program) (n : ℕ) (place : ℕ → ℕ) (book : List Drawn) (shards : List (List Drawn)) (traces : List (ℕ × List Drawn)) (h : List Event)
    → IsSharedRun P n place book shards traces → IsMerge (book ∷ shards) h → structure_of h ≡ events_in book

abbrev pub TracesAreParts : Type 0
TracesAreParts =
    (P : tree.Program) (n : ℕ) (place : ℕ → ℕ) (book : List Drawn) (shards : List (List Drawn)) (traces : List (ℕ × List Drawn)) (h : List Event)
    → IsSharedRun P n place book shards traces → IsMerge (book ∷ shards) h
    → (r : ℕ × List Drawn) → Among r traces → events_in r.1 ≡ filter (λ e. e.task == r.0) h

-- the machine after the merge has each task of a trace at the trace's state, and with the value that the book gives
abbrev pub TracesGiveStates : Type 0
TracesGiveStates =
    (P : tree.Program) (n : ℕ) (place : ℕ → ℕ) (book : List Drawn) (shards : List (List Drawn)) (traces : List (ℕ × List Drawn)) (h : List Event)
    → IsSharedRun P n place book shards traces → IsMerge (book ∷ shards) h
    → (r : ℕ × List Drawn) → Among r traces → (x : IsTraced P book r.0 r.1) → (m : Machine) → Leads P (opening P) h m
    → (q : Running) × (slice_get m.tasks r.0 ≡ Some q) × (q.state ≡ x.state) × (q.value ≡ value_of (reverse (events_in book)) r.0)

-- it is whole exactly where all tasks have ended by the book
abbrev pub WholeByBook : Type 0
WholeByBook =
    (P : tree.Program) (n : ℕ) (place : ℕ → ℕ) (book : List Drawn) (shards : List (List Drawn)) (traces : List (ℕ × List Drawn)) (h : List Event)
    → HasCells P → IsSharedRun P n place book shards traces → IsMerge (book ∷ shards) h
    → IsWhole P h ↔ ((t : ℕ) → t < next_task (reverse (events_in book)) → IsSome (value_of (reverse (events_in book)) t))

-- it has as many creates as the book
abbrev pub CreatesAreOfBook : Type 0
CreatesAreOfBook =
    (P : tree.Program) (n : ℕ) (place : ℕ → ℕ) (book : List Drawn) (shards : List (List Drawn)) (traces : List (ℕ × List Drawn)) (h : List Event)
    → IsSharedRun P n place book shards traces → IsMerge (book ∷ shards) h → create_count h ≡ create_count (events_in book)

-- where a task may act after the merge, it need not wait by the book
abbrev pub AllowedByBook : Type 0
AllowedByBook =
    (P : tree.Program) (n : ℕ) (place : ℕ → ℕ) (book : List Drawn) (shards : List (List Drawn)) (traces : List (ℕ × List Drawn)) (h : List Event)
    → IsSharedRun P n place book shards traces → IsMerge (book ∷ shards) h
    → (r : ℕ × List Drawn) → Among r traces → (x : IsTraced P book r.0 r.1) → (m : Machine) → Leads P (opening P) h m
    → (stop : TaskState) → StandsAt x.state stop → IsAllowed P m r.0 → MayGoOn (reverse (events_in book)) r.0 (wish_of P stop)

-- where by the book a task has not ended, and need not wait for what it wishes, it may act after the merge
abbrev pub BookAllows : Type 0
BookAllows =
    (P : tree.Program) (n : ℕ) (place : ℕ → ℕ) (book : List Drawn) (shards : List (List Drawn)) (traces : List (ℕ × List Drawn)) (h : List Event)
    → IsWellTyped P → IsSharedRun P n place book shards traces → IsMerge (book ∷ shards) h
    → (r : ℕ × List Drawn) → Among r traces → (x : IsTraced P book r.0 r.1) → (m : Machine) → Leads P (opening P) h m
    → value_of (reverse (events_in book)) r.0 ≡ None
    → (stop : TaskState) → StandsAt x.state stop → MayGoOn (reverse (events_in book)) r.0 (wish_of P stop) → IsAllowed P m r.0

-- after the merge a cell has the value that the accesses in its list left
abbrev pub CellsAreLeft : Type 0
CellsAreLeft =
    (P : tree.Program) (n : ℕ) (place : ℕ → ℕ) (book : List Drawn) (shards : List (List Drawn)) (traces : List (ℕ × List Drawn)) (h : List Event)
    → IsSharedRun P n place book shards traces → IsMerge (book ∷ shards) h → (m : Machine) → Leads P (opening P) h m
    → (c : ℕ) (own : List Drawn) → c < cell_count P → slice_get shards (place c) ≡ Some own
    → slice_get m.cells c ≡ Some (value_left c (reverse (events_in own)))

-- where by the book each task has ended or has to wait, none waits: the merge is whole
abbrev pub NoneWaits : Type 0
NoneWaits =
    (P : tree.Program) (n : ℕ) (place : ℕ → ℕ) (book : List Drawn) (shards : List (List Drawn)) (traces : List (ℕ × List Drawn)) (h : List Event)
    → IsWellTyped P → IsSharedRun P n place book shards traces → IsMerge (book ∷ shards) h
    → ((t : ℕ) → t < next_task (reverse (events_in book)) → HasEndedOrWaits P book traces t) → IsWhole P h

-- what is known of a trace by a beginning of the book is known of it by the whole book, where the rest has no entry of its task
abbrev pub TracedByMore : Type 0
TracedByMore =
    (P : tree.Program) (book more : List Drawn) (task : ℕ) (trace : List Drawn) → Rises (book ++ more) → IsSound (events_in (book ++ more))
    → ((x : Drawn) → Among x trace → x.1.task ≡ task) → ((x : Drawn) → Among x more → x.1.task ≢ task)
    → IsTraced P book task trace → IsTraced P (book ++ more) task trace

-- where a task draws one more entry, which answers its wish and stands on its current strand by the book, its trace grows by
-- the entry, and so does the book by a structural one
abbrev pub TracedByOne : Type 0
TracedByOne =
    (P : tree.Program) (book : List Drawn) (task : ℕ) (trace : List Drawn) (x : IsTraced P book task trace) (k : ℕ) (e : Event) (stop : TaskState)
    → ((y : Drawn) → Among y book → y.0 < k) → ((y : Drawn) → Among y trace → y.0 < k)
    → StandsAt x.state stop → Answers (wish_of P stop) e.action → IsStanding (reverse (events_in book)) e
    → (y : IsTraced P (book ++ (if structural e.action then (k, e) ∷ [] else [])) task (trace ++ (k, e) ∷ [])) × (y.state ≡ effect_of stop e.action)

-- a task that starts by the book has the empty trace
abbrev pub TracedAtStart : Type 0
TracedAtStart =
    (P : tree.Program) (book : List Drawn) (task which : ℕ) (args : List Value) → StartsAs P (events_in book) task which args
    → (x : IsTraced P book task []) × (x.state ≡ start_state P which args)

-- the accesses of a cell in a list with the newest entry first, each with its ticket as its place
abbrev pub drawn_touches : ℕ → List Drawn → List (Touch Kind)
drawn_touches c [] = []
drawn_touches c (x ∷ rest) = option_to_list (option_map (λ kind. touch x.0 x.1.strand kind) (kind_of c x.1.action)) ++ drawn_touches c rest

-- the accesses of a cell in an own list, the newest first
abbrev pub touches_in : ℕ → List Drawn → List (Touch Kind)
touches_in c own = drawn_touches c (reverse own)

-- the accesses of a cell in the merge are those of its list, with their tickets as places
abbrev pub TouchesAreDrawn : Type 0
TouchesAreDrawn =
    (P : tree.Program) (n : ℕ) (place : ℕ → ℕ) (book : List Drawn) (shards : List (List Drawn)) (traces : List (ℕ × List Drawn)) (h : List Event)
    → IsSharedRun P n place book shards traces → IsMerge (book ∷ shards) h
    → (c : ℕ) (own : List Drawn) → slice_get shards (place c) ≡ Some own → touches_of c h ≡ touches_in c own

-- with fewer structural events that have the strands the same is kept
abbrev pub KeptReturns : Type 0
KeptReturns = (s more : List Event) (past : List (Touch Kind)) (kept : Kept) → IsSound (s ++ more) → AreOn s past → IsKept (s ++ more) past kept
    → IsKept s past kept

-- what is kept of a cell by the paths of a beginning of the book that has the strands of all its accesses is what is kept
-- of it in the merge
abbrev pub KeptIsSame : Type 0
KeptIsSame =
    (P : tree.Program) (n : ℕ) (place : ℕ → ℕ) (book : List Drawn) (shards : List (List Drawn)) (traces : List (ℕ × List Drawn)) (h : List Event)
    → IsSharedRun P n place book shards traces → IsMerge (book ∷ shards) h
    → (c : ℕ) (own : List Drawn) (s more : List Event) (kept : Kept) → slice_get shards (place c) ≡ Some own → events_in book ≡ s ++ more
    → AreOn s (touches_in c own)
    → IsKept s (touches_in c own) kept ↔ IsKept (structure_of h) (touches_of c h) kept

-- so it tells the races of the cell in the merge
abbrev pub KeptTellsMerge : Type 0
KeptTellsMerge =
    (P : tree.Program) (n : ℕ) (place : ℕ → ℕ) (book : List Drawn) (shards : List (List Drawn)) (traces : List (ℕ × List Drawn)) (h : List Event)
    → IsSharedRun P n place book shards traces → IsMerge (book ∷ shards) h
    → (c : ℕ) (own : List Drawn) (s more : List Event) (kept : Kept) → slice_get shards (place c) ≡ Some own → events_in book ≡ s ++ more
    → AreOn s (touches_in c own)
    → IsKept s (touches_in c own) kept → TellsRaces h c kept
