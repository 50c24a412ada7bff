-- At the end of a run the cells of the shards are those of the log, and their first pairs are its report.
use Rattle.std.proofs.Common.{◌≡◌, ℕ, zero, suc, ◌+◌, ◌<◌, List, [], ◌∷◌, ◌++◌, length, inl, inr, refl, sym, ap, ◌∙◌, subst, arith}
use Rattle.std.specs.Prelude.{ℤ, pos, slice_get, Any, Option, Some}
use Rattle.std.proofs.lemmas.List.{ext_get_or, map-append}
use Rattle.std.proofs.lemmas.List.Elements.{All-weaker}
use Rattle.std.proofs.lemmas.Nat.{mod_below}
use Rattle.std.proofs.lemmas.Option.{same_Some, slice_get_within, get_or_from_slice_get}
use Rattle.fut_base.specs.declared.record.Race.{Race}
use Rattle.fut_base.specs.declared.event.Event.{Event}
use Rattle.fut_base.specs.declared.event.Action.{Action}
use Rattle.fut_base.specs.declared.event.Action.TheVariants.{Reads, Writes, Spawns, Creates, Syncs, Gets, Ends}
use Rattle.fut_base.specs.Dag.{Among}
use Rattle.fut_base.specs.Racing.{PlacesRace, IsFirstPair, IsReport, IsAccess}
use Rattle.fut_syntax.specs.Trees as tree
use Rattle.fut_check.specs.Items.{IsWellTyped}
use Rattle.task_machine.specs.Texts.{cell_count}
use Rattle.task_machine.specs.State.{Wish, wish_of, Answers}
use Rattle.task_machine.specs.Machine.{Machine, opening, Leads, IsLegal}
use Rattle.task_code.specs.Flat.{IsCodeOf}
use Rattle.access_shards.specs.declared.kept.Kept.{Kept}
use Rattle.access_shards.specs.declared.kept.Kept.TheVariants.{Clean, Found}
use Rattle.access_shards.specs.Laws.{TellsRaces}
use Rattle.run_laws.specs.Laws.{HasCells}
use Rattle.run_laws.proofs.Stuck.{AccessesBelow, wish_below, cells_from, replicate_length}
use Rattle.run_laws.proofs.Typed.{well_typed_has_cells}
use Rattle.event_clock.specs.Rule.{own_of}
use Rattle.merge_laws.specs.Parts.{Drawn, IsMerge, IsSharedRun}
use Rattle.merge_laws.specs.Logs.{owns_from, history_of}
use Rattle.fut_base.proofs.Members.{among_left}
use Rattle.merge_laws.proofs.Lists.{among_map, get_among}
use Rattle.merge_laws.proofs.Steps.{get_some}
use Rattle.merge_laws.proofs.Merging.{merge_is_legal}
use Rattle.merge_laws.proofs.Allowing.{cells_are_left}
use Rattle.merge_laws.proofs.Kept.{kept_tells_merge}
use Rattle.merge_laws.proofs.Logging.{log_gives_run}
use Rattle.merge_laws.proofs.Gathering.{gathered_gives_run}
use Rattle.run_place.specs.Placed.{events_in}
use Rattle.run_shard.specs.Shards.{ShardNow, made_by, known_by, shard_of}
use Rattle.over_laws.specs.Over.{Final, IsOver, IsShut, OverGivesReport, traces_in, holders_of}
use Rattle.over_laws.specs.Cells.{HasCell, AreCells, ArePairs, pair_of}
use Rattle.over_laws.proofs.Over.{shard_is, over_gives_gathered}

-- ---- accesses

-- an access that answers a wish is of a cell that there is
access_by : (n c : ℕ) (w : Wish) (a : Action) → AccessesBelow n w → Answers w a → IsAccess c a → c < n
access_by n c w (Reads cell _) low is same = subst (λ k. k < n) same (subst (AccessesBelow n) is low)
access_by n c w (Writes cell _) low is same = subst (λ k. k < n) same (subst (AccessesBelow n) is low)
access_by n c w (Spawns _ _ _ _ _) low is none = absurd none
access_by n c w (Creates _ _ _ _ _) low is none = absurd none
access_by n c w (Syncs _) low is none = absurd none
access_by n c w (Gets _ _ _) low is none = absurd none
access_by n c w (Ends _) low is none = absurd none

-- each access of a legal history is of a cell of the program
access_below : (P : tree.Program) → HasCells P → (h : List Event) (m n : Machine) → Leads P m h n → (e : Event) → Among e h → (c : ℕ) → IsAccess c e.action
    → c < cell_count P
access_below P some [] m n leads e a c is = absurd a
access_below P some (d ∷ h) m n (next, step, leads) e (inl same) c is =
    access_by (cell_count P) c (wish_of P step.stop) d.action (wish_below P some step.stop) step.answers
    (subst (λ (z : Event). IsAccess c z.action) (sym same) is)
access_below P some (d ∷ h) m n (next, step, leads) e (inr later) c is = access_below P some h next n leads e later c is

-- ---- the shards' lists

owns_at : (h n i : ℕ) (log : List (ℕ × Event)) → i < n → slice_get (owns_from h n log) i ≡ Some (own_of (h + i) log)
owns_at h zero i log lt = absurd (omega (arith, lt))
owns_at h (suc n) zero log lt = ap (λ k. Some (own_of k log)) (plus h)
  where
    plus : (k : ℕ) → k ≡ k + 0
    plus k = omega arith
owns_at h (suc n) (suc i) log lt = owns_at (h + 1) n i log (omega (arith, lt)) ∙ ap (λ k. Some (own_of k log)) (plus h i)
  where
    plus : (k j : ℕ) → (k + 1) + j ≡ k + suc j
    plus k j = omega arith

-- lists with the same at each place
same_gets : (xs ys : List ℤ) → length xs ≡ length ys → ((i : ℕ) → i < length xs → slice_get xs i ≡ slice_get ys i) → xs ≡ ys
same_gets xs ys size each =
    ext_get_or (pos 0) xs ys size
    (λ i lt. (
    let x = get_some xs i lt in
    get_or_from_slice_get xs i x.0 (pos 0) x.1 ∙ sym (get_or_from_slice_get ys i x.0 (pos 0) (sym (each i lt) ∙ x.1))))

-- ---- what is kept

pair_found : (kept : Kept) (first second : ℕ) → pair_of kept ≡ Some (first, second) → kept ≡ Found first second
pair_found (Clean w rs) first second e = cc
pair_found (Found x y) first second e =
    let same : (x, y) ≡ (first, second) = same_Some (x, y) (first, second) e in
    ap (λ (p : ℕ × ℕ). Found p.0 p.1) same

-- ---- the run

module _ (P : tree.Program) (the : Final) (count : ℕ) (typed : IsWellTyped P) (of : IsCodeOf P the.code) (over : IsOver the) (shut : IsShut the count) where
  abbrev log : List (ℕ × Event)
  log = shut.log

  abbrev book : List Drawn
  book = own_of 0 log

  abbrev others : List (List Drawn)
  others = owns_from 1 8 log

  pub both : IsSharedRun P (length log) shard_of book others (traces_in the.heard.view.tasks) × IsMerge (book ∷ others) (history_of log)
  both =
      log_gives_run P 8 shard_of log (traces_in the.heard.view.tasks)
      (gathered_gives_run P 8 shard_of log (traces_in the.heard.view.tasks) (over_gives_gathered P the count typed of over shut))

  pub legal : IsLegal P (history_of log)
  legal = merge_is_legal P (length log) shard_of book others (traces_in the.heard.view.tasks) (history_of log) (well_typed_has_cells P typed) both.0 both.1

  -- the shard of a cell, whose list is one of those of the log
  shard_at : (c : ℕ) → (s : ShardNow) × (slice_get the.shards (shard_of c) ≡ Some s) × (slice_get others (shard_of c) ≡ Some (made_by s))
  shard_at c =
      let low : shard_of c < 8 = mod_below c 8 (omega arith) in
      let eight = over.eight in
      let s = get_some the.shards (shard_of c) (omega (arith, low, eight)) in
      let list : own_of (1 + shard_of c) log ≡ made_by s.0 =
      ap (λ k. own_of k log) (plus (shard_of c)) ∙ sym (shard_is P the count typed of over shut (shard_of c) s.0 s.1) in
      (s.0, s.1, owns_at 1 8 (shard_of c) log low ∙ ap (λ (l : List Drawn). Some l) list)
    where
      plus : (k : ℕ) → 1 + k ≡ k + 1
      plus k = omega arith

  -- what a shard knows begins the book
  known_begins : (s : ShardNow) → Among s the.shards → (more : List Event) × (events_in book ≡ events_in (known_by s) ++ more)
  known_begins s a =
      let there : Among s.holder (holders_of the.heard the.shards ++ []) =
      among_left s.holder (holders_of the.heard the.shards) [] (inr (among_map (λ (z : ShardNow). z.holder) s the.shards a)) in
      let begins = shut.known s.holder there 0 in
      (events_in begins.0, sym (ap (λ (l : List Drawn). events_in l) begins.1) ∙ map-append (λ (x : Drawn). x.1) (known_by s) begins.0)

  module _ (values : List ℤ) (pairs : List (Option (ℕ × ℕ))) (cells : AreCells the.code the.shards values pairs) where
    cell_at : (c : ℕ) → c < the.code.cells → (s : ShardNow) × (slice_get the.shards (shard_of c) ≡ Some s) × (slice_get others (shard_of c) ≡ Some (made_by s))
        × HasCell s c values pairs
    cell_at c lt = let s = shard_at c in (s.0, s.1, s.2, cells.each (shard_of c) s.0 s.1 c (refl, lt))

    -- the values are those of the machine
    pub cells_there : (m : Machine) → Leads P (opening P) (history_of log) m → values ≡ m.cells
    cells_there m leads =
        let size : length values ≡ length m.cells =
        cells.sizes.0 ∙ of.cells ∙ sym (cells_from P (opening P) (history_of log) m leads ∙ replicate_length (cell_count P) (pos 0)) in
        same_gets values m.cells size (λ c lt. (
        let few = cells.sizes.0 in
        let cell = cell_at c (omega (arith, lt, few)) in
        let all = of.cells in
        let left = cells_are_left P (length log) shard_of book others (traces_in the.heard.view.tasks) (history_of log) both.0 both.1 m leads c (made_by cell.0)
        (omega (arith, lt, few, all)) cell.2 in
        cell.3.value_at ∙ ap (λ (z : ℤ). Some z) cell.3.of.value_is ∙ sym left))

    -- what is kept of a cell tells its races in the log
    tells : (c : ℕ) → c < the.code.cells → (kept : Kept) × TellsRaces (history_of log) c kept × (slice_get pairs c ≡ Some (pair_of kept))
    tells c lt =
        let cell = cell_at c lt in
        let s : ShardNow = cell.0 in
        let more = known_begins s (get_among s the.shards (shard_of c) cell.1) in (
          cell.3.kept,
          kept_tells_merge P (length log) shard_of book others (traces_in the.heard.view.tasks) (history_of log) both.0 both.1 c (made_by s)
              (events_in (known_by s)) more.0
              cell.3.kept cell.2 more.1 cell.3.of.strands cell.3.of.kept_is,
          cell.3.pair_at,
        )

    module _ (races : List Race) (are : ArePairs pairs races) where
      first_pair : (r : Race) → slice_get pairs r.cell ≡ Some (Some (r.first, r.second)) → IsFirstPair (history_of log) r.cell r.first r.second
      first_pair r at =
          let low = slice_get_within pairs r.cell (Some (r.first, r.second)) at in
          let few = cells.sizes.1 in
          let t = tells r.cell (omega (arith, low, few)) in
          let found = pair_found t.0 r.first r.second (same_Some (pair_of t.0) (Some (r.first, r.second)) (sym t.2 ∙ at)) in
          subst (TellsRaces (history_of log) r.cell) found t.1

      has_race : (c i j : ℕ) (kept : Kept) → TellsRaces (history_of log) c kept → slice_get pairs c ≡ Some (pair_of kept) → PlacesRace (history_of log) c i j
          → Any (λ (r : Race). r.cell ≡ c) races
      has_race c i j (Clean w rs) none at race = absurd (none i j race)
      has_race c i j (Found first second) pair at race = are.whole c first second at

      below : (c i j : ℕ) → PlacesRace (history_of log) c i j → c < the.code.cells
      below c i j race =
          let (d, e, at_i, at_j, racing) = race.events in
          let low = access_below P (well_typed_has_cells P typed) (history_of log) (opening P) legal.0 legal.1 d
          (get_among d (history_of log) i at_i) c racing.one in
          let all = of.cells in
          omega (arith, low, all)

      pub report : IsReport (history_of log) races
      report =
          record {
            each = All-weaker (λ (r : Race). slice_get pairs r.cell ≡ Some (Some (r.first, r.second)))
                (λ (r : Race). IsFirstPair (history_of log) r.cell r.first r.second) first_pair races are.each;
            whole = λ c i j race. (let t = tells c (below c i j race) in has_race c i j t.0 t.1 t.2 race);
            order = are.order;
          }

pub over_gives_report : OverGivesReport
over_gives_report P the count typed of over shut values pairs races cells are =
    report P the count typed of over shut values pairs cells races are
