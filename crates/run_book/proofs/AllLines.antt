-- All lines after one more entry. Lists of events called `past` have the newest event first.
use Rattle.std.proofs.Common.{◌≡◌, ◌≢◌, ℕ, ◌+◌, ◌<◌, ◌==◌, if◌then◌else◌, List, [], ◌∷◌, ◌++◌, length, inl, inr}
use Rattle.std.proofs.Common.{subst, ap, sym, refl, ◌∙◌, arith}
use Rattle.std.specs.Prelude.{Bool, true, false, Option, Some, None, IsSome, slice_get, option_and_then}
use Rattle.std.proofs.lemmas.List.{length-append}
use Rattle.std.specs.Option.{option_to_list}
use Rattle.std.proofs.lemmas.Option.{same_Some, slice_get_within}
use Rattle.std.proofs.lemmas.Bool.{cases_eq}
use Rattle.fut_base.specs.declared.record.Value.{Value}
use Rattle.fut_base.specs.declared.event.Event.{Event}
use Rattle.fut_base.specs.declared.event.Action.TheVariants.{Spawns, Creates, Syncs, Gets, Ends}
use Rattle.fut_base.specs.Dag.{Among, ends, block_of, block_after}
use Rattle.fut_base.specs.Sound.{IsSound, MayFollow, AllEnded, next_task, tasks_by, value_of, value_by}
use Rattle.fut_base.proofs.Cases.{by_eq}
use Rattle.fut_base.proofs.Members.{among_split}
use Rattle.task_machine.specs.State.{ToSync, ToGet}
use Rattle.task_code.specs.Flat.{Compiled}
use Rattle.strand_tree.specs.Placing.{IsStrandOf}
use Rattle.reach_table.specs.Telling.{HasTable}
use Rattle.run_place.specs.Placed.{events_in}
use Rattle.run_book.specs.Drawn.{past_in}
use Rattle.run_book.specs.Jobs.{JobNow, Stands, MayWait, IsFree}
use Rattle.run_book.specs.Lines.{LineNow, Ended, new_line, Spawned, unended, IsLineOf}
use Rattle.run_book.specs.Turns.{change_at, with_child, with_end, with_less, parent_of, told_of_end, after_end}
use Rattle.run_book.specs.Books.{waiting_in, waiters_of, waits_for_last, parent_line, wait_for}
use Rattle.run_book.specs.Tabling.{AreLines}
use Rattle.run_book.proofs.Drawn.{past_one}
use Rattle.run_book.proofs.Blocks.{stands_task, spawned_task, parent_before, none_unended, last_none}
use Rattle.run_book.proofs.Lining.{EndsStay, spawned_past, past_spawned, other_line, acting_line, spawning_line, syncing_line, ending_line}
use Rattle.run_book.proofs.Lining.{spawned_line, created_line}
use Rattle.run_book.proofs.Lining.{parent_line as parent_line_is}
use Rattle.run_book.proofs.Changing.{get_kept, length_changed, changed_line, pushed_line, length_pushed, get_in, waiting_changed}
use Rattle.run_book.proofs.Parking.{stands_as}

module _ (code : Compiled) (book : List (ℕ × Event)) (k : ℕ) (e : Event) (sound : IsSound (events_in book)) (follows : MayFollow (past_in book) e)
    (stay : EndsStay book (book ++ (k, e) ∷ [])) (ls : List LineNow) (are : AreLines code book ls) where
  low_of : (t : ℕ) (l : LineNow) → slice_get ls t ≡ Some l → t < next_task (past_in book)
  low_of t l at = subst (λ n. t < n) are.all (slice_get_within ls t l at)

  -- the acting task has a line
  pub own_line : (l : LineNow) × (slice_get ls e.task ≡ Some l)
  own_line = get_in ls e.task (subst (λ n. e.task < n) (sym are.all) (stands_task (past_in book) sound e.task e.strand follows.stands))

  size_is : (n : ℕ) → tasks_by e.action ≡ n → length ls + n ≡ next_task (past_in (book ++ (k, e) ∷ []))
  size_is n made = ap (λ m. length ls + m) (sym made) ∙ ap (λ m. m + tasks_by e.action) are.all ∙ ap next_task (sym (past_one book k e))

  one_size : (f : LineNow → LineNow) → tasks_by e.action ≡ 0 → length (change_at e.task f ls) ≡ next_task (past_in (book ++ (k, e) ∷ []))
  one_size f none = let size = size_is 0 none in let same = length_changed e.task f ls in omega (arith, size, same)

  -- of the lines where only that of the acting task was changed, and it ends nothing
  each_line : (f : LineNow → LineNow) → ends e.action ≡ false → ((l : LineNow) → slice_get ls e.task ≡ Some l
      → IsLineOf code (book ++ (k, e) ∷ []) e.task (f l))
      → (t : ℕ) (l : LineNow) → slice_get (change_at e.task f ls) t ≡ Some l → IsLineOf code (book ++ (k, e) ∷ []) t l
  each_line f runs own t l at = elim (changed_line e.task t f ls l at) [
    | inl h ↦
        subst (λ (m : LineNow). IsLineOf code (book ++ (k, e) ∷ []) t m) h.1.2
        (subst (λ u. IsLineOf code (book ++ (k, e) ∷ []) u (f h.1.0)) (sym h.0) (own h.1.0 h.1.1))
    | inr h ↦ other_line code book k e sound follows stay t l (low_of t l h.1) h.0 (inl runs) (are.each t l h.1)
  ]

  -- the lines after a spawn
  pub lines_spawned : (which child kid cont : ℕ) (args : List Value) → e.action ≡ Spawns which child kid cont args
      → AreLines code (book ++ (k, e) ∷ []) (change_at e.task (with_child child) ls ++ new_line (Some e.task) ∷ [])
  lines_spawned which child kid cont args act =
      let made : tasks_by e.action ≡ 1 = ap tasks_by act in
      let new : child ≡ next_task (past_in book) = (subst (λ a. MayFollow (past_in book) (record e { action = a })) act follows).acts.0 in
      record {
        all = (
            let size = size_is 1 made in
            let same = length_changed e.task (with_child child) ls in
            let more = length_pushed (change_at e.task (with_child child) ls) (new_line (Some e.task)) in
            omega (arith, size, same, more));
        each = λ t l at. elim (pushed_line (change_at e.task (with_child child) ls) (new_line (Some e.task)) t l at) [
          | inl old ↦
              each_line (with_child child) (ap ends act)
              (λ m h. spawning_line code book k e sound follows stay which child kid cont args m act (are.each e.task m h)) t l old
          | inr last ↦
              subst (λ (m : LineNow). IsLineOf code (book ++ (k, e) ∷ []) t m) last.1
              (subst (λ u. IsLineOf code (book ++ (k, e) ∷ []) u (new_line (Some e.task)))
              (sym (last.0 ∙ length_changed e.task (with_child child) ls ∙ are.all ∙ sym new))
              (spawned_line code book k e sound follows stay which child kid cont args act))
        ];
      }

  -- a line that stays as it is, where the action is a create or a get
  stays_line : ends e.action ≡ false → ((block : List ℕ) → block_after e.action block ≡ block) → ((value : Option Value) → value_by e.action value ≡ value)
      → (t : ℕ) (l : LineNow) → slice_get ls t ≡ Some l → IsLineOf code (book ++ (k, e) ∷ []) t l
  stays_line runs block value t l at = elim (cases_eq t e.task) [
    | inl own ↦ acting_line code book k e sound follows stay t l own runs (block (block_of (past_in book) t)) (value (value_of (past_in book) t))
        (are.each t l at)
    | inr other ↦ other_line code book k e sound follows stay t l (low_of t l at) other (inl runs) (are.each t l at)
  ]

  -- the lines after a create
  pub lines_created : (which child kid cont : ℕ) (args : List Value) → e.action ≡ Creates which child kid cont args
      → AreLines code (book ++ (k, e) ∷ []) (ls ++ new_line None ∷ [])
  lines_created which child kid cont args act =
      let made : tasks_by e.action ≡ 1 = ap tasks_by act in
      let new : child ≡ next_task (past_in book) = (subst (λ a. MayFollow (past_in book) (record e { action = a })) act follows).acts.0 in
      record {
        all = (let size = size_is 1 made in let more = length_pushed ls (new_line None) in omega (arith, size, more));
        each = λ t l at. elim (pushed_line ls (new_line None) t l at) [
          | inl old ↦ stays_line (ap ends act) (λ block. ap (λ a. block_after a block) act) (λ value. ap (λ a. value_by a value) act) t l old
          | inr last ↦
              subst (λ (m : LineNow). IsLineOf code (book ++ (k, e) ∷ []) t m) last.1
              (subst (λ u. IsLineOf code (book ++ (k, e) ∷ []) u (new_line None)) (sym (last.0 ∙ are.all ∙ sym new))
              (created_line code book k e sound follows stay which child kid cont args act))
        ];
      }

  -- the lines after a get
  pub lines_got : (future strand : ℕ) (value : Value) → e.action ≡ Gets future value strand → AreLines code (book ++ (k, e) ∷ []) ls
  lines_got future strand value act =
      let none : tasks_by e.action ≡ 0 = ap tasks_by act in
      record {
        all = (let size = size_is 0 none in omega (arith, size));
        each = stays_line (ap ends act) (λ block. ap (λ a. block_after a block) act) (λ old. ap (λ a. value_by a old) act);
      }

  -- the lines after a sync of a task of which no child runs
  pub lines_synced : (strand : ℕ) → e.action ≡ Syncs strand → ((l : LineNow) → slice_get ls e.task ≡ Some l → l.count ≡ 0)
      → AreLines code (book ++ (k, e) ∷ []) (change_at e.task (λ (l : LineNow). record l { block = []; room = 0 }) ls)
  lines_synced strand act none =
      record {
        all = one_size (λ (l : LineNow). record l { block = []; room = 0 }) (ap tasks_by act);
        each = each_line (λ (l : LineNow). record l { block = []; room = 0 }) (ap ends act)
            (λ m h. syncing_line code book k e sound follows stay strand m act (none m h) (are.each e.task m h));
      }

  -- ---- an end

  -- the task that ends was spawned by that of its line's parent
  parent_is : (l : LineNow) (p : ℕ) → slice_get ls e.task ≡ Some l → l.parent ≡ Some p → Spawned (past_in book) p e.task
  parent_is l p at is = spawned_past book p e.task (((are.each e.task l at).parent p).0 is)

  parent_has : (l : LineNow) (p : ℕ) → slice_get ls e.task ≡ Some l → l.parent ≡ Some p → (m : LineNow) × (slice_get ls p ≡ Some m)
  parent_has l p at is = get_in ls p (subst (λ n. p < n) (sym are.all) (spawned_task (past_in book) sound p e.task (parent_is l p at is)).0)

  -- what settling an end asks of the lines
  pub settles_line : (value : Value) → e.action ≡ Ends value
      → (l : LineNow) × (slice_get ls e.task ≡ Some l) × (l.value ≡ None) × ((p : ℕ) → l.parent ≡ Some p → l.waiters ≡ [])
  settles_line value act =
      let own = own_line in
      let is = are.each e.task own.0 own.1 in (
        own.0,
        own.1,
        is.value ∙ last_none (past_in book) e.task follows.running,
        λ p h. nobody own.0.waiters (λ j a. (let w =
            is.waiters j a in none_some p (sym w.1 ∙ h))),
      )
    where
      none_some : (p : ℕ) → ◌≡◌ {A = Option ℕ} None (Some p) → ⊥
      none_some p h = cc

      nobody : (js : List JobNow) → ((j : JobNow) → Among j js → ⊥) → js ≡ []
      nobody [] h = refl
      nobody (j ∷ js) h = absurd (h j (inl refl))

  pub settles_parent : (value : Value) → e.action ≡ Ends value → (p : ℕ) → parent_of (slice_get ls e.task) ≡ Some p
      → (p ≢ e.task) × ((l : LineNow) × (slice_get ls p ≡ Some l) × (0 < l.count))
  settles_parent value act p h =
      let own = own_line in
      let is : own.0.parent ≡ Some p = sym (ap parent_of own.1) ∙ h in
      let has = parent_has own.0 p own.1 is in
      let line = parent_line_is code book k e sound follows stay p value has.0 act (parent_is own.0 p own.1 is) (are.each p has.0 has.1) in
      (line.0, (has.0, has.1, line.1))

  -- a line of which no child ends
  quiet_line : (t : ℕ) (l own : LineNow) → slice_get ls e.task ≡ Some own → (own.parent ≡ Some t → ⊥) → t ≢ e.task → slice_get ls t ≡ Some l
      → IsLineOf code (book ++ (k, e) ∷ []) t l
  quiet_line t l own at not_parent other here =
      other_line code book k e sound follows stay t l (low_of t l here) other
      (inr (λ s. not_parent (((are.each e.task own at).parent t).1 (past_spawned book t e.task s)))) (are.each t l here)

  module _ (value : Value) (last : Ended) (act : e.action ≡ Ends value) (at : last.at.number ≡ e.strand) (strand : IsStrandOf (events_in book) last.at)
      (table : HasTable (events_in book) last.at.number last.table) where
    over_line : (l : LineNow) → slice_get ls e.task ≡ Some l → IsLineOf code (book ++ (k, e) ∷ []) e.task (with_end value last l)
    over_line l here = ending_line code book k e sound follows stay value last l act at strand table (are.each e.task l here)

    -- a line after the end, by the parent of the task that ends
    ended_lines : (own : LineNow) → slice_get ls e.task ≡ Some own → (parent : Option ℕ) → own.parent ≡ parent → (t : ℕ) (l : LineNow)
        → slice_get (told_of_end parent (change_at e.task (with_end value last) ls)) t ≡ Some l → IsLineOf code (book ++ (k, e) ∷ []) t l
    ended_lines own here None is t l there = elim (changed_line e.task t (with_end value last) ls l there) [
      | inl h ↦
          subst (λ (m : LineNow). IsLineOf code (book ++ (k, e) ∷ []) t m) h.1.2
          (subst (λ u. IsLineOf code (book ++ (k, e) ∷ []) u (with_end value last h.1.0)) (sym h.0) (over_line h.1.0 h.1.1))
      | inr h ↦ quiet_line t l own here (λ p. none_some t (sym is ∙ p)) h.0 h.1
    ]
      where
        none_some : (p : ℕ) → ◌≡◌ {A = Option ℕ} None (Some p) → ⊥
        none_some p h = cc
    ended_lines own here (Some p) is t l there = elim (changed_line p t with_less (change_at e.task (with_end value last) ls) l there) [
      | inl h ↦ (
          let before = parent_before (past_in book) sound p e.task (parent_is own p here is) in
          let other : p ≢ e.task = λ same. omega (arith, same, before) in
          let was : slice_get ls p ≡ Some h.1.0 = sym (get_kept e.task p (with_end value last) ls other) ∙ h.1.1 in
          let line = parent_line_is code book k e sound follows stay p value h.1.0 act (parent_is own p here is) (are.each p h.1.0 was) in
          subst (λ (m : LineNow). IsLineOf code (book ++ (k, e) ∷ []) t m) h.1.2
          (subst (λ u. IsLineOf code (book ++ (k, e) ∷ []) u (with_less h.1.0)) (sym h.0) line.2))
      | inr g ↦ elim (changed_line e.task t (with_end value last) ls l g.1) [
        | inl h ↦
            subst (λ (m : LineNow). IsLineOf code (book ++ (k, e) ∷ []) t m) h.1.2
            (subst (λ u. IsLineOf code (book ++ (k, e) ∷ []) u (with_end value last h.1.0)) (sym h.0) (over_line h.1.0 h.1.1))
        | inr h ↦ quiet_line t l own here (λ q. g.0 (same_Some t p (sym q ∙ is))) h.0 h.1
      ]
    ]

    told_length : (parent : Option ℕ) (ms : List LineNow) → length (told_of_end parent ms) ≡ length ms
    told_length None ms = refl
    told_length (Some p) ms = length_changed p with_less ms

    -- the lines after an end
    pub lines_ended : AreLines code (book ++ (k, e) ∷ []) (after_end e.task value last ls)
    lines_ended =
        let own = own_line in
        let parent : parent_of (slice_get ls e.task) ≡ own.0.parent = ap parent_of own.1 in
        record {
          all = told_length (parent_of (slice_get ls e.task)) (change_at e.task (with_end value last) ls) ∙ one_size (with_end value last) (ap tasks_by act);
          each = ended_lines own.0 own.1 (parent_of (slice_get ls e.task)) (sym parent);
        }

    -- ---- the jobs that go on after an end

    -- a job that waited, and may go on
    abbrev IsFreed : JobNow → Type 0
    IsFreed j = (j.pace ≡ 1) × Stands code j.task (λ P w. MayWait w × IsFree (past_in (book ++ (k, e) ∷ [])) j.task.number w)

    if_one : (n : ℕ) (waiter : Option JobNow) (j : JobNow) → Among j (if n == 1 then option_to_list waiter else []) → (n ≡ 1) × (waiter ≡ Some j)
    if_one n waiter j =
        by_eq (λ b. Among j (if b then option_to_list waiter else []) → (n ≡ 1) × (waiter ≡ Some j)) n 1 (λ one a. (one, in_option waiter j a))
        (λ _ a. absurd a)
      where
        in_option : (o : Option JobNow) (j : JobNow) → Among j (option_to_list o) → o ≡ Some j
        in_option None j a = absurd a
        in_option (Some i) j a = elim a [ inl same ↦ ap Some same | inr none ↦ absurd none ]

    parent_freed : (own : LineNow) → slice_get ls e.task ≡ Some own → (parent : Option ℕ) → own.parent ≡ parent → (j : JobNow)
        → Among j (waits_for_last (option_and_then (λ (p : ℕ). slice_get ls p) parent)) → IsFreed j
    parent_freed own here None is j a = absurd a
    parent_freed own here (Some p) is j a =
        let has = parent_has own p here is in
        let was = are.each p has.0 has.1 in
        let before = parent_before (past_in book) sound p e.task (parent_is own p here is) in
        let other : p ≢ e.task = λ same. omega (arith, same, before) in
        let one = if_one has.0.count has.0.waiter j (subst (λ o. Among j (waits_for_last o)) has.1 a) in
        let w = was.waiter j one.1 in
        let line = (parent_line_is code book k e sound follows stay p value has.0 act (parent_is own p here is) was).2 in
        let first = one.0 in
        let none : unended (past_in (book ++ (k, e) ∷ [])) has.0.block ≡ 0 = (let c = line.count in omega (arith, c, first)) in
        let all : AllEnded (past_in (book ++ (k, e) ∷ [])) (block_of (past_in (book ++ (k, e) ∷ [])) j.task.number) =
        subst (λ ts. AllEnded (past_in (book ++ (k, e) ∷ [])) ts) (line.block ∙ ap (block_of (past_in (book ++ (k, e) ∷ []))) (sym w.0))
        (none_unended (past_in (book ++ (k, e) ∷ [])) has.0.block none) in (
          w.1,
          stands_as code j.task (λ P w. w ≡ ToSync) (λ P w. MayWait w × IsFree (past_in (book ++ (k, e) ∷ [])) j.task.number w)
              (λ P w is. subst (λ v. MayWait v × IsFree (past_in (book ++ (k, e) ∷ [])) j.task.number v) (sym is) (tt, all)) w.3,
        )

    value_freed : (own : LineNow) → slice_get ls e.task ≡ Some own → (j : JobNow) → Among j own.waiters → IsFreed j
    value_freed own here j a =
        let w = (are.each e.task own here).waiters j a in
        let ended : IsSome (value_of (past_in (book ++ (k, e) ∷ [])) e.task) = subst (λ (o : Option Value). IsSome o) (over_line own here).value refl in (
          w.2,
          stands_as code j.task (λ P w. w ≡ ToGet e.task) (λ P w. MayWait w × IsFree (past_in (book ++ (k, e) ∷ [])) j.task.number w)
              (λ P w is. subst (λ v. MayWait v × IsFree (past_in (book ++ (k, e) ∷ [])) j.task.number v) (sym is) (tt, ended)) w.3,
        )

    -- the jobs that wait for the end of the task
    wait_is : (own : LineNow) → slice_get ls e.task ≡ Some own
        → wait_for ls e.task ≡ waits_for_last (option_and_then (λ (p : ℕ). slice_get ls p) own.parent) ++ own.waiters
    wait_is own here = ap (λ o. waits_for_last (parent_line ls o) ++ waiters_of o) here

    -- each of them may go on
    pub all_freed : (j : JobNow) → Among j (wait_for ls e.task) → IsFreed j
    all_freed j a =
        let own = own_line in
        elim (among_split j (waits_for_last (option_and_then (λ (p : ℕ). slice_get ls p) own.0.parent)) own.0.waiters
        (subst (Among j) (wait_is own.0 own.1) a)) [
          | inl first ↦ parent_freed own.0 own.1 own.0.parent refl j first
          | inr rest ↦ value_freed own.0 own.1 j rest
        ]

    less_jobs : (b : Bool) (waiter : Option JobNow)
        → length (option_to_list (if b then None else waiter)) + length (if b then option_to_list waiter else []) ≡ length (option_to_list waiter)
    less_jobs true waiter = omega arith
    less_jobs false waiter = omega arith

    less_waiting : (own : LineNow) → slice_get ls e.task ≡ Some own → (parent : Option ℕ) → own.parent ≡ parent
        → waiting_in (told_of_end parent (change_at e.task (with_end value last) ls)) + length
        (waits_for_last (option_and_then (λ (p : ℕ). slice_get ls p) parent))
        ≡ waiting_in (change_at e.task (with_end value last) ls)
    less_waiting own here None is = omega arith
    less_waiting own here (Some p) is =
        let has = parent_has own p here is in
        let m = has.0 in
        let before = parent_before (past_in book) sound p e.task (parent_is own p here is) in
        let other : p ≢ e.task = λ same. omega (arith, same, before) in
        let at_end : slice_get (change_at e.task (with_end value last) ls) p ≡ Some m = get_kept e.task p (with_end value last) ls other ∙ has.1 in
        let changed = waiting_changed p with_less (change_at e.task (with_end value last) ls) m at_end in
        let was = length-append (option_to_list m.waiter) m.waiters in
        let now = length-append (option_to_list (if m.count == 1 then None else m.waiter)) m.waiters in
        let split = less_jobs (m.count == 1) m.waiter in
        let out : length (waits_for_last (slice_get ls p)) ≡ length (if m.count == 1 then option_to_list m.waiter else []) =
        ap (λ o. length (waits_for_last o)) has.1 in
        omega (arith, changed, was, now, split, out)

    -- they wait no more
    pub fewer_wait : waiting_in (after_end e.task value last ls) + length (wait_for ls e.task) ≡ waiting_in ls
    fewer_wait =
        let own = own_line in
        let l = own.0 in
        let parent : parent_of (slice_get ls e.task) ≡ l.parent = ap parent_of own.1 in
        let lines : waiting_in (after_end e.task value last ls) ≡ waiting_in (told_of_end l.parent (change_at e.task (with_end value last) ls)) =
        ap (λ o. waiting_in (told_of_end o (change_at e.task (with_end value last) ls))) parent in
        let first = less_waiting l own.1 l.parent refl in
        let changed = waiting_changed e.task (with_end value last) ls l own.1 in
        let was = length-append (option_to_list l.waiter) l.waiters in
        let none : List JobNow = [] in
        let now = length-append (option_to_list l.waiter) none in
        let all : length (wait_for ls e.task) ≡ length (waits_for_last (option_and_then (λ (p : ℕ). slice_get ls p) l.parent)) + length l.waiters =
        ap length (wait_is l own.1) ∙ length-append (waits_for_last (option_and_then (λ (p : ℕ). slice_get ls p) l.parent)) l.waiters in
        omega (arith, lines, first, changed, was, now, all)
