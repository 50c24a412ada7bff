-- The lines after one more entry. Lists of events called `past` have the newest event first.
use Rattle.std.proofs.Common.{◌≡◌, ◌≢◌, ℕ, ◌+◌, ◌-◌, ◌<◌, ◌≤◌, ◌==◌, if◌then◌else◌, List, [], ◌∷◌, ◌++◌, ◌⊎◌, inl, inr}
use Rattle.std.proofs.Common.{subst, ap, sym, refl, ◌∙◌, arith, true, false}
use Rattle.std.specs.Prelude.{◌↔◌, Option, Some, None}
use Rattle.std.proofs.lemmas.Option.{same_Some}
use Rattle.fut_base.specs.declared.record.Value.{Value}
use Rattle.fut_base.specs.declared.event.Event.{Event}
use Rattle.fut_base.specs.declared.event.Action.TheVariants.{Spawns, Creates, Syncs, Ends}
use Rattle.fut_base.specs.Dag.{Among, ends, last_of, block_of, block_after}
use Rattle.fut_base.specs.Sound.{IsSound, MayFollow, MayAct, next_task, value_of, value_by}
use Rattle.fut_base.proofs.Cases.{by_eq}
use Rattle.fut_base.proofs.Members.{among_left, among_last}
use Rattle.task_code.specs.Flat.{Compiled}
use Rattle.strand_tree.specs.Placing.{IsStrandOf}
use Rattle.reach_table.specs.Telling.{HasTable}
use Rattle.run_place.specs.Placed.{events_in}
use Rattle.run_book.specs.Drawn.{past_in}
use Rattle.run_book.specs.Jobs.{JobNow}
use Rattle.run_book.specs.Lines.{LineNow, Ended, new_line, spawns_task, Spawned, still, unended, IsEndOf, IsLineOf}
use Rattle.run_book.specs.Turns.{with_child, with_end, with_less}
use Rattle.run_book.proofs.Drawn.{events_one, past_one, past_event, reverse_among, last_or}
use Rattle.run_book.proofs.Blocks.{last_same, last_other, last_here, block_other, block_here, value_other, value_here, stands_task, unborn, new_task}
use Rattle.run_book.proofs.Blocks.{spawned_task, parent_before, block_spawned, still_in, block_once, unended_same, unended_append, unended_less}

none-is : {A : Type 0} {x : A} → ◌≡◌ {A = Option A} None (Some x) → ⊥
none-is e = cc

-- a line of entries tells of the past
pub spawned_past : (book : List (ℕ × Event)) (p t : ℕ) → Spawned (events_in book) p t → Spawned (past_in book) p t
spawned_past book p t s = (s.0, past_event s.0 book s.1, s.2, s.3)

pub past_spawned : (book : List (ℕ × Event)) (p t : ℕ) → Spawned (past_in book) p t → Spawned (events_in book) p t
past_spawned book p t s = (s.0, reverse_among s.0 (events_in book) s.1, s.2, s.3)

-- the end of a task stays one by a longer list
abbrev pub EndsStay : List (ℕ × Event) → List (ℕ × Event) → Type 0
EndsStay book more = (last : Ended) → IsStrandOf (events_in book) last.at → HasTable (events_in book) last.at.number last.table
    → IsStrandOf (events_in more) last.at × HasTable (events_in more) last.at.number last.table

module _ (code : Compiled) (book : List (ℕ × Event)) (k : ℕ) (e : Event) (sound : IsSound (events_in book)) (follows : MayFollow (past_in book) e)
    (stay : EndsStay book (book ++ (k, e) ∷ [])) where
  spawned_add : (p t : ℕ) → Spawned (events_in book) p t → Spawned (events_in (book ++ (k, e) ∷ [])) p t
  spawned_add p t s = (s.0, subst (Among s.0) (sym (events_one book k e)) (among_left s.0 (events_in book) (e ∷ []) s.1), s.2, s.3)

  -- an entry spawns no task that was there
  spawned_was : (p t : ℕ) → t < next_task (past_in book) → Spawned (events_in (book ++ (k, e) ∷ [])) p t → Spawned (events_in book) p t
  spawned_was p t low s = elim (last_or s.0 e (events_in book) (subst (Among s.0) (events_one book k e) s.1)) [
    | inl old ↦ (s.0, old, s.2, s.3)
    | inr new ↦ absurd (
        let is = new_task (past_in book) e.task t e.action follows.acts (subst (λ (x : Event). spawns_task t x.action) (sym new) s.3) in
        omega (arith, low, is.0))
  ]

  parent_stays : (t : ℕ) (parent : Option ℕ) → t < next_task (past_in book) → ((p : ℕ) → (parent ≡ Some p) ↔ Spawned (events_in book) p t)
      → (p : ℕ) → (parent ≡ Some p) ↔ Spawned (events_in (book ++ (k, e) ∷ [])) p t
  parent_stays t parent low is p = ((λ h. spawned_add p t ((is p).0 h)), (λ s. (is p).1 (spawned_was p t low s)))

  end_stays : (t : ℕ) (last : Option Ended) → last_of (e ∷ past_in book) t ≡ last_of (past_in book) t → IsEndOf book t last
      → IsEndOf (book ++ (k, e) ∷ []) t last
  end_stays t None same is = subst (λ past. last_of past t ≡ None) (sym (past_one book k e)) (same ∙ is)
  end_stays t (Some last) same is =
      let kept = stay last is.1 is.2 in
      (subst (λ past. last_of past t ≡ Some last.at.number) (sym (past_one book k e)) (same ∙ is.0), kept.0, kept.1)

  -- none of the task's children ends
  abbrev IsQuiet : ℕ → Type 0
  IsQuiet t = (ends e.action ≡ false) ⊎ (Spawned (past_in book) t e.task → ⊥)

  count_stays : (t : ℕ) → IsQuiet t → unended (e ∷ past_in book) (block_of (past_in book) t) ≡ unended (past_in book) (block_of (past_in book) t)
  count_stays t quiet = unended_same (past_in book) e (block_of (past_in book) t) (λ q a. elim quiet [
    | inl f ↦ last_same (past_in book) e q f
    | inr never ↦ last_other (past_in book) e q (λ same. never (subst (Spawned (past_in book) t) same (block_spawned (past_in book) t q a)))
  ])

  -- a line that stays as it is
  line_stays : (t : ℕ) (l : LineNow) → t < next_task (past_in book) → IsQuiet t → block_of (e ∷ past_in book) t ≡ block_of (past_in book) t
      → value_of (e ∷ past_in book) t ≡ value_of (past_in book) t → last_of (e ∷ past_in book) t ≡ last_of (past_in book) t → IsLineOf code book t l
      → IsLineOf code (book ++ (k, e) ∷ []) t l
  line_stays t l low quiet block value last is = record {
    parent = parent_stays t l.parent low is.parent;
    block = subst (λ past. l.block ≡ block_of past t) (sym (past_one book k e)) (is.block ∙ sym block);
    count =
        subst (λ past. l.count ≡ unended past l.block) (sym (past_one book k e))
        (is.count ∙ subst (λ b. unended (past_in book) b ≡ unended (e ∷ past_in book) b) (sym is.block) (sym (count_stays t quiet)));
    value = subst (λ past. l.value ≡ value_of past t) (sym (past_one book k e)) (is.value ∙ sym value);
    last = end_stays t l.last last is.last;
    waiter = is.waiter;
    waiters = is.waiters;
  }

  -- the line of a task that does not act, and of which no child ends
  pub other_line : (t : ℕ) (l : LineNow) → t < next_task (past_in book) → t ≢ e.task → IsQuiet t → IsLineOf code book t l
      → IsLineOf code (book ++ (k, e) ∷ []) t l
  other_line t l low other quiet is =
      line_stays t l low quiet (block_other (past_in book) e t other) (value_other (past_in book) e t other) (last_other (past_in book) e t other) is

  -- the line of a task that acts, where its block and its value stay as they are
  pub acting_line : (t : ℕ) (l : LineNow) → t ≡ e.task → ends e.action ≡ false
      → block_after e.action (block_of (past_in book) t) ≡ block_of (past_in book) t → value_by e.action (value_of (past_in book) t) ≡ value_of (past_in book) t
      → IsLineOf code book t l → IsLineOf code (book ++ (k, e) ∷ []) t l
  acting_line t l own runs block value is =
      let low = subst (λ u. u < next_task (past_in book)) (sym own) (stands_task (past_in book) sound e.task e.strand follows.stands) in
      line_stays t l low (inl runs) (block_here (past_in book) e t own ∙ block) (value_here (past_in book) e t own ∙ value)
      (last_same (past_in book) e t runs) is

  -- the line of a task that spawns
  pub spawning_line : (which child kid cont : ℕ) (args : List Value) (l : LineNow) → e.action ≡ Spawns which child kid cont args → IsLineOf code book e.task l
      → IsLineOf code (book ++ (k, e) ∷ []) e.task (with_child child l)
  spawning_line which child kid cont args l act is =
      let t = e.task in
      let runs : ends e.action ≡ false = ap ends act in
      let low = stands_task (past_in book) sound t e.strand follows.stands in
      let acts : MayAct (past_in book) t (Spawns which child kid cont args) = subst (MayAct (past_in book) t) act follows.acts in
      let new = acts.0 in
      let none = (unborn (past_in book) sound child (omega (arith, new))).2 in
      let block : block_of (e ∷ past_in book) t ≡ l.block ++ child ∷ [] =
      block_here (past_in book) e t refl ∙ ap (λ a. block_after a (block_of (past_in book) t)) act ∙ ap (λ b. b ++ child ∷ []) (sym is.block) in
      let same : unended (e ∷ past_in book) l.block ≡ l.count =
      subst (λ b. unended (e ∷ past_in book) b ≡ unended (past_in book) b) (sym is.block) (count_stays t (inl runs)) ∙ sym is.count in
      let one : still (last_of (e ∷ past_in book) child) ≡ 1 = ap still (last_same (past_in book) e child runs ∙ none) in
      let all = unended_append (e ∷ past_in book) l.block child in
      record {
        parent = parent_stays t l.parent low is.parent;
        block = subst (λ past. l.block ++ child ∷ [] ≡ block_of past t) (sym (past_one book k e)) (sym block);
        count = subst (λ past. l.count + 1 ≡ unended past (l.block ++ child ∷ [])) (sym (past_one book k e)) (omega (arith, same, one, all));
        value =
            subst (λ past. l.value ≡ value_of past t) (sym (past_one book k e))
            (is.value ∙ sym (value_here (past_in book) e t refl ∙ ap (λ a. value_by a (value_of (past_in book) t)) act));
        last = end_stays t l.last (last_same (past_in book) e t runs) is.last;
        waiter = λ j h. (let w = is.waiter j h in let some = w.2 in (w.0, w.1, omega (arith, some), w.3));
        waiters = is.waiters;
      }

  -- the line of a task that syncs, none of whose children runs
  pub syncing_line : (strand : ℕ) (l : LineNow) → e.action ≡ Syncs strand → l.count ≡ 0 → IsLineOf code book e.task l
      → IsLineOf code (book ++ (k, e) ∷ []) e.task (record l { block = []; room = 0 })
  syncing_line strand l act none is =
      let t = e.task in
      let runs : ends e.action ≡ false = ap ends act in
      let low = stands_task (past_in book) sound t e.strand follows.stands in
      let block : block_of (e ∷ past_in book) t ≡ [] = block_here (past_in book) e t refl ∙ ap (λ a. block_after a (block_of (past_in book) t)) act in
      record {
        parent = parent_stays t l.parent low is.parent;
        block = subst (λ past. [] ≡ block_of past t) (sym (past_one book k e)) (sym block);
        count = none;
        value =
            subst (λ past. l.value ≡ value_of past t) (sym (past_one book k e))
            (is.value ∙ sym (value_here (past_in book) e t refl ∙ ap (λ a. value_by a (value_of (past_in book) t)) act));
        last = end_stays t l.last (last_same (past_in book) e t runs) is.last;
        waiter = λ j h. (let w = is.waiter j h in let some = w.2 in absurd (omega (arith, some, none)));
        waiters = is.waiters;
      }

  -- the line of a task that ends
  pub ending_line : (value : Value) (last : Ended) (l : LineNow) → e.action ≡ Ends value → last.at.number ≡ e.strand → IsStrandOf (events_in book) last.at
      → HasTable (events_in book) last.at.number last.table → IsLineOf code book e.task l → IsLineOf code (book ++ (k, e) ∷ []) e.task (with_end value last l)
  ending_line value last l act at strand table is =
      let t = e.task in
      let over : ends e.action ≡ true = ap ends act in
      let low = stands_task (past_in book) sound t e.strand follows.stands in
      let acts : MayAct (past_in book) t (Ends value) = subst (MayAct (past_in book) t) act follows.acts in
      let none : l.block ≡ [] = is.block ∙ acts.0 in
      let zero : l.count ≡ 0 = is.count ∙ ap (unended (past_in book)) none in
      let block : block_of (e ∷ past_in book) t ≡ l.block =
      block_here (past_in book) e t refl ∙ ap (λ a. block_after a (block_of (past_in book) t)) act ∙ sym is.block in
      let kept = stay last strand table in
      record {
        parent = parent_stays t l.parent low is.parent;
        block = subst (λ past. l.block ≡ block_of past t) (sym (past_one book k e)) (sym block);
        count = zero ∙ sym (ap (unended (past_in (book ++ (k, e) ∷ []))) none);
        value =
            subst (λ past. Some value ≡ value_of past t) (sym (past_one book k e))
            (sym (value_here (past_in book) e t refl ∙ ap (λ a. value_by a (value_of (past_in book) t)) act));
        last = (
          subst (λ past. last_of past t ≡ Some last.at.number) (sym (past_one book k e)) (last_here (past_in book) e t refl over ∙ ap Some (sym at)),
          kept.0,
          kept.1,
        );
        waiter = λ j h. (let w = is.waiter j h in let some = w.2 in absurd (omega (arith, some, zero)));
        waiters = λ j a. absurd a;
      }

  less_waiter : (n : ℕ) (waiter : Option JobNow) (j : JobNow) → 0 < n → (if n == 1 then None else waiter) ≡ Some j → (0 < n - 1) × (waiter ≡ Some j)
  less_waiter n waiter j some =
      by_eq (λ b. (if b then None else waiter) ≡ Some j → (0 < n - 1) × (waiter ≡ Some j)) n 1 (λ _ h. absurd (none-is h))
      (λ more h. (omega (arith, some, more), h))

  -- the line of a task of which a child ends
  pub parent_line : (t : ℕ) (value : Value) (l : LineNow) → e.action ≡ Ends value → Spawned (past_in book) t e.task → IsLineOf code book t l
      → (t ≢ e.task) × (0 < l.count) × IsLineOf code (book ++ (k, e) ∷ []) t (with_less l)
  parent_line t value l act spawned is =
      let over : ends e.action ≡ true = ap ends act in
      let before = parent_before (past_in book) sound t e.task spawned in
      let other : t ≢ e.task = λ same. omega (arith, same, before) in
      let low = (spawned_task (past_in book) sound t e.task spawned).0 in
      let inside = still_in (past_in book) sound t e.task spawned follows.running in
      let fewer = unended_less (past_in book) e (block_of (past_in book) t) (block_once (past_in book) sound t) inside over follows.running in
      let was : l.count ≡ unended (past_in book) (block_of (past_in book) t) = is.count ∙ ap (unended (past_in book)) is.block in
      let some : 0 < l.count = omega (arith, fewer, was) in
      let now : l.count - 1 ≡ unended (e ∷ past_in book) (block_of (past_in book) t) = omega (arith, fewer, was) in (
        other,
        some,
        record {
          parent = parent_stays t l.parent low is.parent;
          block = subst (λ past. l.block ≡ block_of past t) (sym (past_one book k e)) (is.block ∙ sym (block_other (past_in book) e t other));
          count =
              subst (λ past. l.count - 1 ≡ unended past l.block) (sym (past_one book k e))
              (subst (λ b. l.count - 1 ≡ unended (e ∷ past_in book) b) (sym is.block) now);
          value = subst (λ past. l.value ≡ value_of past t) (sym (past_one book k e)) (is.value ∙ sym (value_other (past_in book) e t other));
          last = end_stays t l.last (last_other (past_in book) e t other) is.last;
          waiter = λ j h. (
              let left = less_waiter l.count l.waiter j some h in
              let w = is.waiter j left.1 in (w.0, w.1, left.0, w.3));
          waiters = is.waiters;
        },
      )

  -- the line of a child
  child_line : (t : ℕ) (parent : Option ℕ) → next_task (past_in book) ≤ t → ((p : ℕ) → (parent ≡ Some p) ↔ Spawned (events_in (book ++ (k, e) ∷ [])) p t)
      → IsLineOf code (book ++ (k, e) ∷ []) t (new_line parent)
  child_line t parent late is =
      let low = stands_task (past_in book) sound e.task e.strand follows.stands in
      let other : t ≢ e.task = λ same. omega (arith, same, low, late) in
      let none = unborn (past_in book) sound t late in
      record {
        parent = is;
        block = subst (λ past. [] ≡ block_of past t) (sym (past_one book k e)) (sym (block_other (past_in book) e t other ∙ none.0));
        count = refl;
        value = subst (λ past. None ≡ value_of past t) (sym (past_one book k e)) (sym (value_other (past_in book) e t other ∙ none.1));
        last = subst (λ past. last_of past t ≡ None) (sym (past_one book k e)) (last_other (past_in book) e t other ∙ none.2);
        waiter = λ j h. absurd (none-is h);
        waiters = λ j a. absurd a;
      }

  new_is : Among e (events_in (book ++ (k, e) ∷ []))
  new_is = subst (Among e) (sym (events_one book k e)) (among_last e (events_in book))

  -- the line of a task that was spawned
  pub spawned_line : (which child kid cont : ℕ) (args : List Value) → e.action ≡ Spawns which child kid cont args
      → IsLineOf code (book ++ (k, e) ∷ []) child (new_line (Some e.task))
  spawned_line which child kid cont args act =
      let acts : MayAct (past_in book) e.task (Spawns which child kid cont args) = subst (MayAct (past_in book) e.task) act follows.acts in
      let new = acts.0 in
      child_line child (Some e.task) (omega (arith, new)) (λ p. (
        (λ h. (e, new_is, same_Some e.task p h, subst (spawns_task child) (sym act) refl)),
        (λ s. elim (last_or s.0 e (events_in book) (subst (Among s.0) (events_one book k e) s.1)) [
          | inl old ↦ absurd (
              let low = (spawned_task (past_in book) sound p child (spawned_past book p child (s.0, old, s.2, s.3))).1 in
              omega (arith, low, new))
          | inr is ↦ ap Some (ap (λ (x : Event). x.task) is ∙ s.2)
        ]),
      ))

  -- the line of a future
  pub created_line : (which child kid cont : ℕ) (args : List Value) → e.action ≡ Creates which child kid cont args
      → IsLineOf code (book ++ (k, e) ∷ []) child (new_line None)
  created_line which child kid cont args act =
      let acts : MayAct (past_in book) e.task (Creates which child kid cont args) = subst (MayAct (past_in book) e.task) act follows.acts in
      let new = acts.0 in
      child_line child None (omega (arith, new)) (λ p. (
        (λ h. absurd (none-is h)),
        (λ s. absurd (elim (last_or s.0 e (events_in book) (subst (Among s.0) (events_one book k e) s.1)) [
          | inl old ↦ (
              let low = (spawned_task (past_in book) sound p child (spawned_past book p child (s.0, old, s.2, s.3))).1 in
              omega (arith, low, new))
          | inr is ↦ subst (spawns_task child) (ap (λ (x : Event). x.action) (sym is) ∙ act) s.3
        ])),
      ))
