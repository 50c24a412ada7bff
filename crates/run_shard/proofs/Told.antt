-- What a shard's holder has when it was told what a job's place knows.
use Rattle.std.proofs.Common.{◌≡◌, ◌≢◌, ℕ, ◌+◌, ◌<◌, ◌≤◌, List, [], ◌∷◌, ◌++◌, reverse, inl, inr, subst, ap, sym, refl, ◌∙◌, arith, true, true≢false}
use Rattle.atomic_table.specs.Seated.{TableId}
use Rattle.fut_base.specs.declared.event.Event.{Event}
use Rattle.fut_base.specs.declared.event.Action.{Action}
use Rattle.fut_base.specs.declared.event.Action.TheVariants.{Reads, Writes, Spawns, Creates, Syncs, Gets, Ends}
use Rattle.fut_base.specs.Dag.{Among}
use Rattle.fut_base.specs.Sound.{IsSound, next_strand}
use Rattle.fut_base.specs.Orders.{stands_before}
use Rattle.fut_syntax.specs.Trees as tree
use Rattle.fut_check.specs.Items.{IsWellTyped}
use Rattle.task_code.specs.Flat.{Compiled, IsCodeOf}
use Rattle.task_code.specs.Tasks.{TaskNow}
use Rattle.strand_tree.specs.declared.strand.Strand.{Strand}
use Rattle.strand_tree.specs.Placing.{AreOrders, IsStrandOf}
use Rattle.reach_table.specs.Telling.{HasTable, OrdersAgree, AllKnown}
use Rattle.access_shards.specs.declared.kept.Kept.{Kept}
use Rattle.access_shards.specs.Kept.{AreKnown, IsViewOf}
use Rattle.event_clock.specs.declared.view.View.{View}
use Rattle.event_clock.specs.declared.view.Carried.{Carried}
use Rattle.event_clock.specs.declared.view.Own.{Own}
use Rattle.event_clock.specs.Views.{list_at, longer, is_child, carries, numbers_of, first_number, first_entries, number_of, own_list, add_own, split_off, MayAskFor}
use Rattle.event_clock.specs.Rule.{IsPrefix, IsJoin, Rises}
use Rattle.event_clock.specs.Seated.{Ticking, Seated}
use Rattle.event_clock.proofs.Lists.{prefix_self, the_longer, prefix_whole, wider_at, carries_among}
use Rattle.order_query.specs.declared.view.Insert.{Insert}
use Rattle.order_query.specs.Logs.{StartsWith, count_of, english_of, hebrew_of}
use Rattle.order_query.specs.Reading.{Reading}
use Rattle.run_place.specs.Placed.{Placed, AreAlike, book_of, events_in}
use Rattle.run_place.proofs.Learning.{book_is, learned}
use Rattle.run_book.specs.Drawn.{drawn_of, past_in}
use Rattle.run_book.specs.Jobs.{FitsProgram, IsTaskIn}
use Rattle.run_book.proofs.Carrying.{carried_task}
use Rattle.run_book.proofs.Later.{no_more}
use Rattle.run_book.proofs.Knowing.{task_later, job_task}
use Rattle.run_shard.specs.Turns.{AreOfJob, IsAccess, IsAtRest, CanJudge}

-- ---- a join

longer_whole : (xs ys : List (ℕ × Event)) → IsPrefix xs ys → longer xs ys ≡ ys
longer_whole xs ys p = let l = the_longer xs ys ys p (prefix_self ys) in prefix_whole ys (longer xs ys) ys refl l.second l.whole

-- who knew a beginning of what another knows, knows the same after a join with it
pub book_joined : (v w b : View) → IsJoin v w b → IsPrefix (book_of v) (book_of w) → book_of b ≡ book_of w
book_joined v w b j p = ap (λ (x : View). list_at x.known 0) j.view ∙ wider_at v.known w.known 0 ∙ longer_whole (book_of v) (book_of w) p

-- a holder of one number knows all entries of its own list
pub own_known : (os : List Own) (known : List (List (ℕ × Event))) → ((p : Own) → Among p os → list_at known p.number ≡ p.entries)
    → numbers_of os ≡ first_number os ∷ [] → list_at known (first_number os) ≡ first_entries os
own_known [] known whole one = absurd (cc)
own_known (p ∷ ps) known whole one = whole p (inl refl)

-- and has one entry more after a draw
pub own_more : (os : List Own) (x : ℕ × Event) → numbers_of os ≡ first_number os ∷ [] → first_entries (add_own x os) ≡ first_entries os ++ x ∷ []
own_more [] x one = absurd (cc)
own_more (p ∷ ps) x one = refl

pub number_more : (os : List Own) (x : ℕ × Event) → first_number (add_own x os) ≡ first_number os
number_more [] x = refl
number_more (p ∷ ps) x = refl

-- ---- accesses

makes_none : (a : Action) (t : ℕ) → IsAccess a → is_child t a ≡ true → ⊥
makes_none (Reads _ _) t is h = true≢false (sym h)
makes_none (Writes _ _) t is h = true≢false (sym h)
makes_none (Spawns _ _ _ _ _) t is h = is
makes_none (Creates _ _ _ _ _) t is h = is
makes_none (Syncs _) t is h = is
makes_none (Gets _ _ _) t is h = is
makes_none (Ends _) t is h = is

-- the holder of a task may ask for a ticket for an access of it
pub may_access : (v : View) (e : Event) → IsAccess e.action → 0 < carries e.task v.tasks → MayAskFor v e
may_access v e is carried = record { carried = carried; child = λ t h. absurd (makes_none e.action t is h) }

-- ---- what is known after a tell

-- a holder with this view has a task, of which this holds by the structural entries that it knows
pub record IsOut (code : Compiled) (book : List (ℕ × Event)) (task : TaskNow) (at : Strand) (table : List Strand) (view : View) : Type 0 where
  pub known : book_of view ≡ book
  pub tasks : view.tasks ≡ carried_task task.number (drawn_of task.trace.items) ∷ []
  pub holds : IsTaskIn code book task at table 1

pub out_carried : (code : Compiled) (book : List (ℕ × Event)) (task : TaskNow) (at : Strand) (table : List Strand) (view : View)
    → IsOut code book task at table view → 0 < carries task.number view.tasks
out_carried code book task at table view is =
    let mine = carried_task task.number (drawn_of task.trace.items) in
    subst (λ cs. 0 < carries task.number cs) (sym is.tasks) (carries_among mine (mine ∷ []) (inl refl))

pub out_at : (code : Compiled) (book : List (ℕ × Event)) (task : TaskNow) (at at' : Strand) (table table' : List Strand) (view : View)
    → (at' ≡ at) × (table' ≡ table) → IsOut code book task at table view → IsOut code book task at' table' view
out_at code book task at at' table table' view same is =
    subst (λ (a : Strand). IsOut code book task a table' view) (sym same.0) (subst (λ t. IsOut code book task at t view) (sym same.1) is)

module _ (clock : Ticking) (orders : TableId) (code : Compiled) (h : Seated) (r : Reading) (task : TaskNow) (place : Placed) (v : View) (log : List Insert)
    (rest : IsAtRest clock orders code h r) (job : AreOfJob clock orders code task place) (told : IsJoin h.view (split_off place.pass.view) v)
    (alike : AreAlike (book_of v) log) where
  pub told_begins : IsPrefix (book_of place.pass.view) (book_of v)
  told_begins = told.second 0

  told_tasks : v.tasks ≡ carried_task task.number (drawn_of task.trace.items) ∷ []
  told_tasks = ap (λ (x : View). x.tasks) told.view ∙ ap (λ cs. cs ++ place.pass.view.tasks) rest.none ∙ job.carried

  pub told_fits : (P : tree.Program) → IsWellTyped P → IsCodeOf P code → FitsProgram P (events_in (book_of v))
  told_fits P typed of = elim (book_is h.view (split_off place.pass.view) v told) [
    | inl same ↦ subst (λ l. FitsProgram P (events_in l)) (sym same) (rest.fits P typed of)
    | inr same ↦ subst (λ l. FitsProgram P (events_in l)) (sym same) (job.fits P typed of)
  ]

  pub told_out : IsOut code (book_of v) task place.at place.table v
  told_out =
      let known : List (ℕ × Event) = book_of place.pass.view in
      let trace : List (ℕ × Event) = drawn_of task.trace.items in
      let mine : Carried = carried_task task.number trace in
      let there : Among mine v.tasks = subst (λ cs. Among mine cs) (sym told_tasks) (inl refl) in
      let begins = told_begins in
      let has : (x : ℕ × Event) → Among x (known ++ begins.0) → x.1.task ≡ task.number → Among x trace =
      λ x a e. told.entries mine 0 x there (subst (λ l. Among x l) begins.1 a) e in
      let rises : Rises (known ++ begins.0) = subst Rises (sym begins.1) (told.rises 0) in
      let sound : IsSound (events_in (known ++ begins.0)) = subst (λ l. IsSound (events_in l)) (sym begins.1) alike.sound in
      let none = no_more known begins.0 trace task.number rises sound job.trace.structural has in
      record {
        known = refl;
        tasks = told_tasks;
        holds =
            subst (λ l. IsTaskIn code l task place.at place.table 1) begins.1
            (task_later code known begins.0 task place.at place.table 1 rises sound none
            (job_task clock orders code (record { task = task; place = place; pace = 1 }) job));
      }

  -- the reader's orders are those of what is known
  pub told_view : (at : Strand) (table : List Strand) → at ≡ place.at → table ≡ place.table
      → IsViewOf (events_in (book_of v)) table at (count_of log) (english_of log) (hebrew_of log)
  told_view at table at_is table_is =
      let is = told_out.holds.placed in
      record {
        sound = alike.sound;
        here = subst (λ (a : Strand). IsStrandOf (events_in (book_of v)) a) (sym at_is) is.0;
        table_is = subst (λ (a : Strand). HasTable (events_in (book_of v)) a.number table) (sym at_is)
            (subst (λ t. HasTable (events_in (book_of v)) place.at.number t) (sym table_is) is.1);
        orders = record {
          first = λ x y _ _ _. ap (λ l. stands_before x y l) alike.orders.english_is;
          second = λ x y _ _ _. ap (λ l. stands_before x y l) alike.orders.hebrew_is;
        };
      }

  -- they are known to it
  pub told_judge : (at : Strand) (table : List Strand) (kept : Kept) → at ≡ place.at → table ≡ place.table → AreKnown (count_of log) kept
      → CanJudge (count_of log) table at kept
  told_judge at table kept at_is table_is known =
      let is = told_out.holds.placed in
      record {
        here = (let lt = is.0.there in let n = alike.strands in let a = ap (λ (x : Strand). x.number) at_is in omega (arith, lt, n, a));
        table_known = λ w a.
            (let lt = (is.1.homes w (subst (λ t. Among w t) table_is a)).there in let n = alike.strands in omega (arith, lt, n));
        kept_known = known;
      }
