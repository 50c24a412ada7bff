-- What an access did, when its task was given back.
use Rattle.std.proofs.Common.{◌≡◌, ◌≢◌, ℕ, ◌+◌, ◌<◌, ◌≤◌, List, [], ◌∷◌, ◌++◌, reverse, inl, inr, ◌⊎◌, subst, ap, sym, refl, ◌∙◌, arith}
use Rattle.std.specs.Prelude.{Some}
use Rattle.atomic_table.specs.Seated.{TableId}
use Rattle.fut_base.specs.declared.event.Event.{Event}
use Rattle.fut_base.specs.declared.event.Action.{Action}
use Rattle.fut_base.specs.declared.event.Action.TheVariants.{Reads, Writes, Spawns, Creates, Syncs, Gets, Ends}
use Rattle.fut_base.specs.Dag.{Among, last_of}
use Rattle.fut_base.specs.Sound.{IsSound, current, next_strand}
use Rattle.fut_syntax.specs.Trees as tree
use Rattle.fut_check.specs.Items.{IsWellTyped}
use Rattle.task_machine.specs.State.{wish_of, Answers}
use Rattle.task_code.specs.Flat.{Compiled, IsCodeOf}
use Rattle.task_code.specs.Tasks.{TaskNow}
use Rattle.strand_tree.specs.declared.strand.Strand.{Strand}
use Rattle.access_shards.specs.Touches.{Touch}
use Rattle.access_shards.specs.Kept.{Kind, IsViewOf, MayCome, touch}
use Rattle.access_shards.specs.Logged.{Logged, IsLogOf, KeepsOneMore}
use Rattle.access_shards.specs.Histories.{IsStanding}
use Rattle.event_clock.specs.declared.view.View.{View}
use Rattle.event_clock.specs.declared.view.Carried.{Carried}
use Rattle.event_clock.specs.declared.view.Own.{Own}
use Rattle.event_clock.specs.Views.{list_at, with_child, with_entry, only_task, without_task, numbers_of, first_number, first_entries, number_of, own_list, drawn, turned_away, after_note, after_split, noted, split_off, IsAbove}
use Rattle.event_clock.specs.Rule.{IsPrefix, IsJoin}
use Rattle.event_clock.specs.Seated.{Ticking, Seated}
use Rattle.event_clock.proofs.Lists.{add_else}
use Rattle.order_query.specs.declared.view.Insert.{Insert}
use Rattle.order_query.specs.Logs.{StartsWith, count_of, english_of, hebrew_of}
use Rattle.order_query.specs.Reading.{Reading}
use Rattle.run_place.specs.Placed.{Placed, IsPlace, AreAlike, book_of, events_in}
use Rattle.run_book.specs.Drawn.{drawn_of, past_in}
use Rattle.run_book.specs.Jobs.{FitsProgram, IsStarted, IsTraceBy, Stands, IsTaskIn}
use Rattle.run_book.specs.Steps.{IsSameTask}
use Rattle.run_book.proofs.Carrying.{carried_task, entry_last, without_last, only_last}
use Rattle.run_book.proofs.Handles.{runs_by}
use Rattle.run_book.proofs.Touching.{task_touched}
use Rattle.run_book.proofs.Touching as touching
use Rattle.run_shard.specs.declared.did.Did.{Did}
use Rattle.run_shard.specs.declared.did.Did.TheVariants as did
use Rattle.run_shard.specs.Turns.{AreOfJob, IsAccess, kind_by, IsSameReader, IsAtRest, HasTurned, HasTaken, HasDrawn, IsSameLog, IsAdded, IsUnmade, HasMade}
use Rattle.run_shard.specs.Dids.{IsSamePlace, Learns, LearnsBy}
use Rattle.run_shard.proofs.Judging.{same_log}
use Rattle.run_shard.proofs.Told.{IsOut, book_joined, own_known, own_more, number_more, out_at, told_out, told_fits, told_view}

-- ---- a draw

access_is : (a : Action) → IsAccess a → touching.IsAccess a
access_is (Reads _ _) is = tt
access_is (Writes _ _) is = tt
access_is (Spawns _ _ _ _ _) is = is
access_is (Creates _ _ _ _ _) is = is
access_is (Syncs _) is = is
access_is (Gets _ _ _) is = is
access_is (Ends _) is = is

no_child : (a : Action) (cs : List Carried) → IsAccess a → with_child a cs ≡ cs
no_child (Reads _ _) cs is = refl
no_child (Writes _ _) cs is = refl
no_child (Spawns _ _ _ _ _) cs is = absurd is
no_child (Creates _ _ _ _ _) cs is = absurd is
no_child (Syncs _) cs is = absurd is
no_child (Gets _ _ _) cs is = absurd is
no_child (Ends _) cs is = absurd is

one_task : (n m : ℕ) (xs ys : List (ℕ × Event)) → n ≡ m → xs ≡ ys → carried_task n xs ∷ [] ≡ carried_task m ys ∷ []
one_task n m xs ys a b = ap (λ k. carried_task k xs ∷ []) a ∙ ap (λ l. carried_task m l ∷ []) b

module _ (bound : ℕ) (code : Compiled) (e : Event) (table : List Strand) (at : Strand) (known : ℕ) (english hebrew : List ℕ) (h h' : Seated) (l l' : Logged) (t t' : TaskNow) where
  -- the holder has the task still, of which the same holds with one more entry
  pub drawn_out : (book : List (ℕ × Event)) (d : Did) → HasDrawn bound code e table at known english hebrew h h' l l' t t' d → IsOut code book t at table h.view
      → e.task ≡ t.number → e.strand ≡ at.number → IsAccess e.action → Stands code t (λ P w. Answers w e.action) → number_of h.view ≢ 0
      → IsOut code book t' at table h'.view
  drawn_out book did.Done x is own strand access stands other =
      let (ticket, below, above, view_is, keeps, taken) = x in
      let trace : List (ℕ × Event) = drawn_of t.trace.items in
      record {
        known = ap (λ (v : View). book_of v) view_is ∙ add_else (number_of h.view) 0 (ticket, e) h.view.known other ∙ is.known;
        tasks =
            ap (λ (v : View). v.tasks) view_is ∙ no_child e.action (with_entry (ticket, e) h.view.tasks) access
            ∙ ap (λ cs. with_entry (ticket, e) cs) is.tasks ∙ entry_last (ticket, e) [] t.number trace own refl
            ∙ one_task t.number t'.number (trace ++ (ticket, e) ∷ []) (drawn_of t'.trace.items) (sym taken.number) (sym taken.trace);
        holds =
            task_touched code book t at table 1 ticket e t' 1 is.holds own strand (access_is e.action access)
            (λ y a. above.known 0 y (subst (λ m. Among y m) (sym is.known) a)) stands taken.number taken.which taken.ended taken.trace taken.state refl;
      }
  drawn_out book (did.Spent ticket) x is own strand access stands other =
      let (bounded, view_is, same_l, same_t) = x in
      subst (λ u. IsOut code book u at table h'.view) (sym same_t)
      (record { known = ap (λ (v : View). book_of v) view_is ∙ is.known; tasks = ap (λ (v : View). v.tasks) view_is ∙ is.tasks; holds = is.holds })
  drawn_out book did.NoMemory x is own strand access stands other = absurd x

  pub drawn_number : (d : Did) → HasDrawn bound code e table at known english hebrew h h' l l' t t' d → number_of h'.view ≡ number_of h.view
  drawn_number did.Done x = let (ticket, below, above, view_is, keeps, taken) = x in ap (λ (v : View). number_of v) view_is ∙ number_more h.view.own (ticket, e)
  drawn_number (did.Spent ticket) x = ap (λ (v : View). number_of v) x.1
  drawn_number did.NoMemory x = absurd x

-- a reader that has the same orders is the same view, and tells of the same entries
view_loaded : (s : List Event) (table : List Strand) (at : Strand) (r r' : Reading) → IsSameReader r r'
    → IsViewOf s table at (count_of r.log) (english_of r.log) (hebrew_of r.log) → IsViewOf s table at (count_of r'.log) (english_of r'.log) (hebrew_of r'.log)
view_loaded s table at r r' same is =
    subst (λ n. IsViewOf s table at n (english_of r'.log) (hebrew_of r'.log)) (sym same.count)
    (subst (λ l. IsViewOf s table at (count_of r.log) l (hebrew_of r'.log)) (sym same.english)
    (subst (λ l. IsViewOf s table at (count_of r.log) (english_of r.log) l) (sym same.hebrew) is))

pub alike_loaded : (book : List (ℕ × Event)) (r r' : Reading) → IsSameReader r r' → AreAlike book r.log → AreAlike book r'.log
alike_loaded book r r' same is =
    record {
      sound = is.sound;
      strands = same.count ∙ is.strands;
      orders = record { english_is = same.english ∙ is.orders.english_is; hebrew_is = same.hebrew ∙ is.orders.hebrew_is };
    }

-- ---- what was known, told, drawn and given back

pub record IsCall (clock : Ticking) (orders : TableId) (code : Compiled) (bound : ℕ) (e : Event) (h h1 h2 h3 : Seated) (r r1 r2 r3 : Reading) (l l1 l2 : Logged)
    (t t1 t2 : TaskNow) (p p1 p2 : Placed) (d : Did) : Type 0 where
  -- the holder and the task that has room now; the log and the task before
  pub rest : IsAtRest clock orders code h r
  pub job : AreOfJob clock orders code t1 p
  pub log : IsSameLog l l1
  pub task : IsSameTask t t1
  pub own : (e.task ≡ t.number) × (e.strand ≡ p.at.number)
  pub access : IsAccess e.action
  pub stands : Stands code t1 (λ P w. Answers w e.action)
  -- what the holder was told
  pub told : IsJoin h.view (split_off p.pass.view) h1.view
  pub told_own : h1.view.own ≡ h.view.own
  pub one : numbers_of h1.view.own ≡ number_of h1.view ∷ []
  pub told_home : (h1.clock ≡ h.clock) × (r1.home ≡ r.home)
  pub alike : AreAlike (book_of h1.view) r1.log
  pub told_at : (p1.at ≡ p.at) × (p1.table ≡ p.table)
  pub told_place : (p1.pass ≡ record { clock = clock.id; view = after_split p.pass.view }) × (p1.reader ≡ p.reader)
  -- the draw
  pub drew : HasDrawn bound code e p1.table p1.at (count_of r2.log) (english_of r2.log) (hebrew_of r2.log) h1 h2 l1 l2 t1 t2 d
  pub loaded : IsSameReader r1 r2
  pub drew_home : h2.clock ≡ h1.clock
  -- what the task was given back
  pub back : IsJoin p1.pass.view (noted t2.number h2.view) p2.pass.view
  pub back_at : (p2.at ≡ p1.at) × (p2.table ≡ p1.table)
  pub knew : StartsWith p2.reader.log p1.reader.log
  pub placed : IsPlace clock orders p2
  pub given : (h3.view ≡ after_note t2.number h2.view) × (h3.clock ≡ h2.clock)
  pub given_reader : r3 ≡ r2

module _ (clock : Ticking) (orders : TableId) (code : Compiled) (bound : ℕ) (e : Event) (h h1 h2 h3 : Seated) (r r1 r2 r3 : Reading) (l l1 l2 : Logged)
    (t t1 t2 : TaskNow) (p p1 p2 : Placed) (d : Did) (c : IsCall clock orders code bound e h h1 h2 h3 r r1 r2 r3 l l1 l2 t t1 t2 p p1 p2 d) where
  abbrev book : List (ℕ × Event)
  book = book_of h1.view

  told : IsOut code book t1 p1.at p1.table h1.view
  told = out_at code book t1 p.at p1.at p.table p1.table h1.view c.told_at (told_out clock orders code h r t1 p h1.view r1.log c.rest c.job c.told c.alike)

  fits : (P : tree.Program) → IsWellTyped P → IsCodeOf P code → FitsProgram P (events_in book)
  fits = told_fits clock orders code h r t1 p h1.view r1.log c.rest c.job c.told c.alike

  view : IsViewOf (events_in book) p1.table p1.at (count_of r2.log) (english_of r2.log) (hebrew_of r2.log)
  view = view_loaded (events_in book) p1.table p1.at r1 r2 c.loaded
      (told_view clock orders code h r t1 p h1.view r1.log c.rest c.job c.told c.alike p1.at p1.table c.told_at.0 c.told_at.1)

  own_task : e.task ≡ t1.number
  own_task = c.own.0 ∙ sym c.task.number

  own_strand : e.strand ≡ p1.at.number
  own_strand = c.own.1 ∙ ap (λ (a : Strand). a.number) (sym c.told_at.0)

  number_told : number_of h1.view ≡ number_of h.view
  number_told = ap (λ (os : List Own). first_number os) c.told_own

  other_told : number_of h1.view ≢ 0
  other_told z = c.rest.other (sym number_told ∙ z)

  out : IsOut code book t2 p1.at p1.table h2.view
  out = drawn_out bound code e p1.table p1.at (count_of r2.log) (english_of r2.log) (hebrew_of r2.log) h1 h2 l1 l2 t1 t2 book d c.drew told own_task own_strand
      c.access c.stands other_told

  number_given : number_of h3.view ≡ number_of h.view
  number_given =
      ap (λ (v : View). number_of v) c.given.0
      ∙ drawn_number bound code e p1.table p1.at (count_of r2.log) (english_of r2.log) (hebrew_of r2.log) h1 h2 l1 l2 t1 t2 d c.drew ∙ number_told

  book_given : book_of h3.view ≡ book
  book_given = ap (λ (v : View). book_of v) c.given.0 ∙ out.known

  known_split : p1.pass.view ≡ after_split p.pass.view
  known_split = ap (λ (s : Seated). s.view) c.told_place.0

  begins_back : IsPrefix (book_of p1.pass.view) (book_of (noted t2.number h2.view))
  begins_back = subst (λ m. IsPrefix m (book_of (noted t2.number h2.view))) (sym (ap (λ (v : View). book_of v) known_split))
      (subst (λ m. IsPrefix (book_of p.pass.view) m) (sym out.known) (c.told.second 0))

  book_back : book_of p2.pass.view ≡ book
  book_back = book_joined p1.pass.view (noted t2.number h2.view) p2.pass.view c.back begins_back ∙ out.known

  -- the task is a job again
  pub call_job : AreOfJob clock orders code t2 p2
  call_job =
      record {
        program = out.holds.program;
        running = out.holds.running;
        unended = out.holds.unended;
        carried =
            ap (λ (v : View). v.tasks) c.back.view
            ∙ ap (λ (v : View). v.tasks ++ only_task t2.number h2.view.tasks) known_split
            ∙ ap (λ cs. only_task t2.number cs) out.tasks ∙ only_last t2.number [] (drawn_of t2.trace.items) refl;
        fits = subst (λ m. (P : tree.Program) → IsWellTyped P → IsCodeOf P code → FitsProgram P (events_in m)) (sym book_back) fits;
        started = subst (λ m. IsStarted code m t2) (sym book_back) out.holds.started;
        trace = subst (λ m. IsTraceBy m t2.number (drawn_of t2.trace.items)) (sym book_back) out.holds.trace;
        place = c.placed;
        strand = subst (λ m. current (past_in m) t2.number ≡ Some p2.at.number) (sym book_back)
            (out.holds.strand ∙ ap (λ (a : Strand). Some a.number) (sym c.back_at.0));
        few = omega arith;
        paced = λ zero. absurd (omega (arith, zero));
      }

  -- the holder has no task, and knows no less
  pub call_turned : HasTurned clock orders code h h3 r3
  call_turned =
      record {
        rest = record {
          home = (
            c.given.1 ∙ c.drew_home ∙ c.told_home.0 ∙ c.rest.home.0,
            ap (λ (s : Reading). s.home) c.given_reader ∙ c.loaded.home ∙ c.told_home.1 ∙ c.rest.home.1,
          );
          other = λ z. c.rest.other (sym number_given ∙ z);
          none = ap (λ (v : View). v.tasks) c.given.0 ∙ ap (λ cs. without_task t2.number cs) out.tasks
              ∙ without_last t2.number [] (drawn_of t2.trace.items) refl;
          alike = subst (λ m. AreAlike m r3.log) (sym book_given)
              (subst (λ (s : Reading). AreAlike book s.log) (sym c.given_reader)
              (alike_loaded book r1 r2 c.loaded c.alike));
          fits = subst (λ m. (P : tree.Program) → IsWellTyped P → IsCodeOf P code → FitsProgram P (events_in m)) (sym book_given) fits;
        };
        number = number_given;
        begins = subst (λ m. IsPrefix (book_of h.view) m) (sym book_given) (c.told.first 0);
      }

  -- its place is where it was, and knows no less
  pub call_place : IsSamePlace p p2
  call_place =
      record {
        strand = c.back_at.0 ∙ c.told_at.0;
        table = c.back_at.1 ∙ c.told_at.1;
        pass = λ k. subst (λ (v : View). IsPrefix (list_at v.known k) (list_at p2.pass.view.known k)) known_split (c.back.first k);
        reader = subst (λ (s : Reading). StartsWith p2.reader.log s.log) c.told_place.1 c.knew;
      }

  learns : Learns h3.view p2
  learns k = subst (λ (v : View). IsPrefix (list_at v.known k) (list_at p2.pass.view.known k)) (sym c.given.0) (c.back.second k)

  learns_by : (x : Did) → LearnsBy x h3.view p2
  learns_by did.Done = learns
  learns_by (did.Spent ticket) = learns
  learns_by did.NoMemory = tt

  pub call_learns : LearnsBy d h3.view p2
  call_learns = learns_by d

  own_given : own_list h3.view ≡ own_list h2.view
  own_given = ap (λ (v : View). own_list v) c.given.0

  own_told : own_list h1.view ≡ own_list h.view
  own_told = ap (λ (os : List Own). first_entries os) c.told_own

  abbrev mine : Carried
  mine = carried_task t1.number (drawn_of t1.trace.items)

  mine_there : Among mine h1.view.tasks
  mine_there = subst (λ cs. Among mine cs) (sym told.tasks) (inl refl)

  drawn_before : drawn_of t1.trace.items ≡ drawn_of t.trace.items
  drawn_before = ap drawn_of c.task.trace

  -- what the ticket is above
  above_all : (ticket : ℕ) → IsAbove ticket h1.view → (x : ℕ × Event)
      → Among x (own_list h.view) ⊎ (Among x (book_of h3.view) ⊎ Among x (drawn_of t.trace.items)) → x.0 < ticket
  above_all ticket above x (inl a) =
      above.known (number_of h1.view) x
      (subst (λ m. Among x m) (sym (own_known h1.view.own h1.view.known c.told.whole c.one ∙ own_told)) a)
  above_all ticket above x (inr (inl a)) = above.known 0 x (subst (λ m. Among x m) book_given a)
  above_all ticket above x (inr (inr a)) = above.traces mine x mine_there (subst (λ m. Among x m) (sym drawn_before) a)

  past_is : past_in (book_of h3.view) ≡ past_in book
  past_is = ap past_in book_given

  standing : IsStanding (past_in (book_of h3.view)) e
  standing = subst (λ m. IsStanding m e) (sym past_is)
      (record {
        stands = ap (λ n. current (past_in book) n) own_task ∙ told.holds.strand ∙ ap (λ n. Some n) (sym own_strand);
        running = ap (λ n. last_of (past_in book) n) own_task ∙ runs_by book t1.number (drawn_of t1.trace.items) told.holds.trace told.holds.unended;
      })

  kept_now : (ticket : ℕ) → KeepsOneMore p1.table p1.at ticket (kind_by e.action) (count_of r2.log) (english_of r2.log) (hebrew_of r2.log) l1 l2
      → (past : List (Touch Kind)) → MayCome (events_in (book_of h3.view)) past p.at ticket (kind_by e.action) → IsLogOf (events_in (book_of h3.view)) past l
      → IsLogOf (events_in (book_of h3.view)) (touch ticket p.at.number (kind_by e.action) ∷ past) l2
  kept_now ticket keeps past may is =
      let s = events_in (book_of h3.view) in
      let same : events_in book ≡ s = ap events_in (sym book_given) in
      let v : IsViewOf s p1.table p1.at (count_of r2.log) (english_of r2.log) (hebrew_of r2.log) =
      subst (λ m. IsViewOf m p1.table p1.at (count_of r2.log) (english_of r2.log) (hebrew_of r2.log)) same view in
      subst (λ (a : Strand). IsLogOf s (touch ticket a.number (kind_by e.action) ∷ past) l2) c.told_at.0
      (keeps s past v (subst (λ (a : Strand). MayCome s past a ticket (kind_by e.action)) (sym c.told_at.0) may) (same_log s past l l1 c.log is))

  made : (x : Did) → HasDrawn bound code e p1.table p1.at (count_of r2.log) (english_of r2.log) (hebrew_of r2.log) h1 h2 l1 l2 t1 t2 x
      → HasMade bound e p.at h h3 l l2 t t2 x
  made did.Done x =
      let (ticket, below, above, view_is, keeps, taken) = x in
      record {
        ticket = ticket;
        below = below;
        later = above_all ticket above;
        made = own_given ∙ ap (λ (v : View). own_list v) view_is ∙ own_more h1.view.own (ticket, e) c.one ∙ ap (λ m. m ++ (ticket, e) ∷ []) own_told;
        stands = standing;
        there = subst (λ m. e.strand < next_strand m) (sym past_is)
            (let lt = told.holds.placed.0.there in omega (arith, lt, own_strand));
        number = (taken.number ∙ c.task.number, taken.which ∙ c.task.which);
        trace = taken.trace ∙ ap (λ m. m ++ (ticket, e) ∷ []) drawn_before;
        kept = kept_now ticket keeps;
      }
  made (did.Spent ticket) x =
      let (bounded, view_is, same_l, same_t) = x in (
        bounded,
        ap (λ (v : View). v.late) c.given.0 ∙ ap (λ (v : View). v.late) view_is,
        record {
          own = own_given ∙ ap (λ (v : View). own_list v) view_is ∙ own_told;
          log = subst (λ k. IsSameLog l k) (sym same_l) c.log;
          task = subst (λ k. IsSameTask t k) (sym same_t) c.task;
        },
      )
  made did.NoMemory x = absurd x

  pub call_made : HasMade bound e p.at h h3 l l2 t t2 d
  call_made = made d c.drew
