-- The tables of the strands on which tasks go on after a sync and after a get.
use Rattle.std.proofs.Common.{◌≡◌, ℕ, ◌+◌, ◌<◌, ◌≤◌, true, List, [], ◌∷◌, ◌++◌, length, inl, inr, subst, ap, sym, refl, ◌∙◌, arith}
use Rattle.std.specs.Prelude.{◌↔◌, Option, Some, None, IsSome, Result, Ok, Err, IfOk, slice_get}
use Rattle.std.specs.List.{cons_option}
use Rattle.std.proofs.lemmas.List.{append-nil}
use Rattle.std.proofs.lemmas.List.Elements.{filter_map-append}
use Rattle.std.proofs.lemmas.Option.{slice_get_cases}
use Rattle.order_list.specs.Sides.{Lists}
use Rattle.fut_base.specs.declared.record.Value.{Value}
use Rattle.fut_base.specs.declared.event.Event.{Event}
use Rattle.fut_base.specs.declared.event.Action.TheVariants.{Syncs, Gets}
use Rattle.fut_base.specs.Dag.{Among, last_of, block_of}
use Rattle.fut_base.specs.Sound.{IsSound, IsSoundPast, AllEnded, value_of}
use Rattle.fut_base.specs.Tables.{lasts_of}
use Rattle.fut_base.proofs.Members.{among_split}
use Rattle.strand_laws.proofs.Held.{is_task, value_ended}
use Rattle.strand_laws.proofs.Sources.{last_is, last_of_ended}
use Rattle.task_code.specs.Flat.{Compiled}
use Rattle.strand_tree.specs.declared.strand.Strand.{Strand}
use Rattle.strand_tree.specs.Placing.{AreOrders, IsStrandOf}
use Rattle.reach_table.specs.Telling.{HasTable, AllKnown, OrdersAgree}
use Rattle.reach_table.specs.Merging.{IsMergedOf, IsGreatest, together, listed}
use Rattle.reach_table.specs.Tabled.{AfterGet, MergesOneMore, AfterSync}
use Rattle.reach_table.proofs.Events.{merge_begins, orders_stay, after_sync}
use Rattle.run_place.specs.Placed.{events_in}
use Rattle.run_book.specs.Drawn.{past_in}
use Rattle.run_book.specs.Lines.{LineNow, Ended, IsEndOf}
use Rattle.run_book.specs.Tabling.{AreLines, end_by, end_in, IsKnownEnd, StandsBy, MergesEnds, TablesGet}
use Rattle.run_book.proofs.Stranding.{event_at, has_strands, sound_then, table_new, past_add}

-- a task ended on this strand, which has this table
pub record EndsAt (book : List (ℕ × Event)) (t : ℕ) (e : Ended) : Type 0 where
  pub last : last_of (past_in book) t ≡ Some e.at.number
  pub strand : IsStrandOf (events_in book) e.at
  pub has : HasTable (events_in book) e.at.number e.table

end_is : (book : List (ℕ × Event)) (t : ℕ) (o : Option Ended) (e : Ended) → IsEndOf book t o → o ≡ Some e → EndsAt book t e
end_is book t None e is same = absurd (cc)
end_is book t (Some x) e is same =
    let k : x ≡ e = cc in
    subst (λ (y : Ended). EndsAt book t y) k (record { last = is.0; strand = is.1; has = is.2 })

end_some : (book : List (ℕ × Event)) (t last : ℕ) (o : Option Ended) → IsEndOf book t o → last_of (past_in book) t ≡ Some last → (e : Ended) × (o ≡ Some e)
end_some book t last None is same = (let k : ◌≡◌ {A = Option ℕ} None (Some last) = sym is ∙ same in absurd (cc))
end_some book t last (Some e) is same = (e, refl)

-- what a line tells of the end of its task
pub line_ended : (code : Compiled) (book : List (ℕ × Event)) (lines : List LineNow) (t : ℕ) (e : Ended) → AreLines code book lines → end_in lines t ≡ Some e
    → EndsAt book t e
line_ended code book lines t e are is = go (slice_get lines t) refl
  where
    go : (o : Option LineNow) → slice_get lines t ≡ o → EndsAt book t e
    go None here = (let k : ◌≡◌ {A = Option Ended} None (Some e) = sym (ap (λ (q : Option LineNow). end_by q) here) ∙ is in absurd (cc))
    go (Some l) here = end_is book t l.last e (are.each t l here).last (sym (ap (λ (q : Option LineNow). end_by q) here) ∙ is)

-- the line of a task that has ended tells where
pub ended_line : (code : Compiled) (book : List (ℕ × Event)) (lines : List LineNow) (t last : ℕ) → IsSound (events_in book) → AreLines code book lines
    → last_of (past_in book) t ≡ Some last → (e : Ended) × (end_in lines t ≡ Some e)
ended_line code book lines t last sound are is =
    let low = is_task (past_in book) sound t (last_is (past_in book) sound t last is).0 in
    let all = are.all in
    elim ((slice_get_cases lines t).1) [
      | inl k ↦ (
          let here : slice_get lines t ≡ Some k.0 = k.2 in
          let found = end_some book t last k.0.last (are.each t k.0 here).last is in (
            found.0,
            ap (λ (q : Option LineNow). end_by q) here ∙ found.1,
          ))
      | inr k ↦ absurd (let far = k.0 in omega (arith, low, all, far))
    ]

pub some_of : {A : Type 0} → (o : Option A) → IsSome o → (x : A) × (o ≡ Some x)
some_of None is = absurd (cc)
some_of (Some x) is = (x, refl)

pub all_ended_split : (past : List Event) (xs ys : List ℕ) → AllEnded past (xs ++ ys) → AllEnded past xs × AllEnded past ys
all_ended_split past [] ys all = (tt, all)
all_ended_split past (x ∷ xs) ys all = (let k = all_ended_split past xs ys all.1 in ((all.0, k.0), k.1))

-- lists that are the orders have all strands in their order
agree_now : (s : List Event) (known : ℕ) (en he : List ℕ) → IsSound s → AreOrders s en he → OrdersAgree s known en he
agree_now s known en he sound are =
    let none : s ++ [] ≡ s = append-nil s in
    orders_stay s [] known en he (subst IsSound (sym none) sound) (subst (λ x. AreOrders x en he) (sym none) are)

-- of a strand's table alone all is left
pub merges_none : (lines : List LineNow) (lists : Lists) (old : List Strand) (own : ℕ) → MergesEnds lines lists old own [] old
merges_none lines lists old own code book at by all =
    subst (λ f. IsMergedOf (events_in book) f (at.number ∷ []) old) (sym by.own_is) (merge_begins (events_in book) at old by.sound by.strand by.has)

-- the table of one more last strand is merged
pub merges_more : (lines : List LineNow) (lists : Lists) (old : List Strand) (own t : ℕ) (tasks : List ℕ) (e : Ended) (table new : List Strand)
    → MergesEnds lines lists old own tasks table → end_in lines t ≡ Some e → MergesOneMore lists own table e.table None new
    → MergesEnds lines lists old own (tasks ++ t ∷ []) new
merges_more lines lists old own t tasks e table new before is more code book at by all =
    let s = events_in book in
    let past = past_in book in
    let first = before code book at by (all_ended_split past tasks (t ∷ []) all).0 in
    let k = line_ended code book lines t e by.lines_are is in
    let agree = agree_now s (length lists.english.order) lists.english.order lists.hebrew.order by.sound by.orders in
    let next = more s (at.number ∷ lasts_of past tasks) e.at.number by.sound first k.strand.there k.has refl agree in
    let one : lasts_of past (t ∷ []) ≡ e.at.number ∷ [] = ap (λ (o : Option ℕ). cons_option o []) k.last in
    let both : lasts_of past (tasks ++ t ∷ []) ≡ lasts_of past tasks ++ e.at.number ∷ [] =
    filter_map-append (λ (z : ℕ). last_of past z) tasks (t ∷ []) ∙ ap (λ xs. lasts_of past tasks ++ xs) one in
    subst (λ xs. IsMergedOf s own (at.number ∷ xs) new) (sym both) next

-- a task without an end is none of those that have ended
pub merges_not : (lines : List LineNow) (lists : Lists) (old : List Strand) (own t : ℕ) (tasks : List ℕ) (table : List Strand)
    → end_in lines t ≡ None → MergesEnds lines lists old own (tasks ++ t ∷ []) table
merges_not lines lists old own t tasks table none code book at by all =
    let past = past_in book in
    let last = some_of (last_of past t) (all_ended_split past tasks (t ∷ []) all).1.0 in
    let found = ended_line code book lines t last.0 by.sound by.lines_are last.1 in
    let k : ◌≡◌ {A = Option Ended} None (Some found.0) = sym none ∙ found.1 in
    absurd (cc)

pub if_ok : {X E : Type 0} (r : Result X E) (P Q : X → Type 0) → ((x : X) → P x → Q x) → IfOk r P → IfOk r Q
if_ok (Ok x) P Q f h = f x h
if_ok (Err e) P Q f h = tt

-- what is put together is known
pub known_together : (known : ℕ) (one : List Strand) (e : Ended) → AllKnown known one → AllKnown known (e.at ∷ e.table) → AllKnown known
    (together one e.table None)
known_together known one e first second w a = elim (among_split w (one ++ e.table) [] a) [
  | inl b ↦ elim (among_split w one e.table b) [ inl l ↦ first w l | inr r ↦ second w (inr r) ]
  | inr n ↦ absurd n
]

-- and with one more
pub known_together_last : (known : ℕ) (one : List Strand) (e : Ended) → AllKnown known one → AllKnown known (e.at ∷ e.table)
    → AllKnown known (together one e.table (Some e.at))
known_together_last known one e first second w a = elim (among_split w (one ++ e.table) (e.at ∷ []) a) [
  | inl b ↦ elim (among_split w one e.table b) [ inl l ↦ first w l | inr r ↦ second w (inr r) ]
  | inr (inl same) ↦ second w (inl same)
  | inr (inr n) ↦ absurd n
]

-- and so is what is left of it
pub known_merged : (known : ℕ) (lists : Lists) (own : ℕ) (all table : List Strand) → AllKnown known all
    → ((w : Strand) → Among w table ↔ IsGreatest lists own all w) → AllKnown known table
known_merged known lists own all table low iff w a = low w ((iff w).0 a).among

-- the strands of a table, and of a line's end, are known by the orders
pub known_table : (book : List (ℕ × Event)) (en he : List ℕ) (v : ℕ) (table : List Strand) → IsSound (events_in book) → AreOrders (events_in book) en he
    → HasTable (events_in book) v table → AllKnown (length en) table
known_table book en he v table sound are has w a =
    let low = (has.homes w a).there in
    let all = (has_strands book en he sound are).first in
    omega (arith, low, all)

pub known_end : (code : Compiled) (book : List (ℕ × Event)) (lines : List LineNow) (en he : List ℕ) (t : ℕ) → IsSound (events_in book)
    → AreOrders (events_in book) en he → AreLines code book lines → IsKnownEnd (length en) (end_in lines t)
known_end code book lines en he t sound orders are = go (end_in lines t) refl
  where
    go : (o : Option Ended) → end_in lines t ≡ o → IsKnownEnd (length en) o
    go None is = tt
    go (Some e) is = λ w a.
        let k = line_ended code book lines t e are is in
        elim a [
          | inl same ↦ (
              let low = k.strand.there in
              let all = (has_strands book en he sound orders).first in
              let here : e.at.number ≡ w.number = ap (λ (z : Strand). z.number) same in
              omega (arith, low, all, here))
          | inr b ↦ known_table book en he e.at.number e.table sound orders k.has w b
        ]

-- the table after a get of a future that has ended
pub tables_got : (lines : List LineNow) (lists : Lists) (old : List Strand) (own future : ℕ) (e : Ended) (new : List Strand) → end_in lines future ≡ Some e
    → AfterGet lists own old e.table (Some e.at) new → TablesGet lines lists old own future new
tables_got lines lists old own future e new is after code book at ticket task strand value by sound =
    let s = events_in book in
    let k = line_ended code book lines future e by.lines_are is in
    let agree = agree_now s (length lists.english.order) lists.english.order lists.hebrew.order by.sound by.orders in
    table_new book ticket task at.number (Gets future value strand) strand new
    (after s task future strand value at e.at (sound_then book ticket task at.number (Gets future value strand) sound) by.strand by.own_is by.has k.strand
    refl k.last
    k.has agree)

-- a future without an end can't be got
pub tables_not : (lines : List LineNow) (lists : Lists) (old : List Strand) (own future : ℕ) (new : List Strand) → end_in lines future ≡ None
    → TablesGet lines lists old own future new
tables_not lines lists old own future new none code book at ticket task strand value by sound =
    let past = past_in book in
    let turn = past_add book ticket (event_at task at.number (Gets future value strand)) in
    let now : IsSoundPast (event_at task at.number (Gets future value strand) ∷ past) = subst IsSoundPast turn sound in
    let got : value_of past future ≡ Some value = now.1.acts.1 in
    let last = last_of_ended past by.sound future (value_ended past by.sound future value got) in
    let found = ended_line code book lines future _ by.sound by.lines_are last in
    let k : ◌≡◌ {A = Option Ended} None (Some found.0) = sym none ∙ found.1 in
    absurd (cc)

-- the table after a sync
pub tables_synced : (code : Compiled) (book : List (ℕ × Event)) (lines : List LineNow) (lists : Lists) (at : Strand) (own ticket task strand : ℕ)
    (old new : List Strand)
    → StandsBy code book lines lists at own old → MergesEnds lines lists old own (block_of (past_in book) task) new
    → IsSound (events_in (book ++ (ticket, event_at task at.number (Syncs strand)) ∷ []))
    → AllEnded (past_in book) (block_of (past_in book) task)
    → HasTable (events_in (book ++ (ticket, event_at task at.number (Syncs strand)) ∷ [])) strand new
tables_synced code book lists_of lists at own ticket task strand old new by merges sound all =
    let left = subst (λ f. IsMergedOf (events_in book) f (at.number ∷ lasts_of (past_in book) (block_of (past_in book) task)) new) by.own_is
    (merges code book at by all) in
    table_new book ticket task at.number (Syncs strand) strand new
    (after_sync (events_in book) task strand at new (sound_then book ticket task at.number (Syncs strand) sound) by.strand left)
