-- What the calls inside an access ask for, and a call that was refused before the shard was told anything.
use Rattle.std.proofs.Common.{◌≡◌, ◌≢◌, ℕ, ◌+◌, ◌<◌, ◌≤◌, List, [], ◌∷◌, ◌++◌, subst, ap, sym, refl, ◌∙◌, arith}
use Rattle.std.specs.Prelude.{false}
use Rattle.std.proofs.lemmas.List.{append-nil}
use Rattle.atomic_table.specs.Seated.{TableId}
use Rattle.fut_base.specs.declared.event.Event.{Event}
use Rattle.task_machine.specs.State.{Answers}
use Rattle.task_code.specs.Flat.{Compiled}
use Rattle.task_code.specs.Tasks.{TaskNow}
use Rattle.strand_tree.specs.declared.strand.Strand.{Strand}
use Rattle.access_shards.specs.Kept.{AreKnown}
use Rattle.access_shards.specs.Logged.{Logged}
use Rattle.event_clock.specs.declared.view.View.{View}
use Rattle.event_clock.specs.declared.view.Own.{Own}
use Rattle.event_clock.specs.Views.{list_at, carries, first_number, number_of, split_off, MayAskFor}
use Rattle.event_clock.specs.Rule.{IsJoin}
use Rattle.event_clock.specs.Seated.{Ticking, Seated}
use Rattle.event_clock.proofs.Lists.{prefix_self}
use Rattle.order_query.specs.Logs.{count_of, english_of, hebrew_of}
use Rattle.order_query.specs.Reading.{Reading}
use Rattle.run_place.specs.Placed.{Placed, AreAlike, book_of}
use Rattle.run_book.specs.Jobs.{Stands}
use Rattle.run_book.specs.Steps.{IsSameTask}
use Rattle.run_shard.specs.declared.did.Did.{Did}
use Rattle.run_shard.specs.Turns.{AreOfJob, IsAccess, CanJudge, IsSameReader, IsAtRest, HasTurned, HasDrawn}
use Rattle.run_shard.specs.Dids.{IsSamePlace}
use Rattle.run_shard.proofs.Judging.{known_more, strands_grow}
use Rattle.run_shard.proofs.Told.{IsOut, out_carried, out_at, may_access, told_out, told_judge}
use Rattle.run_shard.proofs.Given.{drawn_out, alike_loaded}

-- ---- nothing was told

pub turned_nowhere : (clock : Ticking) (orders : TableId) (code : Compiled) (h : Seated) (r : Reading) → IsAtRest clock orders code h r
    → HasTurned clock orders code h h r
turned_nowhere clock orders code h r rest = record { rest = rest; number = refl; begins = prefix_self (book_of h.view) }

pub place_same : (p : Placed) → IsSamePlace p p
place_same p = record { strand = refl; table = refl; pass = λ h. prefix_self (list_at p.pass.view.known h); reader = ([], sym (append-nil p.reader.log)) }

-- a draw at a place and by a clock and a code that are those of the run
pub drawn_as : (clock now : Ticking) (code code_now : Compiled) (e : Event) (p inside : Placed) (r : Reading) (h h' : Seated) (l l' : Logged)
    (t t' : TaskNow) (d : Did)
    → now ≡ clock → code_now ≡ code → inside ≡ p
    → HasDrawn now.size.bound code_now e inside.table inside.at (count_of r.log) (english_of r.log) (hebrew_of r.log) h h' l l' t t' d
    → HasDrawn clock.size.bound code e p.table p.at (count_of r.log) (english_of r.log) (hebrew_of r.log) h h' l l' t t' d
drawn_as clock now code code_now e p inside r h h' l l' t t' d clock_is code_is place_is drew =
    let known = count_of r.log in
    let english = english_of r.log in
    let hebrew = hebrew_of r.log in
    subst (λ (q : Placed). HasDrawn clock.size.bound code e q.table q.at known english hebrew h h' l l' t t' d) place_is
    (subst (λ (k : Ticking). HasDrawn k.size.bound code e inside.table inside.at known english hebrew h h' l l' t t' d) clock_is
    (subst (λ (k : Compiled). HasDrawn now.size.bound k e inside.table inside.at known english hebrew h h' l l' t t' d) code_is drew))

-- ---- the holder was told

module _ (clock : Ticking) (orders : TableId) (code : Compiled) (e : Event) (h h1 : Seated) (r r1 : Reading) (l l1 : Logged) (t t1 : TaskNow) (p p1 : Placed)
    (rest : IsAtRest clock orders code h r) (job : AreOfJob clock orders code t1 p) (same : IsSameTask t t1)
    (own : (e.task ≡ t.number) × (e.strand ≡ p.at.number)) (access : IsAccess e.action) (told : IsJoin h.view (split_off p.pass.view) h1.view)
    (alike : AreAlike (book_of h1.view) r1.log) (at : (p1.at ≡ p.at) × (p1.table ≡ p.table)) where
  out : IsOut code (book_of h1.view) t1 p1.at p1.table h1.view
  out = out_at code (book_of h1.view) t1 p.at p1.at p.table p1.table h1.view at (told_out clock orders code h r t1 p h1.view r1.log rest job told alike)

  own_task : e.task ≡ t1.number
  own_task = own.0 ∙ sym same.number

  pub call_asks : MayAskFor h1.view e
  call_asks =
      may_access h1.view e access
      (subst (λ n. 0 < carries n h1.view.tasks) (sym own_task) (out_carried code (book_of h1.view) t1 p1.at p1.table h1.view out))

  grows : count_of r.log ≤ count_of r1.log
  grows =
      let a = rest.alike.strands in
      let b = alike.strands in
      let more = strands_grow (book_of h.view) (book_of h1.view) (told.first 0) in
      omega (arith, a, b, more)

  pub call_judges : AreKnown (count_of r.log) l.kept → l1.kept ≡ l.kept → CanJudge (count_of r1.log) p1.table p1.at l1.kept
  call_judges known kept =
      told_judge clock orders code h r t1 p h1.view r1.log rest job told alike p1.at p1.table l1.kept at.0 at.1
      (subst (λ k. AreKnown (count_of r1.log) k) (sym kept) (known_more l.kept (count_of r.log) (count_of r1.log) grows known))

  pub call_unended : t1.spot.ended ≡ false
  call_unended = out.holds.running

  module _ (bound : ℕ) (h2 : Seated) (r2 : Reading) (l2 : Logged) (t2 : TaskNow) (d : Did) (stands : Stands code t1 (λ P w. Answers w e.action))
      (told_own : h1.view.own ≡ h.view.own)
      (drew : HasDrawn bound code e p1.table p1.at (count_of r2.log) (english_of r2.log) (hebrew_of r2.log) h1 h2 l1 l2 t1 t2 d) where
    kept_out : IsOut code (book_of h1.view) t2 p1.at p1.table h2.view
    kept_out =
        drawn_out bound code e p1.table p1.at (count_of r2.log) (english_of r2.log) (hebrew_of r2.log) h1 h2 l1 l2 t1 t2 (book_of h1.view) d drew out own_task
        (own.1 ∙ ap (λ (a : Strand). a.number) (sym at.0)) access stands
        (λ z. rest.other (sym (ap (λ (os : List Own). first_number os) told_own) ∙ z))

    pub call_carries : 0 < carries t2.number h2.view.tasks
    call_carries = out_carried code (book_of h1.view) t2 p1.at p1.table h2.view kept_out

    pub call_alike : IsSameReader r1 r2 → AreAlike (book_of h2.view) r2.log
    call_alike loaded = subst (λ m. AreAlike m r2.log) (sym kept_out.known) (alike_loaded (book_of h1.view) r1 r2 loaded alike)
