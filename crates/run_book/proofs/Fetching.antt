-- The job of a call that is held, and what its task becomes.
use Rattle.std.proofs.Common.{◌≡◌, ℕ, ◌+◌, ◌<◌, ◌≤◌, false, List, [], ◌∷◌, ◌++◌, refl, sym, ap, ◌∙◌, subst}
use Rattle.std.specs.Prelude.{Some, None, slice_get}
use Rattle.std.proofs.lemmas.List.{map-append}
use Rattle.fut_base.specs.declared.limits.TheConstants.{MOST_LOCAL_STEPS}
use Rattle.fut_base.specs.declared.record.Entry.{Entry}
use Rattle.fut_base.specs.declared.record.Value.{Value}
use Rattle.fut_base.specs.declared.event.Event.{Event}
use Rattle.fut_base.specs.declared.event.Action.{Action}
use Rattle.fut_base.specs.Events.{event_of}
use Rattle.fut_syntax.specs.Trees as tree
use Rattle.task_machine.specs.State.{TaskState, Wish, ToRead, ToWrite, ToSpawn, ToCreate, ToSync, ToGet, ToEnd, wish_of, effect_of, Answers}
use Rattle.task_machine.specs.Runs.{StandsAt, IsMost}
use Rattle.task_types.specs.Typed.{ActionFits, any_future}
use Rattle.task_frame.specs.Frames.{Held}
use Rattle.task_code.specs.declared.task.Spot.{Spot}
use Rattle.task_code.specs.declared.task.Wish as declared
use Rattle.task_code.specs.declared.task.Wish.TheVariants as wish
use Rattle.task_code.specs.Flat.{Compiled, IsCodeOf, code_of}
use Rattle.task_code.specs.Tasks.{TaskNow, IsTaskOf, IsStill, IsTold, Wishes, moves}
use Rattle.event_clock.specs.declared.view.View.{View}
use Rattle.event_clock.specs.Views.{noted}
use Rattle.event_clock.specs.Rule.{IsJoin}
use Rattle.order_query.specs.Logs.{StartsWith}
use Rattle.order_query.specs.Reading.{Reading}
use Rattle.strand_tree.specs.declared.strand.Strand.{Strand}
use Rattle.run_place.specs.Placed.{Placed}
use Rattle.run_book.specs.Drawn.{drawn_of}
use Rattle.run_book.specs.Jobs.{JobNow, IsStarted, Stands}
use Rattle.run_book.specs.Steps.{IsSameTask, IsBack}
use Rattle.run_book.proofs.Advancing.{told_at, HasAdvanced, HasRoomNow, stands_advanced, stands_same}
use Rattle.run_book.proofs.Turning.{given_back}
use Rattle.run_book.proofs.Gone.{IsOfCall}

-- a task that told its wish to get stands there
pub wishes_get : (code now : Compiled) (task : TaskNow) (limit future : ℕ) → now ≡ code → IsMost limit
    → ((P : tree.Program) (args : List Value) (s : TaskState) → IsCodeOf P now → IsTaskOf P now args task s → Wishes P limit s (wish.Get future))
    → Stands code task (λ P w. w ≡ ToGet future)
wishes_get code now task limit future same most tells =
    subst (λ k. Stands k task (λ P w. w ≡ ToGet future)) same (λ P args s typed of x. (let k = tells P args s of x in (k.0, (limit, most, k.1), k.2)))

-- a task that stands at a get told that it does
module _ (code : Compiled) (book : List (ℕ × Event)) (task : TaskNow) (program : (P : tree.Program) × IsCodeOf P code) (started : IsStarted code book task)
    (stands : Stands code task (λ P w. (future : ℕ) × (w ≡ ToGet future))) where
  abbrev Tells : declared.Wish → Type 0
  Tells w = (P : tree.Program) (args : List Value) (s : TaskState) → IsCodeOf P code → IsTaskOf P code args task s → Wishes P MOST_LOCAL_STEPS s w

  told : (w : declared.Wish) → Tells w → (u : Wish) × IsTold w u × ((future : ℕ) × (u ≡ ToGet future))
  told w tells =
      let P = program.0 in
      let of = program.1 in
      let s = started P of.typed of in
      let at = stands P s.0 s.1 of.typed of s.3 in
      (wish_of P at.0, told_at P s.1 at.0 w (tells P s.0 s.1 of s.3) at.1, at.2)

  pub tells_get : (w : declared.Wish) → Tells w → (future : ℕ) × (w ≡ wish.Get future)
  tells_get (wish.Read cell) tells = absurd (let t = told (wish.Read cell) tells in let e : ToRead cell ≡ ToGet t.2.0 = sym t.1 ∙ t.2.1 in cc)
  tells_get (wish.Write cell value) tells =
      absurd (let t = told (wish.Write cell value) tells in let e : ToWrite cell value ≡ ToGet t.2.0 = sym t.1 ∙ t.2.1 in cc)
  tells_get (wish.Spawn which) tells = absurd (let t = told (wish.Spawn which) tells in let e : ToSpawn which t.1.0 ≡ ToGet t.2.0 = sym t.1.1 ∙ t.2.1 in cc)
  tells_get (wish.Create which) tells =
      absurd (let t = told (wish.Create which) tells in let e : ToCreate which t.1.0 ≡ ToGet t.2.0 = sym t.1.1 ∙ t.2.1 in cc)
  tells_get wish.Sync tells = absurd (let t = told wish.Sync tells in let e : ToSync ≡ ToGet t.2.0 = sym t.1 ∙ t.2.1 in cc)
  tells_get (wish.Get future) tells = (future, refl)
  tells_get (wish.End value) tells = absurd (let t = told (wish.End value) tells in let e : ToEnd value ≡ ToGet t.2.0 = sym t.1 ∙ t.2.1 in cc)
  tells_get wish.Long tells = absurd (told wish.Long tells).1

-- room in its trace moves no task
pub still_room : (code : Compiled) (old new : TaskNow) → HasRoomNow old new → IsStill code old → IsStill code new
still_room code old new r is =
    let S : ℕ → Spot → Held → Type 0 = λ which spot held. moves held (slice_get (code_of code.tasks which).instructions spot.place) ≡ None in
    subst (λ w. S w new.spot new.held) (sym r.which) (subst (λ q. S old.which q new.held) (sym r.spot) (subst (λ h. S old.which old.spot h) (sym r.held) is))

-- what feeding a task says, by the names of the call
pub feeds_as : (code now : Compiled) (old held new : TaskNow) (act a : Action) → now ≡ code → held ≡ old → act ≡ a → IsStill code old → old.spot.ended ≡ false
    → ((P : tree.Program) (args : List Value) (s t : TaskState) → IsCodeOf P now → IsStill now held → IsTaskOf P now args held s → held.spot.ended ≡ false
    → StandsAt s t → Answers (wish_of P t) act → ActionFits any_future P held.which t act → IsTaskOf P now args new (effect_of t act))
    → (P : tree.Program) (args : List Value) (s t : TaskState) → IsCodeOf P code → IsTaskOf P code args old s → StandsAt s t → Answers (wish_of P t) a
    → ActionFits any_future P old.which t a → IsTaskOf P code args new (effect_of t a)
feeds_as code now old held new act a code_is held_is act_is still runs feeds =
    let F : Compiled → TaskNow → Action → Type 0 = λ k h c. (P : tree.Program) (args : List Value) (s t : TaskState) → IsCodeOf P k → IsStill k h → IsTaskOf
    P k args h s
    → h.spot.ended ≡ false → StandsAt s t → Answers (wish_of P t) c → ActionFits any_future P h.which t c → IsTaskOf P k args new (effect_of t c) in
    let as_is : F code old a = subst (λ c. F code old c) act_is (subst (λ h. F code h act) held_is (subst (λ k. F k held act) code_is feeds)) in
    λ P args s t of x at answers fits. as_is P args s t of still x runs at answers fits

-- its trace has the entry that was drawn
pub trace_fed : (new old : List (ℕ × Entry)) (k : ℕ) (entry : Entry) (e : Event) → new ≡ old ++ (k, entry) ∷ [] → event_of entry ≡ e
    → drawn_of new ≡ drawn_of old ++ (k, e) ∷ []
trace_fed new old k entry e is event_is =
    ap drawn_of is ∙ map-append (λ (p : ℕ × Entry). (p.0, event_of p.1)) old ((k, entry) ∷ []) ∙ ap (λ d. drawn_of old ++ (k, d) ∷ []) event_is

-- a task that advanced to its wish, by the code of the run
pub has_advanced : (code now : Compiled) (old new : TaskNow) → now ≡ code
    → (new.number ≡ old.number) × (new.which ≡ old.which) × (new.spot.ended ≡ false) → new.trace ≡ old.trace
    → ((P : tree.Program) (args : List Value) (s : TaskState) → IsCodeOf P now → IsTaskOf P now args old s → IsTaskOf P now args new s)
    → IsStill now new → HasAdvanced code old new
has_advanced code now old new code_is task trace state still =
    subst (λ k. HasAdvanced k old new) code_is
    (record { number = task.0; which = task.1; running = task.2; trace = trace; state = state; still = still })

pub room_of : (old new : TaskNow) → (new.number ≡ old.number) × (new.which ≡ old.which) × (new.spot ≡ old.spot) × (new.held ≡ old.held)
    → new.trace.items ≡ old.trace.items → HasRoomNow old new
room_of old new task trace = record { number = task.0; which = task.1; spot = task.2; held = task.3; trace = trace }

-- it stands where it stood
pub stands_moved : (code : Compiled) (book : List (ℕ × Event)) (old moved new : TaskNow) (holds : tree.Program → Wish → Type 0) → HasAdvanced code old moved
    → HasRoomNow moved new → IsStarted code book old → Stands code old holds → Stands code new holds
stands_moved code book old moved new holds adv room started is = stands_same code moved new holds room
    (stands_advanced code book old moved holds adv started is)

-- with it, the job is that of the call
pub of_call : (code : Compiled) (job : JobNow) (task moved new : TaskNow) (place : Placed) (pace : ℕ) → HasAdvanced code task moved → HasRoomNow moved new
    → record { task = task; place = place; pace = pace } ≡ job → IsOfCall job (record { task = new; place = place; pace = pace })
of_call code job task moved new place pace adv room view =
    record {
      task = record {
        number = room.number ∙ adv.number ∙ ap (λ (x : JobNow). x.task.number) view;
        which = room.which ∙ adv.which ∙ ap (λ (x : JobNow). x.task.which) view;
        trace = room.trace ∙ ap (λ y. y.items) adv.trace ∙ ap (λ (x : JobNow). x.task.trace.items) view;
      };
      place = ap (λ (x : JobNow). x.place) view;
      pace = ap (λ (x : JobNow). x.pace) view;
    }

same_task : (old new : TaskNow) → new ≡ old → IsSameTask old new
same_task old new is =
    record { number = ap (λ (t : TaskNow). t.number) is; which = ap (λ (t : TaskNow). t.which) is; trace = ap (λ (t : TaskNow). t.trace.items) is }

-- a job that was held is handed back
pub back_held : (first j back : JobNow) (task : TaskNow) (at : Strand) (reach : List Strand) (pace : ℕ) (reader : Reading) (before after told : View) →
    IsOfCall first j
    → IsJoin before j.place.pass.view told → after.known ≡ told.known → task ≡ j.task → at ≡ j.place.at → reach ≡ j.place.table → pace ≡ j.pace → reader ≡
    j.place.reader
    → back.task ≡ task → back.pace ≡ pace → back.place.at ≡ at → back.place.table ≡ reach → back.place.pass.view ≡ noted task.number after
    → StartsWith back.place.reader.log reader.log → IsBack first back
back_held first j back task at reach pace reader before after told same join known task_is at_is reach_is pace_is reader_is back_task back_pace back_at
    back_reach pass log =
    given_back first j back before after told same.task same.place same.pace join known (same_task j.task back.task (back_task ∙ task_is)) (back_at ∙ at_is)
    (back_reach ∙ reach_is) (back_pace ∙ pace_is) (pass ∙ ap (λ (t : TaskNow). noted t.number after) task_is)
    (subst (λ (r : Reading). StartsWith back.place.reader.log r.log) reader_is log)
