-- A task that need not wait by the book may act after the merge; and what the cells have.
use Rattle.std.proofs.Common.{◌≡◌, ◌≢◌, ℕ, ◌+◌, ◌<◌, Bool, List, ◌∷◌, length, refl, sym, ap, ◌∙◌, subst, true≢false}
use Rattle.std.specs.Prelude.{Option, Some, None, IsSome, reverse, filter, slice_get}
use Rattle.fut_base.specs.declared.event.Event.{Event}
use Rattle.fut_base.specs.declared.event.Action.{Action}
use Rattle.fut_base.specs.declared.event.Action.TheVariants.{Reads, Writes, Spawns, Creates, Syncs, Gets, Ends}
use Rattle.fut_base.specs.Dag.{block_of}
use Rattle.fut_base.specs.Sound.{value_of}
use Rattle.fut_syntax.specs.Trees as tree
use Rattle.task_machine.specs.Texts.{cell_count}
use Rattle.task_machine.specs.State.{TaskState, Wish, ToRead, ToWrite, ToSpawn, ToCreate, ToSync, ToGet, ToEnd, NoWish, wish_of, Answers}
use Rattle.task_machine.specs.Runs.{StandsAt}
use Rattle.task_machine.specs.Machine.{Machine, Running, opening, Leads, AllHaveEnded, Permits, IsAllowed}
use Rattle.task_types.proofs.Running.{running_has_wish}
use Rattle.run_laws.specs.Laws.{Mirrors, HasCells}
use Rattle.run_laws.proofs.Pasts.{came, kept_of}
use Rattle.run_laws.proofs.Stuck.{AccessesBelow, wish_below}
use Rattle.run_laws.proofs.Typed.{well_typed_has_cells}
use Rattle.merge_laws.specs.Parts.{events_in, MayGoOn, value_left}
use Rattle.merge_laws.specs.Laws.{BookAllows, CellsAreLeft}
use Rattle.merge_laws.proofs.Machines.{came_cells}
use Rattle.merge_laws.proofs.Steps.{all_ended, valued_as, step_of}
use Rattle.merge_laws.proofs.Tickets.{own_events}
use Rattle.merge_laws.proofs.Merging.{in_shard, shard_is, value_in}
use Rattle.merge_laws.proofs.Ending.{kept, mirrors, state_there}

some_of : {X : Type 0} (o : Option X) → IsSome o → (v : X) × (o ≡ Some v)
some_of None h = absurd (true≢false (sym h))
some_of (Some v) h = (v, refl)

module _ (P : tree.Program) (some : HasCells P) (h : List Event) (m : Machine) (leads : Leads P (opening P) h m) (view : Mirrors (kept_of (reverse h)) m)
    (t : ℕ) (r : Running) (present : slice_get m.tasks t ≡ Some r) (runs : r.value ≡ None) (s : TaskState) (at : StandsAt r.state s) where
  goes : (a : Action) → Answers (wish_of P s) a → Permits m r a → IsAllowed P m t
  goes a answers permits =
      let e : Event = record { task = t; strand = r.strand; action = a } in
      let k = step_of P m e r s present runs refl at answers permits in
      (e, refl, k.0, k.1)

  may_act : (w : Wish) → wish_of P s ≡ w → w ≢ NoWish → MayGoOn (kept_of (reverse h)) t w → IsAllowed P m t
  may_act (ToRead cell) is wish may =
      let below : cell < cell_count P = subst (λ z. AccessesBelow (cell_count P) z) is (wish_below P some s) in
      goes (Reads cell (value_left cell (reverse h))) is (came_cells P (reverse h) m (came P h m leads) cell below)
  may_act (ToWrite cell z) is wish may = goes (Writes cell z) is tt
  may_act (ToSpawn code args) is wish may = goes (Spawns code (length m.tasks) m.strands (m.strands + 1) args) is (refl, refl, refl)
  may_act (ToCreate code args) is wish may = goes (Creates code (length m.tasks) m.strands (m.strands + 1) args) is (refl, refl, refl)
  may_act ToSync is wish may =
      goes (Syncs m.strands) is
      (refl, subst (AllHaveEnded m) (view.each t r present).block (all_ended (kept_of (reverse h)) m view (block_of (kept_of (reverse h)) t) may))
  may_act (ToGet future) is wish may =
      let v = some_of (value_of (kept_of (reverse h)) future) may in
      goes (Gets future v.0 m.strands) is (refl, valued_as (kept_of (reverse h)) m view future v.0 v.1)
  may_act (ToEnd value) is wish may = goes (Ends value) is tt
  may_act NoWish is wish may = absurd (wish refl)

pub book_allows : BookAllows
book_allows P n place book shards traces h typed run merge r a x m leads value stop stands may =
    let q = state_there P n place book shards traces h run merge m leads r a x in
    let back = kept P n place book shards traces h run merge m leads in
    let runs : q.0.value ≡ None = q.3 ∙ value in
    let at : StandsAt q.0.state stop = subst (λ z. StandsAt z stop) (sym q.2) stands in
    may_act P (well_typed_has_cells P typed) h m leads (mirrors P n place book shards traces h run merge m leads) r.0 q.0 q.1 runs stop at
    (wish_of P stop) refl (λ none. running_has_wish P h m r.0 q.0 stop typed leads q.1 runs at none)
    (subst (λ (l : List Event). MayGoOn l r.0 (wish_of P stop)) back may)

pub cells_are_left : CellsAreLeft
cells_are_left P n place book shards traces h run merge m leads c own below got =
    let whole = came_cells P (reverse h) m (came P h m leads) c below in
    let test : Event → Bool = in_shard place (place c) in
    let list : reverse (events_in own) ≡ filter test (reverse h) =
    own_events (book ∷ shards) h merge own test (shard_is P n place book shards traces h run merge (place c) own got) in
    whole ∙ ap (λ z. Some z) (sym (ap (λ (l : List Event). value_left c l) list ∙ value_in place c (reverse h)))
