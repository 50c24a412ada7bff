-- What a wish waits for, and the action that answers it.
use Rattle.std.proofs.Common.{◌≡◌, ℕ, zero, suc, ◌+◌, ◌<◌, true, List, [], ◌∷◌, length, refl, sym, ap, ◌∙◌, subst, arith}
use Rattle.std.specs.Prelude.{Option, Some, None, IsSome, is_some, slice_get, option_and_then, ℤ, pos}
use Rattle.std.proofs.lemmas.Bool.{false≢true}
use Rattle.std.proofs.lemmas.Option.{same_Some}
use Rattle.run_laws.proofs.Waits.{get_some}
use Rattle.fut_base.specs.declared.limits.TheConstants.{MOST_LOCAL_STEPS}
use Rattle.fut_base.specs.declared.record.Value.{Value}
use Rattle.fut_base.specs.declared.event.Event.{Event}
use Rattle.fut_base.specs.declared.event.Action.TheVariants.{Reads, Writes, Spawns, Creates, Syncs, Gets, Ends}
use Rattle.fut_syntax.specs.Trees as tree
use Rattle.task_machine.specs.State.{TaskState, ToRead, ToSpawn, ToCreate, wish_of}
use Rattle.task_machine.specs.Runs.{StandsWithin, StandsAt}
use Rattle.task_machine.specs.Texts.{cell_count}
use Rattle.task_machine.specs.Machine.{Machine, Running, opening, ended_with, AllHaveEnded}
use Rattle.task_code.specs.Flat.{Compiled}
use Rattle.task_code.specs.Tasks.{Wishes}
use Rattle.task_code.specs.declared.task.Wish.TheVariants as wish
use Rattle.run_replay.specs.declared.line.TaskLine.{TaskLine}
use Rattle.run_replay.specs.Replays.{ReplayNow, AreLinesOf, IsReplayOf, CanAct, IsFree, value_at, HaveEnded, RunsStill}
use Rattle.run_laws.proofs.Stuck.{AccessesBelow, wish_below, cells_from, replicate_length}
use Rattle.run_laws.proofs.Typed.{well_typed_has_cells}
use Rattle.run_replay.proofs.Lining.{line_of_task, count_lines}

value_is : (P : tree.Program) (code : Compiled) (xs : List TaskLine) (rs : List Running) (t : ℕ) → AreLinesOf P code xs rs
    → value_at xs t ≡ option_and_then (λ (r : Running). r.value) (slice_get rs t)
value_is P code [] [] t h = refl
value_is P code [] (r ∷ rs) t h = absurd h
value_is P code (x ∷ xs) [] t h = absurd h
value_is P code (x ∷ xs) (r ∷ rs) zero h = h.0.value
value_is P code (x ∷ xs) (r ∷ rs) (suc t) h = value_is P code xs rs t h.1

-- the value of a line is that with which the task has ended
pub value_of_task : (P : tree.Program) (code : Compiled) (h : List Event) (now : ReplayNow) (m : Machine) (t : ℕ) → IsReplayOf P code h now m
    → value_at now.lines t ≡ ended_with m t
value_of_task P code h now m t x = value_is P code now.lines m.tasks t x.lines

module _ (P : tree.Program) (code : Compiled) (h : List Event) (now : ReplayNow) (m : Machine) (x : IsReplayOf P code h now m) where
  pub all_have : (ts : List ℕ) → HaveEnded now.lines ts → AllHaveEnded m ts
  all_have [] e = tt
  all_have (t ∷ ts) e =
      (ap (λ (o : Option Value). is_some o) (sym (value_of_task P code h now m t x)) ∙ e 0 t refl, all_have ts (λ i u k. e (suc i) u k))

  pub not_all : (ts : List ℕ) (i t : ℕ) → slice_get ts i ≡ Some t → value_at now.lines t ≡ None → AllHaveEnded m ts → ⊥
  not_all [] i t e none all = cc
  not_all (u ∷ ts) zero t e none all =
      (let same : u ≡ t = same_Some u t e in
      false≢true
      (ap (λ (o : Option Value). is_some o) (sym none)
      ∙ (ap (λ (o : Option Value). is_some o) (value_of_task P code h now m t x) ∙ subst (λ n. IsSome (ended_with m n)) same all.0)))
  not_all (u ∷ ts) (suc i) t e none all = not_all ts i t e none all.1

  -- the block of a line is that of its task
  pub block_is : (t : ℕ) (l : TaskLine) (r : Running) → slice_get now.lines t ≡ Some l → slice_get m.tasks t ≡ Some r → l.block.items ≡ r.block
  block_is t l r e present =
      let found = line_of_task P code now.lines m.tasks t r x.lines present in
      let same : found.0 ≡ l = same_Some found.0 l (sym found.1 ∙ e) in
      ap (λ (k : TaskLine). k.block.items) (sym same) ∙ found.2.block

  pub free_sync : (t : ℕ) (l : TaskLine) (r : Running) → slice_get now.lines t ≡ Some l → slice_get m.tasks t ≡ Some r → HaveEnded now.lines l.block.items
      → AllHaveEnded m r.block
  free_sync t l r e present all = subst (λ b. AllHaveEnded m b) (block_is t l r e present) (all_have l.block.items all)

  pub barred_sync : (t : ℕ) (l : TaskLine) (r : Running) (i : ℕ) → slice_get now.lines t ≡ Some l → slice_get m.tasks t ≡ Some r
      → RunsStill now.lines l.block.items i → AllHaveEnded m r.block → ⊥
  barred_sync t l r i e present (c, at, none) all = not_all l.block.items i c at none (subst (λ b. AllHaveEnded m b) (sym (block_is t l r e present)) all)

  pub free_get : (f : ℕ) (v : Value) → value_at now.lines f ≡ Some v → IsSome (ended_with m f)
  free_get f v e = ap (λ (o : Option Value). is_some o) (sym (value_of_task P code h now m f x) ∙ e)

  pub barred_get : (f : ℕ) → value_at now.lines f ≡ None → ended_with m f ≡ None
  barred_get f e = sym (value_of_task P code h now m f x) ∙ e

  pub got : (f : ℕ) → IsSome (ended_with m f) → (v : Value) × (value_at now.lines f ≡ Some v)
  got f e = some (value_at now.lines f) (ap (λ (o : Option Value). is_some o) (value_of_task P code h now m f x) ∙ e)
    where
      some : (o : Option Value) → is_some o ≡ true → (v : Value) × (o ≡ Some v)
      some None k = absurd (false≢true k)
      some (Some v) k = (v, refl)

-- ---- the action that answers a wish

pub at_event : (s t : TaskState) → StandsWithin MOST_LOCAL_STEPS s t → StandsAt s t
at_event s t w = (MOST_LOCAL_STEPS, refl, w)

module _ (P : tree.Program) (code : Compiled) (h : List Event) (now : ReplayNow) (m : Machine) (x : IsReplayOf P code h now m) (r : Running) where
  -- a cell that is read exists
  pub cell_there : (s : TaskState) (cell : ℕ) → wish_of P s ≡ ToRead cell → (value : ℤ) × (slice_get m.cells cell ≡ Some value)
  cell_there s cell is =
      let below : cell < cell_count P = subst (λ z. AccessesBelow (cell_count P) z) is (wish_below P (well_typed_has_cells P x.typed) s) in
      let size : length m.cells ≡ cell_count P = cells_from P (opening P) h m x.leads ∙ replicate_length (cell_count P) (pos 0) in
      get_some m.cells cell (omega (arith, below, size))

  pub can_read : (cell : ℕ) (value : ℤ) → ((v : ℤ) → slice_get now.cells cell ≡ Some v → value ≡ v) → Wishes P MOST_LOCAL_STEPS r.state (wish.Read cell)
      → CanAct P m r (Reads cell value)
  can_read cell value held w =
      let v = cell_there w.0 cell w.2 in
      let same : value ≡ v.0 = held v.0 (ap (λ (cs : List ℤ). slice_get cs cell) x.cells ∙ v.1) in
      record { stop = w.0; stands = at_event r.state w.0 w.1; answers = w.2; permits = v.1 ∙ ap (λ z. Some z) (sym same) }

  pub can_write : (cell : ℕ) (value : ℤ) → Wishes P MOST_LOCAL_STEPS r.state (wish.Write cell value) → CanAct P m r (Writes cell value)
  can_write cell value w = record { stop = w.0; stands = at_event r.state w.0 w.1; answers = w.2; permits = tt }

  pub can_sync : (strand : ℕ) → strand ≡ now.strands → IsFree m r wish.Sync → Wishes P MOST_LOCAL_STEPS r.state wish.Sync → CanAct P m r (Syncs strand)
  can_sync strand is free w = record { stop = w.0; stands = at_event r.state w.0 w.1; answers = w.2; permits = (is ∙ x.strands, free) }

  pub can_get : (future : ℕ) (value : Value) (strand : ℕ) → strand ≡ now.strands → value_at now.lines future ≡ Some value
      → Wishes P MOST_LOCAL_STEPS r.state (wish.Get future) → CanAct P m r (Gets future value strand)
  can_get future value strand is held w =
      record { stop = w.0; stands = at_event r.state w.0 w.1; answers = w.2; permits = (is ∙ x.strands, sym (value_of_task P code h now m future x) ∙ held) }

  pub can_end : (value : Value) → Wishes P MOST_LOCAL_STEPS r.state (wish.End value) → CanAct P m r (Ends value)
  can_end value w = record { stop = w.0; stands = at_event r.state w.0 w.1; answers = w.2; permits = tt }

  pub can_spawn : (which child kid cont : ℕ) (args : List Value) → child ≡ length now.lines → kid ≡ now.strands → cont ≡ now.strands + 1
      → ((stop : TaskState) (given : List Value) → StandsAt r.state stop → wish_of P stop ≡ ToSpawn which given → args ≡ given)
      → Wishes P MOST_LOCAL_STEPS r.state (wish.Spawn which) → CanAct P m r (Spawns which child kid cont args)
  can_spawn which child kid cont args c k n same w =
      let at = at_event r.state w.0 w.2 in
      record {
        stop = w.0;
        stands = at;
        answers = w.3 ∙ ap (λ given. ToSpawn which given) (sym (same w.0 w.1 at w.3));
        permits = (c ∙ count_lines P code now.lines m.tasks x.lines, k ∙ x.strands, n ∙ ap (λ s. s + 1) x.strands);
      }

  pub can_create : (which child kid cont : ℕ) (args : List Value) → child ≡ length now.lines → kid ≡ now.strands → cont ≡ now.strands + 1
      → ((stop : TaskState) (given : List Value) → StandsAt r.state stop → wish_of P stop ≡ ToCreate which given → args ≡ given)
      → Wishes P MOST_LOCAL_STEPS r.state (wish.Create which) → CanAct P m r (Creates which child kid cont args)
  can_create which child kid cont args c k n same w =
      let at = at_event r.state w.0 w.2 in
      record {
        stop = w.0;
        stands = at;
        answers = w.3 ∙ ap (λ given. ToCreate which given) (sym (same w.0 w.1 at w.3));
        permits = (c ∙ count_lines P code now.lines m.tasks x.lines, k ∙ x.strands, n ∙ ap (λ s. s + 1) x.strands);
      }
