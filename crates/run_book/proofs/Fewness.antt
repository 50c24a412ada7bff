-- The book's numbers have 32 bits.
use Rattle.std.proofs.Common.{◌≡◌, ℕ, ◌+◌, ◌*◌, ◌-◌, ◌^◌, ◌<◌, ◌≤◌, ◌==◌, if◌then◌else◌, List, [], ◌∷◌, ◌++◌, length, refl, sym, ap, ◌∙◌, subst, arith}
use Rattle.std.specs.Prelude.{Option, Some, None, slice_get}
use Rattle.std.proofs.lemmas.List.{length-append, length-map, length-reverse}
use Rattle.std.proofs.lemmas.List.Sums.{count_by-le-length}
use Rattle.atomic_table.specs.Seated.{TableId}
use Rattle.fut_base.proofs.Cases.{by_eq}
use Rattle.fut_base.specs.declared.record.Limits.{Limits}
use Rattle.fut_base.specs.declared.event.Event.{Event}
use Rattle.fut_base.specs.declared.event.Action.{Action}
use Rattle.fut_base.specs.declared.event.Action.TheVariants.{Reads, Writes, Spawns, Creates, Syncs, Gets, Ends}
use Rattle.fut_base.specs.Dag.{last_of, block_of, block_after}
use Rattle.fut_base.specs.Sound.{next_strand}
use Rattle.task_machine.specs.Machine.{creates}
use Rattle.task_code.specs.Flat.{Compiled}
use Rattle.event_clock.specs.Seated.{Ticking}
use Rattle.run_place.specs.Placed.{events_in}
use Rattle.run_book.specs.Drawn.{past_in}
use Rattle.run_book.specs.Lines.{LineNow, still, unended}
use Rattle.run_book.specs.Books.{BookNow, IsBook, entries_of}
use Rattle.run_book.proofs.Stranding.{few_strands, few_tasks, has_strands}

block_grows : (a : Action) (b : List ℕ) → length (block_after a b) ≤ length b + 1
block_grows (Reads _ _) b = omega arith
block_grows (Writes _ _) b = omega arith
block_grows (Spawns _ child _ _ _) b = let more = length-append b (child ∷ []) in omega (arith, more)
block_grows (Creates _ _ _ _ _) b = omega arith
block_grows (Syncs _) b = omega arith
block_grows (Gets _ _ _) b = omega arith
block_grows (Ends _) b = omega arith

few_children : (past : List Event) (t : ℕ) → length (block_of past t) ≤ length past
few_children [] t = omega arith
few_children (e ∷ past) t =
    let rest = few_children past t in
    by_eq (λ b. length (if b then block_after e.action (block_of past t) else block_of past t) ≤ length (e ∷ past)) t e.task
    (λ _. (let more = block_grows e.action (block_of past t) in omega (arith, rest, more)))
    (λ _. omega (arith, rest))

still_few : (o : Option ℕ) → still o ≤ 1
still_few None = omega arith
still_few (Some s) = omega arith

few_unended : (past : List Event) (ts : List ℕ) → unended past ts ≤ length ts
few_unended past [] = omega arith
few_unended past (t ∷ ts) = let one = still_few (last_of past t) in let rest = few_unended past ts in omega (arith, one, rest)

module _ (clock : Ticking) (orders : TableId) (code : Compiled) (limits : Limits) (b : BookNow) (is : IsBook clock orders code limits b) where
  -- tasks
  pub lines_few : length b.lines < 2 ^ 32
  lines_few =
      let tasks = few_tasks (entries_of b) in
      let size = is.listed.tasks in
      let within = is.within in
      let small = is.small in
      omega (arith, tasks, size, within, small)

  -- strands
  pub strand_is : length b.writer.lists.english.order ≡ next_strand (past_in (entries_of b))
  strand_is = (has_strands (entries_of b) b.writer.lists.english.order b.writer.lists.hebrew.order is.listed.sound is.listed.orders).first

  pub strands_few : length b.writer.lists.english.order + 1 < 2 ^ 32
  strands_few =
      let strands = few_strands (entries_of b) in
      let size = strand_is in
      let within = is.within in
      let small = is.small in
      omega (arith, strands, size, within, small)

  -- the children of a block
  pub count_few : (t : ℕ) (l : LineNow) → slice_get b.lines t ≡ Some l → l.count < 2 ^ 32 - 1
  count_few t l at =
      let line = is.listed.lines t l at in
      let past : List Event = past_in (entries_of b) in
      let count = line.count in
      let ended = few_unended past l.block in
      let size : length l.block ≡ length (block_of past t) = ap (λ (ts : List ℕ). length ts) line.block in
      let block = few_children past t in
      let turned = length-reverse (events_in (entries_of b)) in
      let size_of = length-map (entries_of b) (λ (x : ℕ × Event). x.1) in
      let within = is.within in
      let small = is.small in
      omega (arith, count, ended, size, block, turned, size_of, within, small)

  -- futures
  pub creates_few : b.creates + 1 < 2 ^ 32
  creates_few =
      let some = count_by-le-length (λ (e : Event). creates e.action) (events_in (entries_of b)) in
      let size = length-map (entries_of b) (λ (x : ℕ × Event). x.1) in
      let made = is.listed.creates in
      let within = is.within in
      let small = is.small in
      omega (arith, some, size, made, within, small)
