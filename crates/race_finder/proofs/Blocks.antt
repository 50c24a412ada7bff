-- The tables of strands after gets and syncs.
use Rattle.std.proofs.Common.{◌≡◌, ℕ, zero, suc, ◌+◌, ◌<◌, Bool, true, false, true≢false, List, [], ◌∷◌, ◌++◌, length, reverse, get_or, take, inl, inr, subst}
use Rattle.std.proofs.lemmas.Option.{none-some, same_Some}
use Rattle.std.proofs.Common.{ap, sym, refl, ◌∙◌, arith, slice_get}
use Rattle.std.specs.Prelude.{Option, Some, None, IsSome}
use Rattle.std.specs.List.{cons_option}
use Rattle.std.proofs.Math.Seq.{take-suc}
use Rattle.std.proofs.lemmas.List.Elements.{filter_map-append}
use Rattle.std.proofs.lemmas.Bool.{cases_lt}
use Rattle.std.proofs.lemmas.Option.{slice_get_within, get_or_from_slice_get}
use Rattle.fut_base.specs.declared.record.Value.{Value}
use Rattle.fut_base.specs.declared.event.Event.{Event}
use Rattle.fut_base.specs.declared.event.Action.TheVariants.{Gets}
use Rattle.fut_base.specs.Dag.{last_of}
use Rattle.fut_base.specs.Sound.{IsSound, IsSoundPast, AllEnded, next_task, value_of}
use Rattle.fut_base.specs.Tables.{lasts_of}
use Rattle.order_list.specs.Sides.{Lists}
use Rattle.strand_laws.proofs.Frames.{frame}
use Rattle.strand_laws.proofs.Links.{linked, shown}
use Rattle.strand_laws.proofs.Held.{value_ended, is_task}
use Rattle.strand_laws.proofs.Places.{among_or}
use Rattle.strand_tree.specs.declared.strand.Strand.{Strand}
use Rattle.strand_tree.specs.Placing.{AreOrders, IsIn, IsLastOf}
use Rattle.reach_table.specs.Merging.{together, IsMergedOf}
use Rattle.reach_table.specs.Tabled.{and_then, AfterGet, MergesOneMore}
use Rattle.reach_table.specs.Telling.{AllKnown, HasTable, OrdersAgree}
use Rattle.reach_table.proofs.Events.{merge_begins}
use Rattle.reach_table.proofs.Putting.{all_together}
use Rattle.race_finder.specs.declared.track.Track.{Track}
use Rattle.race_finder.specs.Places.{Placed}
use Rattle.race_finder.specs.Finding.{last_if}
use Rattle.race_finder.specs.Acting.{AreOf, MaySync}
use Rattle.race_finder.proofs.Accesses.{strands_in, view_of, track_known, strand_known}
use Rattle.race_finder.proofs.Structural.{followed}

ended_last : (b : Bool) (m n : ℕ) → last_if b m ≡ Some n → last_if b m ≡ Some m
ended_last true m n h = refl
ended_last false m n h = cc

last_some : (past : List Event) → IsSoundPast past → (t : ℕ) → (frame past t).ended ≡ true → last_of past t ≡ Some (frame past t).cur
last_some past sp t e = (linked past sp).last t ∙ ap (λ b. shown b (frame past t).cur) e

no_some : (o : Option ℕ) → o ≡ None → IsSome o → ⊥
no_some None is h = true≢false (sym h)
no_some (Some x) is h = cc

-- a task that has ended was begun
pub last_there : (past : List Event) → IsSoundPast past → (t : ℕ) → IsSome (last_of past t) → t < next_task past
last_there past sp t some = elim (cases_lt t (next_task past)) [
  | inl lt ↦ lt
  | inr ge ↦ absurd (no_some (last_of past t) (let l = linked past sp in l.last t ∙ ap (λ b. shown b (frame past t).cur) (l.unborn t ge).1) some)
]

-- and a future whose value is known too
pub value_there : (past : List Event) → IsSoundPast past → (t : ℕ) (v : Value) → value_of past t ≡ Some v → t < next_task past
value_there past sp t v is = is_task past sp t (value_ended past sp t v is)

module _ (s : List Event) (places : Placed) (tracks : List Track) (lists : Lists) (of : AreOf s places tracks)
    (en : lists.english.order ≡ places.english) (he : lists.hebrew.order ≡ places.hebrew) where
  abbrev known : ℕ
  known = length lists.english.order

  orders : AreOrders s lists.english.order lists.hebrew.order
  orders = record { english_is = en ∙ of.orders.english_is; hebrew_is = he ∙ of.orders.hebrew_is }

  agree : (t : ℕ) (d : Track) → slice_get tracks t ≡ Some d → OrdersAgree s known lists.english.order lists.hebrew.order
  agree t d at = (view_of s lists.english.order lists.hebrew.order t d of.sound orders (of.tasks.each t d at)).orders

  pub all_known : (t : ℕ) (d : Track) → slice_get tracks t ≡ Some d → (d.at.number < known) × AllKnown known d.reach
  all_known t d at = track_known s lists.english.order lists.hebrew.order t d of.sound orders (of.tasks.each t d at)

  pub two_known : (t u : ℕ) (d o : Track) → slice_get tracks t ≡ Some d → slice_get tracks u ≡ Some o → AllKnown known (together d.reach o.reach (Some o.at))
  two_known t u d o at ot w there = all_together known d.reach o.reach o.at (all_known t d at).1 (all_known u o ot).1 (all_known u o ot).0 w there

  pub merged_known : (own : ℕ) (strands : List ℕ) (reach : List Strand) (u : ℕ) (o : Track) → IsMergedOf s own strands reach → slice_get tracks u ≡ Some o
      → AllKnown known (together reach o.reach None)
  merged_known own strands reach u o m ot w there = elim (among_or w (reach ++ o.reach) [] there) [
    | inl k ↦ elim (among_or w reach o.reach k) [
      | inl i ↦ strand_known s lists.english.order lists.hebrew.order of.sound orders w (m.homes w i)
      | inr i ↦ (all_known u o ot).1 w i
    ]
    | inr k ↦ absurd k
  ]

  pub got_table : (task future : ℕ) (d o : Track) (table : List Strand) (value : Value) (strand : ℕ) → slice_get tracks task ≡ Some d
      → slice_get tracks future ≡ Some o
      → AfterGet lists d.at.future d.reach o.reach (Some o.at) table → IsSound (and_then s task d.at.number (Gets future value strand))
      → HasTable (and_then s task d.at.number (Gets future value strand)) strand table
  got_table task future d o table value strand at ot after sound =
      let past = reverse s in
      let dd = of.tasks.each task d at in
      let oo = of.tasks.each future o ot in
      let acts = (followed s (record { task = task; strand = d.at.number; action = Gets future value strand }) sound).1.acts in
      let ended = value_ended past of.sound future value acts.1 in
      let last : last_of past future ≡ Some o.at.number = oo.last_is ∙ ended_last o.ended o.at.number (frame past future).cur (sym oo.last_is
      ∙ last_some past of.sound future ended) in
      after s task future strand value d.at o.at sound dd.strand refl dd.table oo.strand refl last oo.table (agree task d at)

  lasts_more : (past : List Event) (ts : List ℕ) (t v : ℕ) → last_of past t ≡ Some v → lasts_of past (ts ++ t ∷ []) ≡ lasts_of past ts ++ v ∷ []
  lasts_more past ts t v is = filter_map-append (λ u. last_of past u) ts (t ∷ []) ∙ ap (λ o. lasts_of past ts ++ cons_option o []) is

  pub merged_more : (task i child : ℕ) (d o : Track) (reach reach' : List Strand) → slice_get tracks task ≡ Some d → slice_get tracks child ≡ Some o
      → i < length d.block.items → child ≡ get_or d.block.items i 0 → IsSome (last_of (reverse s) child)
      → MergesOneMore lists d.at.future reach o.reach None reach' → IsMergedOf s d.at.future (d.at.number ∷ lasts_of (reverse s) (take i d.block.items)) reach
      → IsMergedOf s d.at.future (d.at.number ∷ lasts_of (reverse s) (take (i + 1) d.block.items)) reach'
  merged_more task i child d o reach reach' at ot lt child_is some more m =
      let past = reverse s in
      let block = d.block.items in
      let oo = of.tasks.each child o ot in
      let last : last_of past child ≡ Some o.at.number = ended_some (last_of past child) some oo.last_is in
      let up : suc i ≡ i + 1 = omega arith in
      let longer : take (i + 1) block ≡ take i block ++ child ∷ [] = ap (λ n. take n block) (sym up) ∙ take-suc block i 0 lt ∙ ap (λ c. take i
      block ++ c ∷ []) (sym child_is) in
      let all : d.at.number ∷ lasts_of past (take (i + 1) block) ≡ (d.at.number ∷ lasts_of past (take i block)) ++ o.at.number ∷ [] =
      ap (λ l. d.at.number ∷ lasts_of past l) longer ∙ ap (λ l. d.at.number ∷ l) (lasts_more past (take i block) child o.at.number last) in
      subst (λ l. IsMergedOf s d.at.future l reach') (sym all)
      (more s (d.at.number ∷ lasts_of past (take i block)) o.at.number of.sound m oo.strand.there oo.table refl (agree task d at))
    where
      ended_some : (q : Option ℕ) → IsSome q → q ≡ last_if o.ended o.at.number → q ≡ Some o.at.number
      ended_some None h is = absurd (true≢false (sym h))
      ended_some (Some x) h is = is ∙ ended_last o.ended o.at.number x (sym is)

-- nothing is merged yet
pub merged_none : (s : List Event) (places : Placed) (tracks : List Track) (task : ℕ) (d : Track) (reach : List Strand) → reach ≡ d.reach
    → MaySync s places tracks task → slice_get tracks task ≡ Some d
    → IsMergedOf s d.at.future (d.at.number ∷ lasts_of (reverse s) (take 0 d.block.items)) reach
merged_none s places tracks task d reach is may at =
    let of = may.of.tasks.each task d at in
    subst (λ l. IsMergedOf s d.at.future (d.at.number ∷ l) reach) (none (reverse s) d.block.items)
    (subst (λ l. IsMergedOf s d.at.future (d.at.number ∷ []) l) (sym is) (merge_begins s d.at d.reach may.of.sound of.strand of.table))
  where
    none : (past : List Event) (block : List ℕ) → [] ≡ lasts_of past (take 0 block)
    none past [] = refl
    none past (b ∷ bs) = refl

-- the children of a block that has ended
pub child_ended : (past : List Event) (ts : List ℕ) (i : ℕ) → AllEnded past ts → i < length ts → IsSome (last_of past (get_or ts i 0))
child_ended past [] i h lt = absurd (omega (arith, lt))
child_ended past (t ∷ ts) zero h lt = h.0
child_ended past (t ∷ ts) (suc i) h lt = child_ended past ts i h.1 (omega (arith, lt))

pub block_child : (s : List Event) (places : Placed) (tracks : List Track) (task : ℕ) (d : Track) (i child : ℕ) → MaySync s places tracks task
    → slice_get tracks task ≡ Some d → i < length d.block.items → child ≡ get_or d.block.items i 0
    → IsSome (last_of (reverse s) child) × (child < length tracks)
block_child s places tracks task d i child may at lt is =
    let of = may.of.tasks.each task d at in
    let ended = subst (λ ts. AllEnded (reverse s) ts) (sym of.block_is) may.ended in
    let some = subst (λ c. IsSome (last_of (reverse s) c)) (sym is) (child_ended (reverse s) d.block.items i ended lt) in
    let there = last_there (reverse s) may.of.sound child some in
    (some, omega (arith, there, may.of.tasks.count))

pub block_at : (s : List Event) (places : Placed) (tracks : List Track) (task : ℕ) (d : Track) (i child : ℕ) → MaySync s places tracks task
    → slice_get tracks task ≡ Some d → slice_get d.block.items i ≡ Some child
    → IsSome (last_of (reverse s) child) × (child < length tracks)
block_at s places tracks task d i child may at is =
    block_child s places tracks task d i child may at (slice_get_within d.block.items i child is) (sym (get_or_from_slice_get d.block.items i child 0 is))

pub child_last : (s : List Event) (places : Placed) (tracks : List Track) (child : ℕ) (o : Track) → AreOf s places tracks → slice_get tracks child ≡ Some o
    → IsSome (last_of (reverse s) child) → last_of (reverse s) child ≡ Some o.at.number
child_last s places tracks child o of ot some = ended_some (last_of (reverse s) child) some (of.tasks.each child o ot).last_is
  where
    ended_some : (q : Option ℕ) → IsSome q → q ≡ last_if o.ended o.at.number → q ≡ Some o.at.number
    ended_some None h is = absurd (true≢false (sym h))
    ended_some (Some x) h is = is ∙ ended_last o.ended o.at.number x (sym is)

pub track_in : (s : List Event) (places : Placed) (tracks : List Track) (t : ℕ) (d : Track) → AreOf s places tracks → slice_get tracks t ≡ Some d
    → IsIn d.at.number places.english places.hebrew
track_in s places tracks t d of at =
    let k = track_known s places.english places.hebrew t d of.sound of.orders (of.tasks.each t d at) in
    let n = strands_in s places.english places.hebrew of.sound of.orders in
    record { first = k.0; second = omega (arith, k.0, n.0, n.1) }

-- the last strand of a block's first child
pub first_is : (past : List Event) (block : List ℕ) (child : ℕ) (v : Strand) → slice_get block 0 ≡ Some child → last_of past child ≡ Some v.number
    → IsLastOf past block (Some v)
first_is past [] child v h is = none-some child h
first_is past (x ∷ xs) child v h is = ap (last_of past) (same_Some x child h) ∙ is

pub first_none : (past : List Event) (block : List ℕ) → slice_get block 0 ≡ None → IsLastOf past block None
first_none past [] h = tt
first_none past (x ∷ xs) h = some_none x h
  where
    some_none : (c : ℕ) → ◌≡◌ {A = Option ℕ} (Some c) None → ⊥
    some_none c e = cc
