-- The orders, the strands and their tables after one more entry.
use Rattle.std.proofs.Common.{◌≡◌, ℕ, ◌+◌, ◌*◌, ◌<◌, ◌≤◌, List, [], ◌∷◌, ◌++◌, length, reverse, inl, inr, subst, ap, sym, refl, ◌∙◌, arith}
use Rattle.std.specs.Prelude.{◌^◌}
use Rattle.std.proofs.lemmas.List.{map-append, reverse-append, length-map, length-reverse}
use Rattle.fut_base.specs.declared.event.Event.{Event}
use Rattle.fut_base.specs.declared.event.Action.{Action}
use Rattle.fut_base.specs.declared.event.Action.TheVariants.{Reads, Writes, Spawns, Creates, Syncs, Gets, Ends}
use Rattle.fut_base.specs.declared.record.Value.{Value}
use Rattle.fut_base.specs.Dag.{Among}
use Rattle.fut_base.specs.Orders.{english_past, hebrew_past}
use Rattle.fut_base.specs.Sound.{IsSound, IsSoundPast, MayFollow, next_strand, next_task, strands_by, tasks_by}
use Rattle.strand_laws.proofs.Homes.{orders_have_strands}
use Rattle.strand_tree.specs.declared.strand.Strand.{Strand}
use Rattle.strand_tree.specs.Placing.{AreOrders, Extends, IsIn, IsStrandOf, Belongs}
use Rattle.reach_table.specs.Telling.{HasTable}
use Rattle.reach_table.specs.Tabled.{and_then}
use Rattle.reach_table.proofs.Events.{tables_stay, sound_before, strands_more}
use Rattle.event_clock.specs.Rule.{IsPrefix, Rises}
use Rattle.run_place.specs.Placed.{events_in}
use Rattle.run_place.proofs.Learning.{strand_stays, events_more}
use Rattle.run_book.specs.Drawn.{past_in}

-- an event of a task on a strand
abbrev pub event_at : ℕ → ℕ → Action → Event
event_at task at action = record { task = task; strand = at; action = action }

-- ---- one more entry

pub events_add : (book : List (ℕ × Event)) (k : ℕ) (e : Event) → events_in (book ++ (k, e) ∷ []) ≡ events_in book ++ e ∷ []
events_add book k e = map-append (λ (x : ℕ × Event). x.1) book ((k, e) ∷ [])

pub past_add : (book : List (ℕ × Event)) (k : ℕ) (e : Event) → past_in (book ++ (k, e) ∷ []) ≡ e ∷ past_in book
past_add book k e = ap (λ s. reverse s) (events_add book k e) ∙ reverse-append (events_in book) (e ∷ [])

-- with an entry more the orders are those that the placing made of them
pub orders_add : (book : List (ℕ × Event)) (k task at : ℕ) (action : Action) (en he en' he' : List ℕ)
    → Extends (events_in book) task at action en he en' he' → AreOrders (events_in book) en he
    → AreOrders (events_in (book ++ (k, event_at task at action) ∷ [])) en' he'
orders_add book k task at action en he en' he' ext are =
    subst (λ s. AreOrders s en' he') (sym (events_add book k (event_at task at action))) (ext are)

-- an end leaves the orders
pub orders_end : (book : List (ℕ × Event)) (k task at : ℕ) (value : Value) (en he : List ℕ) → AreOrders (events_in book) en he
    → AreOrders (events_in (book ++ (k, event_at task at (Ends value)) ∷ [])) en he
orders_end book k task at value en he are =
    let e : Event = event_at task at (Ends value) in
    let turn = past_add book k e in
    record { english_is = are.english_is ∙ sym (ap english_past turn); hebrew_is = are.hebrew_is ∙ sym (ap hebrew_past turn) }

-- ---- strands and tables that were there

pub strand_add : (book : List (ℕ × Event)) (k : ℕ) (e : Event) (v : Strand) → IsSound (events_in (book ++ (k, e) ∷ [])) → IsStrandOf (events_in book) v
    → IsStrandOf (events_in (book ++ (k, e) ∷ [])) v
strand_add book k e v sound is =
    let all = events_add book k e in
    subst (λ s. IsStrandOf s v) (sym all) (strand_stays (events_in book) (e ∷ []) v (subst IsSound all sound) is)

pub table_add : (book : List (ℕ × Event)) (k : ℕ) (e : Event) (v : Strand) (table : List Strand) → IsSound (events_in (book ++ (k, e) ∷ []))
    → IsStrandOf (events_in book) v → HasTable (events_in book) v.number table → HasTable (events_in (book ++ (k, e) ∷ [])) v.number table
table_add book k e v table sound is has =
    let all = events_add book k e in
    subst (λ s. HasTable s v.number table) (sym all) (tables_stay (events_in book) (e ∷ []) v.number table (subst IsSound all sound) is.there has)

-- ---- strands and tables that are new

pub belongs_add : (book : List (ℕ × Event)) (k task : ℕ) (at v : Strand) (action : Action) → Belongs (events_in book) task at action v
    → IsSound (events_in (book ++ (k, event_at task at.number action) ∷ [])) → IsStrandOf (events_in book) at
    → IsStrandOf (events_in (book ++ (k, event_at task at.number action) ∷ [])) v
belongs_add book k task at v action belongs sound is =
    let all = events_add book k (event_at task at.number action) in
    subst (λ s. IsStrandOf s v) (sym all) (belongs (subst IsSound all sound) is)

pub table_new : (book : List (ℕ × Event)) (k task at : ℕ) (action : Action) (v : ℕ) (table : List Strand)
    → HasTable (and_then (events_in book) task at action) v table → HasTable (events_in (book ++ (k, event_at task at action) ∷ [])) v table
table_new book k task at action v table has = subst (λ s. HasTable s v table) (sym (events_add book k (event_at task at action))) has

pub sound_then : (book : List (ℕ × Event)) (k task at : ℕ) (action : Action) → IsSound (events_in (book ++ (k, event_at task at action) ∷ []))
    → IsSound (and_then (events_in book) task at action)
sound_then book k task at action sound = subst IsSound (events_add book k (event_at task at action)) sound

-- ---- how many there are

-- rising tickets below k are at most k; here those from `low` on
few_from : (xs : List (ℕ × Event)) (low k : ℕ) → low ≤ k → Rises xs → ((x : ℕ × Event) → Among x xs → low ≤ x.0) → ((x : ℕ × Event) → Among x xs → x.0 < k)
    → low + length xs ≤ k
few_from [] low k le rises from high = omega arith
few_from (x ∷ xs) low k le rises from high =
    let here = from x (inl refl) in
    let top = high x (inl refl) in
    let rest = few_from xs (x.0 + 1) k (omega (arith, top)) rises.1 (λ y a. let l = rises.0 y a in omega (arith, l)) (λ y a. high y (inr a)) in
    omega (arith, here, rest)

pub few_tickets : (xs : List (ℕ × Event)) (k : ℕ) → Rises xs → ((x : ℕ × Event) → Among x xs → x.0 < k) → length xs ≤ k
few_tickets xs k rises high = let f = few_from xs 0 k (omega arith) rises (λ x a. omega arith) high in omega (arith, f)

strands_of : (a : Action) → strands_by a ≤ 2
strands_of (Reads _ _) = omega arith
strands_of (Writes _ _) = omega arith
strands_of (Spawns _ _ _ _ _) = omega arith
strands_of (Creates _ _ _ _ _) = omega arith
strands_of (Syncs _) = omega arith
strands_of (Gets _ _ _) = omega arith
strands_of (Ends _) = omega arith

tasks_of : (a : Action) → tasks_by a ≤ 1
tasks_of (Reads _ _) = omega arith
tasks_of (Writes _ _) = omega arith
tasks_of (Spawns _ _ _ _ _) = omega arith
tasks_of (Creates _ _ _ _ _) = omega arith
tasks_of (Syncs _) = omega arith
tasks_of (Gets _ _ _) = omega arith
tasks_of (Ends _) = omega arith

strands_past : (past : List Event) → next_strand past ≤ 1 + 2 * length past
strands_past [] = omega arith
strands_past (e ∷ past) = let k = strands_of e.action in let rest = strands_past past in omega (arith, k, rest)

tasks_past : (past : List Event) → next_task past ≤ 1 + length past
tasks_past [] = omega arith
tasks_past (e ∷ past) = let k = tasks_of e.action in let rest = tasks_past past in omega (arith, k, rest)

events_long : (book : List (ℕ × Event)) → length (past_in book) ≡ length book
events_long book = length-reverse (events_in book) ∙ length-map book (λ (x : ℕ × Event). x.1)

pub few_strands : (book : List (ℕ × Event)) → next_strand (past_in book) ≤ 1 + 2 * length book
few_strands book = let k = strands_past (past_in book) in let long = events_long book in omega (arith, k, long)

pub few_tasks : (book : List (ℕ × Event)) → next_task (past_in book) ≤ 1 + length book
few_tasks book = let k = tasks_past (past_in book) in let long = events_long book in omega (arith, k, long)

-- both orders have as many items as there are strands
pub record HasStrands (book : List (ℕ × Event)) (en he : List ℕ) : Type 0 where
  pub first : length en ≡ next_strand (past_in book)
  pub second : length he ≡ next_strand (past_in book)

pub has_strands : (book : List (ℕ × Event)) (en he : List ℕ) → IsSound (events_in book) → AreOrders (events_in book) en he → HasStrands book en he
has_strands book en he sound are =
    let k = orders_have_strands (past_in book) sound in
    record { first = ap (λ (xs : List ℕ). length xs) are.english_is ∙ k.0; second = ap (λ (xs : List ℕ). length xs) are.hebrew_is ∙ k.1 }

pub stands_in : (book : List (ℕ × Event)) (en he : List ℕ) (v : Strand) → IsSound (events_in book) → AreOrders (events_in book) en he
    → IsStrandOf (events_in book) v → IsIn v.number en he
stands_in book en he v sound are is =
    let k = has_strands book en he sound are in
    let low = is.there in
    let first = k.first in
    let second = k.second in
    record { first = omega (arith, low, first); second = omega (arith, low, second) }

-- before each event there is room for the strands that it makes, and their numbers have 32 bits
pub record HasRoom (en : List ℕ) (room : ℕ) : Type 0 where
  pub two : 2 ≤ room
  pub low : length en + 1 < 2 ^ 32

pub has_room : (book : List (ℕ × Event)) (en he : List ℕ) (room ticket bound : ℕ) → IsSound (events_in book) → AreOrders (events_in book) en he
    → Rises book → ((x : ℕ × Event) → Among x book → x.0 < ticket) → ticket < bound → 2 * bound + 1 ≤ length en + room → bound + 1 < 2 ^ 31 → HasRoom en room
has_room book en he room ticket bound sound are rises later below more small =
    let few = few_tickets book ticket rises later in
    let strands = few_strands book in
    let is = (has_strands book en he sound are).first in
    record { two = omega (arith, few, strands, is, below, more); low = omega (arith, few, strands, is, below, small) }

-- the room is as much less as there are more strands
pub room_after : (book : List (ℕ × Event)) (k : ℕ) (e : Event) (en he en' he' : List ℕ) (room room' bound : ℕ) → IsSound (events_in (book ++ (k, e) ∷ []))
    → AreOrders (events_in book) en he → AreOrders (events_in (book ++ (k, e) ∷ [])) en' he' → room' + strands_by e.action ≡ room
    → 2 * bound + 1 ≤ length en + room → 2 * bound + 1 ≤ length en' + room'
room_after book k e en he en' he' room room' bound sound are are' took more =
    let turn = past_add book k e in
    let before : IsSoundPast (past_in book) = (subst IsSoundPast turn sound).0 in
    let old = (has_strands book en he before are).first in
    let new : length en' ≡ next_strand (e ∷ past_in book) = (has_strands (book ++ (k, e) ∷ []) en' he' sound are').first ∙ ap next_strand turn in
    let grows : next_strand (e ∷ past_in book) ≡ next_strand (past_in book) + strands_by e.action = refl in
    omega (arith, old, new, grows, took, more)
