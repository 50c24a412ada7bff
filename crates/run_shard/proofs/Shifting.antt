-- A shard after an access, and after a call that made none.
use Rattle.std.proofs.Common.{◌≡◌, ◌≢◌, ℕ, ◌+◌, ◌*◌, ◌/◌, ◌<◌, ◌≤◌, List, [], ◌∷◌, ◌++◌, length, reverse, inl, inr, ◌⊎◌, subst, ap, sym, refl, ◌∙◌, arith}
use Rattle.std.specs.Prelude.{Some, ℤ, slice_get, slice_set}
use Rattle.std.proofs.lemmas.Option.{same_Some, slice_get_within}
use Rattle.atomic_table.specs.Seated.{TableId}
use Rattle.fut_base.specs.declared.event.Event.{Event}
use Rattle.fut_base.specs.declared.event.Action.{Action}
use Rattle.fut_base.specs.declared.event.Action.TheVariants.{Reads, Writes}
use Rattle.fut_base.specs.Dag.{Among, edges_of}
use Rattle.fut_base.specs.Sound.{next_strand}
use Rattle.strand_laws.proofs.Links.{if_on}
use Rattle.strand_tree.specs.declared.strand.Strand.{Strand}
use Rattle.task_code.specs.Flat.{Compiled}
use Rattle.task_code.specs.Tasks.{TaskNow}
use Rattle.access_shards.specs.Touches.{Touch, IsRising, IsLate}
use Rattle.access_shards.specs.Kept.{Kind, MayCome, AreKnown, touch}
use Rattle.access_shards.specs.Logged.{Logged, HasRoom, IsLogOf}
use Rattle.access_shards.specs.Laws.{AreOn}
use Rattle.access_shards.proofs.Growing.{current_may_come}
use Rattle.event_clock.specs.Views.{own_list}
use Rattle.event_clock.specs.Rule.{Rises}
use Rattle.event_clock.specs.Seated.{Ticking, Seated}
use Rattle.event_clock.proofs.Lists.{prefix_self}
use Rattle.order_query.specs.Logs.{count_of}
use Rattle.order_query.specs.Reading.{Reading}
use Rattle.merge_laws.specs.Parts.{IsAccessIn, IsRight, ReadsAreRight, value_after, value_left}
use Rattle.merge_laws.specs.Laws.{touches_in}
use Rattle.run_place.specs.Placed.{Placed, book_of, events_in}
use Rattle.run_book.proofs.Drawn.{last_or, past_one}
use Rattle.run_book.proofs.Tickets.{rises_one}
use Rattle.run_shard.specs.declared.did.Did.{Did}
use Rattle.run_shard.specs.declared.did.Did.TheVariants as did
use Rattle.run_shard.specs.Shards.{ShardNow, IsShard, IsCell, IsCellOf, HasRoomFor, shard_of, made_by, known_by}
use Rattle.run_shard.specs.Turns.{kind_by, IsAtRest, HasTurned, IsSameLog, IsAdded, IsUnmade, HasMade}
use Rattle.run_shard.specs.Dids.{IsSamePlace, LearnsBy, IsUntouched, HasAccessed, IsRefused, HasRead, HasWritten}
use Rattle.run_shard.proofs.Setting.{set_at, length_set, get_within}
use Rattle.run_shard.proofs.Touched.{Accesses, touches_rise, touches_below, touches_on, touches_here, touches_else, value_else}
use Rattle.run_shard.proofs.Judging.{kept_known, strands_grow, cell_later, cell_same}

module _ (clock : Ticking) (orders : TableId) (code : Compiled) (i : ℕ) (s : ShardNow) (is : IsShard clock orders code i s) where
  pub at_rest : IsAtRest clock orders code s.holder s.reader
  at_rest = record { home = is.home; other = λ z. (let n = is.number in omega (arith, n, z)); none = is.none; alike = is.alike; fits = is.fits }

  pub on_known : (c : ℕ) → AreOn (events_in (known_by s)) (touches_in c (made_by s))
  on_known c = touches_on (known_by s) (made_by s) c is.strands

  -- the reader knows the strands of what is kept
  pub reader_knows : (k : ℕ) (log : Logged) → slice_get s.logs k ≡ Some log → AreKnown (count_of s.reader.log) log.kept
  reader_knows k log at =
      let lt = slice_get_within s.logs k log at in
      let v = get_within s.values k (let e = is.size.0 in omega (arith, lt, e)) in
      kept_known (events_in (known_by s)) (touches_in (8 * k + i) (made_by s)) log.kept (count_of s.reader.log) (is.cells k v.0 log v.1 at).kept.kept is.alike.strands

  -- with other seats, of which the same holds
  module _ (h' : Seated) (r' : Reading) (turned : HasTurned clock orders code s.holder h' r') where
    abbrev book : List (ℕ × Event)
    book = book_of h'.view

    strands_later : (x : ℕ × Event) → Among x (made_by s) → x.1.strand < next_strand (reverse (events_in book))
    strands_later x a = let lt = is.strands x a in let more = strands_grow (known_by s) book turned.begins in omega (arith, lt, more)

    later : (k : ℕ) (value : ℤ) (log : Logged) → slice_get s.values k ≡ Some value → slice_get s.logs k ≡ Some log
        → IsCell book (made_by s) (8 * k + i) value log
    later k value log v l =
        cell_later (known_by s) book (made_by s) (8 * k + i) value log turned.begins turned.rest.alike.sound (on_known (8 * k + i)) (is.cells k value log v l)

    -- no access was made
    pub shard_still : (k : ℕ) (l l' : Logged) → own_list h'.view ≡ made_by s → slice_get s.logs k ≡ Some l → IsSameLog l l'
        → IsShard clock orders code i (record { holder = h'; reader = r'; values = s.values; logs = slice_set s.logs k l' })
    shard_still k l l' own at same =
        record {
          home = turned.rest.home;
          number = turned.number ∙ is.number;
          none = turned.rest.none;
          alike = turned.rest.alike;
          fits = turned.rest.fits;
          accesses = λ x a. is.accesses x (subst (λ m. Among x m) own a);
          rises = subst Rises (sym own) is.rises;
          reads = subst (λ m. ReadsAreRight (reverse (events_in m))) (sym own) is.reads;
          strands = λ x a. strands_later x (subst (λ m. Among x m) own a);
          size = (length_set s.logs k l' ∙ is.size.0, is.size.1, is.size.2);
          cells = λ j value log v there.
              subst (λ m. IsCell book m (8 * j + i) value log) (sym own)
              (elim (set_at s.logs k j l' log there) [
                | inl mine ↦
                    subst (λ x. IsCell book (made_by s) (8 * j + i) value x) mine.1
                    (cell_same book (made_by s) (8 * j + i) value l l' same (later j value l v (subst (λ n. slice_get s.logs n ≡ Some l) (sym mine.0) at)))
                | inr old ↦ later j value log v old.1
              ]);
          few = is.few;
        }

    -- an access of the k-th cell was made
    module _ (bound : ℕ) (e : Event) (at : Strand) (l l' : Logged) (t t' : TaskNow) (k : ℕ) (added : IsAdded bound e at s.holder h' l l' t t')
        (there : slice_get s.logs k ≡ Some l) (access : Accesses (8 * k + i) e.action) (on_strand : e.strand ≡ at.number) where
      abbrev mine : List (ℕ × Event)
      mine = made_by s ++ (added.ticket, e) ∷ []

      low : (x : ℕ × Event) → Among x (made_by s) → x.0 < added.ticket
      low x a = added.later x (inl a)

      past_mine : reverse (events_in mine) ≡ e ∷ reverse (events_in (made_by s))
      past_mine = past_one (made_by s) added.ticket e

      left_now : (c : ℕ) (u v : ℤ) → u ≡ value_left c (reverse (events_in (made_by s))) → v ≡ value_after c e.action u
          → v ≡ value_left c (reverse (events_in mine))
      left_now c u v was now = now ∙ ap (λ w. value_after c e.action w) was ∙ ap (λ m. value_left c m) (sym past_mine)

      -- that cell
      cell_here : (u v : ℤ) → slice_get s.values k ≡ Some u → v ≡ value_after (8 * k + i) e.action u → IsCell book mine (8 * k + i) v l'
      cell_here u v at_u now =
          let c = 8 * k + i in
          let old = touches_in c (made_by s) in
          let was = later k u l at_u there in
          let rising : IsRising (touch added.ticket at.number (kind_by e.action) ∷ old) =
          (touches_below c (made_by s) added.ticket low, touches_rise c (made_by s) is.rises) in
          let may : MayCome (events_in book) old at added.ticket (kind_by e.action) =
          current_may_come (events_in book) old e.task at added.ticket (kind_by e.action) turned.rest.alike.sound
          (touches_on book (made_by s) c strands_later) was.late (added.stands.stands ∙ ap (λ n. Some n) on_strand) added.stands.running rising in
          let same : touches_in c mine ≡ touch added.ticket at.number (kind_by e.action) ∷ old =
          touches_here c (made_by s) added.ticket e access ∙ ap (λ n. touch added.ticket n (kind_by e.action) ∷ old) on_strand in
          record {
            value_is = left_now c u v was.value_is now;
            kept = subst (λ m. IsLogOf (events_in book) m l') (sym same) (added.kept old may was.kept);
            late = subst (λ m. IsLate (edges_of (events_in book)) m) (sym same) may.late;
          }

      -- another one
      cell_else : (j : ℕ) (u v : ℤ) (log : Logged) → j ≢ k → slice_get s.values j ≡ Some u → slice_get s.logs j ≡ Some log
          → v ≡ value_after (8 * j + i) e.action u → IsCell book mine (8 * j + i) v log
      cell_else j u v log ne at_u at_l now =
          let d = 8 * j + i in
          let was = later j u log at_u at_l in
          let same : touches_in d mine ≡ touches_in d (made_by s) =
          touches_else (8 * k + i) d (made_by s) added.ticket e access (λ x. ne (omega (arith, x))) in
          record {
            value_is = left_now d u v was.value_is now;
            kept = subst (λ m. IsLogOf (events_in book) m log) (sym same) was.kept;
            late = subst (λ m. IsLate (edges_of (events_in book)) m) (sym same) was.late;
          }

      pub shard_added : (values' : List ℤ) → IsAccessIn shard_of i e.action → IsRight (reverse (events_in (made_by s))) e.action → length values' ≡ length s.values
          → ((j : ℕ) (v : ℤ) → slice_get values' j ≡ Some v → (u : ℤ) × (slice_get s.values j ≡ Some u) × (v ≡ value_after (8 * j + i) e.action u))
          → IsShard clock orders code i (record { holder = h'; reader = r'; values = values'; logs = slice_set s.logs k l' })
      shard_added values' in_shard right long val =
          let own : own_list h'.view ≡ mine = added.made in
          record {
            home = turned.rest.home;
            number = turned.number ∙ is.number;
            none = turned.rest.none;
            alike = turned.rest.alike;
            fits = turned.rest.fits;
            accesses = λ x a. elim (last_or x (added.ticket, e) (made_by s) (subst (λ m. Among x m) own a)) [
              | inl old ↦ is.accesses x old
              | inr new ↦ subst (λ (y : ℕ × Event). IsAccessIn shard_of i y.1.action) new in_shard
            ];
            rises = subst Rises (sym own) (rises_one (made_by s) (added.ticket, e) is.rises low);
            reads = subst (λ m. ReadsAreRight (reverse (events_in m))) (sym own) (subst ReadsAreRight (sym past_mine) (is.reads, right));
            strands = λ x a. elim (last_or x (added.ticket, e) (made_by s) (subst (λ m. Among x m) own a)) [
              | inl old ↦ strands_later x old
              | inr new ↦ subst (λ (y : ℕ × Event). y.1.strand < next_strand (reverse (events_in book))) new added.there
            ];
            size = (
              length_set s.logs k l' ∙ is.size.0 ∙ sym long,
              subst (λ n. code.cells ≤ 8 * n + i) (sym long) is.size.1,
              subst (λ n. 8 * n + i < code.cells + 8) (sym long) is.size.2,
            );
            cells = λ j v log at_v at_l.
                let u = val j v at_v in
                subst (λ m. IsCell book m (8 * j + i) v log) (sym own)
                (elim (set_at s.logs k j l' log at_l) [
                  | inl same ↦
                      subst (λ n. IsCell book mine (8 * n + i) v log) (sym same.0)
                      (subst (λ x. IsCell book mine (8 * k + i) v x) same.1
                      (cell_here u.0 v (subst (λ n. slice_get s.values n ≡ Some u.0) same.0 u.1) (subst (λ n. v ≡ value_after (8 * n + i) e.action u.0) same.0 u.2)))
                  | inr old ↦ cell_else j u.0 v log old.0 u.1 old.1 u.2
                ]);
            few = is.few;
          }

  -- ---- values

  -- a read finds the value that was left
  pub read_right : (k cell : ℕ) (value : ℤ) → slice_get s.values k ≡ Some value → cell ≡ 8 * k + i
      → value_left cell (reverse (events_in (made_by s))) ≡ value
  read_right k cell value at same =
      let lt = slice_get_within s.values k value at in
      let l = get_within s.logs k (let e = is.size.0 in omega (arith, lt, e)) in
      ap (λ c. value_left c (reverse (events_in (made_by s)))) same ∙ sym (is.cells k value l.0 at l.1).value_is

-- a write leaves the value that is set
pub write_values : (values : List ℤ) (k i cell : ℕ) (value : ℤ) → k < length values → cell ≡ 8 * k + i → (j : ℕ) (v : ℤ) → slice_get (slice_set values k value) j ≡ Some v
    → (u : ℤ) × (slice_get values j ≡ Some u) × (v ≡ value_after (8 * j + i) (Writes cell value) u)
write_values values k i cell value lt same j v at = elim (set_at values k j value v at) [
  | inl here ↦ (
      let u = get_within values k lt in (
        u.0,
        subst (λ n. slice_get values n ≡ Some u.0) (sym here.0) u.1,
        sym here.1 ∙ sym (if_on cell (8 * j + i) value u.0 (let e = here.0 in omega (arith, same, e))),
      ))
  | inr old ↦ (
    v,
    old.1,
    sym (value_else (8 * k + i) (8 * j + i) (Writes cell value) v same (λ x. old.0 (omega (arith, x)))),
  )
]

-- ---- what is answered

module _ (bound i k cell : ℕ) (s : ShardNow) (h' : Seated) (r' : Reading) (l l' : Logged) (t t' : TaskNow) (p p' : Placed) (a : Action)
    (there : slice_get s.logs k ≡ Some l) (at_cell : cell / 8 ≡ k) where
  abbrev event : Event
  event = record { task = t.number; strand = p.at.number; action = a }

  abbrev after : List ℤ → ShardNow
  after values = record { holder = h'; reader = r'; values = values; logs = slice_set s.logs k l' }

  untouched : own_list h'.view ≡ made_by s → IsSameLog l l' → IsUntouched s (after s.values)
  untouched own same =
      record {
        made = own;
        values = refl;
        kept = λ j x y at_x at_y. elim (set_at s.logs k j l' y at_y) [
          | inl mine ↦
              ap (λ (z : Logged). z.kept) (same_Some x l (sym at_x ∙ subst (λ n. slice_get s.logs n ≡ Some l) (sym mine.0) there))
              ∙ sym same.kept ∙ ap (λ (z : Logged). z.kept) mine.1
          | inr old ↦ ap (λ (z : Logged). z.kept) (same_Some x y (sym at_x ∙ old.1))
        ];
      }

  refused : IsUnmade s.holder h' l l' t t' → IsSamePlace p p' → IsRefused s (after s.values) t p t' p'
  refused un place = record { untouched = untouched un.own un.log; task = un.task; place = place }

  accessed : (values : List ℤ) → IsAdded bound event p.at s.holder h' l l' t t' → HasAccessed bound cell a s (after values) t p t'
  accessed values is =
      record {
        ticket = is.ticket;
        below = is.below;
        later = is.later;
        made = is.made;
        stands = is.stands;
        number = is.number;
        trace = is.trace;
        others = λ j x y ne at_x at_y. elim (set_at s.logs k j l' y at_y) [
          | inl mine ↦ absurd (ne (mine.0 ∙ sym at_cell))
          | inr old ↦ ap (λ (z : Logged). z.kept) (same_Some x y (sym at_x ∙ old.1))
        ];
      }

  pub has_read : (value : ℤ) (d : Did) → a ≡ Reads cell value → slice_get s.values k ≡ Some value → HasMade bound event p.at s.holder h' l l' t t' d
      → IsSamePlace p p' → LearnsBy d h'.view p' → HasRead bound i cell s (after s.values) t p t' p' d
  has_read value did.Done action_is at made place learns = (
    value,
    subst (λ n. slice_get s.values n ≡ Some value) (sym at_cell) at,
    subst (λ b. HasAccessed bound cell b s (after s.values) t p t') action_is (accessed s.values made),
    place,
    learns,
    refl,
  )
  has_read value (did.Spent ticket) action_is at made place learns = (made.0, made.1, refused made.2 place)
  has_read value did.NoMemory action_is at made place learns = refused made place

  -- the values after a write that was made, and after one that was not
  abbrev pub values_by : Did → ℤ → List ℤ
  values_by did.Done value = slice_set s.values k value
  values_by (did.Spent _) value = s.values
  values_by did.NoMemory value = s.values

  pub kept_values : (value : ℤ) (d : Did) → (d ≡ did.Done → ⊥) → values_by d value ≡ s.values
  kept_values value did.Done not = absurd (not refl)
  kept_values value (did.Spent ticket) not = refl
  kept_values value did.NoMemory not = refl

  pub has_written : (value : ℤ) (d : Did) → a ≡ Writes cell value → HasMade bound event p.at s.holder h' l l' t t' d
      → IsSamePlace p p' → LearnsBy d h'.view p' → HasWritten bound i cell value s (after (values_by d value)) t p t' p' d
  has_written value did.Done action_is made place learns = (
    subst (λ b. HasAccessed bound cell b s (after (slice_set s.values k value)) t p t') action_is (accessed (slice_set s.values k value) made),
    place,
    learns,
    ap (λ n. slice_set s.values n value) (sym at_cell),
  )
  has_written value (did.Spent ticket) action_is made place learns = (made.0, made.1, refused made.2 place)
  has_written value did.NoMemory action_is made place learns = refused made place

-- ---- the shard itself

module _ (clock : Ticking) (orders : TableId) (code : Compiled) (bound i k cell : ℕ) (s : ShardNow) (h' : Seated) (r' : Reading) (l l' : Logged) (t t' : TaskNow)
    (e : Event) (at : Strand) (is : IsShard clock orders code i s) (there : slice_get s.logs k ≡ Some l) (turned : HasTurned clock orders code s.holder h' r')
    (in_shard : shard_of cell ≡ i) (same : cell ≡ 8 * k + i) (on_strand : e.strand ≡ at.number) where
  pub read_shard : (value : ℤ) (d : Did) → e.action ≡ Reads cell value → slice_get s.values k ≡ Some value → HasMade bound e at s.holder h' l l' t t' d
      → IsShard clock orders code i (record { holder = h'; reader = r'; values = s.values; logs = slice_set s.logs k l' })
  read_shard value did.Done action_is at_v made =
      shard_added clock orders code i s is h' r' turned bound e at l l' t t' k made there (subst (λ a. Accesses (8 * k + i) a) (sym action_is) same) on_strand s.values
      (subst (λ a. IsAccessIn shard_of i a) (sym action_is) in_shard)
      (subst (λ a. IsRight (reverse (events_in (made_by s))) a) (sym action_is) (read_right clock orders code i s is k cell value at_v same)) refl
      (λ j v at_j. (v, at_j, subst (λ a. v ≡ value_after (8 * j + i) a v) (sym action_is) refl))
  read_shard value (did.Spent ticket) action_is at_v made = shard_still clock orders code i s is h' r' turned k l l' made.2.own there made.2.log
  read_shard value did.NoMemory action_is at_v made = shard_still clock orders code i s is h' r' turned k l l' made.own there made.log

  -- after a write that was made its value is set
  pub write_shard : (value : ℤ) → e.action ≡ Writes cell value → k < length s.values → IsAdded bound e at s.holder h' l l' t t'
      → IsShard clock orders code i (record { holder = h'; reader = r'; values = slice_set s.values k value; logs = slice_set s.logs k l' })
  write_shard value action_is lt made =
      shard_added clock orders code i s is h' r' turned bound e at l l' t t' k made there (subst (λ a. Accesses (8 * k + i) a) (sym action_is) same) on_strand
      (slice_set s.values k value) (subst (λ a. IsAccessIn shard_of i a) (sym action_is) in_shard)
      (subst (λ a. IsRight (reverse (events_in (made_by s))) a) (sym action_is) tt) (length_set s.values k value)
      (λ j v at_j. subst (λ a. (u : ℤ) × (slice_get s.values j ≡ Some u) × (v ≡ value_after (8 * j + i) a u)) (sym action_is)
      (write_values s.values k i cell value lt same j v at_j))

  pub unmade_shard : IsUnmade s.holder h' l l' t t' → IsShard clock orders code i (record { holder = h'; reader = r'; values = s.values; logs = slice_set s.logs k l' })
  unmade_shard un = shard_still clock orders code i s is h' r' turned k l l' un.own there un.log

-- an event with other words for its task and its strand
abbrev pub event_at : ℕ → ℕ → Action → Event
event_at task strand action = record { task = task; strand = strand; action = action }

pub event_as : (n m u v : ℕ) (a : Action) → n ≡ m → u ≡ v → event_at n u a ≡ event_at m v a
event_as n m u v a x y = ap (λ k. event_at k u a) x ∙ ap (λ w. event_at m w a) y

-- ---- room

-- a cell of the shard has its place
pub cell_there : (clock : Ticking) (orders : TableId) (code : Compiled) (i : ℕ) (s : ShardNow) (c : ℕ) → IsShard clock orders code i s → IsCellOf code i c
    → c / 8 < length s.logs
cell_there clock orders code i s c is of =
    let r = of.0 in let lt = of.1 in let few = is.size.1 in let same = is.size.0 in omega (arith, r, lt, few, same)

pub cell_number : (code : Compiled) (i c : ℕ) → IsCellOf code i c → c ≡ 8 * (c / 8) + i
cell_number code i c of = let r = of.0 in omega (arith, r)

-- a shard of which one log got room
pub roomed_shard : (clock : Ticking) (orders : TableId) (code : Compiled) (i : ℕ) (s : ShardNow) → IsShard clock orders code i s → (k : ℕ) (l l' : Logged)
    → slice_get s.logs k ≡ Some l → IsSameLog l l'
    → IsShard clock orders code i (record { holder = s.holder; reader = s.reader; values = s.values; logs = slice_set s.logs k l' })
roomed_shard clock orders code i s is k l l' at same =
    shard_still clock orders code i s is s.holder s.reader
    (record { rest = at_rest clock orders code i s is; number = refl; begins = prefix_self (book_of s.holder.view) }) k l l' refl at same

pub room_for : (s new : ShardNow) (c : ℕ) (l l' : Logged) → slice_get s.logs (c / 8) ≡ Some l → new.logs ≡ slice_set s.logs (c / 8) l' → l'.kept ≡ l.kept
    → HasRoom l' → HasRoomFor c s new
room_for s new c l l' at logs kept room =
    record {
      room = λ log there. elim (set_at s.logs (c / 8) (c / 8) l' log (subst (λ m. slice_get m (c / 8) ≡ Some log) logs there)) [
        | inl mine ↦ subst HasRoom mine.1 room
        | inr old ↦ absurd (old.0 refl)
      ];
      kept = λ j x y at_x at_y. elim (set_at s.logs (c / 8) j l' y (subst (λ m. slice_get m j ≡ Some y) logs at_y)) [
        | inl mine ↦
            ap (λ (z : Logged). z.kept) (same_Some x l (sym at_x ∙ subst (λ n. slice_get s.logs n ≡ Some l) (sym mine.0) at))
            ∙ sym kept ∙ ap (λ (z : Logged). z.kept) mine.1
        | inr old ↦ ap (λ (z : Logged). z.kept) (same_Some x y (sym at_x ∙ old.1))
      ];
    }
