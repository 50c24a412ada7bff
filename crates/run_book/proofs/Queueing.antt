-- A job waits for the value of a future.
use Rattle.std.proofs.Common.{◌≡◌, ℕ, zero, suc, ◌+◌, ◌<◌, ◌≤◌, true, List, [], ◌∷◌, ◌++◌, length, inl, inr, ◌⊎◌, refl, sym, ap, ◌∙◌, subst, arith}
use Rattle.std.specs.Prelude.{◌↔◌, Option, Some, None, slice_get, slice_set}
use Rattle.std.specs.Option.{option_to_list}
use Rattle.std.proofs.lemmas.List.{length-append}
use Rattle.std.proofs.lemmas.Option.{same_Some}
use Rattle.atomic_table.specs.Seated.{TableId}
use Rattle.fut_base.specs.declared.record.Limits.{Limits}
use Rattle.fut_base.specs.declared.event.Event.{Event}
use Rattle.fut_base.specs.declared.event.Action.{Action}
use Rattle.fut_base.specs.declared.event.Action.TheVariants.{Reads, Writes, Spawns, Creates, Syncs, Gets, Ends}
use Rattle.fut_base.specs.Dag.{Among}
use Rattle.fut_base.specs.Sound.{IsSoundPast, MayAct, MayFollow, next_task, holds_handle}
use Rattle.fut_base.proofs.Members.{among_split, among_left, among_right}
use Rattle.strand_laws.proofs.Links.{ev}
use Rattle.strand_laws.proofs.Held.{Closed, held}
use Rattle.task_machine.specs.State.{ToGet}
use Rattle.task_code.specs.Flat.{Compiled}
use Rattle.event_clock.specs.Seated.{Ticking}
use Rattle.run_counts.specs.Counted.{Counted}
use Rattle.run_counts.specs.Moves.{gone_to_wait}
use Rattle.run_place.specs.Placed.{events_in}
use Rattle.run_book.specs.Jobs.{JobNow, Stands}
use Rattle.run_book.specs.Lines.{LineNow, IsLineOf, Spawned, spawns_task}
use Rattle.run_book.specs.Turns.{change_at, with_getter}
use Rattle.run_book.specs.Books.{BookNow, IsBook, entries_of, waiting_at, jobs_in}
use Rattle.run_book.proofs.Blocks.{spawned_task}
use Rattle.run_book.proofs.Changing.{set_changed, jobs_changed}
use Rattle.run_book.proofs.Sitting.{parked_book}

-- ---- a future whose handle is held was not spawned

-- a task was there, and no event spawned it
abbrev pub IsNotSpawned : List Event → ℕ → ℕ → Type 0
IsNotSpawned past q f = (f < next_task past) × ((e : Event) → Among e past → spawns_task f e.action → ⊥)

spawns_next : (past : List Event) (t : ℕ) (a : Action) → MayAct past t a → (f : ℕ) → spawns_task f a → f ≡ next_task past
spawns_next past t (Reads _ _) may f s = absurd s
spawns_next past t (Writes _ _) may f s = absurd s
spawns_next past t (Spawns _ child _ _ _) may f s = sym s ∙ may.0
spawns_next past t (Creates _ _ _ _ _) may f s = absurd s
spawns_next past t (Syncs _) may f s = absurd s
spawns_next past t (Gets _ _ _) may f s = absurd s
spawns_next past t (Ends _) may f s = absurd s

stays_so : (past : List Event) (t s : ℕ) (a : Action) → MayFollow past (ev t s a) → (q p f : ℕ) → IsNotSpawned past q f → IsNotSpawned (ev t s a ∷ past) p f
stays_so past t s a may q p f is = (
  (let low = is.0 in omega (arith, low)),
  λ e among spawns. elim among [
    | inl same ↦ (
        let now : spawns_task f a = subst (λ (x : Event). spawns_task f x.action) (sym same) spawns in
        let next = spawns_next past t a may.acts f now in
        let low = is.0 in
        absurd (omega (arith, next, low)))
    | inr old ↦ is.1 e old spawns
  ],
)

not_spawned_closed : Closed IsNotSpawned
not_spawned_closed =
    record {
      keep = λ past sp t s a m q f h k. stays_so past t s a m q q f k;
      spawn = λ past sp t s code c k y args m f h r. stays_so past t s (Spawns code c k y args) m t c f r;
      create = λ past sp t s code c k y args m f h r. stays_so past t s (Creates code c k y args) m t c f r;
      made = λ past sp t s code c k y args m. (
          let next : c ≡ next_task past = m.acts.0 in (
            omega (arith, next),
            λ e among spawns. elim among [
              | inl same ↦ subst (λ (x : Event). spawns_task c x.action) (sym same) spawns
              | inr old ↦ (
                  let low = (spawned_task past sp e.task c (e, old, refl, spawns)).1 in
                  absurd (omega (arith, low, next)))
            ],
          ));
      got = λ past sp t s g v x m f h d a b. stays_so past t s (Gets g v x) m g t f b;
    }

pub held_not_spawned : (past : List Event) → IsSoundPast past → (t f p : ℕ) → holds_handle past t f ≡ true → Spawned past p f → ⊥
held_not_spawned past sound t f p h s = (held IsNotSpawned not_spawned_closed past sound t f h).1 s.0 s.1 s.3

-- ---- its line

pub queued_line : (code : Compiled) (book : List (ℕ × Event)) (t : ℕ) (l : LineNow) (j : JobNow) → IsLineOf code book t l → l.value ≡ None → l.parent ≡ None
    → j.pace ≡ 1 → Stands code j.task (λ P w. w ≡ ToGet t) → IsLineOf code book t (with_getter j l)
queued_line code book t l j is none parent pace stands = record {
  parent = is.parent;
  block = is.block;
  count = is.count;
  value = is.value;
  last = is.last;
  waiter = is.waiter;
  waiters = λ k a. elim (among_split k l.waiters (j ∷ []) a) [
    | inl old ↦ is.waiters k old
    | inr (inl same) ↦
        subst (λ (x : JobNow). (l.value ≡ None) × (l.parent ≡ None) × (x.pace ≡ 1) × Stands code x.task (λ P w. w ≡ ToGet t)) same
        (none, parent, pace, stands)
    | inr (inr void) ↦ absurd void
  ];
}

pub queued_more : (l : LineNow) (j : JobNow) → length (waiting_at (with_getter j l)) ≡ length (waiting_at l) + 1
queued_more l j =
    let first = length-append (option_to_list l.waiter) (l.waiters ++ j ∷ []) in
    let second = length-append l.waiters (j ∷ []) in
    let before = length-append (option_to_list l.waiter) l.waiters in
    omega (arith, first, second, before)

pub queued_jobs : (l : LineNow) (j k : JobNow) → Among k (waiting_at (with_getter j l)) ↔ (Among k (waiting_at l) ⊎ (k ≡ j))
queued_jobs l j k =
    let first : List JobNow = option_to_list l.waiter in (
      λ a. elim (among_split k first (l.waiters ++ j ∷ []) a) [
        | inl one ↦ inl (among_left k first l.waiters one)
        | inr rest ↦ elim (among_split k l.waiters (j ∷ []) rest) [
          | inl old ↦ inl (among_right k first l.waiters old)
          | inr (inl same) ↦ inr (sym same)
          | inr (inr void) ↦ absurd void
        ]
      ],
      λ a. elim a [
        | inl old ↦ elim (among_split k first l.waiters old) [
          | inl one ↦ among_left k first (l.waiters ++ j ∷ []) one
          | inr rest ↦ among_right k first (l.waiters ++ j ∷ []) (among_left k l.waiters (j ∷ []) rest)
        ]
        | inr same ↦ among_right k first (l.waiters ++ j ∷ []) (among_right k l.waiters (j ∷ []) (inl (sym same)))
      ],
    )

-- the future that a task wishes to get was not spawned
pub no_parent : (code : Compiled) (book : List (ℕ × Event)) (t f : ℕ) (l : LineNow) → IsLineOf code book f l → ((p : ℕ) → Spawned (events_in book) p f → ⊥)
    → l.parent ≡ None
no_parent code book t f l is never = go l.parent refl
  where
    go : (o : Option ℕ) → l.parent ≡ o → l.parent ≡ None
    go None e = e
    go (Some p) e = absurd (never p ((is.parent p).0 e))

-- the book where a job waits for a future
pub queued_book : (clock : Ticking) (orders : TableId) (code : Compiled) (limits : Limits) (b : BookNow) (t : ℕ) (l m : LineNow) (j : JobNow)
    (counts : Counted)
    → IsBook clock orders code limits b → slice_get b.lines t ≡ Some l → l.value ≡ None → l.parent ≡ None → j.pace ≡ 1 → Stands code j.task
    (λ P w. w ≡ ToGet t)
    → 0 < b.counts.running → m ≡ with_getter j l → counts ≡ gone_to_wait b.counts
    → IsBook clock orders code limits (record b { lines = slice_set b.lines t m; counts = counts })
queued_book clock orders code limits b t l m j counts is there none parent pace stands some line counts_are =
    let base = parked_book clock orders code limits b t (with_getter j) l is there
    (queued_line code (entries_of b) t l j (is.listed.lines t l there) none parent pace stands) (queued_more l j) some in
    let set : slice_set b.lines t m ≡ change_at t (with_getter j) b.lines =
    ap (λ (x : LineNow). slice_set b.lines t x) line ∙ set_changed t (with_getter j) b.lines l there in
    subst (λ (c : Counted). IsBook clock orders code limits (record b { lines = slice_set b.lines t m; counts = c })) (sym counts_are)
    (subst (λ (ls : List LineNow). IsBook clock orders code limits (record b { lines = ls; counts = gone_to_wait b.counts })) (sym set) base)

-- it waits there beside those that waited
pub queued_all : (ls : List LineNow) (t : ℕ) (l m : LineNow) (j : JobNow) → slice_get ls t ≡ Some l → m ≡ with_getter j l → (k : JobNow)
    → Among k (jobs_in (slice_set ls t m)) ↔ (Among k (jobs_in ls) ⊎ (k ≡ j))
queued_all ls t l m j there line k =
    let set : slice_set ls t m ≡ change_at t (with_getter j) ls =
    ap (λ (x : LineNow). slice_set ls t x) line ∙ set_changed t (with_getter j) ls l there in
    subst (λ (ms : List LineNow). Among k (jobs_in ms) ↔ (Among k (jobs_in ls) ⊎ (k ≡ j))) (sym set)
    (jobs_changed t (with_getter j) ls l j there (queued_jobs l j) k)

-- the lines with one of them put in its place again
pub set_same : (t : ℕ) (ls : List LineNow) (l : LineNow) → slice_get ls t ≡ Some l → slice_set ls t l ≡ ls
set_same t [] l e = cc
set_same zero (m ∷ ls) l e = ap (λ (x : LineNow). x ∷ ls) (sym (same_Some m l e))
set_same (suc t) (m ∷ ls) l e = ap (λ (xs : List LineNow). m ∷ xs) (set_same t ls l e)
