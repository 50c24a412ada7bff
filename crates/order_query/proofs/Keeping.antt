-- Each kind of step keeps the order rule.
use Rattle.std.proofs.Common.{◌≡◌, ◌≢◌, ℕ, ◌+◌, ◌*◌, ◌%◌, ◌<◌, ◌≤◌, Bool, true, false, List, [], ◌∷◌, ◌++◌, inl, inr, length, length-append, sym, ◌∙◌, subst}
use Rattle.std.proofs.Common.{refl, ap, arith}
use Rattle.std.specs.Prelude.{◌==◌, if◌then◌else◌, slice_index, slice_set}
use lib.ListN.{get_elem?}
use lib.Seq.{set-get_or}
use mathlib.Core.Option.{some, none, some-injective, some-ne-none}
use Rattle.atomic_table.proofs.Lists.{at_set, at_snoc, at_longer, set_here, set_else, set_again}
use Rattle.atomic_table.specs.Table.{State, Allows, Splits, Joins, step, keeps}
use Rattle.order_list.proofs.Chains.{tested, eq_of}
use Rattle.order_list.proofs.Inserting.{apart}
use Rattle.order_query.specs.declared.view.Insert.{Insert}
use Rattle.order_query.specs.declared.view.Label.{Label}
use Rattle.order_query.specs.declared.view.Snapshot.{Snapshot}
use Rattle.order_query.specs.declared.view.View.{View}
use Rattle.order_query.specs.Logs.{StartsWith}
use Rattle.order_query.specs.Rule.{IsPublished, AreLabelWords, AreWords, AtMost, IsSnapshot, IsReader, IsWriter, OrderRule, MayWrite}
use Rattle.order_query.specs.Plays.{reader_of, after_version, after_label, after_store, joined, longer, LoadedVersion, LoadedLabel, IsMoment}
use Rattle.order_query.proofs.Starts.{starts_self, starts_on, longer_is}

at_most_on : (a b : ℕ) (ns : List ℕ) → a ≤ b → AtMost a ns → AtMost b ns
at_most_on a b [] le h = tt
at_most_on a b (n ∷ ns) le h = (omega (arith, h.0, le), at_most_on a b ns le h.1)

at_most_snoc : (a : ℕ) (ns : List ℕ) → AtMost a ns → AtMost a (ns ++ a ∷ [])
at_most_snoc a [] h = (omega arith, tt)
at_most_snoc a (n ∷ ns) h = (h.0, at_most_snoc a ns h.1)

same_words : (words after : List ℕ) (end : ℕ) (ls : List Label) → ((w : ℕ) → 2 ≤ w → w < end → slice_index after w ≡ slice_index words w) → AreLabelWords end ls
    → AreWords words ls → AreWords after ls
same_words words after end [] same k a = tt
same_words words after end (l ∷ ls) same k a = (same l.word k.0 k.1 ∙ a.0, same_words words after end ls same k.2 a.1)

known_on : (a b : ℕ) (ls : List Label) → a ≤ b → AreLabelWords a ls → AreLabelWords b ls
known_on a b [] le h = tt
known_on a b (l ∷ ls) le h = (h.0, omega (arith, h.1, le), known_on a b ls le h.2)

-- a version that was loaded
snapshot_on : (words : List ℕ) (end n : ℕ) (snapshot : Snapshot) (s t : Bool) → n ≡ slice_index words 0 → (t ≡ true → n % 2 ≡ 0) → IsSnapshot words end snapshot
    → IsSnapshot words end (if s then snapshot else (if t then record { version = n; labels = [] } else snapshot))
snapshot_on words end n snapshot true t is even h = h
snapshot_on words end n snapshot false false is even h = h
snapshot_on words end n snapshot false true is even h = record { even = even refl; most = omega (arith, is); known = tt; same = λ _. tt }

-- the first seat is the writer's alone
reader_seat : (s : State (Unit {0}) View) (id : ℕ) (v : View) (kept : OrderRule s) → get_elem? s.views id ≡ some v → v.writes ≡ false → id ≢ 0
reader_seat s id v kept at reads first =
    let same : kept.writer ≡ v = some-injective _ _ (sym kept.writer_first ∙ ap (get_elem? s.views) (sym first) ∙ at) in
    let both : true ≡ false = sym kept.knows_all.writes ∙ ap (λ (u : View). u.writes) same ∙ reads in
    cc

writer_seat : (s : State (Unit {0}) View) (id : ℕ) (v : View) (kept : OrderRule s) → get_elem? s.views id ≡ some v → v.writes ≡ true → id ≡ 0
writer_seat s id v kept at writes =
    elim (tested (id == 0)) [
      | inl e ↦ eq_of id 0 e
      | inr e ↦ absurd (let both : true ≡ false = sym writes ∙ (kept.readers id v at (apart id 0 e)).reads in cc)
    ]

writer_is : (s : State (Unit {0}) View) (id : ℕ) (v : View) (kept : OrderRule s) → get_elem? s.views id ≡ some v → id ≡ 0 → IsWriter s.words kept.log v
writer_is s id v kept at first = subst (IsWriter s.words kept.log)
    (some-injective _ _ (sym kept.writer_first ∙ ap (get_elem? s.views) (sym first) ∙ at)) kept.knows_all

-- a step that changes a reader's view alone
module _ (s : State (Unit {0}) View) (id : ℕ) (v w : View) (kept : OrderRule s) (at : get_elem? s.views id ≡ some v) (was : v.writes ≡ false)
    (on : IsReader s.words kept.log v → IsReader s.words kept.log w) where
  pub kept_view : OrderRule (record { words = s.words; homes = s.homes; views = slice_set s.views id w })
  kept_view =
      let ne = reader_seat s id v kept at was in
      record {
        log = kept.log;
        published = kept.published;
        writer = kept.writer;
        writer_first = set_else s.views id 0 w (λ e. ne (sym e)) ∙ kept.writer_first;
        knows_all = kept.knows_all;
        readers = λ seat u there not_first. elim (at_set s.views id seat w u there) [
          | inl here ↦ subst (IsReader s.words kept.log) here.1 (on (kept.readers id v at ne))
          | inr else' ↦ kept.readers seat u else'.1 not_first
        ];
      }

  pub kept_load : (i : ℕ) → OrderRule (record { words = slice_set s.words i (slice_index s.words i); homes = s.homes; views = slice_set s.views id w })
  kept_load i = subst (λ (ws : List ℕ). OrderRule (record {
    words = ws;
    homes = s.homes;
    views = slice_set s.views id w;
  })) (sym (set-get_or s.words i 0)) kept_view

version_on : (words : List ℕ) (log : List Insert) (v : View) → IsReader words log v → IsReader words log (after_version v (slice_index words 0))
version_on words log v r =
    let n = slice_index words 0 in
    record {
      reads = r.reads;
      starts = r.starts;
      olds = r.olds;
      snapshot = snapshot_on words (2 * length v.log + 4) n v.snapshot (n == v.snapshot.version) (n % 2 == 0) refl (λ e. eq_of (n % 2) 0 e) r.snapshot;
      loads = at_most_snoc n v.loaded r.loads;
    }

moment : (words : List ℕ) (log : List Insert) (v : View) → IsPublished words log → IsReader words log v → slice_index words 0 ≡ v.snapshot.version → IsMoment v
moment words log v p r e = record {
  words = words;
  log = log;
  starts = r.starts;
  labels = r.snapshot.same (sym e);
  rises = p.rising (ap (λ (n : ℕ). n % 2) e ∙ r.snapshot.even);
}

pub loads_version : (slots id : ℕ) (v : View) → v.writes ≡ false → Allows OrderRule slots id (v, []) 0 (λ n. n) (LoadedVersion (step slots 0 0 0 none) (v, []))
loads_version slots id v was s kept homes at fits =
    let n = slice_index s.words 0 in (
      after_version v n,
      keeps,
      tt,
      kept_load s id v (after_version v n) kept at was (version_on s.words kept.log v) 0,
      (refl, (λ e. moment s.words kept.log v kept.published (kept.readers id v at (reader_seat s id v kept at was)) e)),
    )

label_on : (words : List ℕ) (log : List Insert) (v : View) (word : ℕ) → 2 ≤ word → word < 2 * length v.log + 4 → IsReader words log v
    → IsReader words log (after_label v word (slice_index words word))
label_on words log v word low high r = record {
  reads = r.reads;
  starts = r.starts;
  olds = r.olds;
  snapshot = record { even = r.snapshot.even; most = r.snapshot.most; known = (low, high, r.snapshot.known); same = λ e. (refl, r.snapshot.same e) };
  loads = r.loads;
}

pub loads_label : (slots id word : ℕ) (v : View) → v.writes ≡ false → 2 ≤ word → word < 2 * length v.log + 4
    → Allows OrderRule slots id (v, []) word (λ n. n) (LoadedLabel (step slots word 0 0 none) (v, []))
loads_label slots id word v was low high s kept homes at fits = (
  after_label v word (slice_index s.words word),
  keeps,
  tt,
  kept_load s id v (after_label v word (slice_index s.words word)) kept at was (label_on s.words kept.log v word low high) word,
  (refl, (kept.readers id v at (reader_seat s id v kept at was)).olds),
)

newcomer_on : (words : List ℕ) (log start : List Insert) → StartsWith log start → IsReader words log (reader_of start)
newcomer_on words log start starts = record {
  reads = refl;
  starts = starts;
  olds = tt;
  snapshot = record { even = refl; most = omega arith; known = tt; same = λ _. tt };
  loads = tt;
}

-- the log of a view begins the log
log_starts : (s : State (Unit {0}) View) (id : ℕ) (v : View) (b : Bool) (k : OrderRule s) → get_elem? s.views id ≡ some v → v.writes ≡ b
    → StartsWith k.log v.log
log_starts s id v true k at is = subst (λ (l : List Insert). StartsWith k.log l)
    (sym (writer_is s id v k at (writer_seat s id v k at is)).log_is) (starts_self k.log)
log_starts s id v false k at is = (k.readers id v at (reader_seat s id v k at is)).starts

pub splits : (id : ℕ) (v : View) → Splits OrderRule id v v (reader_of v.log)
splits id v s kept at =
    let same = set_again s.views id v at in
    subst (λ (vs : List View). OrderRule (record { words = s.words; homes = s.homes; views = vs ++ reader_of v.log ∷ [] })) (sym same) (record {
      log = kept.log;
      published = kept.published;
      writer = kept.writer;
      writer_first = at_longer s.views (reader_of v.log ∷ []) 0 kept.writer kept.writer_first;
      knows_all = kept.knows_all;
      readers = λ seat u there not_first. elim (at_snoc s.views (reader_of v.log) u seat there) [
        | inl old ↦ kept.readers seat u old not_first
        | inr new ↦ subst (IsReader s.words kept.log) new (newcomer_on s.words kept.log v.log (log_starts s id v v.writes kept at refl))
      ];
    })

join_on : (words : List ℕ) (log : List Insert) (v w : View) → IsReader words log v → IsReader words log w → IsReader words log (joined v w)
join_on words log v w r q =
    let l = longer_is log v.log w.log r.starts q.starts in
    record {
      reads = refl;
      starts = l.begins;
      olds = (l.first, (l.second, tt));
      snapshot = record { even = refl; most = omega arith; known = tt; same = λ _. tt };
      loads = r.loads;
    }

pub joins : (id other : ℕ) (v w : View) → v.writes ≡ false → w.writes ≡ false → Joins OrderRule id v other w (joined v w) (reader_of [])
unfolding kept_view
joins id other v w was was' s kept at apart at' =
    let both = joined v w in
    let at_w : get_elem? s.views other ≡ some w = elim (at_set s.views id other both w at') [ inl here ↦ absurd (apart here.0) | inr else' ↦ else'.1 ] in
    let q = kept.readers other w at_w (reader_seat s other w kept at_w was') in
    let one = kept_view s id v both kept at was (λ r. join_on s.words kept.log v w r q) in
    kept_view (record {
      words = s.words;
      homes = s.homes;
      views = slice_set s.views id both;
    }) other w (reader_of []) one at' was' (λ r. newcomer_on s.words kept.log [] (kept.log, refl))

reader_on : (words after : List ℕ) (log longer : List Insert) (v : View) → MayWrite words log after longer → IsReader words log v → IsReader after longer v
reader_on words after log longer v m r =
    let t = r.starts in
    let short : length log ≡ length v.log + length t.0 = ap (length {A = Insert}) t.1 ∙ length-append v.log t.0 in
    record {
      reads = r.reads;
      starts = starts_on longer log v.log m.starts r.starts;
      olds = r.olds;
      snapshot = record {
        even = r.snapshot.even;
        most = omega (arith, r.snapshot.most, m.version);
        known = r.snapshot.known;
        same = λ e.
            let stays : slice_index words 0 ≡ slice_index after 0 = omega (arith, r.snapshot.most, m.version, e) in
            let snapshot : v.snapshot.version ≡ slice_index words 0 = omega (arith, stays, e) in
            let even : slice_index words 0 % 2 ≡ 0 = ap (λ (n : ℕ). n % 2) (sym snapshot) ∙ r.snapshot.even in
            same_words words after (2 * length v.log + 4) v.snapshot.labels (λ w low high. m.steady stays even w low (omega (arith, high, short)))
            r.snapshot.known (r.snapshot.same snapshot);
      };
      loads = at_most_on (slice_index words 0) (slice_index after 0) v.loaded m.version r.loads;
    }

-- where there is a first seat
some_length : (vs : List View) (v : View) → get_elem? vs 0 ≡ some v → 0 < length vs
some_length [] v e = absurd (some-ne-none v (sym e))
some_length (u ∷ us) v e = omega arith

-- a store of the writer, which its view allows
pub writes : (slots id i n : ℕ) (v : View) (longer : List Insert) → v.writes ≡ true
    → (IsPublished v.words v.log → MayWrite v.words v.log (slice_set v.words i n) longer)
    → Allows OrderRule slots id (v, []) i (λ _. n) (λ _ w. w ≡ (after_store v i n longer, []))
writes slots id i n v longer was may s kept homes at fits =
    let first = writer_seat s id v kept at was in
    let me = writer_is s id v kept at first in
    let w = after_store v i n longer in
    let may' : IsPublished s.words kept.log → MayWrite s.words kept.log (slice_set s.words i n) longer =
    subst (λ (l : List Insert). IsPublished s.words l → MayWrite s.words l (slice_set s.words i n) longer) me.log_is
    (subst (λ (ws : List ℕ). IsPublished ws v.log → MayWrite ws v.log (slice_set ws i n) longer) me.words_are may) in
    let m = may' kept.published in
    let there : get_elem? (slice_set s.views id w) 0 ≡ some w = rw first (set_here s.views 0 w (some_length s.views kept.writer kept.writer_first)) in (
      w,
      keeps,
      tt,
      record {
        log = longer;
        published = m.published;
        writer = w;
        writer_first = there;
        knows_all = record { writes = was; words_are = ap (λ (ws : List ℕ). slice_set ws i n) me.words_are; log_is = refl };
        readers = λ seat u at' not_first. elim (at_set s.views id seat w u at') [
          | inl here ↦ absurd (not_first (here.0 ∙ first))
          | inr else' ↦ reader_on s.words (slice_set s.words i n) kept.log longer u m (kept.readers seat u else'.1 not_first)
        ];
      },
      refl,
    )
