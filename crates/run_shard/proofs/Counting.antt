-- The cells of a shard, one by one.
use Rattle.std.proofs.Common.{◌≡◌, ◌≢◌, ℕ, zero, suc, ◌+◌, ◌*◌, ◌/◌, ◌%◌, ◌<◌, ◌≤◌, List, [], ◌∷◌, ◌++◌, length, reverse, inl, inr, ◌⊎◌, subst, ap, sym, refl, ◌∙◌, arith}
use Rattle.std.specs.Prelude.{Some, ℤ, slice_get}
use Rattle.std.proofs.lemmas.List.{reverse-append}
use Rattle.std.proofs.lemmas.Option.{same_Some, slice_get_within}
use Rattle.atomic_table.specs.Seated.{TableId}
use Rattle.fut_base.specs.Dag.{Among}
use Rattle.task_code.specs.Flat.{Compiled}
use Rattle.access_shards.specs.declared.kept.Kept.{Kept}
use Rattle.access_shards.specs.Kept.{IsKept}
use Rattle.access_shards.specs.Logged.{Logged}
use Rattle.event_clock.specs.Seated.{Ticking}
use Rattle.merge_laws.specs.Parts.{value_left}
use Rattle.merge_laws.specs.Laws.{touches_in}
use Rattle.run_place.specs.Placed.{events_in}
use Rattle.merge_laws.proofs.Lists.{among_reverse, reverse_among}
use Rattle.run_shard.specs.Shards.{ShardNow, IsShard, IsCellOf, made_by, known_by}
use Rattle.run_shard.specs.Ends.{cells_from, cells_of, IsEndOf, AreEnds}
use Rattle.run_shard.proofs.Setting.{get_within}
use Rattle.run_shard.proofs.Shifting.{on_known}

from_last : (i k : ℕ) (values : List ℤ) (logs : List Logged) (v : ℤ) (l : Logged) → length logs ≡ length values
    → cells_from i k (values ++ v ∷ []) (logs ++ l ∷ []) ≡ cells_from i k values logs ++ (8 * (k + length values) + i, v, l.kept) ∷ []
from_last i k [] [] v l same = ap (λ n. (n, v, l.kept) ∷ []) (omega arith)
from_last i k [] (m ∷ logs) v l same = absurd (omega (arith, same))
from_last i k (u ∷ values) [] v l same = absurd (omega (arith, same))
from_last i k (u ∷ values) (m ∷ logs) v l same =
    let number : 8 * (k + 1 + length values) + i ≡ 8 * (k + length (u ∷ values)) + i = omega arith in
    ap (λ (cs : List (ℕ × ℤ × Kept)). (8 * k + i, u, m.kept) ∷ cs)
    (from_last i (k + 1) values logs v l (omega (arith, same)) ∙ ap (λ n. cells_from i (k + 1) values logs ++ (n, v, l.kept) ∷ []) number)

-- the first cell is that of the last value and the last log
pub last_cell : (i : ℕ) (values : List ℤ) (logs : List Logged) (v : ℤ) (l : Logged) → length logs ≡ length values
    → cells_of i (values ++ v ∷ []) (logs ++ l ∷ []) ≡ (8 * length values + i, v, l.kept) ∷ cells_of i values logs
last_cell i values logs v l same =
    let number : 8 * (0 + length values) + i ≡ 8 * length values + i = omega arith in
    ap reverse (from_last i 0 values logs v l same ∙ ap (λ n. cells_from i 0 values logs ++ (n, v, l.kept) ∷ []) number)
    ∙ reverse-append (cells_from i 0 values logs) ((8 * length values + i, v, l.kept) ∷ [])

-- a cell is that of some place
pub from_place : (i k : ℕ) (values : List ℤ) (logs : List Logged) (c : ℕ) (value : ℤ) (kept : Kept) → Among (c, value, kept) (cells_from i k values logs)
    → (j : ℕ) × (log : Logged) × (slice_get values j ≡ Some value) × (slice_get logs j ≡ Some log) × (c ≡ 8 * (k + j) + i) × (kept ≡ log.kept)
from_place i k [] logs c value kept a = absurd a
from_place i k (v ∷ values) [] c value kept a = absurd a
from_place i k (v ∷ values) (l ∷ logs) c value kept (inl same) = (
  0,
  l,
  ap (λ (x : ℕ × ℤ × Kept). Some x.1) same,
  refl,
  (let e = ap (λ (x : ℕ × ℤ × Kept). x.0) same in omega (arith, e)),
  ap (λ (x : ℕ × ℤ × Kept). x.2) (sym same),
)
from_place i k (v ∷ values) (l ∷ logs) c value kept (inr a) =
    let x = from_place i (k + 1) values logs c value kept a in
    (suc x.0, x.1, x.2, x.3, (let e = x.4 in omega (arith, e)), x.5)

-- each place has its cell
pub place_from : (i k : ℕ) (values : List ℤ) (logs : List Logged) (j n : ℕ) (value : ℤ) (log : Logged) → slice_get values j ≡ Some value → slice_get logs j ≡ Some log
    → n ≡ 8 * (k + j) + i → Among (n, value, log.kept) (cells_from i k values logs)
place_from i k [] logs j n value log v l same = absurd (cc)
place_from i k (u ∷ values) [] j n value log v l same = absurd (cc)
place_from i k (u ∷ values) (m ∷ logs) zero n value log v l same =
    let number : 8 * k + i ≡ n = omega (arith, same) in
    inl
    (ap (λ c. (c, u, m.kept)) number ∙ ap (λ (x : ℤ). (n, x, m.kept)) (same_Some u value v) ∙ ap (λ (x : Logged). (n, value, x.kept)) (same_Some m log l))
place_from i k (u ∷ values) (m ∷ logs) (suc j) n value log v l same = inr (place_from i (k + 1) values logs j n value log v l (omega (arith, same)))

-- what holds of the cells of a shard
pub shard_ends : (clock : Ticking) (orders : TableId) (code : Compiled) (i : ℕ) (s : ShardNow) → IsShard clock orders code i s
    → AreEnds code i s (cells_of i s.values s.logs)
shard_ends clock orders code i s is =
    record {
      each = λ c value kept a.
          let x = from_place i 0 s.values s.logs c value kept (reverse_among (c, value, kept) (cells_from i 0 s.values s.logs) a) in
          let there = is.cells x.0 value x.1 x.2 x.3 in
          let lt = slice_get_within s.values x.0 value x.2 in (
            in_shard x.0 c x.4 lt,
            record {
              value_is = there.value_is ∙ ap (λ n. value_left n (reverse (events_in (made_by s)))) (number x.0 c x.4);
              kept_is = subst (λ k. IsKept (events_in (known_by s)) (touches_in c (made_by s)) k) (sym x.5)
                  (subst (λ n. IsKept (events_in (known_by s)) (touches_in n (made_by s)) x.1.kept) (number x.0 c x.4) there.kept.kept);
              strands = on_known clock orders code i s is c;
            },
          );
      all = λ c of.
          let j = c / 8 in
          let lt = below c of in
          let v = get_within s.values j lt in
          let l = get_within s.logs j (let e = is.size.0 in omega (arith, lt, e)) in
          let whole : c ≡ 8 * (0 + j) + i = (let r = of.0 in omega (arith, r)) in (
            v.0,
            l.0.kept,
            among_reverse (c, v.0, l.0.kept) (cells_from i 0 s.values s.logs) (place_from i 0 s.values s.logs j c v.0 l.0 v.1 l.1 whole),
          );
    }
  where
    number : (j c : ℕ) → c ≡ 8 * (0 + j) + i → 8 * j + i ≡ c
    number j c same = omega (arith, same)

    -- a cell of the shard has its place
    below : (c : ℕ) → IsCellOf code i c → c / 8 < length s.values
    below c of = let r = of.0 in let lt = of.1 in let few = is.size.1 in omega (arith, r, lt, few)

    in_shard : (j c : ℕ) → c ≡ 8 * (0 + j) + i → j < length s.values → IsCellOf code i c
    in_shard j c same lt = let few = is.size.2 in let small = is.few.1 in (omega (arith, same, small), omega (arith, same, lt, few))
