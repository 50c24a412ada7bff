-- What is known of a run while it is sought.
use Rattle.std.proofs.Common.{◌≡◌, ◌≢◌, ℕ, zero, suc, ◌+◌, ◌-◌, ◌*◌, ◌/◌, ◌^◌, ◌==◌, if◌then◌else◌, ◌<◌, ◌≤◌}
use Rattle.std.proofs.Common.{Bool, true, false, List, ◌⊎◌, inl, inr, subst, ap, sym, refl, ◌∙◌, length, arith, true≢false}
use Rattle.std.proofs.lemmas.Bool.{cases_lt, cases_eq}
use Rattle.fut_base.proofs.Cases.{by_eq}
use Rattle.strand_tree.specs.declared.strand.Strand.{Strand}
use Rattle.access_shards.specs.Reading.{EndsBefore}
use Rattle.access_shards.proofs.Looking.{no_access}
use Rattle.access_shards.proofs.Rising.{ends_at}
use Rattle.access_shards.specs.declared.kept.Access.{Access}
use Rattle.access_shards.specs.declared.run.Span.{Span}
use Rattle.access_shards.specs.declared.run.Run.{Run}
use Rattle.access_shards.specs.Runs.{access_at, IsUpTo, IsReaching, IsSpan, IsRun, AreBounds, IsNarrower, LooksAt, MayBeRow}

-- what is known of a run whose end is known
pub record AreFrom (english hebrew : List ℕ) (at : Strand) (row : List Access) (floor start end : ℕ) : Type 0 where
  pub left : 0 < floor → IsReaching english hebrew at (access_at row (floor - 1)) → ⊥
  pub first : start < end → IsReaching english hebrew at (access_at row start)

module _ (english hebrew : List ℕ) (at : Strand) (row : List Access) where
  pub from_span : (span : Span) → IsSpan english hebrew at row span → AreFrom english hebrew at row span.floor span.start span.low
  from_span span is = record { left = is.left; first = is.first }

  -- the access before the start is reaching
  pub from_reaching : (floor start end : ℕ) → AreFrom english hebrew at row floor start end → IsReaching english hebrew at (access_at row (start - 1))
      → AreFrom english hebrew at row floor (start - 1) end
  from_reaching floor start end k is = record { left = k.left; first = λ _. is }

  -- or it is not
  pub from_other : (floor start end : ℕ) → AreFrom english hebrew at row floor start end
      → (IsReaching english hebrew at (access_at row (start - 1)) → ⊥) → AreFrom english hebrew at row start start end
  from_other floor start end k off = record { left = λ _. off; first = k.first }

  pub is_run : (span : Span) (floor start : ℕ) → span.low ≡ span.high → start ≤ floor → floor ≤ start → IsSpan english hebrew at row span
      → AreFrom english hebrew at row floor start span.low → IsRun english hebrew at row (record { start = start; end = span.low })
  is_run span floor start met le ge is k =
      record {
        left = subst (λ n. 0 < n → IsReaching english hebrew at (access_at row (n - 1)) → ⊥) (same floor start le ge) k.left;
        first = k.first;
        last = is.last;
        right = subst (λ n. n < length row → IsUpTo english at (access_at row n) → ⊥) (sym met) is.right;
      }
    where
      same : (a b : ℕ) → b ≤ a → a ≤ b → a ≡ b
      same a b l k = omega (arith, l, k)

-- a span whose place is before a place of it
pub narrowed_down : (count : ℕ) (span : Span) (middle : ℕ) → AreBounds count span → span.low ≤ middle → middle < span.high
    → IsNarrower count span middle (record { floor = span.floor; start = span.start; low = span.low; high = middle })
narrowed_down count span middle b le lt =
    record {
      bounds = record { floor_is = b.floor_is; start_is = b.start_is; low_is = le; high_is = omega (arith, lt, b.high_is) };
      sides = inl (refl, refl);
      counts = omega (arith, lt);
    }

pub span_down : (english hebrew : List ℕ) (at : Strand) (row : List Access) (span : Span) (middle : ℕ) → IsSpan english hebrew at row span
    → (IsUpTo english at (access_at row middle) → ⊥)
    → IsSpan english hebrew at row (record { floor = span.floor; start = span.start; low = span.low; high = middle })
span_down english hebrew at row span middle is off = record { left = is.left; first = is.first; last = is.last; right = λ _. off }

-- or after it, where an access of the run is known
pub narrowed_on : (count : ℕ) (span : Span) (middle : ℕ) (next : Span) → next.floor ≡ span.floor → next.start ≡ span.start → next.low ≡ middle + 1
    → next.high ≡ span.high → AreBounds count span → span.low ≤ middle → middle < span.high → IsNarrower count span middle next
narrowed_on count span middle next ef es el eh b le lt =
    record {
      bounds = record {
        floor_is = omega (arith, ef, es, b.floor_is);
        start_is = omega (arith, es, el, b.start_is, le);
        low_is = omega (arith, el, eh, lt);
        high_is = omega (arith, eh, b.high_is);
      };
      sides = inr (el, eh);
      counts = omega (arith, ef, es, el, eh, le);
    }

pub span_on : (english hebrew : List ℕ) (at : Strand) (row : List Access) (span : Span) (middle : ℕ) (next : Span) → next.floor ≡ span.floor
    → next.start ≡ span.start → next.low ≡ middle + 1 → next.high ≡ span.high → span.start < span.low → IsSpan english hebrew at row span
    → IsUpTo english at (access_at row middle) → IsSpan english hebrew at row next
span_on english hebrew at row span middle next ef es el eh some is up =
    record {
      left = subst (λ n. 0 < n → IsReaching english hebrew at (access_at row (n - 1)) → ⊥) (sym ef) is.left;
      first = λ _. subst (λ n. IsReaching english hebrew at (access_at row n)) (sym es) (is.first some);
      last = λ _. subst (λ n. IsUpTo english at (access_at row n)) (minus next.low middle el) up;
      right = subst (λ n. n < length row → IsUpTo english at (access_at row n) → ⊥) (sym eh) is.right;
    }
  where
    minus : (a b : ℕ) → a ≡ b + 1 → b ≡ a - 1
    minus a b e = omega (arith, e)

-- or where none is, and the one at the place is not in it
pub narrowed_past : (count : ℕ) (span : Span) (middle : ℕ) (next : Span) → next.floor ≡ middle + 1 → next.start ≡ middle + 1 → next.low ≡ middle + 1
    → next.high ≡ span.high → AreBounds count span → span.low ≤ middle → middle < span.high → IsNarrower count span middle next
narrowed_past count span middle next ef es el eh b le lt =
    record {
      bounds = record {
        floor_is = omega (arith, ef, es);
        start_is = omega (arith, es, el);
        low_is = omega (arith, el, eh, lt);
        high_is = omega (arith, eh, b.high_is);
      };
      sides = inr (el, eh);
      counts = omega (arith, ef, es, el, eh, le, b.floor_is, b.start_is);
    }

pub span_past : (english hebrew : List ℕ) (at : Strand) (row : List Access) (span : Span) (middle : ℕ) (next : Span) → next.floor ≡ middle + 1
    → next.start ≡ middle + 1 → next.low ≡ middle + 1 → next.high ≡ span.high → IsSpan english hebrew at row span
    → IsUpTo english at (access_at row middle) → (IsReaching english hebrew at (access_at row middle) → ⊥) → IsSpan english hebrew at row next
span_past english hebrew at row span middle next ef es el eh is up off =
    record {
      left = λ _ r. off (subst (λ n. IsReaching english hebrew at (access_at row n)) (sym (minus next.floor middle ef)) r);
      first = λ lt. absurd (omega (arith, es, el, lt));
      last = λ _. subst (λ n. IsUpTo english at (access_at row n)) (minus next.low middle el) up;
      right = subst (λ n. n < length row → IsUpTo english at (access_at row n) → ⊥) (sym eh) is.right;
    }
  where
    minus : (a b : ℕ) → a ≡ b + 1 → b ≡ a - 1
    minus a b e = omega (arith, e)

-- or is the first one that is known
pub narrowed_first : (count : ℕ) (span : Span) (middle : ℕ) (next : Span) → next.floor ≡ span.floor → next.start ≡ middle → next.low ≡ middle + 1
    → next.high ≡ span.high → span.start ≡ span.low → AreBounds count span → span.low ≤ middle → middle < span.high → IsNarrower count span middle next
narrowed_first count span middle next ef es el eh none b le lt =
    record {
      bounds = record {
        floor_is = omega (arith, ef, es, le, b.floor_is, b.start_is);
        start_is = omega (arith, es, el);
        low_is = omega (arith, el, eh, lt);
        high_is = omega (arith, eh, b.high_is);
      };
      sides = inr (el, eh);
      counts = omega (arith, ef, es, el, eh, none, le);
    }

pub span_first : (english hebrew : List ℕ) (at : Strand) (row : List Access) (span : Span) (middle : ℕ) (next : Span) → next.floor ≡ span.floor
    → next.start ≡ middle → next.low ≡ middle + 1 → next.high ≡ span.high → IsSpan english hebrew at row span
    → IsReaching english hebrew at (access_at row middle) → IsSpan english hebrew at row next
span_first english hebrew at row span middle next ef es el eh is r =
    record {
      left = subst (λ n. 0 < n → IsReaching english hebrew at (access_at row (n - 1)) → ⊥) (sym ef) is.left;
      first = λ _. subst (λ n. IsReaching english hebrew at (access_at row n)) (sym es) r;
      last = λ _. subst (λ n. IsUpTo english at (access_at row n)) (minus next.low middle el) (elim r [ inl e ↦ inl e | inr p ↦ inr p.0 ]);
      right = subst (λ n. n < length row → IsUpTo english at (access_at row n) → ⊥) (sym eh) is.right;
    }
  where
    minus : (a b : ℕ) → a ≡ b + 1 → b ≡ a - 1
    minus a b e = omega (arith, e)

doubled : (j : ℕ) → 2 ^ suc j ≡ 2 ^ j + 2 ^ j
doubled j = omega arith

-- an interval that is halved
pub halved : (low high middle low' high' k : ℕ) → low < high → middle ≡ low + (high - low) / 2 → high < low + 2 ^ k
    → ((low' ≡ low) × (high' ≡ middle)) ⊎ ((low' ≡ middle + 1) × (high' ≡ high)) → (j : ℕ) × (suc j ≡ k) × (high' < low' + 2 ^ j)
halved low high middle low' high' zero lt is less sides = absurd (omega (arith, lt, less))
halved low high middle low' high' (suc j) lt is less (inl e) = (j, refl, let d = doubled j in omega (arith, lt, is, less, d, e.0, e.1))
halved low high middle low' high' (suc j) lt is less (inr e) = (j, refl, let d = doubled j in omega (arith, lt, is, less, d, e.0, e.1))

-- an interval that can be halved has bits
pub some_bits : (low high k : ℕ) → low < high → high < low + 2 ^ k → 0 < k
some_bits low high zero lt less = absurd (omega (arith, lt, less))
some_bits low high (suc k) lt less = omega arith

-- what is told of a look by a judge at another time
pub looks_at : (english hebrew english' hebrew' : List ℕ) (at : Strand) (listed : Bool) (readers row : List Access) (span : Span) (middle : ℕ) (next : Span)
    → english' ≡ english → hebrew' ≡ hebrew → LooksAt english' hebrew' at listed readers row span middle next
    → LooksAt english hebrew at listed readers row span middle next
looks_at english hebrew english' hebrew' at listed readers row span middle next e h l =
    subst (λ n. LooksAt n hebrew at listed readers row span middle next) e (subst (λ n. LooksAt english' n at listed readers row span middle next) h l)

-- nothing is known yet
pub first_span : (english hebrew : List ℕ) (at : Strand) (row : List Access)
    → IsSpan english hebrew at row (record { floor = 0; start = 0; low = 0; high = length row })
first_span english hebrew at row =
    record {
      left = λ lt. absurd (omega (arith, lt));
      first = λ lt. absurd (omega (arith, lt));
      last = λ lt. absurd (omega (arith, lt));
      right = λ lt. absurd (omega (arith, lt));
    }

-- where the last access is up to the strand, the place of the strand is at the end
pub last_low : (english hebrew : List ℕ) (at : Strand) (listed : Bool) (readers row : List Access) (next : Span)
    → LooksAt english hebrew at listed readers row (record { floor = 0; start = 0; low = 0; high = length row }) (length row - 1) next
    → 0 < length row → listed ≡ false → EndsBefore english at row → next.low ≡ length row
last_low english hebrew at listed readers row next looks some off ends = elim looks.narrower.sides [
  | inl e ↦ absurd (
      let is = looks.is (λ y. absurd (true≢false (sym y ∙ off))) (first_span english hebrew at row) in
      let up = (ends_at english at row no_access some ends).first in
      is.right (omega (arith, e.1, some)) (subst (λ n. IsUpTo english at (access_at row n)) (sym e.1) up))
  | inr e ↦ omega (arith, e.0, some)
]
