-- From marks to the parting entry.
use Rattle.std.proofs.Common.{◌≡◌, ℕ, Bool, true, false, List, subst, IsTrue, ◌↔◌}
use Rattle.std.specs.Prelude.{◌&&◌, Option, None, Some}
use Rattle.std.proofs.lemmas.Bool.{and_parts, both_ways}
use Rattle.fut_base.specs.declared.event.Event.{Event}
use Rattle.fut_base.specs.Dag.{ReachesBy, edges_of}
use Rattle.race_origins.specs.Marks.{has}
use Rattle.race_origins.specs.Parting.{ReachesBoth, IsPartingOf, IsLastPlace, has_both}

and_true : (a b : Bool) → a ≡ true → b ≡ true → (a && b) ≡ true
and_true true b one other = other
and_true false b one other = cc

-- the marked strands are those that reach this one
abbrev pub MarksBefore : List Event → ℕ → List Bool → Type 0
MarksBefore h u marks = (s : ℕ) → IsTrue (has marks s) ↔ ReachesBy (edges_of h) s u

-- marks made over the edges of a history
pub marks_of : (h : List Event) (es : List (ℕ × ℕ)) (u : ℕ) (marks : List Bool) → es ≡ edges_of h → ((s : ℕ) → IsTrue (has marks s) ↔ ReachesBy es s u)
    → MarksBefore h u marks
marks_of h es u marks is made = subst (λ fs. (s : ℕ) → IsTrue (has marks s) ↔ ReachesBy fs s u) is made

module _ (h : List Event) (u v : ℕ) (one other : List Bool) (to_one : MarksBefore h u one) (to_other : MarksBefore h v other) where
  reaches_both : (e : Event) → has_both one other e ≡ true → ReachesBoth h u v e.strand
  reaches_both e marked =
      let both = and_parts (has one e.strand) (has other e.strand) marked in
      record { one = (to_one e.strand).0 both.0; other = (to_other e.strand).0 both.1 }

  marked_both : (e : Event) → ReachesBoth h u v e.strand → has_both one other e ≡ true
  marked_both e r = and_true (has one e.strand) (has other e.strand) ((to_one e.strand).1 r.one) ((to_other e.strand).1 r.other)

  pub parting_of : (last : Option ℕ) → IsLastPlace (has_both one other) h last → IsPartingOf h u v last
  parting_of None none = λ j e at r. both_ways (has_both one other e) (none j e at) (marked_both e r)
  parting_of (Some i) last = record {
    entry = last.0;
    stands = last.1;
    reaches = reaches_both last.0 last.2;
    last = λ j e lt at r. both_ways (has_both one other e) (last.3 j e lt at) (marked_both e r);
  }
