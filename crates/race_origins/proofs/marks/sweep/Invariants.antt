use Rattle.std.proofs.Common.{◌≡◌, ◌+◌, ◌≤◌, ℕ, true, false, if◌then◌else◌, length, drop}
use Rattle.race_origins.specs.Marks.{has, unmarked, IsClosed, OnlyReaching}
use Rattle.race_origins.proofs.marks.sweep.Given as goal

abbrev pub invariant-loop-place : goal.invariant-loop-place
invariant-loop-place l = record {
  len : length l.marks ≡ length l.initial.marks;
  kept : (v : ℕ) → has l.initial.marks v ≡ true → has l.marks v ≡ true;
  sound : (end : ℕ) → OnlyReaching l.edges end l.initial.marks → OnlyReaching l.edges end l.marks;
  falls : unmarked l.marks + (if l.added then 1 else 0) ≤ unmarked l.initial.marks;
  closed : l.added ≡ false → IsClosed (drop l.place l.edges) l.marks;
}
