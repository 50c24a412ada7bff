use Rattle.std.proofs.Common.{◌≡◌, ℕ, true, ◌++◌, length, take, drop, map, subst, sym, ◌∙◌, IsTrue, ◌↔◌}
use Rattle.std.proofs.Math.Seq.{take-append_seam}
use Rattle.fut_base.specs.Dag.{ReachesBy}
use Rattle.race_origins.specs.Edges.{ends_of}
use Rattle.race_origins.specs.Marks.{has, OnlyReaching}
use Rattle.race_origins.proofs.Ways.{comes_from_inside}
use Rattle.race_origins.proofs.marks.marks_before.Goals as goal

pub returns-then-not-sweep : goal.returns-then-not-sweep
returns-then-not-sweep c =
    let edges = c.args.edges.now in
    let end = c.args.strand in
    let new = c.sweep.new.marks in
    let rest = drop (length new) c.loop-marks.marks.items in
    let ends = c.sweep.ensures in
    let before = sym c.as_mut_slice.ensures.value in
    let len : length new ≡ c.loop-marks.marks.len = ends.len ∙ c.as_mut_slice.ensures.len in
    let all : take c.loop-marks.marks.len (new ++ rest) ≡ new = subst (λ n. take n (new ++ rest) ≡ new) len (take-append_seam new rest) in
    let sound = ends.sound end (subst (λ ms. OnlyReaching edges end ms) before c.loop-marks.invariant.sound) in
    let begun = ends.kept end (subst (λ ms. has ms end ≡ true) before c.loop-marks.invariant.begun) in
    subst (λ ms. (v : ℕ) → IsTrue (has ms v) ↔ ReachesBy (map ends_of edges) v end) (sym all)
    (λ v. (sound v, λ r. comes_from_inside edges (has new) (ends.closed c.if-not-sweep.true) v end r begun))
