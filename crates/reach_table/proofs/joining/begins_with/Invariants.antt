use Rattle.std.proofs.Common.{◌≡◌, true, take}
use Rattle.fut_base.specs.Dag.{Among}
use Rattle.strand_tree.specs.declared.strand.Strand.{Strand}
use Rattle.reach_table.proofs.joining.begins_with.Given as goal

abbrev pub invariant-loop-n : goal.invariant-loop-n
invariant-loop-n l = l.same ≡ true → (x : Strand) → Among x (take l.n l.other) → Among x l.strands
