use Rattle.std.proofs.Common.{ℕ, length, take}
use Rattle.reach_table.specs.Telling.{AllKnown}
use Rattle.run_book.specs.Tabling.{MergesEnds}
use Rattle.run_book.proofs.going_on.table_after_sync.Given as goal

abbrev pub invariant-loop-child : goal.invariant-loop-child
invariant-loop-child g l = AllKnown (length l.lists.english.order) l.table × MergesEnds l.lines l.lists l.reach l.own (take l.child-index l.block) l.table
