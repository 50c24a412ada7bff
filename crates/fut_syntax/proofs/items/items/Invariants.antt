use Rattle.std.proofs.Common.{[], ◌∷◌, length}
use Rattle.fut_syntax.specs.Steps.{Steps, SpellsMore}
use Rattle.fut_syntax.specs.Machine.{First, More}
use Rattle.fut_syntax.proofs.items.items.Given as goal

abbrev pub invariant-more : goal.invariant-more
invariant-more l = record {
  goes : Steps (First ∷ []) 0 l.fn.cursor (More ∷ []) 0 l.cursor;
  tokens : SpellsMore l.fn.cursor l.cursor l.all.items;
}

abbrev pub decreases-more : goal.decreases-more
decreases-more l = length l.cursor
