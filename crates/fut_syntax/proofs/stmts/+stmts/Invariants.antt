use Rattle.std.proofs.Common.{◌≡◌, ◌+◌, ◌-◌, ◌*◌, ◌≤◌, List, [], ◌∷◌, length}
use Rattle.fut_tokens.specs.declared.token.Token.{Token}
use Rattle.fut_syntax.specs.Trees.{Block}
use Rattle.fut_syntax.specs.Tokens.{block_before}
use Rattle.fut_syntax.specs.Views.{joined}
use Rattle.fut_syntax.specs.Steps.{Steps, braced}
use Rattle.fut_syntax.specs.Machine.{Block', Stmts}
use Rattle.fut_syntax.proofs.stmts.+stmts.Given as goal

abbrev pub decreases-block : goal.decreases-block
decreases-block l = (64 - l.depth) * 4

abbrev pub decreases-tail : goal.decreases-tail
decreases-tail l = (64 - l.depth) * 4 + 1

abbrev pub decreases-branched : goal.decreases-branched
decreases-branched l = (64 - l.depth) * 4 + 2

abbrev pub decreases-looped : goal.decreases-looped
decreases-looped l = (64 - l.depth) * 4 + 2

abbrev pub decreases-stmt : goal.decreases-stmt
decreases-stmt l = (64 - l.depth) * 4 + 3

abbrev pub invariant-block-stmts : goal.invariant-block-stmts
invariant-block-stmts l = record {
  goes : Steps (Block' ∷ []) l.depth l.fn.cursor (Stmts ∷ []) l.inner l.cursor;
  deeper : l.inner ≡ l.depth + 1;
  high : l.inner ≤ 64;
  tokens : (rest : Block) (r : List Token) → l.cursor ≡ block_before rest r → l.fn.cursor ≡ braced (joined l.all.items rest) r;
}

abbrev pub decreases-block-stmts : goal.decreases-block-stmts
decreases-block-stmts l = length l.cursor
