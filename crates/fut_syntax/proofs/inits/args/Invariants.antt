use Rattle.std.proofs.Common.{◌≡◌, ◌++◌, List, [], ◌∷◌, length}
use Rattle.fut_tokens.specs.declared.token.Token.{Token}
use Rattle.fut_syntax.specs.Trees.{Expr}
use Rattle.fut_syntax.specs.Tokens.{args_before, more_before}
use Rattle.fut_syntax.specs.Views.{args_tree}
use Rattle.fut_syntax.specs.Steps.{Steps}
use Rattle.fut_syntax.specs.Machine.{Args, ArgsTail}
use Rattle.fut_syntax.proofs.inits.args.Given as goal

abbrev pub invariant-more : goal.invariant-more
invariant-more l = record {
  goes : Steps (Args ∷ []) l.depth l.fn.cursor (ArgsTail ∷ []) l.depth l.cursor;
  tokens : (rest : List Expr) (r : List Token) → l.cursor ≡ more_before rest r → l.fn.cursor ≡ args_before (args_tree l.all.items ++ rest) r;
}

abbrev pub decreases-more : goal.decreases-more
decreases-more l = length l.cursor
