use Rattle.std.proofs.Common.{◌≡◌, ◌++◌, List, [], ◌∷◌, length}
use Rattle.fut_tokens.specs.declared.token.Token.{Token}
use Rattle.fut_syntax.specs.Trees.{Param}
use Rattle.fut_syntax.specs.Tokens.{params_before, more_params_before}
use Rattle.fut_syntax.specs.Views.{params_tree}
use Rattle.fut_syntax.specs.Steps.{Steps}
use Rattle.fut_syntax.specs.Machine.{Params, ParamsTail}
use Rattle.fut_syntax.proofs.items.params.Given as goal

abbrev pub invariant-more : goal.invariant-more
invariant-more l = record {
  goes : Steps (Params ∷ []) l.depth l.fn.cursor (ParamsTail ∷ []) l.depth l.cursor;
  tokens : (rest : List Param) (r : List Token) → l.cursor ≡ more_params_before rest r → l.fn.cursor ≡ params_before (params_tree l.all.items ++ rest) r;
}

abbrev pub decreases-more : goal.decreases-more
decreases-more l = length l.cursor
