use Rattle.std.proofs.Common.{◌≡◌, ◌++◌, List, drop}
use Rattle.fut_tokens.specs.declared.token.Token.{Token}
use Rattle.fut_syntax.specs.Tokens.{more_params_before}
use Rattle.fut_syntax.specs.Views.{params_tree}
use Rattle.fut_print.proofs.write_items.put_more_params.Given as goal

abbrev pub invariant-loop-param : goal.invariant-loop-param
invariant-loop-param l = (r : List Token) → l.out.items ++ more_params_before (params_tree (drop l.param-index l.given)) r
    ≡ l.fn.out.items ++ more_params_before (params_tree l.given) r
