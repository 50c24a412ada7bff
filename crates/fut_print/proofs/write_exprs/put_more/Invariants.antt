use Rattle.std.proofs.Common.{◌≡◌, ◌++◌, List, drop}
use Rattle.fut_tokens.specs.declared.token.Token.{Token}
use Rattle.fut_syntax.specs.Tokens.{more_before}
use Rattle.fut_syntax.specs.Views.{args_tree}
use Rattle.fut_print.proofs.write_exprs.put_more.Given as goal

abbrev pub invariant-loop-argument : goal.invariant-loop-argument
invariant-loop-argument l =
    (r : List Token) → l.out.items ++ more_before (args_tree (drop l.argument-index l.given)) r ≡ l.fn.out.items ++ more_before (args_tree l.given) r
