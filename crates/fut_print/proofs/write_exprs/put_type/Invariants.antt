use Rattle.std.proofs.Common.{◌≡◌, ◌++◌, List}
use Rattle.fut_tokens.specs.declared.token.Token.{Token}
use Rattle.fut_syntax.specs.Tokens.{type_before}
use Rattle.fut_print.proofs.write_exprs.put_type.Given as goal

abbrev pub invariant-loop-left : goal.invariant-loop-left
invariant-loop-left l = (r : List Token) → l.out.items ++ type_before l.left r ≡ l.fn.out.items ++ type_before l.depth r

abbrev pub decreases-loop-left : goal.decreases-loop-left
decreases-loop-left l = l.left
