use Rattle.std.proofs.Common.{◌≡◌, ◌++◌, List, ◌∷◌, drop}
use Rattle.fut_tokens.specs.declared.token.Token.{Token}
use Rattle.fut_tokens.specs.declared.token.Token.TheVariants as t
use Rattle.fut_syntax.specs.Tokens.{block_before}
use Rattle.fut_syntax.specs.Views.{block_tree}
use Rattle.fut_print.proofs.write_stmts.+put_stmts.Given as goal

abbrev pub invariant-put_block-loop-stmt : goal.invariant-put_block-loop-stmt
invariant-put_block-loop-stmt l =
    (r : List Token) → l.out.items ++ block_before (block_tree (drop l.stmt-index l.stmt-items)) r
    ≡ l.fn.out.items ++ t.LeftBrace ∷ block_before (block_tree l.stmt-items) r
