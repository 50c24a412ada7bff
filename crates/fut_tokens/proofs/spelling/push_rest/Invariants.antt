use Rattle.std.proofs.Common.{◌≡◌, ◌++◌, drop}
use Rattle.fut_tokens.specs.Spelling.{rest_of_line}
use Rattle.fut_tokens.proofs.spelling.push_rest.Given as goal

-- what is written, and then what is left
abbrev pub invariant-loop-token : goal.invariant-loop-token
invariant-loop-token l = l.out.items ++ rest_of_line (drop l.token-index l.tokens) ≡ l.fn.out.items ++ rest_of_line l.tokens
