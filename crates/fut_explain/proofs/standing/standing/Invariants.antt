use Rattle.std.proofs.Common.{drop, List}
use Rattle.fut_tokens.specs.declared.token.Token.{Token}
use Rattle.fut_explain.specs.Standing.{IsBehind}
use Rattle.fut_explain.proofs.Trying.{IsSought}
use Rattle.fut_explain.proofs.standing.standing.Given as goal

-- whatever the fault stands behind: what was found, and then what is found of the kinds that are left
abbrev pub invariant-loop-kind : goal.invariant-loop-kind
invariant-loop-kind l = (before : List Token) → IsBehind l.text l.at before → IsSought before l.all (drop l.kind-index l.all) l.found.items
