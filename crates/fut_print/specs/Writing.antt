-- Trees written as tokens.
use Rattle.std.specs.Prelude.{◌≡◌, List, ◌++◌}
use Rattle.fut_tokens.specs.declared.token.Token.{Token}

-- some tokens were added at the end: those that a tree spells in front of others
pub record Wrote (old new : List Token) (before : List Token → List Token) : Type 0 where
  pub are : (r : List Token) → new ++ r ≡ old ++ before r
