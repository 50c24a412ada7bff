-- Token lists with an end token.
use Rattle.std.specs.Prelude.{◌≡◌, List, [], ◌∷◌}
use Rattle.fut_tokens.specs.declared.token.Token.{Token}
use Rattle.fut_tokens.specs.declared.token.Token.TheVariants as t

-- the end token stands at the end and nowhere else
abbrev pub IsEnded : List Token → Type 0
IsEnded [] = ⊥
IsEnded (t.End ∷ xs) = xs ≡ []
IsEnded (_ ∷ xs) = IsEnded xs
