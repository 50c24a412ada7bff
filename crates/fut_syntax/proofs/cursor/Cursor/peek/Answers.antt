use Rattle.std.proofs.Common.{◌≡◌, List, [], ◌∷◌, subst}
use Rattle.fut_tokens.specs.declared.token.Token.{Token}
use Rattle.fut_syntax.specs.Steps.{behind}
use Rattle.fut_syntax.proofs.Cursors.{in_view, peek_last}
use Rattle.fut_syntax.proofs.cursor.Cursor.peek.Goals as goal

pub returns-clause-front : goal.returns-clause-front
returns-clause-front c =
    subst (λ (xs : List Token). xs ≡ c.index.result.now ∷ behind xs) c.self.view_is
    (in_view c.self.inside.tokens.items c.self.inside.at c.index.result.now c.self.invariant c.index.ensures)

pub returns-clause-last : goal.returns-clause-last
returns-clause-last c =
    λ q. subst (λ (xs : List Token). behind xs ≡ []) c.self.view_is
    (peek_last c.self.inside.tokens.items c.self.inside.at c.index.result.now c.self.invariant c.index.ensures q)
