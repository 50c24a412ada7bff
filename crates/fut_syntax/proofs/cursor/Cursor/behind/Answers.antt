use Rattle.std.proofs.Common.{◌≡◌, ◌-◌, List, length, subst, arith}
use Rattle.fut_tokens.specs.declared.token.Token.{Token}
use Rattle.fut_syntax.specs.Steps.{behind}
use Rattle.fut_syntax.proofs.Cursors.{length_behind}
use Rattle.fut_syntax.proofs.cursor.Cursor.behind.Goals as goal

pub returns-clause-count : goal.returns-clause-count
returns-clause-count c =
    let n = length_behind c.self.inside.tokens.items c.self.inside.at in
    subst (λ (xs : List Token). c.len.result - c.self.inside.at - 1 ≡ length (behind xs)) c.self.view_is
    (omega (arith, n, c.self.inside.tokens.ok, c.len.ensures))
