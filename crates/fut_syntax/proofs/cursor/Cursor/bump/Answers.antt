use Rattle.std.proofs.Common.{◌≡◌, List, subst, sym, drop, false}
use Rattle.fut_tokens.specs.declared.token.Token.{Token}
use Rattle.fut_syntax.specs.Steps.{is_end, front}
use Rattle.fut_tokens.specs.Ended.{IsEnded}
use Rattle.fut_syntax.proofs.Cursors.{drop_behind, ended_behind}
use Rattle.fut_syntax.proofs.cursor.Cursor.bump.Goals as goal

pub invariant_of-self : goal.invariant_of-self
invariant_of-self c =
    let e = drop_behind c.self.inside.at c.self.inside.tokens.items in
    let old : is_end (front (drop c.self.inside.at c.self.inside.tokens.items)) ≡ false =
    subst (λ (q : List Token). is_end (front q) ≡ false) (sym c.self.view_is) c.requires in
    subst IsEnded (sym e) (ended_behind (drop c.self.inside.at c.self.inside.tokens.items) c.self.invariant old)

pub returns : goal.returns
returns c = let e = drop_behind c.self.inside.at c.self.inside.tokens.items in rw (← c.self.view_is) e
