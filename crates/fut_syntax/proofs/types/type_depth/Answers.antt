use Rattle.std.proofs.Common.{◌-◌, [], ◌∷◌, refl, sym, ap, ◌∙◌, arith}
use Rattle.fut_tokens.specs.declared.token.Token.TheVariants as t
use Rattle.fut_syntax.specs.Machine.{Type'}
use Rattle.fut_syntax.proofs.Chains.{seen, takes}
use Rattle.fut_syntax.proofs.Counted.{fut_more, fewer_left, int_last}
use Rattle.fut_syntax.proofs.types.type_depth.Goals as goal

pub futs-preserved : goal.futs-preserved
futs-preserved c =
    let front = (seen c.peek.ensures.front c.in-Fut.is) ∙ ap (λ q. t.Fut ∷ q) (sym c.bump.ensures) in
    record {
      goes = λ d k. c.futs.invariant.goes d k ∙ (takes Type' t.Fut (Type' ∷ []) d c.futs.cursor c.bump.new.self refl refl refl front).goes k;
      fewer = fewer_left c.behind-left.result c.futs.cursor c.bump.new.self front c.futs.invariant.fewer;
      tokens = fut_more c.behind-left.result c.args.cursor.now c.futs.cursor c.bump.new.self front c.futs.invariant.fewer c.futs.invariant.tokens;
    }

pub returns-in-Int : goal.returns-in-Int
returns-in-Int c =
    let front = (seen c.peek.ensures.front c.in-Int.is) ∙ ap (λ q. t.Int ∷ q) (sym c.bump-in-Int.ensures) in (
      record { goes = λ d k. c.futs.invariant.goes d k ∙ (takes Type' t.Int [] d c.futs.cursor c.bump-in-Int.new.self refl refl refl front).goes k },
      int_last c.behind-left.result (c.behind-left.result - c.behind.result) c.args.cursor.now c.futs.cursor c.bump-in-Int.new.self front
          (omega (arith, c.behind.ensures.count)) c.futs.invariant.tokens,
    )
