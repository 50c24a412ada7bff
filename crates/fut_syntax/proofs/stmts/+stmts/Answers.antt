use Rattle.std.proofs.Common.{◌≡◌, [], ◌∷◌, ◌++◌, length, refl, sym, ap, ◌∙◌, arith}
use Rattle.std.proofs.lemmas.Grind.{common_steps}
use Rattle.fut_tokens.specs.declared.token.Token.TheVariants as t
use Rattle.fut_syntax.specs.Trees.{Block, Done, Then}
use Rattle.fut_syntax.specs.Tokens.{stmt_before}
use Rattle.fut_syntax.specs.Views.{stmt_tree, block_tree, joined}
use Rattle.fut_syntax.specs.Steps.{braced}
use Rattle.fut_syntax.specs.Machine.{Stmts}
use Rattle.fut_syntax.proofs.Chains.{seen, after, takes_close}
use Rattle.fut_syntax.proofs.Longer.{stmt_longer}
use Rattle.fut_syntax.proofs.Made.{joined_done, joined_more}
use Rattle.fut_syntax.proofs.stmts.+stmts.Goals as goal

pub block-returns-in-RightBrace : goal.block-returns-in-RightBrace
block-returns-in-RightBrace n c =
    let front = (seen c.peek-in-stmts.ensures.front c.in-RightBrace.is) ∙ ap (λ q. t.RightBrace ∷ q) (sym c.bump.ensures) in (
      after c.stmts.invariant.goes
          (takes_close Stmts t.RightBrace [] c.args.depth c.in_ok-inner.inner c.stmts.cursor c.bump.new.self refl refl refl c.stmts.invariant.deeper front),
      c.stmts.invariant.tokens Done c.bump.new.self front
          ∙ ap (λ (b : Block). braced b c.bump.new.self) (joined_done c.stmts.all.items ∙ ap block_tree (sym c.from_vec.ensures)),
    )

pub block-stmts-smaller : goal.block-stmts-smaller
block-stmts-smaller n c =
    let a = stmt_longer (stmt_tree c.in_ok-next.next) c.stmt.new.cursor in
    omega (arith, a, ap length c.in_ok-next.ensures.1)

pub block-stmts-preserved : goal.block-stmts-preserved
block-stmts-preserved n c =
    let items : c.push.new.self.items ≡ c.stmts.all.items ++ c.in_ok-next.next ∷ [] = grind (arith, common_steps) in
    record {
      goes = after c.stmts.invariant.goes c.in_ok-next.ensures.0;
      deeper = c.stmts.invariant.deeper;
      high = c.stmts.invariant.high;
      tokens = λ rest r e.
          c.stmts.invariant.tokens (Then (stmt_tree c.in_ok-next.next) rest) r
          (c.in_ok-next.ensures.1 ∙ ap (λ q. stmt_before (stmt_tree c.in_ok-next.next) q) e)
          ∙ ap (λ (b : Block). braced b r) (sym (joined_more c.stmts.all.items c.in_ok-next.next rest) ∙ sym (ap (λ q. joined q rest) items));
    }
