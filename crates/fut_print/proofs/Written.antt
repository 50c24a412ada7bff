-- What writing a part adds.
use Rattle.std.proofs.Common.{◌≡◌, ℕ, zero, suc, ◌-◌, ◌<◌, ◌≤◌, List, ◌∷◌, ◌++◌, drop, length, sym, subst, ◌∙◌, arith}
use Rattle.std.proofs.lemmas.List.{drop_all}
use Rattle.fut_tokens.specs.declared.token.Token.{Token}
use Rattle.fut_tokens.specs.declared.token.Token.TheVariants as t
use Rattle.fut_syntax.specs.declared.tree.Expr.{Expr}
use Rattle.fut_syntax.specs.declared.tree.Param.{Param}
use Rattle.fut_syntax.specs.declared.tree.Stmt.{Stmt}
use Rattle.fut_syntax.specs.Tokens.{more_before, type_before, block_before, more_params_before}
use Rattle.fut_syntax.specs.Views.{args_tree, block_tree, params_tree}
use Rattle.fut_print.specs.Writing.{Wrote}

-- the same tree spells the same
pub wrote_as : {T : Type 0} → (before : T → List Token → List Token) (old new : List Token) (x y : T) → x ≡ y → Wrote old new (before x)
    → Wrote old new (before y)
wrote_as before old new x y e h = subst (λ q. Wrote old new (before q)) e h

pub more_done : (i : ℕ) (es : List Expr) (m old new : List Token) → length es ≤ i
    → ((r : List Token) → m ++ more_before (args_tree (drop i es)) r ≡ old ++ more_before (args_tree es) r)
    → Wrote m new (λ r. t.RightParen ∷ r) → Wrote old new (more_before (args_tree es))
more_done i es m old new low h g = record {
  are = λ r. g.are r ∙ subst (λ (q : List Expr). m ++ more_before (args_tree q) r ≡ old ++ more_before (args_tree es) r) (drop_all i es low) (h r);
}

-- one part after another
pub then_wrote : {f g : List Token → List Token} (old m new : List Token) → Wrote old m f → Wrote m new g → Wrote old new (λ r. f (g r))
then_wrote {g = g} old m new h k = record { are = λ r. k.are r ∙ h.are (g r) }

-- one `fut` of a type
pub fut_wrote : (left : ℕ) (m new old : List Token) (whole : List Token → List Token) → 0 < left → Wrote m new (λ r. t.Fut ∷ r)
    → ((r : List Token) → m ++ type_before left r ≡ old ++ whole r) → (r : List Token) → new ++ type_before (left - 1) r ≡ old ++ whole r
fut_wrote zero m new old whole some h k r = absurd (omega (arith, some))
fut_wrote (suc left) m new old whole some h k r =
    let one : suc left - 1 ≡ left = omega arith in
    subst (λ (n : ℕ). new ++ type_before n r ≡ old ++ whole r) (sym one) (h.are (type_before left r) ∙ k r)

pub block_done : (i : ℕ) (b : List Stmt) (m old new : List Token) → length b ≤ i
    → ((r : List Token) → m ++ block_before (block_tree (drop i b)) r ≡ old ++ t.LeftBrace ∷ block_before (block_tree b) r)
    → Wrote m new (λ r. t.RightBrace ∷ r) → Wrote old new (λ r. t.LeftBrace ∷ block_before (block_tree b) r)
block_done i b m old new low h g = record {
  are = λ r. g.are r ∙ subst (λ (q : List Stmt). m ++ block_before (block_tree q) r ≡ old ++ t.LeftBrace ∷ block_before (block_tree b) r) (drop_all i b low)
      (h r);
}

pub more_params_done : (i : ℕ) (ps : List Param) (m old new : List Token) → length ps ≤ i
    → ((r : List Token) → m ++ more_params_before (params_tree (drop i ps)) r ≡ old ++ more_params_before (params_tree ps) r)
    → Wrote m new (λ r. t.RightParen ∷ r) → Wrote old new (more_params_before (params_tree ps))
more_params_done i ps m old new low h g = record {
  are = λ r. g.are r ∙ subst (λ (q : List Param). m ++ more_params_before (params_tree q) r ≡ old ++ more_params_before (params_tree ps) r)
      (drop_all i ps low) (h r);
}
