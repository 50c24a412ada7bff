-- The trees of statements that hold others, of parts that are given as slices.
use Rattle.std.proofs.Common.{◌≡◌, List, sym, ap, ◌∙◌}
use Rattle.fut_syntax.specs.declared.tree.Expr.{Expr}
use Rattle.fut_syntax.specs.declared.tree.Stmt.{Stmt, If, While}
use Rattle.fut_syntax.specs.declared.tree.Tail.{Tail, Else}
use Rattle.fut_syntax.specs.Trees as tree
use Rattle.fut_syntax.specs.Views.{expr_tree, stmt_tree, block_tree, tail_tree}
use Rattle.fut_syntax.proofs.Made.{if_tree, while_tree, else_tree}

pub if_made : (s : Stmt) (e : Expr) (body slice : List Stmt) (o : Tail) → s ≡ If e body o → slice ≡ body
    → stmt_tree s ≡ tree.If' (expr_tree e) (block_tree slice) (tail_tree o)
if_made s e body slice o is same = ap stmt_tree (is ∙ ap (λ b. If e b o) (sym same)) ∙ if_tree e slice o

pub while_made : (s : Stmt) (e : Expr) (body slice : List Stmt) → s ≡ While e body → slice ≡ body → stmt_tree s ≡ tree.While' (expr_tree e) (block_tree slice)
while_made s e body slice is same = ap stmt_tree (is ∙ ap (λ b. While e b) (sym same)) ∙ while_tree e slice

pub else_made : (o : Tail) (body slice : List Stmt) → o ≡ Else body → slice ≡ body → tail_tree o ≡ tree.ElseOf (block_tree slice)
else_made o body slice is same = ap tail_tree (is ∙ ap Else (sym same)) ∙ else_tree slice
