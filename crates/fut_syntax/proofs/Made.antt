-- The trees of values that hold others.
use Rattle.std.proofs.Common.{◌≡◌, List, [], ◌∷◌, ◌++◌, refl, ap, ◌∙◌}
use mathlib.Core.Former.{Count}
use Rattle.fut_syntax.specs.declared.tree.Expr.{Expr}
use Rattle.fut_syntax.specs.declared.tree.Primary.{Bracket}
use Rattle.fut_syntax.specs.declared.tree.Stmt.{Stmt, While, If, While', If', Row_of-Stmt, end_of-Stmt}
use Rattle.fut_syntax.specs.declared.tree.Stmt.{more_of-Stmt, items-the_row-Stmt, items_hidden-the_row-Stmt-0}
use Rattle.fut_syntax.specs.declared.tree.Tail.{Tail, Else, Else'}
use Rattle.fut_syntax.specs.Views.{expr_tree, primary_tree, stmt_tree, block_tree, row_tree, tail_tree, joined}
use Rattle.fut_syntax.specs.Trees as trees

pub bracket_tree : (e : Expr) → primary_tree (Bracket e) ≡ trees.Bracket (expr_tree e)
unfolding Rattle.fut_syntax.specs.declared.tree.Expr.TheBlock.hidden-the_row-Expr-0 denote.Hole.Carrier.hidden
bracket_tree e = refl

row_is : (n : _) (row : Row_of-Stmt n) → row_tree row ≡ block_tree (items-the_row-Stmt n row)
row_is n end_of-Stmt = refl
row_is n (more_of-Stmt s rest) = ap (λ q. trees.Then (stmt_tree s) q) (row_is _ rest)

abbrev row_of : Stmt → (n : Count) × Row_of-Stmt n
row_of (While' e shape b) = (_, b)
row_of (If' e shape b o) = (_, b)
row_of _ = (_, end_of-Stmt)

abbrev else_row : Tail → (n : Count) × Row_of-Stmt n
else_row (Else' shape b) = (_, b)
else_row _ = (_, end_of-Stmt)

pub while_tree : (e : Expr) (b : List Stmt) → stmt_tree (While e b) ≡ trees.While' (expr_tree e) (block_tree b)
while_tree e b =
    let row = row_of (While e b) in
    ap (λ q. trees.While' (expr_tree e) q) (row_is row.0 row.1 ∙ ap block_tree (items_hidden-the_row-Stmt-0 b))

pub if_tree : (e : Expr) (b : List Stmt) (o : Tail) → stmt_tree (If e b o) ≡ trees.If' (expr_tree e) (block_tree b) (tail_tree o)
if_tree e b o =
    let row = row_of (If e b o) in
    ap (λ q. trees.If' (expr_tree e) q (tail_tree o)) (row_is row.0 row.1 ∙ ap block_tree (items_hidden-the_row-Stmt-0 b))

pub else_tree : (b : List Stmt) → tail_tree (Else b) ≡ trees.ElseOf (block_tree b)
else_tree b =
    let row = else_row (Else b) in
    ap (λ q. trees.ElseOf q) (row_is row.0 row.1 ∙ ap block_tree (items_hidden-the_row-Stmt-0 b))

pub joined_done : (b : List Stmt) → joined b trees.Done ≡ block_tree b
joined_done [] = refl
joined_done (s ∷ b) = ap (λ q. trees.Then (stmt_tree s) q) (joined_done b)

pub joined_more : (b : List Stmt) (s : Stmt) (rest : trees.Block) → joined (b ++ s ∷ []) rest ≡ joined b (trees.Then (stmt_tree s) rest)
joined_more [] s rest = refl
joined_more (x ∷ b) s rest = ap (λ q. trees.Then (stmt_tree x) q) (joined_more b s rest)
