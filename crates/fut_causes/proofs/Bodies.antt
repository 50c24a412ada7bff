-- Going over statements with blocks, and over blocks.
use Rattle.std.proofs.Common.{◌≡◌, ℕ, ◌+◌, ◌≤◌, List, [], ◌∷◌, ◌++◌, length, take, refl, sym, ap, ◌∙◌, append_assoc, arith, length-append}
use Rattle.std.proofs.lemmas.List.{append-nil, take-append-le}
use Rattle.fut_syntax.specs.Trees.{Expr, Item, Stmt, If', While', Block, Then, Tail, ElseOf}
use Rattle.fut_rules.specs.declared.names.Variable.{Variable}
use Rattle.fut_rules.specs.Names.{Scope}
use Rattle.fut_rules.specs.Exprs.{for_int}
use Rattle.fut_causes.specs.declared.seek.Wanted.{Wanted}
use Rattle.fut_causes.specs.Causes.{items_causes, item_causes, needed_causes, stmt_causes, block_causes, tail_causes}
use Rattle.fut_causes.specs.Seeking.{Seeking, Sought, Passed, first}
use Rattle.fut_check.specs.Stmts.{scope_after, with_declared, shown, declared_in, declared_in_block, declared_in_tail}
use Rattle.fut_rules.specs.Widths.{expr_width, item_width, stmt_width, block_width, tail_width}
use Rattle.fut_causes.proofs.Firsts.{first_append, sought_both, sought_past, past_sought, sought_as}

declared_twice : (s : Scope) (xs ys : List Variable)
    → with_declared (with_declared s xs) ys ≡ record { returns = s.returns; visible = s.visible ++ []; declared = s.declared ++ (xs ++ ys) }
declared_twice s xs ys = rw (append-nil s.visible, append_assoc s.declared xs ys) refl

declared_once : (s : Scope) (xs : List Variable) → with_declared s xs ≡ record { returns = s.returns; visible = s.visible ++ []; declared = s.declared ++ xs }
declared_once s xs = rw (append-nil s.visible) refl

pub if_passed : (g : List Item) (s s1 s2 : Scope) (a a1 a2 a3 a4 : Seeking) (e : Expr) (b : Block) (o : Tail)
    → Sought a a1 (1 + expr_width e + 1) (needed_causes s.visible (a.at + 1) for_int e)
    → Passed a1 a2 (block_width b) (block_causes g s a1.at b) s1 (with_declared s (declared_in_block b))
    → Sought a2 a3 1 []
    → Passed a3 a4 (tail_width o) (tail_causes g s1 a3.at o) s2 (with_declared s1 (declared_in_tail o))
    → Passed a a4 (stmt_width (If' e b o)) (stmt_causes g s a.at (If' e b o)) s2 (scope_after s (If' e b o))
if_passed g s s1 s2 a a1 a2 a3 a4 e b o test body close tail =
    let first : a1.at ≡ a.at + 1 + expr_width e + 1 = omega (arith, test.at) in
    let second : a3.at ≡ a.at + 1 + expr_width e + 1 + block_width b + 1 = omega (arith, test.at, body.sought.at, close.at) in
    record {
      sought = sought_as (sought_both (sought_both test body.sought) (past_sought close tail.sought)) (omega arith)
          (ap (λ n. needed_causes s.visible (a.at + 1) for_int e ++ block_causes g s n b ++ tail_causes g s1 a3.at o) first
          ∙ ap (λ n. needed_causes s.visible (a.at + 1) for_int e ++ block_causes g s (a.at + 1 + expr_width e + 1) b ++ tail_causes g s1 n o) second
          ∙ ap
          (λ x. needed_causes s.visible (a.at + 1) for_int e ++ block_causes g s (a.at + 1 + expr_width e + 1) b
          ++ tail_causes g x (a.at + 1 + expr_width e + 1 + block_width b + 1) o) body.scope_is);
      scope_is = tail.scope_is ∙ ap (λ x. with_declared x (declared_in_tail o)) body.scope_is ∙ declared_twice s (declared_in_block b) (declared_in_tail o);
    }

pub while_passed : (g : List Item) (s s1 : Scope) (a a1 a2 a3 : Seeking) (e : Expr) (b : Block)
    → Sought a a1 (1 + expr_width e + 1) (needed_causes s.visible (a.at + 1) for_int e)
    → Passed a1 a2 (block_width b) (block_causes g s a1.at b) s1 (with_declared s (declared_in_block b))
    → Sought a2 a3 1 []
    → Passed a a3 (stmt_width (While' e b)) (stmt_causes g s a.at (While' e b)) s1 (scope_after s (While' e b))
while_passed g s s1 a a1 a2 a3 e b test body close =
    let first : a1.at ≡ a.at + 1 + expr_width e + 1 = omega (arith, test.at) in
    record {
      sought = sought_as (sought_past (sought_both test body.sought) close) (omega arith)
          (ap (λ n. needed_causes s.visible (a.at + 1) for_int e ++ block_causes g s n b) first);
      scope_is = body.scope_is ∙ declared_once s (declared_in_block b);
    }

pub else_passed : (g : List Item) (s s1 : Scope) (a a1 a2 a3 : Seeking) (b : Block)
    → Sought a a1 2 []
    → Passed a1 a2 (block_width b) (block_causes g s a1.at b) s1 (with_declared s (declared_in_block b))
    → Sought a2 a3 1 []
    → Passed a a3 (tail_width (ElseOf b)) (tail_causes g s a.at (ElseOf b)) s1 (with_declared s (declared_in_tail (ElseOf b)))
else_passed g s s1 a a1 a2 a3 b open' body close =
    record {
      sought = sought_as (sought_past (past_sought open' body.sought) close) (omega arith) (ap (λ n. block_causes g s n b) open'.at);
      scope_is = body.scope_is;
    }

-- what is left of a block behind its first statement
pub block_step : (t : Wanted) (g : List Item) (s s1 : Scope) (a a1 : Seeking) (x : Stmt) (b : Block) → a.wanted ≡ t
    → Passed a a1 (stmt_width x) (stmt_causes g s a.at x) s1 (scope_after s x)
    → first t a.found (block_causes g s a.at (Then x b)) ≡ first t a1.found (block_causes g s1 a1.at b)
block_step t g s s1 a a1 x b is p =
    first_append t a.found (stmt_causes g s a.at x) (block_causes g (scope_after s x) (a.at + stmt_width x) b)
    ∙ ap (λ f. first t f (block_causes g (scope_after s x) (a.at + stmt_width x) b))
    (sym (p.sought.found ∙ ap (λ w. first w a.found (stmt_causes g s a.at x)) is))
    ∙ ap (λ n. first t a1.found (block_causes g (scope_after s x) n b)) (sym p.sought.at)
    ∙ ap (λ v. first t a1.found (block_causes g v a1.at b)) (sym p.scope_is)

pub declared_step : (s s1 : Scope) (x : Stmt) (b : Block) → s1 ≡ scope_after s x
    → s1.declared ++ declared_in_block b ≡ s.declared ++ declared_in_block (Then x b)
declared_step s s1 x b is = ap (λ (t : Scope). t.declared ++ declared_in_block b) is ∙ append_assoc s.declared (declared_in x) (declared_in_block b)

pub visible_step : (s s1 : Scope) (x : Stmt) (n : ℕ) → s1 ≡ scope_after s x → n ≤ length s.visible → take n s1.visible ≡ take n s.visible
visible_step s s1 x n is le = ap (λ (t : Scope). take n t.visible) is ∙ take-append-le n s.visible (shown x) le

pub count_step : (s s1 : Scope) (x : Stmt) (n : ℕ) → s1 ≡ scope_after s x → n ≤ length s.visible → n ≤ length s1.visible
count_step s s1 x n is le = omega (arith, ap (λ (t : Scope). length t.visible) is, length-append s.visible (shown x))

-- what is left of items behind their first
pub items_step : (t : Wanted) (g : List Item) (a a1 : Seeking) (x : Item) (rest : List Item) → a.wanted ≡ t
    → Sought a a1 (item_width x) (item_causes g a.at x)
    → first t a.found (items_causes g a.at (x ∷ rest)) ≡ first t a1.found (items_causes g a1.at rest)
items_step t g a a1 x rest is w =
    first_append t a.found (item_causes g a.at x) (items_causes g (a.at + item_width x) rest)
    ∙ ap (λ f. first t f (items_causes g (a.at + item_width x) rest)) (sym (w.found ∙ ap (λ v. first v a.found (item_causes g a.at x)) is))
    ∙ ap (λ n. first t a1.found (items_causes g n rest)) (sym w.at)
