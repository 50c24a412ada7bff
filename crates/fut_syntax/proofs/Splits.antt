-- A symbol whose rule is another's goes as the other and what follows.
use Rattle.std.proofs.Common.{◌≡◌, ℕ, Bool, List, [], ◌∷◌, ◌++◌, refl, ap, append_assoc, length}
use Rattle.std.specs.Prelude.{Option, Some}
use Rattle.fut_tokens.specs.declared.token.Token.{Token}
use Rattle.fut_tokens.specs.declared.token.Token.TheVariants as t
use Rattle.fut_syntax.specs.Machine.{Symbol, Expr', ExprTail, Operand', Answer, Takes, Passes, Stops}
use Rattle.fut_syntax.specs.Machine.{then_due, operand_rule, expr_rule, rule, by_answer, next, run_on, run}

-- an answer that isn't a pass
abbrev pub IsFirm : Answer → Type 0
IsFirm Passes = ⊥
IsFirm _ = Unit {0}

pub operand_firm : (x : Token) → IsFirm (operand_rule x)
operand_firm t.LeftParen = tt
operand_firm _ = tt

pub expr_firm : (x : Token) → IsFirm (expr_rule x)
expr_firm t.LeftParen = tt
expr_firm _ = tt

pub then_split : (a : Answer) (s k : List Symbol) (o p : Option (List Symbol)) → IsFirm a → by_answer (then_due a s) k o ≡ by_answer a (s ++ k) p
then_split (Takes b) s k o p firm = ap Some (append_assoc b s k)
then_split Passes s k o p firm = absurd firm
then_split Stops s k o p firm = refl

module _ (full : ℕ → Token → Bool) (by : Token → ℕ → ℕ) where
  pub same_next : (s s' : List Symbol) (d : ℕ) (x : Token) (xs : List Token) → next s x ≡ next s' x → run full by s d (x ∷ xs) ≡ run full by s' d (x ∷ xs)
  same_next s s' d x xs e = ap (λ o. run_on o (full d x) (length xs) (λ s. run full by s (by x d) xs)) e

  pub expr_split : (k : List Symbol) (d : ℕ) (xs : List Token) → run full by (Expr' ∷ k) d xs ≡ run full by (Operand' ∷ ExprTail ∷ k) d xs
  expr_split k d [] = refl
  expr_split k d (x ∷ xs) =
      same_next (Expr' ∷ k) (Operand' ∷ ExprTail ∷ k) d x xs (then_split (operand_rule x) (ExprTail ∷ []) k (next k x) (next (ExprTail ∷ k) x) (operand_firm x))

  -- a symbol that passes a token
  pub passes : (a : Symbol) (k : List Symbol) (d : ℕ) (x : Token) (xs : List Token) → rule a x ≡ Passes
      → run full by (a ∷ k) d (x ∷ xs) ≡ run full by k d (x ∷ xs)
  passes a k d x xs e = same_next (a ∷ k) k d x xs (ap (λ b. by_answer b k (next k x)) e)

  -- a symbol that stops at a token
  pub stops : (a : Symbol) (k : List Symbol) (d : ℕ) (x : Token) (xs : List Token) → rule a x ≡ Stops → run full by (a ∷ k) d (x ∷ xs) ≡ Some (length xs)
  stops a k d x xs e = ap (λ b. run_on (by_answer b k (next k x)) (full d x) (length xs) (λ s. run full by s (by x d) xs)) e
