-- The tokens that a symbol stands for, in front of others.
use Rattle.std.specs.Prelude.{◌≡◌, ℕ, ◌⊎◌, List, [], ◌∷◌}
use Rattle.fut_tokens.specs.declared.token.Token.{Token}
use Rattle.fut_tokens.specs.declared.token.Token.TheVariants as t
use Rattle.fut_syntax.specs.Trees.{Op, Expr, Operand, Primary, Init, Block, Tail, Param, Item, Program}
use Rattle.fut_syntax.specs.Tokens.{op_token, expr_before, operand_before, primary_before, more_before, args_before, init_before, type_before}
use Rattle.fut_syntax.specs.Tokens.{block_before, tail_before, params_before, more_params_before, items_before, program_before}
use Rattle.fut_syntax.specs.Machine.{Symbol, First, More, Params, ParamsTail, Type', Length, Block', Stmts, Else', VarInit}
use Rattle.fut_syntax.specs.Machine.{WordStmt, Init', InitTail, Args, ArgsTail, Expr', ExprTail, Operand', Primary', Word'}
use Rattle.fut_syntax.specs.Machine.{Number', LeftParen', RightParen', LeftSquare', RightSquare', Semicolon', Colon', Equals'}

-- an operator and its right operand, or nothing
abbrev pub IsExprTail : List Token → List Token → Type 0
IsExprTail xs r = (xs ≡ r) ⊎ ((op : Op) × (y : Operand) × (xs ≡ op_token op ∷ operand_before y r))

-- the length of an array in brackets, or nothing
abbrev pub IsLength : List Token → List Token → Type 0
IsLength xs r = (xs ≡ r) ⊎ ((n : ℕ) × (xs ≡ t.LeftSquare ∷ t.Number n ∷ t.RightSquare ∷ r))

-- what a variable is set to where it is declared, or nothing
abbrev pub IsVarInit : List Token → List Token → Type 0
IsVarInit xs r = (xs ≡ r) ⊎ ((i : Init) × (xs ≡ t.Equals ∷ init_before i r))

-- a statement behind the word that begins it, but for its semicolon
abbrev pub IsWordStmt : List Token → List Token → Type 0
IsWordStmt xs r = ((i : Init) × (xs ≡ t.Equals ∷ init_before i r))
    ⊎ ((e f : Expr) × (xs ≡ t.LeftSquare ∷ expr_before e (t.RightSquare ∷ t.Equals ∷ expr_before f r)))

-- xs is a phrase of the symbol and then r
abbrev pub Phrase : Symbol → List Token → List Token → Type 0
Phrase First xs r = (p : Program) × (xs ≡ program_before p r)
Phrase More xs r = (is : List Item) × (xs ≡ items_before is r)
Phrase Params xs r = (ps : List Param) × (xs ≡ params_before ps r)
Phrase ParamsTail xs r = (ps : List Param) × (xs ≡ more_params_before ps r)
Phrase Type' xs r = (d : ℕ) × (xs ≡ type_before d r)
Phrase Length xs r = IsLength xs r
Phrase Block' xs r = (b : Block) × (xs ≡ t.LeftBrace ∷ block_before b r)
Phrase Stmts xs r = (b : Block) × (xs ≡ block_before b r)
Phrase Else' xs r = (b : Tail) × (xs ≡ tail_before b r)
Phrase VarInit xs r = IsVarInit xs r
Phrase WordStmt xs r = IsWordStmt xs r
Phrase Init' xs r = (i : Init) × (xs ≡ init_before i r)
Phrase InitTail xs r = IsExprTail xs r ⊎ ((e : Expr) × (xs ≡ t.LeftSquare ∷ expr_before e (t.RightSquare ∷ r)))
Phrase Args xs r = (es : List Expr) × (xs ≡ args_before es r)
Phrase ArgsTail xs r = (es : List Expr) × (xs ≡ more_before es r)
Phrase Expr' xs r = (e : Expr) × (xs ≡ expr_before e r)
Phrase ExprTail xs r = IsExprTail xs r
Phrase Operand' xs r = (o : Operand) × (xs ≡ operand_before o r)
Phrase Primary' xs r = (p : Primary) × (xs ≡ primary_before p r)
Phrase Word' xs r = (w : List ℕ) × (xs ≡ t.Word w ∷ r)
Phrase Number' xs r = (n : ℕ) × (xs ≡ t.Number n ∷ r)
Phrase LeftParen' xs r = xs ≡ t.LeftParen ∷ r
Phrase RightParen' xs r = xs ≡ t.RightParen ∷ r
Phrase LeftSquare' xs r = xs ≡ t.LeftSquare ∷ r
Phrase RightSquare' xs r = xs ≡ t.RightSquare ∷ r
Phrase Semicolon' xs r = xs ≡ t.Semicolon ∷ r
Phrase Colon' xs r = xs ≡ t.Colon ∷ r
Phrase Equals' xs r = xs ≡ t.Equals ∷ r

-- xs is what the symbols stand for, one after the other
abbrev pub Phrases : List Symbol → List Token → List Token → Type 0
Phrases [] xs r = xs ≡ r
Phrases (a ∷ k) xs r = (m : List Token) × Phrase a xs m × Phrases k m r
