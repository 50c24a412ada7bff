-- What a part of the parser did.
use Rattle.std.specs.Prelude.{◌≡◌, ℕ, ◌+◌, ◌<◌, ◌≤◌, Bool, true, false, List, [], ◌∷◌, ◌++◌, length, Option, Some, None, Result, Ok, Err}
use Rattle.fut_tokens.specs.declared.token.Token.{Token}
use Rattle.fut_tokens.specs.declared.token.Token.TheVariants as t
use Rattle.fut_syntax.specs.declared.cursor.Stop.{Stop}
use Rattle.fut_syntax.specs.declared.cursor.Stop.TheVariants as stop
use Rattle.fut_syntax.specs.declared.tree.Operator.{Operator}
use Rattle.fut_syntax.specs.declared.tree.Item.{Item}
use Rattle.fut_syntax.specs.declared.tree.Sign.{Sign}
use Rattle.fut_syntax.specs.Machine.{Symbol, First, ExprTail, Operand', Primary', run64}
use Rattle.fut_syntax.specs.Tokens.{op_token, sign_before, expr_before, call_before, block_before, item_before, items_before}
use Rattle.fut_syntax.specs.Trees as trees
use Rattle.fut_syntax.specs.Trees.{Expr, Block}
use Rattle.fut_syntax.specs.Views.{op_tree, sign_tree, item_tree, items_tree}

-- the end of the tokens
abbrev pub is_end : Token → Bool
is_end t.End = true
is_end _ = false

-- the first token, which is the end where there is none
abbrev pub front : List Token → Token
front [] = t.End
front (x ∷ xs) = x

-- the tokens behind the first
abbrev pub behind : List Token → List Token
behind [] = []
behind (x ∷ xs) = xs

-- the run that stops at the first of these
abbrev pub stopped_at : List Token → Option ℕ
stopped_at [] = None
stopped_at (x ∷ xs) = Some (length xs)

-- whatever is due besides, the run goes from there to here
pub record Steps (s : List Symbol) (d : ℕ) (xs : List Token) (s' : List Symbol) (d' : ℕ) (ys : List Token) : Type 0 where
  pub goes : (k : List Symbol) → run64 (s ++ k) d xs ≡ run64 (s' ++ k) d' ys

-- whatever is due besides, the run stops here
pub record Halts (s : List Symbol) (d : ℕ) (xs ys : List Token) : Type 0 where
  pub stops : (k : List Symbol) → run64 (s ++ k) d xs ≡ stopped_at ys

-- the fault is in view, or there is no memory
abbrev pub StopsBy : List Symbol → ℕ → List Token → List Token → Stop → Type 0
StopsBy s d xs ys stop.Fault = Halts s d xs ys
StopsBy s d xs ys stop.NoMemory = Unit {0}

-- the reading of what is due stopped
pub record Stops (s : List Symbol) (d : ℕ) (xs ys : List Token) (e : Stop) : Type 0 where
  pub by : StopsBy s d xs ys e

-- whatever is due besides and however many brackets are open, the run stops here
pub record HaltsAt (a : Symbol) (xs ys : List Token) : Type 0 where
  pub stops : (d : ℕ) (k : List Symbol) → run64 (a ∷ k) d xs ≡ stopped_at ys

-- why reading stops at a symbol: no memory, or no token of it
abbrev pub StopsAtBy : Symbol → List Token → List Token → Stop → Type 0
StopsAtBy a xs ys stop.Fault = HaltsAt a xs ys
StopsAtBy a xs ys stop.NoMemory = Unit {0}

-- the reading of a part without brackets stopped
pub record StopsAt (a : Symbol) (xs ys : List Token) (e : Stop) : Type 0 where
  pub by : StopsAtBy a xs ys e

-- Some symbols were read as a tree and others are due, or the reading stopped. The count of brackets goes from d to d'.
abbrev pub ReadTo : {X T : Type 0} → List Symbol → List Symbol → (T → List Token → List Token) → (X → T) → ℕ → ℕ → List Token
    → List Token → Result X Stop → Type 0
ReadTo s s' before tree d d' xs ys (Ok x) = Steps s d xs s' d' ys × (xs ≡ before (tree x) ys)
ReadTo s s' before tree d d' xs ys (Err e) = Stops s d xs ys e

-- a symbol was read as a tree, or the reading stopped
abbrev pub Read : {X T : Type 0} → Symbol → (T → List Token → List Token) → (X → T) → ℕ → List Token → List Token → Result X Stop → Type 0
Read a before tree d xs ys r = ReadTo (a ∷ []) [] before tree d d xs ys r

-- the same of the rest of a tree, before which other tokens were taken and after which others are due
abbrev pub ReadOn : {X T : Type 0} → (List Token → List Token) → List Symbol → List Symbol → (T → List Token → List Token)
    → (X → T) → ℕ → List Token → List Token → Result X Stop → Type 0
ReadOn taken s s' before tree d xs ys (Ok x) = Steps s d xs s' d ys × (taken xs ≡ before (tree x) ys)
ReadOn taken s s' before tree d xs ys (Err e) = Stops s d xs ys e

-- a block with its brackets
abbrev pub braced : Block → List Token → List Token
braced b r = t.LeftBrace ∷ block_before b r

-- a value behind its sign
abbrev pub set_before : Expr → List Token → List Token
set_before e r = t.Equals ∷ expr_before e r

-- an opening bracket was taken, or is one too many
abbrev pub Entered : ℕ → List Token → List Token → Result ℕ Stop → Type 0
Entered d xs ys (Ok d') = (d < 64) × (d' ≡ d + 1) × (ys ≡ behind xs)
Entered d xs ys (Err stop.Fault) = (64 ≤ d) × (ys ≡ xs)
Entered d xs ys (Err stop.NoMemory) = ⊥

-- an opening bracket was taken as a symbol
abbrev pub Opened : Symbol → Token → ℕ → List Token → List Token → Result ℕ Stop → Type 0
Opened a x d xs ys (Ok d') = Steps (a ∷ []) d xs [] d' ys × (xs ≡ x ∷ ys) × (d' ≡ d + 1) × (d < 64)
Opened a x d xs ys (Err e) = Stops (a ∷ []) d xs ys e

-- whatever is due besides and however many brackets are open, the run goes from there to here
pub record StepsAt (a : Symbol) (xs : List Token) (s : List Symbol) (ys : List Token) : Type 0 where
  pub goes : (d : ℕ) (k : List Symbol) → run64 (a ∷ k) d xs ≡ run64 (s ++ k) d ys

-- a part without brackets was taken, or the reading stopped
abbrev pub TakenPart : {X : Type 0} → Symbol → (X → List Token → List Token) → List Token → List Token → Result X Stop → Type 0
TakenPart a before xs ys (Ok x) = StepsAt a xs [] ys × (xs ≡ before x ys)
TakenPart a before xs ys (Err e) = StopsAt a xs ys e

-- a sign of the grammar was taken, or the fault is in view
abbrev pub Taken : Symbol → Token → List Token → List Token → Result (Unit {0}) Stop → Type 0
Taken a x xs ys (Ok _) = StepsAt a xs [] ys × (xs ≡ x ∷ ys)
Taken a x xs ys (Err e) = StopsAt a xs ys e

-- whatever is due besides, the run takes the symbol and closes a bracket
pub record ClosesAt (a : Symbol) (xs ys : List Token) : Type 0 where
  pub goes : (d : ℕ) (k : List Symbol) → run64 (a ∷ k) (d + 1) xs ≡ run64 k d ys

-- a closing bracket was taken, or the fault is in view
abbrev pub Closed : Symbol → Token → List Token → List Token → Result (Unit {0}) Stop → Type 0
Closed a x xs ys (Ok _) = ClosesAt a xs ys × (xs ≡ x ∷ ys)
Closed a x xs ys (Err e) = StopsAt a xs ys e

-- a value is its own tree
abbrev pub same : {X : Type 0} → X → X
same x = x

-- a word, and the tokens behind it
abbrev pub word_before : List ℕ → List Token → List Token
word_before w r = t.Word w ∷ r

-- a number, and the tokens behind it
abbrev pub number_before : ℕ → List Token → List Token
number_before n r = t.Number n ∷ r

-- a called word and its arguments
abbrev pub called : (List ℕ × List Expr) → List Token → List Token
called c r = call_before c.0 c.1 r

-- an operator and what is due after it, or none
abbrev pub TakenOp : List Token → List Token → Option Operator → Type 0
TakenOp xs ys (Some o) = StepsAt ExprTail xs (Operand' ∷ []) ys × (xs ≡ op_token (op_tree o) ∷ ys)
TakenOp xs ys None = StepsAt ExprTail xs [] ys × (xs ≡ ys)

-- a sign before an operand
abbrev pub TakenSign : List Token → List Token → Sign → Type 0
TakenSign xs ys s = StepsAt Operand' xs (Primary' ∷ []) ys × (xs ≡ sign_before (sign_tree s) ys)

-- a tree was made of parts, or there is no memory
abbrev pub Made : {X T : Type 0} → (X → T) → T → Result X Stop → Type 0
Made tree made (Ok x) = tree x ≡ made
Made tree made (Err e) = e ≡ stop.NoMemory

-- the end of a block
abbrev pub is_close : Token → Bool
is_close t.RightBrace = true
is_close _ = false

-- a token that begins a statement with blocks
abbrev pub has_block : Token → Bool
has_block t.If = true
has_block t.While = true
has_block _ = false

-- the items of a whole, of which there is one
abbrev pub Spells : List Token → List Item → Type 0
Spells xs [] = ⊥
Spells xs (i ∷ is) = xs ≡ item_before (item_tree i) (items_before (items_tree is) [])

-- the whole was read, or the reading stopped
abbrev pub Parsed : List Token → List Token → Result (List Item) Stop → Type 0
Parsed xs ys (Ok is) = Spells xs is × (run64 (First ∷ []) 0 xs ≡ None)
Parsed xs ys (Err e) = Stops (First ∷ []) 0 xs ys e

-- the items so far, behind which others may stand
abbrev pub SpellsMore : List Token → List Token → List Item → Type 0
SpellsMore xs ys [] = ⊥
SpellsMore xs ys (i ∷ is) = (rest : List trees.Item) (r : List Token) → ys ≡ items_before rest r
    → xs ≡ item_before (item_tree i) (items_before (items_tree is ++ rest) r)

-- an equal word, or no memory
abbrev pub Copied : List ℕ → Result (List ℕ) Stop → Type 0
Copied w (Ok v) = v ≡ w
Copied w (Err e) = e ≡ stop.NoMemory
