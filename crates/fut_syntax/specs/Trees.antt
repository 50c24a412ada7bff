-- The trees of programs: the whole grammar.
use Rattle.std.specs.Prelude.{ℕ, List, ◌∷◌}

-- a sign before an operand
pub data Sign : Type 0 where
  NoSign : Sign
  Negative : Sign
  Inverted : Sign

-- an operator between two operands
pub data Op : Type 0 where
  Add : Op
  Subtract : Op
  Multiply : Op
  Divide : Op
  Remainder : Op
  BitAnd : Op
  BitOr : Op
  Equal : Op
  Unequal : Op
  Less : Op
  AtMost : Op
  Greater : Op
  AtLeast : Op

-- expressions; a word is its bytes
mutual
  pub data Expr : Type 0 where
    Alone : Operand → Expr
    Pair : Operand → Op → Operand → Expr

  pub data Operand : Type 0 where
    Signed : Sign → Primary → Operand

  pub data Primary : Type 0 where
    Literal : ℕ → Primary
    Name : List ℕ → Primary
    Bracket : Expr → Primary

-- what a variable is set to: what a future gives, the handle of a new future, an element, or an expression's value
pub data Init : Type 0 where
  GetOf : List ℕ → Init
  CreateOf : List ℕ → List Expr → Init
  Index : List ℕ → Expr → Init
  Value : Expr → Init

-- the type of a variable or a parameter: so many `fut` before `int`, and for an array its length
pub data VarType : Type 0 where
  Plain : ℕ → VarType
  Array : ℕ → ℕ → VarType

-- statements, and blocks of them
mutual
  pub data Stmt : Type 0 where
    Declare : List ℕ → VarType → Stmt
    Define : List ℕ → VarType → Init → Stmt
    Assign : List ℕ → Init → Stmt
    Store : List ℕ → Expr → Expr → Stmt
    SpawnOf : List ℕ → List Expr → Stmt
    SyncAll : Stmt
    If' : Expr → Block → Tail → Stmt
    While' : Expr → Block → Stmt
    Return' : Expr → Stmt

  pub data Block : Type 0 where
    Done : Block
    Then : Stmt → Block → Block

  -- the other branch of an `if`
  pub data Tail : Type 0 where
    NoElse : Tail
    ElseOf : Block → Tail

-- a parameter: its name and its type
pub record Param : Type 0 where
  pub name : List ℕ
  pub type : VarType

-- an array of cells with its length, or a task with its parameters, the number of `fut` before the `int` of its result,
-- and its body
pub data Item : Type 0 where
  CellsOf : List ℕ → ℕ → Item
  TaskOf : List ℕ → List Param → ℕ → Block → Item

-- a program has one item at least
pub record Program : Type 0 where
  pub first : Item
  pub others : List Item

-- all items, in the order of the text
abbrev pub items_of : Program → List Item
items_of P = P.first ∷ P.others
