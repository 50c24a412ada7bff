-- What the compiler asks of a text: each variable has its number and its room, each called task is there,
-- its numbers have 63 bits, and all of it can be counted.
use Rattle.std.specs.Prelude.{◌≡◌, ℕ, ◌+◌, ◌<◌, ◌^◌, true, List, [], ◌∷◌, length, Some}
use Rattle.fut_syntax.specs.Trees as tree
use Rattle.fut_rules.specs.Names.{Scope}
use Rattle.fut_rules.specs.Widths.{block_width}
use Rattle.fut_check.specs.Numbers.{expr_fits, each_fits, block_fits}
use Rattle.fut_check.specs.Stmts.{block_faults}
use Rattle.fut_check.specs.Items.{params_faults}
use Rattle.task_machine.specs.Variables.{size_of}
use Rattle.task_machine.specs.Texts.{find_task}
use Rattle.task_frame.specs.declared.names.Name.{Name}
use Rattle.task_frame.specs.Names.{find_name, rooms_by, HasRoom}
use Rattle.task_code.specs.Flat.{Context}

-- a name has a variable, with room for what this type holds
pub record HasVariable (names : List Name) (w : List ℕ) (type : tree.VarType) : Type 0 where
  pub number : ℕ
  pub found : find_name names w ≡ Some number
  pub room : HasRoom (rooms_by names) number type
  pub small : size_of type < 2 ^ 32

-- a name has a variable
abbrev pub IsVariable : List Name → List ℕ → Type 0
IsVariable names w = (n : ℕ) × (find_name names w ≡ Some n)

-- a name is that of a task
abbrev pub IsTask : List tree.Item → List ℕ → Type 0
IsTask items w = (n : ℕ) × (find_task items w ≡ Some n)

-- what a variable is set to has its names and its numbers
abbrev pub ServesInit : Context → tree.Init → Type 0
ServesInit g (tree.GetOf w) = IsVariable g.names w
ServesInit g (tree.CreateOf w es) = IsTask g.items w × (each_fits es ≡ true)
ServesInit g (tree.Index w e) = expr_fits e ≡ true
ServesInit g (tree.Value e) = expr_fits e ≡ true

-- what a statement asks for is there
abbrev mutual
  pub ServesStmt : Context → tree.Stmt → Type 0
  ServesStmt g (tree.Declare w type) = HasVariable g.names w type
  ServesStmt g (tree.Define w type init) = HasVariable g.names w type × ServesInit g init
  ServesStmt g (tree.Assign w init) = IsVariable g.names w × ServesInit g init
  ServesStmt g (tree.Store w e f) = (expr_fits e ≡ true) × (expr_fits f ≡ true)
  ServesStmt g (tree.SpawnOf w es) = IsTask g.items w × (each_fits es ≡ true)
  ServesStmt g tree.SyncAll = Unit {0}
  ServesStmt g (tree.If' e b t) = (expr_fits e ≡ true) × ServesBlock g b × ServesTail g t
  ServesStmt g (tree.While' e b) = (expr_fits e ≡ true) × ServesBlock g b
  ServesStmt g (tree.Return' e) = expr_fits e ≡ true

  pub ServesBlock : Context → tree.Block → Type 0
  ServesBlock g tree.Done = Unit {0}
  ServesBlock g (tree.Then s b) = ServesStmt g s × ServesBlock g b

  pub ServesTail : Context → tree.Tail → Type 0
  ServesTail g tree.NoElse = Unit {0}
  ServesTail g (tree.ElseOf b) = ServesBlock g b

-- each parameter has a variable of its type
abbrev pub ServesParams : List Name → List tree.Param → Type 0
ServesParams names [] = Unit {0}
ServesParams names (p ∷ ps) = HasVariable names p.name p.type × ServesParams names ps

-- how many argument values parameters take
abbrev pub values_for : List tree.Param → ℕ
values_for [] = 0
values_for (p ∷ ps) = size_of p.type + values_for ps

-- a statement that holds no others
abbrev pub IsAlone : tree.Stmt → Type 0
IsAlone (tree.If' e b t) = ⊥
IsAlone (tree.While' e b) = ⊥
IsAlone _ = Unit {0}

-- how many instructions a statement becomes: one, and those of its blocks
abbrev mutual
  pub instructions_for : tree.Stmt → ℕ
  instructions_for (tree.If' e b t) = instructions_in b + instructions_else t + 1
  instructions_for (tree.While' e b) = instructions_in b + 1
  instructions_for (tree.Declare w type) = 1
  instructions_for (tree.Define w type init) = 1
  instructions_for (tree.Assign w init) = 1
  instructions_for (tree.Store w e f) = 1
  instructions_for (tree.SpawnOf w es) = 1
  instructions_for tree.SyncAll = 1
  instructions_for (tree.Return' e) = 1

  pub instructions_in : tree.Block → ℕ
  instructions_in tree.Done = 0
  instructions_in (tree.Then s b) = instructions_for s + instructions_in b

  pub instructions_else : tree.Tail → ℕ
  instructions_else tree.NoElse = 0
  instructions_else (tree.ElseOf b) = instructions_in b

-- a task of a text breaks no rule, has fewer than 2^32 tokens, and its numbers have 63 bits
pub record IsSound (items : List tree.Item) (ps : List tree.Param) (b : tree.Block) : Type 0 where
  pub scope : Scope
  pub head : ℕ
  pub start : ℕ
  pub params : params_faults items [] head ps ≡ []
  pub body : block_faults items scope start b ≡ []
  pub few : length ps + block_width b + 1 < 2 ^ 32
  pub numbers : block_fits b ≡ true

-- so is each task among some items
abbrev pub AreSound : List tree.Item → List tree.Item → Type 0
AreSound items [] = Unit {0}
AreSound items (tree.CellsOf w k ∷ rest) = AreSound items rest
AreSound items (tree.TaskOf w ps d b ∷ rest) = IsSound items ps b × AreSound items rest
