-- Flat code, and what it is of a program.
use Rattle.std.specs.Prelude.{◌≡◌, ℕ, ◌+◌, List, [], ◌∷◌, ◌++◌, slice_get, Option, Some, None, pos}
use Rattle.fut_syntax.specs.Trees as tree
use Rattle.fut_syntax.specs.Views.{type_tree, items_tree}
use Rattle.fut_syntax.specs.Trees.{items_of}
use Rattle.fut_check.specs.Items.{IsWellTyped}
use Rattle.task_machine.specs.Variables.{Slot, Variables, slot_in, size_of}
use Rattle.task_machine.specs.Texts.{CellArray, TaskText, arrays_from, cell_arrays, cell_count, tasks_of, main_of, find_task}
use Rattle.task_frame.specs.declared.term.Term.{Term, Number}
use Rattle.task_frame.specs.declared.names.Name.{Name}
use Rattle.task_frame.specs.declared.instruction.Fill.{Fill}
use Rattle.task_frame.specs.declared.instruction.Fill.TheVariants as fill
use Rattle.task_frame.specs.declared.instruction.Source.{Source}
use Rattle.task_frame.specs.declared.instruction.Source.TheVariants as source
use Rattle.task_frame.specs.declared.instruction.Instruction.{Instruction}
use Rattle.task_frame.specs.declared.instruction.Instruction.TheVariants.{Set, Store, Branch, Spawn, Sync, Return}
use Rattle.task_code.specs.declared.scope.Scope.{Scope}
use Rattle.task_code.specs.declared.code.ParamCode.{ParamCode}
use Rattle.task_code.specs.declared.code.TaskCode.{TaskCode}
use Rattle.task_frame.specs.Arrays.{find_array}
use Rattle.task_frame.specs.Names.{Holds, HasRoom, find_name, rooms_by}
use Rattle.task_frame.specs.Terms.{slot_by}

-- where the code of a task is made: the items of the program, and the names of the task
pub record Context : Type 0 where
  pub items : List tree.Item
  pub names : List Name

-- that of a scope of the code
abbrev pub context_of : Scope → Context
context_of s = record { items = items_tree s.items.now; names = s.names.now }

-- a term gives the same as what it was made from, whatever the variables hold
pub record Means (names : List Name) (gives : Variables → Slot) (t : Term) : Type 0 where
  pub same : (vars : Variables) (slots : List Slot) → Holds names vars slots → slot_by slots t ≡ gives vars

-- a term means the same as an expression
abbrev pub MeansExpr : List Name → tree.Expr → Term → Type 0
MeansExpr names e t = Means names (λ vars. slot_in vars e) t

-- so do terms and expressions in pairs
abbrev pub MeanAll : List Name → List tree.Expr → List Term → Type 0
MeanAll names [] [] = Unit {0}
MeanAll names [] (_ ∷ _) = ⊥
MeanAll names (_ ∷ _) [] = ⊥
MeanAll names (e ∷ es) (t ∷ ts) = MeansExpr names e t × MeanAll names es ts

-- a source gives what an init says
abbrev pub IsSource : Context → tree.Init → Source → Type 0
IsSource g (tree.Value e) s = (t : Term) × MeansExpr g.names e t × (s ≡ source.Value t)
IsSource g (tree.Index w e) s = (t : Term) × MeansExpr g.names e t × (s ≡ source.Element (find_name g.names w) (find_array (arrays_from 0 g.items) w) t)
IsSource g (tree.GetOf w) s = (n : ℕ) × (find_name g.names w ≡ Some n) × (s ≡ source.Get n)
IsSource g (tree.CreateOf w es) s = (n : ℕ) × (ts : List Term) × (find_task g.items w ≡ Some n) × MeanAll g.names es ts × (s ≡ source.Create n ts)

-- what becomes of a variable of this type
abbrev pub fill_of : tree.VarType → Fill
fill_of (tree.Plain _) = fill.One
fill_of (tree.Array _ k) = fill.Many k

-- an instruction does what a statement says that holds no others, and goes on at the next place
abbrev pub IsDone : Context → tree.Stmt → ℕ → Instruction → Type 0
IsDone g (tree.Declare w type) next i =
    (n : ℕ) × (find_name g.names w ≡ Some n) × HasRoom (rooms_by g.names) n type
    × (i ≡ Set (record { variable = n; fill = fill_of type }) (source.Value (Number (pos 0))) next)
IsDone g (tree.Define w type init) next i =
    (n : ℕ) × (s : Source) × (find_name g.names w ≡ Some n) × HasRoom (rooms_by g.names) n type × IsSource g init s
    × (i ≡ Set (record { variable = n; fill = fill_of type }) s next)
IsDone g (tree.Assign w init) next i = (n : ℕ) × (s : Source) × (find_name g.names w ≡ Some n) × IsSource g init s
    × (i ≡ Set (record { variable = n; fill = fill.Again }) s next)
IsDone g (tree.Store w e f) next i =
    (a : Term) × (b : Term) × MeansExpr g.names e a × MeansExpr g.names f b × (i ≡ Store (find_name g.names w) (find_array (arrays_from 0 g.items) w) a b next)
IsDone g (tree.SpawnOf w es) next i = (n : ℕ) × (ts : List Term) × (find_task g.items w ≡ Some n) × MeanAll g.names es ts × (i ≡ Spawn n ts next)
IsDone g tree.SyncAll next i = i ≡ Sync next
IsDone g (tree.Return' e) next i = (t : Term) × MeansExpr g.names e t × (i ≡ Return t)
IsDone g (tree.If' _ _ _) next i = ⊥
IsDone g (tree.While' _ _) next i = ⊥

-- the instruction at a place of the code does
abbrev pub Stands : List Instruction → ℕ → (Instruction → Type 0) → Type 0
Stands code place what = (i : Instruction) × (slice_get code place ≡ Some i) × what i

-- the code does what a statement says where it goes on at its entry, and then goes on at the next place
abbrev mutual
  pub DoesStmt : Context → List Instruction → tree.Stmt → ℕ → ℕ → Type 0
  DoesStmt g code (tree.If' e b t) next entry =
      (test : Term) × (then : ℕ) × (otherwise : ℕ) × MeansExpr g.names e test
      × (slice_get code entry ≡ Some (Branch test then otherwise)) × DoesBlock g code b next then
      × DoesTail g code t next otherwise
  DoesStmt g code (tree.While' e b) next entry =
      (test : Term) × (then : ℕ) × MeansExpr g.names e test × (slice_get code entry ≡ Some (Branch test then next)) × DoesBlock g code b entry then
  DoesStmt g code (tree.Declare w type) next entry = Stands code entry (IsDone g (tree.Declare w type) next)
  DoesStmt g code (tree.Define w type init) next entry = Stands code entry (IsDone g (tree.Define w type init) next)
  DoesStmt g code (tree.Assign w init) next entry = Stands code entry (IsDone g (tree.Assign w init) next)
  DoesStmt g code (tree.Store w e f) next entry = Stands code entry (IsDone g (tree.Store w e f) next)
  DoesStmt g code (tree.SpawnOf w es) next entry = Stands code entry (IsDone g (tree.SpawnOf w es) next)
  DoesStmt g code tree.SyncAll next entry = Stands code entry (IsDone g tree.SyncAll next)
  DoesStmt g code (tree.Return' e) next entry = Stands code entry (IsDone g (tree.Return' e) next)

  pub DoesBlock : Context → List Instruction → tree.Block → ℕ → ℕ → Type 0
  DoesBlock g code tree.Done next entry = next ≡ entry
  DoesBlock g code (tree.Then s rest) next entry = (middle : ℕ) × DoesStmt g code s middle entry × DoesBlock g code rest next middle

  pub DoesTail : Context → List Instruction → tree.Tail → ℕ → ℕ → Type 0
  DoesTail g code tree.NoElse next entry = next ≡ entry
  DoesTail g code (tree.ElseOf b) next entry = DoesBlock g code b next entry

-- instructions with others behind them
pub record Grows (old new : List Instruction) : Type 0 where
  pub more : List Instruction
  pub is : new ≡ old ++ more

-- ---- whole code

-- the parameters of a task, from a number of argument values on: their variables, where their values begin, and their types
abbrev pub AreGiven : List Name → ℕ → List tree.Param → List ParamCode → Type 0
AreGiven names at [] [] = Unit {0}
AreGiven names at [] (_ ∷ _) = ⊥
AreGiven names at (_ ∷ _) [] = ⊥
AreGiven names at (p ∷ ps) (x ∷ xs) =
    (find_name names p.name ≡ Some x.variable) × (x.first ≡ at) × (type_tree x.kind ≡ p.type)
    × HasRoom (rooms_by names) x.variable p.type × AreGiven names (at + size_of p.type) ps xs

-- what code shows: the arrays of cells, the code of each task, the place of `main`, and the number of cells
pub record Compiled : Type 0 where
  pub arrays : List CellArray
  pub tasks : List TaskCode
  pub main : ℕ
  pub cells : ℕ

-- this is the code of a task: at its place 0 a body ends, as by `return 0;`
pub record IsCodeOfTask (items : List tree.Item) (t : TaskText) (code : TaskCode) : Type 0 where
  pub does : DoesBlock (record { items = items; names = code.names }) code.instructions t.body 0 code.entry
  pub ends : slice_get code.instructions 0 ≡ Some (Return (Number (pos 0)))
  pub given : AreGiven code.names 0 t.params code.params

-- the codes are those of the texts, in pairs
abbrev pub AreCodesOf : List tree.Item → List TaskText → List TaskCode → Type 0
AreCodesOf items [] [] = Unit {0}
AreCodesOf items [] (_ ∷ _) = ⊥
AreCodesOf items (_ ∷ _) [] = ⊥
AreCodesOf items (t ∷ texts) (code ∷ codes) = IsCodeOfTask items t code × AreCodesOf items texts codes

-- this is the code of a well-typed program
pub record IsCodeOf (P : tree.Program) (code : Compiled) : Type 0 where
  pub typed : IsWellTyped P
  pub arrays : code.arrays ≡ cell_arrays P
  pub tasks : AreCodesOf (items_of P) (tasks_of P) code.tasks
  pub main : code.main ≡ main_of P
  pub cells : code.cells ≡ cell_count P

-- the code of a task of the text; of one that is none, nothing
abbrev pub code_or_none : Option TaskCode → TaskCode
code_or_none None = record { names = []; params = []; entry = 0; instructions = [] }
code_or_none (Some t) = t

-- the code of a task, or an empty one
abbrev pub code_of : List TaskCode → ℕ → TaskCode
code_of tasks which = code_or_none (slice_get tasks which)

-- the instructions of a task
abbrev pub instructions_at : List TaskCode → ℕ → List Instruction
instructions_at tasks which = (code_of tasks which).instructions
