-- What the names of a task are gathered for: each name that a statement declares, sets or gets has a variable with room.
use Rattle.std.specs.Prelude.{◌≡◌, ℕ, ◌+◌, ◌-◌, ◌^◌, ◌≤◌, min, max, List, [], ◌∷◌, length, slice_get, slice_set, slice_index, Some}
use Rattle.fut_syntax.specs.Trees as tree
use Rattle.task_frame.specs.declared.names.Name.{Name}
use Rattle.task_frame.specs.Names.{find_name, rooms_by}

-- how much room is made for a type: for as many values as it holds, where that number has 32 bits
abbrev pub room_of : tree.VarType → ℕ
room_of (tree.Plain _) = 1
room_of (tree.Array _ k) = min k (2 ^ 32 - 1)

-- a name has a variable with room for so many values
pub record Has (names : List Name) (w : List ℕ) (room : ℕ) : Type 0 where
  pub number : ℕ
  pub found : find_name names w ≡ Some number
  pub wide : room ≤ slice_index (rooms_by names) number

-- the words of what a variable is set to are among the names
abbrev pub HasInit : List Name → tree.Init → Type 0
HasInit names (tree.GetOf w) = Has names w 1
HasInit names (tree.CreateOf w es) = Unit {0}
HasInit names (tree.Index w e) = Unit {0}
HasInit names (tree.Value e) = Unit {0}

-- the words of a statement, a block or another branch are among the names
abbrev mutual
  pub HasStmt : List Name → tree.Stmt → Type 0
  HasStmt names (tree.Declare w v) = Has names w (room_of v)
  HasStmt names (tree.Define w v i) = Has names w (room_of v) × HasInit names i
  HasStmt names (tree.Assign w i) = Has names w 1 × HasInit names i
  HasStmt names (tree.Store w e f) = Unit {0}
  HasStmt names (tree.SpawnOf w es) = Unit {0}
  HasStmt names tree.SyncAll = Unit {0}
  HasStmt names (tree.If' e b t) = HasBlock names b × HasTail names t
  HasStmt names (tree.While' e b) = HasBlock names b
  HasStmt names (tree.Return' e) = Unit {0}

  pub HasBlock : List Name → tree.Block → Type 0
  HasBlock names tree.Done = Unit {0}
  HasBlock names (tree.Then s b) = HasStmt names s × HasBlock names b

  pub HasTail : List Name → tree.Tail → Type 0
  HasTail names tree.NoElse = Unit {0}
  HasTail names (tree.ElseOf b) = HasBlock names b

-- the names of the parameters are among the names
abbrev pub HasParams : List Name → List tree.Param → Type 0
HasParams names [] = Unit {0}
HasParams names (p ∷ ps) = Has names p.name (room_of p.type) × HasParams names ps

-- how many names statements declare, set or get at most
abbrev pub words_of_init : tree.Init → ℕ
words_of_init (tree.GetOf w) = 1
words_of_init (tree.CreateOf w es) = 0
words_of_init (tree.Index w e) = 0
words_of_init (tree.Value e) = 0

-- how many words a statement, a block or another branch has
abbrev mutual
  pub words_of_stmt : tree.Stmt → ℕ
  words_of_stmt (tree.Declare w v) = 1
  words_of_stmt (tree.Define w v i) = 1 + words_of_init i
  words_of_stmt (tree.Assign w i) = 1 + words_of_init i
  words_of_stmt (tree.Store w e f) = 0
  words_of_stmt (tree.SpawnOf w es) = 0
  words_of_stmt tree.SyncAll = 0
  words_of_stmt (tree.If' e b t) = words_of_block b + words_of_tail t
  words_of_stmt (tree.While' e b) = words_of_block b
  words_of_stmt (tree.Return' e) = 0

  pub words_of_block : tree.Block → ℕ
  words_of_block tree.Done = 0
  words_of_block (tree.Then s b) = words_of_stmt s + words_of_block b

  pub words_of_tail : tree.Tail → ℕ
  words_of_tail tree.NoElse = 0
  words_of_tail (tree.ElseOf b) = words_of_block b

-- more names, or more room: what had a variable with room still has one, and at most so many names are new
pub record Widens (old new : List Name) (most : ℕ) : Type 0 where
  pub keeps : (w : List ℕ) (room : ℕ) → Has old w room → Has new w room
  pub few : length new ≤ length old + most

-- the name at a place has at least so much room, and all else is as it was
pub record HasRoomAt (old new : List Name) (place room : ℕ) : Type 0 where
  pub name : Name
  pub present : slice_get old place ≡ Some name
  pub is : new ≡ slice_set old place (record { word = name.word; room = max name.room room })
