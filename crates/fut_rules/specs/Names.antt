-- What names mean.
use Rattle.std.specs.Prelude.{ℕ, ◌+◌, Bool, true, false, ◌||◌, bytes_eq, if◌then◌else◌, List, [], ◌∷◌, codes, Option, Some, None}
use Rattle.fut_syntax.specs.Trees.{VarType, Param, Item, CellsOf, TaskOf}
use Rattle.fut_rules.specs.declared.kind.Kind.{Kind}
use Rattle.fut_rules.specs.declared.kind.Kind.TheVariants as kind
use Rattle.fut_rules.specs.declared.names.Variable.{Variable}
use Rattle.fut_rules.specs.declared.fault.Rule.{Rule}
use Rattle.fut_rules.specs.declared.fault.Rule.TheVariants as rule
use Rattle.fut_rules.specs.Kinds.{kind_of, plain, size}

-- ---- global names

-- the name that an item declares
abbrev pub item_name : Item → List ℕ
item_name (CellsOf w n) = w
item_name (TaskOf w ps d b) = w

-- the first declaration of a global name, which is what it means
abbrev pub declaration : List Item → List ℕ → Option Item
declaration [] w = None
declaration (i ∷ is) w = if bytes_eq (item_name i) w then Some i else declaration is w

-- some item declares this name
abbrev pub declares : List Item → List ℕ → Bool
declares [] w = false
declares (i ∷ is) w = bytes_eq (item_name i) w || declares is w

-- what a name means is an array of cells
abbrev pub means_cells : Option Item → Bool
means_cells None = false
means_cells (Some (CellsOf w n)) = true
means_cells (Some (TaskOf w ps d b)) = false

-- what calls know of a task: its parameters, and the number of `fut` in its result
pub record Signature : Type 0 where
  pub params : List Param
  pub result : ℕ

-- what a name means is a task
abbrev pub means_task : Option Item → Option Signature
means_task None = None
means_task (Some (CellsOf w n)) = None
means_task (Some (TaskOf w ps d b)) = Some (record { params = ps; result = d })

-- the lengths of all arrays of cells together
abbrev pub cells : List Item → ℕ
cells [] = 0
cells (CellsOf w n ∷ is) = n + cells is
cells (TaskOf w ps d b ∷ is) = cells is

-- the number of tasks
abbrev pub tasks : List Item → ℕ
tasks [] = 0
tasks (CellsOf w n ∷ is) = tasks is
tasks (TaskOf w ps d b ∷ is) = 1 + tasks is

-- the name `main`
abbrev pub is_main : List ℕ → Bool
is_main w = bytes_eq w (codes "main")

-- some task is named `main`
abbrev pub has_main : List Item → Bool
has_main [] = false
has_main (CellsOf w n ∷ is) = has_main is
has_main (TaskOf w ps d b ∷ is) = is_main w || has_main is

-- ---- names of a task

-- a parameter or variable of a written type
abbrev pub variable : List ℕ → VarType → Variable
variable w v = record { name = w; kind = kind_of v }

-- what a place in a task's body knows: the number of `fut` in the task's result, the parameters and variables that are visible there, and all
-- that the task has declared so far, those of closed blocks too
pub record Scope : Type 0 where
  pub returns : ℕ
  pub visible : List Variable
  pub declared : List Variable

-- the type of the variable of a name, the first one where the name is doubled
abbrev pub kind_named : List Variable → List ℕ → Option Kind
kind_named [] w = None
kind_named (x ∷ xs) w = if bytes_eq x.name w then Some x.kind else kind_named xs w

-- some variable has this name
abbrev pub is_named : List Variable → List ℕ → Bool
is_named [] w = false
is_named (x ∷ xs) w = bytes_eq x.name w || is_named xs w

-- the slots of all variables together
abbrev pub slots : List Variable → ℕ
slots [] = 0
slots (x ∷ xs) = size x.kind + slots xs

-- ---- words before `[`

-- the type of an element, where a variable of this type, if there is one, or else an array of cells stands before `[`
abbrev pub element : Option Kind → Bool → Option Kind
element (Some kind.Int) is_cells = None
element (Some (kind.Handle d)) is_cells = None
element (Some (kind.Array d n)) is_cells = Some (plain d)
element None true = Some kind.Int
element None false = None

-- the rule that a word before `[` breaks: it is a variable that is no array, or it is neither a variable nor an array of cells
abbrev pub element_rule : Option Kind → Bool → Option Rule
element_rule (Some kind.Int) is_cells = Some rule.ArrayLength
element_rule (Some (kind.Handle d)) is_cells = Some rule.ArrayLength
element_rule (Some (kind.Array d n)) is_cells = None
element_rule None true = None
element_rule None false = Some rule.UnknownName
