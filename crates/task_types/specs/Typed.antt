-- What the type rules say of a task while it runs: which of its variables hold numbers, and which hold handles.
use Rattle.std.specs.Prelude.{◌≡◌, ◌≢◌, ℕ, zero, suc, Bool, true, List, [], ◌∷◌, ◌++◌, length, slice_get, Option, Some, None, pos}
use Rattle.fut_base.specs.declared.record.Value.{Value}
use Rattle.fut_base.specs.declared.record.Value.TheVariants.{Int, Fut}
use Rattle.fut_base.specs.declared.event.Action.{Action}
use Rattle.fut_base.specs.declared.event.Action.TheVariants.{Reads, Writes, Spawns, Creates, Syncs, Gets, Ends}
use Rattle.fut_base.specs.Dag.{Among}
use Rattle.fut_syntax.specs.Trees as tree
use Rattle.fut_rules.specs.declared.kind.Kind.{Kind}
use Rattle.fut_rules.specs.declared.kind.Kind.TheVariants as kind
use Rattle.fut_rules.specs.declared.names.Variable.{Variable}
use Rattle.fut_rules.specs.Kinds.{kind_of, size}
use Rattle.fut_rules.specs.Names.{Scope, declares}
use Rattle.fut_check.specs.Items.{items_of, param_variables}
use Rattle.fut_check.specs.Stmts.{stmt_faults, declared_in, declared_in_block, shown, is_return}
use Rattle.task_machine.specs.Variables.{Slot, One, Many, slot_at}
use Rattle.task_machine.specs.State.{TaskState}

-- a task of the text: its parameters, the number of `fut` before the `int` of its result, and its body
pub record Text : Type 0 where
  pub params : List tree.Param
  pub depth : ℕ
  pub body : tree.Block

-- the texts of the tasks of these items, in order
abbrev pub texts_from : List tree.Item → List Text
texts_from [] = []
texts_from (tree.CellsOf _ _ ∷ rest) = texts_from rest
texts_from (tree.TaskOf _ params depth body ∷ rest) = record { params = params; depth = depth; body = body } ∷ texts_from rest

-- the task of a program at this place among its tasks
abbrev pub text_at : tree.Program → ℕ → Option Text
text_at P which = slice_get (texts_from (items_of P)) which

-- the parameters and all variables that a task declares, those of its inner blocks too
abbrev pub variables_of : Text → List Variable
variables_of t = param_variables t.params ++ declared_in_block t.body

-- a value of the type `int` behind so many `fut`. `gives f d` says that future f gives a value of `int` behind d `fut`.
abbrev pub Fits : (ℕ → ℕ → Bool) → ℕ → Value → Type 0
Fits gives zero (Int _) = Unit {0}
Fits gives zero (Fut _) = ⊥
Fits gives (suc d) (Int _) = ⊥
Fits gives (suc d) (Fut f) = gives f d ≡ true

-- each of the values fits the depth
abbrev pub AllFit : (ℕ → ℕ → Bool) → ℕ → List Value → Type 0
AllFit gives d [] = Unit {0}
AllFit gives d (v ∷ vs) = Fits gives d v × AllFit gives d vs

-- what a variable of this type holds
abbrev pub HasKind : (ℕ → ℕ → Bool) → Kind → Slot → Type 0
HasKind gives kind.Int (One v) = Fits gives 0 v
HasKind gives kind.Int (Many _) = ⊥
HasKind gives (kind.Handle d) (One v) = Fits gives (suc d) v
HasKind gives (kind.Handle d) (Many _) = ⊥
HasKind gives (kind.Array d n) (One _) = ⊥
HasKind gives (kind.Array d n) (Many vs) = (length vs ≡ n) × AllFit gives d vs

-- a slot with the first of the values
abbrev pub one_of : List Value → Slot
one_of [] = Many []
one_of (v ∷ vs) = One v

-- the values of one variable of this type
abbrev pub slot_of : Kind → List Value → Slot
slot_of kind.Int vs = one_of vs
slot_of (kind.Handle d) vs = one_of vs
slot_of (kind.Array d n) vs = Many vs

-- argument values for parameters, an array as its elements
abbrev pub ParamsFit : (ℕ → ℕ → Bool) → List tree.Param → List Value → Type 0
ParamsFit gives [] vs = vs ≡ []
ParamsFit gives (p ∷ ps) vs =
    (own : List Value) × (rest : List Value) × (vs ≡ own ++ rest) × HasKind gives (kind_of p.type) (slot_of (kind_of p.type) own)
    × (length own ≡ size (kind_of p.type)) × ParamsFit gives ps rest

-- the arguments fit the parameters of the task of a program at this place
abbrev pub ArgsFit : (ℕ → ℕ → Bool) → tree.Program → ℕ → List Value → Type 0
ArgsFit gives P which args = (t : Text) × (text_at P which ≡ Some t) × ParamsFit gives t.params args

-- each of these is one of those
abbrev pub AllAmong : List Variable → List Variable → Type 0
AllAmong xs ys = (x : Variable) → Among x xs → Among x ys

-- a statement breaks no rule in some place where these variables are visible, or fewer, and declares only such as the
-- task has
pub record BreaksNoRule (globals : List tree.Item) (t : Text) (known : List Variable) (s : tree.Stmt) : Type 0 where
  pub scope : Scope
  pub at : ℕ
  pub returns : scope.returns ≡ t.depth
  pub visible : AllAmong scope.visible known
  pub declared : AllAmong (declared_in s) (variables_of t)
  pub clean : stmt_faults globals scope at s ≡ []

-- neither does each of these statements, where those before it were done
abbrev pub AllBreakNone : List tree.Item → Text → List Variable → List tree.Stmt → Type 0
AllBreakNone globals t known [] = Unit {0}
AllBreakNone globals t known (s ∷ rest) = BreaksNoRule globals t known s × AllBreakNone globals t (known ++ shown s) rest

-- the last statement is `return`
abbrev pub EndsWithReturn : List tree.Stmt → Type 0
EndsWithReturn [] = ⊥
EndsWithReturn (s ∷ []) = is_return s ≡ true
EndsWithReturn (s ∷ r ∷ rest) = EndsWithReturn (r ∷ rest)

-- a state of a task that keeps the type rules: each variable that was declared so far holds what its type says, no
-- variable has a global name, and what is left to do breaks no rule
pub record IsTypedState (gives : ℕ → ℕ → Bool) (P : tree.Program) (which : ℕ) (s : TaskState) : Type 0 where
  pub text : Text
  pub is : text_at P which ≡ Some text
  pub known : List Variable
  pub declared : AllAmong known (variables_of text)
  pub holds : (x : Variable) → Among x known → HasKind gives x.kind (slot_at s.vars x.name)
  pub globals : (w : List ℕ) → declares (items_of P) w ≡ true → slot_at s.vars w ≡ One (Int (pos 0))
  pub todo : AllBreakNone (items_of P) text known s.todo
  pub returns : text.depth ≢ 0 → EndsWithReturn s.todo

-- each handle fits each type of handles: what is known of one task by itself
abbrev pub any_future : ℕ → ℕ → Bool
any_future f d = true

-- the word of the `get` at which a task stands
abbrev pub got_word : tree.Init → Option (List ℕ)
got_word (tree.GetOf w) = Some w
got_word _ = None

-- the word whose future the first statement gets, where it gets one
abbrev pub got_by : List tree.Stmt → Option (List ℕ)
got_by (tree.Define _ _ init ∷ _) = got_word init
got_by (tree.Assign _ init ∷ _) = got_word init
got_by _ = None

-- the task of this text stands at a `get` on a handle of the task's variables, which gives a value of `int` behind d `fut`
abbrev pub GetsDepth : tree.Program → ℕ → TaskState → ℕ → Type 0
GetsDepth P which s d =
    (t : Text) × (w : List ℕ) × (text_at P which ≡ Some t) × (got_by s.todo ≡ Some w) × Among (record { name = w; kind = kind.Handle d }) (variables_of t)

-- what an action gives its task fits: the value of a `get` the type of the handle, and a new future the result of its task
abbrev pub ActionFits : (ℕ → ℕ → Bool) → tree.Program → ℕ → TaskState → Action → Type 0
ActionFits gives P which s (Reads _ _) = Unit {0}
ActionFits gives P which s (Writes _ _) = Unit {0}
ActionFits gives P which s (Spawns _ _ _ _ _) = Unit {0}
ActionFits gives P which s (Creates code child _ _ _) = (t : Text) → text_at P code ≡ Some t → gives child t.depth ≡ true
ActionFits gives P which s (Syncs _) = Unit {0}
ActionFits gives P which s (Gets _ value _) = (d : ℕ) → GetsDepth P which s d → Fits gives d value
ActionFits gives P which s (Ends _) = Unit {0}
