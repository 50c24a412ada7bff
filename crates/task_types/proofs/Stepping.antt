-- A local step keeps a state typed.
use Rattle.std.proofs.Common.{◌≡◌, ◌≢◌, ℕ, zero, suc, ◌+◌, Bool, true, false, cond, List, [], ◌∷◌}
use Rattle.std.proofs.Common.{◌++◌, length, length-set, inl, inr, refl, sym, ap, ◌∙◌, subst}
use Rattle.std.specs.Prelude.{Some, None, Option, pos, slice_set, slice_index_or}
use Rattle.std.proofs.lemmas.Option.{same_Some}
use Rattle.fut_base.proofs.Members.{among_left, among_right}
use Rattle.fut_base.proofs.Cases.{by_bool}
use Rattle.fut_base.specs.declared.record.Value.{Value}
use Rattle.fut_base.specs.declared.record.Value.TheVariants.{Int}
use Rattle.fut_base.specs.Dag.{Among}
use Rattle.fut_syntax.specs.Trees as tree
use Rattle.fut_rules.specs.declared.kind.Kind.{Kind}
use Rattle.fut_rules.specs.declared.kind.Kind.TheVariants as kind
use Rattle.fut_rules.specs.declared.fault.Rule.TheVariants as rule
use Rattle.fut_rules.specs.declared.names.Variable.{Variable}
use Rattle.fut_rules.specs.Faults.{broken, fault_if}
use Rattle.fut_rules.specs.Kinds.{kind_of, plain, init_need, unmet}
use Rattle.fut_rules.specs.Names.{declaration, means_cells, kind_named, variable, element, element_rule}
use Rattle.fut_rules.specs.Exprs.{needed_faults, for_int}
use Rattle.fut_rules.specs.Inits.{init_kind, inner_faults, init_faults}
use Rattle.fut_rules.specs.Widths.{expr_width, type_width, block_width}
use Rattle.fut_check.specs.Stmts.{declared_faults, type_faults, is_handle, assigned_rule, value_need, shown}
use Rattle.fut_check.specs.Stmts.{declared_in_block, declared_in_tail, stmt_faults, is_return, with_declared}
use Rattle.fut_check.specs.Items.{items_of, IsWellTyped}
use Rattle.task_machine.specs.Values.{index_of, is_zero}
use Rattle.task_machine.specs.Variables.{Slot, One, Many, Variables, slot_at, put, filled, refilled, slot_in, value_in, number_in}
use Rattle.task_machine.specs.Texts.{stmts_of, else_of}
use Rattle.task_machine.specs.State.{TaskState, goes_on, set_by, element_of, local_value, init_step, store_step, step_by, first_step}
use Rattle.task_machine.specs.Runs.{Steps}
use Rattle.task_types.specs.Typed.{Text, text_at, variables_of, Fits, HasKind, AllAmong, BreaksNoRule, AllBreakNone, EndsWithReturn, IsTypedState}
use Rattle.task_types.proofs.Slots.{no_some, nil_left, nil_right, nil_three, not_found, all_set}
use Rattle.task_types.proofs.Given.{Holds, named, named_holds, expr_given, init_fits, filled_has, plain_has, inside, expr_meets}
use Rattle.task_types.proofs.Texts.{IsGoodKind, IsGoodText, good_text, if_parts, while_block, block_none}
use Rattle.task_types.proofs.States.{Keeps, kept, set_one, fewer, all_append, none_shown, returns_after, returns_append, InitGives, defined_has, IsAssigned}
use Rattle.task_types.proofs.States.{assigned, assigned_has, IsArrayVariable, before_bracket, cells_are_one, ArraySlot, array_slot, element_fits}

-- a typed state, from its parts
pub made : (gives : ℕ → ℕ → Bool) (P : tree.Program) (which : ℕ) (t : Text) (known : List Variable) (s : TaskState) → text_at P which ≡ Some t
    → Keeps gives (items_of P) t known s.vars → AllBreakNone (items_of P) t known s.todo → (t.depth ≢ 0 → EndsWithReturn s.todo) → IsTypedState gives P which s
made gives P which t known s is k a r =
    record { text = t; is = is; known = known; declared = k.declared; holds = k.holds; globals = k.globals_are; todo = a; returns = r }

-- a task's place in a well-typed text: a statement in front of the rest
pub record Front (gives : ℕ → ℕ → Bool) (P : tree.Program) (which : ℕ) (t : Text) (known : List Variable) (vars : Variables) (stmt : tree.Stmt)
    (rest : List tree.Stmt) : Type 0 where
  pub is : text_at P which ≡ Some t
  pub good : IsGoodText (items_of P) t
  pub keeps : Keeps gives (items_of P) t known vars
  pub own : BreaksNoRule (items_of P) t known stmt
  pub later : AllBreakNone (items_of P) t (known ++ shown stmt) rest
  pub returns : t.depth ≢ 0 → EndsWithReturn (stmt ∷ rest)

-- what the scope of a statement sees holds what its types say
pub seen : (gives : ℕ → ℕ → Bool) (P : tree.Program) (which : ℕ) (t : Text) (known : List Variable) (vars : Variables) (stmt : tree.Stmt)
    (rest : List tree.Stmt) → (f : Front gives P which t known vars stmt rest) → Holds gives f.own.scope.visible vars
seen gives P which t known vars stmt rest f = λ x i. f.keeps.holds x (f.own.visible x i)

-- the size of a visible array is not 0
pub sized : (gives : ℕ → ℕ → Bool) (P : tree.Program) (which : ℕ) (t : Text) (known : List Variable) (vars : Variables) (stmt : tree.Stmt)
    (rest : List tree.Stmt) (w : List ℕ) → (f : Front gives P which t known vars stmt rest) → (a : IsArrayVariable f.own.scope.visible w) → a.size ≢ 0
sized gives P which t known vars stmt rest w f a =
    let n = named f.own.scope.visible w (kind.Array a.depth a.size) a.kind in
    let g : IsGoodKind (kind.Array a.depth a.size) =
    subst IsGoodKind n.kind (f.good.apart.good n.variable (f.keeps.declared n.variable (f.own.visible n.variable n.among))) in
    g.1

-- a visible array variable in its slot
pub array_here : (gives : ℕ → ℕ → Bool) (P : tree.Program) (which : ℕ) (t : Text) (known : List Variable) (vars : Variables) (stmt : tree.Stmt)
    (rest : List tree.Stmt) (w : List ℕ) → (f : Front gives P which t known vars stmt rest) → (a : IsArrayVariable f.own.scope.visible w)
    → ArraySlot gives a.depth a.size (slot_at vars w)
array_here gives P which t known vars stmt rest w f a =
    array_slot gives a.depth a.size (slot_at vars w)
    (named_holds gives f.own.scope.visible vars w (kind.Array a.depth a.size) (seen gives P which t known vars stmt rest f) a.kind)

-- what an init gives by a local step is of its type
pub local_gives : (gives : ℕ → ℕ → Bool) (P : tree.Program) (which : ℕ) (t : Text) (known : List Variable) (vars : Variables) (stmt : tree.Stmt)
    (rest : List tree.Stmt) (n : ℕ) (i : tree.Init) (v : Value) → (f : Front gives P which t known vars stmt rest)
    → inner_faults (items_of P) f.own.scope.visible n i ≡ [] → local_value vars i ≡ Some v → InitGives gives (init_kind (items_of P) f.own.scope.visible i) v
local_gives gives P which t known vars stmt rest n (tree.GetOf w) v f c l = absurd (no_some v _ l refl)
local_gives gives P which t known vars stmt rest n (tree.CreateOf w es) v f c l = absurd (no_some v _ l refl)
local_gives gives P which t known vars stmt rest n (tree.Value e) v f c l =
    record {
      slot = slot_in vars e;
      is_given = expr_given gives f.own.scope.visible vars n e (seen gives P which t known vars stmt rest f) c;
      value = same_Some _ v l;
    }
local_gives gives P which t known vars stmt rest n (tree.Index w e) v f c l =
    let vis = f.own.scope.visible in
    let rule_part = nil_left (broken (element_rule (kind_named vis w) (means_cells (declaration (items_of P) w))) n) (needed_faults vis (n + 2) for_int e) c in
    elim (before_bracket (items_of P) vis w n (kind_named vis w) (means_cells (declaration (items_of P) w)) refl refl rule_part) [
      | inl a ↦ (
          let s = array_here gives P which t known vars stmt rest w f a in
          let same : slice_index_or s.values (index_of (length s.values) (number_in vars e)) (Int (pos 0)) ≡ v =
          same_Some _ v (subst (λ x. element_of x (number_in vars e) ≡ Some v) s.is l)
          in
          let fits : Fits gives a.depth v =
          subst (Fits gives a.depth) same
          (element_fits gives a.depth a.size s.values (number_in vars e) s.count (sized gives P which t known vars stmt rest w f a) s.fit) in
          record {
            slot = One v;
            is_given = (plain a.depth, ap (λ o. element o (means_cells (declaration (items_of P) w))) a.kind, plain_has gives a.depth v fits);
            value = refl;
          })
      | inr k ↦ absurd (
          let one = cells_are_one gives (items_of P) t known vars w f.keeps k.cells in
          no_some v _ (subst (λ x. element_of x (number_in vars e) ≡ Some v) one l) refl)
    ]

-- a declared number is 0
zero_fits : (gives : ℕ → ℕ → Bool) (v : tree.VarType) → is_handle (kind_of v) ≡ false → Fits gives (inside v) (Int (pos 0))
zero_fits gives (tree.Plain zero) h = tt
zero_fits gives (tree.Plain (suc d)) h = absurd (let e : true ≡ false = h in cc)
zero_fits gives (tree.Array d n) h = absurd (let e : true ≡ false = h in cc)

-- the faults of an init are those of a declaration's or assignment's statement
pub define_init : (P : tree.Program) (t : Text) (known : List Variable) (w : List ℕ) (type : tree.VarType) (i : tree.Init)
    → (b : BreaksNoRule (items_of P) t known (tree.Define w type i)) → init_faults (items_of P) b.scope.visible (b.at + 3 + type_width type + 1)
    (Some (init_need (kind_of type))) i ≡ []
define_init P t known w type i b =
    (nil_three (declared_faults (items_of P) b.scope.declared (b.at + 1) (variable w type)) (type_faults (b.at + 3) type)
    (init_faults (items_of P) b.scope.visible (b.at + 3 + type_width type + 1) (Some (init_need (kind_of type))) i) b.clean).2

pub assign_init : (P : tree.Program) (t : Text) (known : List Variable) (w : List ℕ) (i : tree.Init)
    → (b : BreaksNoRule (items_of P) t known (tree.Assign w i)) → init_faults (items_of P) b.scope.visible (b.at + 2)
    (value_need (kind_named b.scope.visible w)) i ≡ []
assign_init P t known w i b =
    nil_right (broken (assigned_rule (kind_named b.scope.visible w)) b.at)
    (init_faults (items_of P) b.scope.visible (b.at + 2) (value_need (kind_named b.scope.visible w)) i) b.clean

pub assign_word : (P : tree.Program) (t : Text) (known : List Variable) (w : List ℕ) (i : tree.Init)
    → (b : BreaksNoRule (items_of P) t known (tree.Assign w i)) → IsAssigned b.scope.visible w
assign_word P t known w i b =
    assigned b.scope.visible w b.at (kind_named b.scope.visible w) refl
    (nil_left (broken (assigned_rule (kind_named b.scope.visible w)) b.at)
    (init_faults (items_of P) b.scope.visible (b.at + 2) (value_need (kind_named b.scope.visible w)) i) b.clean)

-- a declared variable is set to what its init gives
pub define_set : (gives : ℕ → ℕ → Bool) (P : tree.Program) (which : ℕ) (t : Text) (known : List Variable) (s : TaskState) (rest : List tree.Stmt) (w : List ℕ)
    (type : tree.VarType) (i : tree.Init) (v : Value) → (f : Front gives P which t known s.vars (tree.Define w type i) rest)
    → InitGives gives (init_kind (items_of P) f.own.scope.visible i) v → IsTypedState gives P which (goes_on s rest (set_by (tree.Define w type i) s.vars v))
define_set gives P which t known s rest w type i v f g =
    let x = variable w type in
    made gives P which t (known ++ x ∷ []) (goes_on s rest (set_by (tree.Define w type i) s.vars v)) f.is
    (set_one gives (items_of P) t known s.vars x (filled type v) f.good.apart f.keeps (f.own.declared x (inl refl))
    (defined_has gives (items_of P) f.own.scope.visible (f.own.at + 3 + type_width type + 1) type i v (define_init P t known w type i f.own) g))
    f.later (λ ne. returns_after (tree.Define w type i) rest refl (f.returns ne))

-- a variable is set again
pub set_again : (gives : ℕ → ℕ → Bool) (P : tree.Program) (which : ℕ) (t : Text) (known : List Variable) (vars : Variables) (stmt : tree.Stmt)
    (rest : List tree.Stmt) (w : List ℕ) (k : Kind) (slot : Slot) → (f : Front gives P which t known vars stmt rest)
    → kind_named f.own.scope.visible w ≡ Some k → HasKind gives k slot → Keeps gives (items_of P) t known (put vars w slot)
set_again gives P which t known vars stmt rest w k slot f e h =
    let n = named f.own.scope.visible w k e in
    let i : Among n.variable known = f.own.visible n.variable n.among in
    let longer = set_one gives (items_of P) t known vars n.variable slot f.good.apart f.keeps (f.keeps.declared n.variable i)
    (subst (λ x. HasKind gives x slot) (sym n.kind) h) in
    subst (λ x. Keeps gives (items_of P) t known (put vars x slot)) n.name
    (fewer gives (items_of P) t (known ++ n.variable ∷ []) known (put vars n.variable.name slot) (λ y j. among_left y known (n.variable ∷ []) j) longer)

pub assign_set : (gives : ℕ → ℕ → Bool) (P : tree.Program) (which : ℕ) (t : Text) (known : List Variable) (s : TaskState) (rest : List tree.Stmt) (w : List ℕ)
    (i : tree.Init) (v : Value) → (f : Front gives P which t known s.vars (tree.Assign w i) rest)
    → InitGives gives (init_kind (items_of P) f.own.scope.visible i) v → IsTypedState gives P which (goes_on s rest (set_by (tree.Assign w i) s.vars v))
assign_set gives P which t known s rest w i v f g =
    let a = assign_word P t known w i f.own in
    made gives P which t known (goes_on s rest (set_by (tree.Assign w i) s.vars v)) f.is
    (set_again gives P which t known s.vars (tree.Assign w i) rest w (plain a.depth) (refilled (slot_at s.vars w) v) f a.kind
    (assigned_has gives (items_of P) f.own.scope.visible s.vars (f.own.at + 2) w i v a (seen gives P which t known s.vars (tree.Assign w i) rest f)
    (assign_init P t known w i f.own) g))
    (none_shown (items_of P) t known rest f.later) (λ ne. returns_after (tree.Assign w i) rest refl (f.returns ne))

-- how a step by an init comes about
init_came : (s : TaskState) (rest : List tree.Stmt) (stmt : tree.Stmt) (o : Option Value) (u : TaskState) → init_step s rest stmt o ≡ Some u
    → (v : Value) × (o ≡ Some v) × (goes_on s rest (set_by stmt s.vars v) ≡ u)
init_came s rest stmt None u h = absurd (no_some u _ h refl)
init_came s rest stmt (Some v) u h = (v, refl, same_Some _ u h)

-- an element of an array variable is set
store_set : (gives : ℕ → ℕ → Bool) (P : tree.Program) (which : ℕ) (t : Text) (known : List Variable) (s : TaskState) (rest : List tree.Stmt) (w : List ℕ)
    (e g : tree.Expr) (u : TaskState) → (f : Front gives P which t known s.vars (tree.Store w e g) rest)
    → store_step s rest w (slot_at s.vars w) (number_in s.vars e) (value_in s.vars g) ≡ Some u → IsTypedState gives P which u
store_set gives P which t known s rest w e g u f h =
    let vis = f.own.scope.visible in
    let parts = nil_three (broken (element_rule (kind_named vis w) (means_cells (declaration (items_of P) w))) f.own.at)
    (needed_faults vis (f.own.at + 2) for_int e)
    (needed_faults vis (f.own.at + 2 + expr_width e + 2)
    (value_need (element (kind_named vis w) (means_cells (declaration (items_of P) w)))) g) f.own.clean in
    elim (before_bracket (items_of P) vis w f.own.at (kind_named vis w) (means_cells (declaration (items_of P) w)) refl refl parts.0) [
      | inl a ↦ (
          let sl = array_here gives P which t known s.vars (tree.Store w e g) rest w f a in
          let clean : needed_faults vis (f.own.at + 2 + expr_width e + 2) (Some (init_need (kind_of (tree.Plain a.depth)))) g ≡ [] =
          subst
          (λ o. needed_faults vis (f.own.at + 2 + expr_width e + 2) (value_need (element o (means_cells (declaration (items_of P) w)))) g
          ≡ []) a.kind parts.2
          in
          let m = expr_meets gives vis s.vars (f.own.at + 2 + expr_width e + 2) (init_need (kind_of (tree.Plain a.depth))) g
          (seen gives P which t known s.vars (tree.Store w e g) rest f) clean in
          let v = value_in s.vars g in
          let fits : Fits gives a.depth v = init_fits gives (tree.Plain a.depth) m.kind (slot_in s.vars g) m.rule m.has in
          let z = number_in s.vars e in
          let after = Many (slice_set sl.values (index_of (length sl.values) z) v) in
          let same : goes_on s rest (put s.vars w after) ≡ u = same_Some _ u (subst (λ x. store_step s rest w x z v ≡ Some u) sl.is h) in
          subst (IsTypedState gives P which) same
          (made gives P which t known (goes_on s rest (put s.vars w after)) f.is
          (set_again gives P which t known s.vars (tree.Store w e g) rest w (kind.Array a.depth a.size) after f a.kind
          (length-set sl.values (index_of (length sl.values) z) v ∙ sl.count, all_set gives a.depth sl.values (index_of (length sl.values) z) v sl.fit fits))
          (none_shown (items_of P) t known rest f.later) (λ ne. returns_after (tree.Store w e g) rest refl (f.returns ne))))
      | inr k ↦ absurd (
          let one = cells_are_one gives (items_of P) t known s.vars w f.keeps k.cells in
          no_some u _ (subst (λ x. store_step s rest w x (number_in s.vars e) (value_in s.vars g) ≡ Some u) one h) refl)
    ]

-- the statements of a branch in front of the rest
branch : (gives : ℕ → ℕ → Bool) (P : tree.Program) (which : ℕ) (t : Text) (known : List Variable) (s : TaskState) (front rest : List tree.Stmt)
    → text_at P which ≡ Some t → Keeps gives (items_of P) t known s.vars → AllBreakNone (items_of P) t known front → AllBreakNone (items_of P) t known rest
    → (t.depth ≢ 0 → EndsWithReturn rest) → IsTypedState gives P which (goes_on s (front ++ rest) s.vars)
branch gives P which t known s front rest is k a b r =
    made gives P which t known (goes_on s (front ++ rest) s.vars) is k (all_append (items_of P) t known front rest a b) (λ ne. returns_append front rest (r ne))

else_none : (globals : List tree.Item) (t : Text) (scope : Rattle.fut_rules.specs.Names.Scope) (n : ℕ) (known : List Variable) (o : tree.Tail)
    → scope.returns ≡ t.depth → AllAmong scope.visible known → AllAmong (declared_in_tail o) (variables_of t)
    → Rattle.fut_check.specs.Stmts.tail_faults globals scope n o ≡ [] → AllBreakNone globals t known (else_of o)
else_none globals t scope n known tree.NoElse r v d f = tt
else_none globals t scope n known (tree.ElseOf b) r v d f = block_none globals t scope (n + 2) known b r v d f

if_step : (gives : ℕ → ℕ → Bool) (P : tree.Program) (which : ℕ) (t : Text) (known : List Variable) (s : TaskState) (rest : List tree.Stmt) (e : tree.Expr)
    (b : tree.Block) (o : tree.Tail) → Front gives P which t known s.vars (tree.If' e b o) rest
    → IsTypedState gives P which (goes_on s (cond (is_zero (number_in s.vars e)) (else_of o ++ rest) (stmts_of b ++ rest)) s.vars)
if_step gives P which t known s rest e b o f =
    let parts = if_parts (items_of P) f.own.scope f.own.at e b o f.own.clean in
    let left = none_shown (items_of P) t known rest f.later in
    let ends : t.depth ≢ 0 → EndsWithReturn rest = λ ne. returns_after (tree.If' e b o) rest refl (f.returns ne) in
    by_bool (λ c. IsTypedState gives P which (goes_on s (cond c (else_of o ++ rest) (stmts_of b ++ rest)) s.vars)) (is_zero (number_in s.vars e))
    (λ z. branch gives P which t known s (else_of o) rest f.is f.keeps
    (else_none (items_of P) t (with_declared f.own.scope (declared_in_block b))
    (f.own.at + 1 + expr_width e + 1 + block_width b + 1) known o f.own.returns f.own.visible
    (λ x i. f.own.declared x (among_right x (declared_in_block b) (declared_in_tail o) i)) parts.tail)
    left ends)
    (λ z. branch gives P which t known s (stmts_of b) rest f.is f.keeps
    (block_none (items_of P) t f.own.scope (f.own.at + 1 + expr_width e + 1) known b f.own.returns f.own.visible
    (λ x i. f.own.declared x (among_left x (declared_in_block b) (declared_in_tail o) i)) parts.block)
    left ends)

while_step : (gives : ℕ → ℕ → Bool) (P : tree.Program) (which : ℕ) (t : Text) (known : List Variable) (s : TaskState) (rest : List tree.Stmt) (e : tree.Expr)
    (b : tree.Block) → Front gives P which t known s.vars (tree.While' e b) rest
    → IsTypedState gives P which (goes_on s (cond (is_zero (number_in s.vars e)) rest (stmts_of b ++ tree.While' e b ∷ rest)) s.vars)
while_step gives P which t known s rest e b f =
    let left = none_shown (items_of P) t known rest f.later in
    by_bool (λ c. IsTypedState gives P which (goes_on s (cond c rest (stmts_of b ++ tree.While' e b ∷ rest)) s.vars)) (is_zero (number_in s.vars e))
    (λ z. made gives P which t known (goes_on s rest s.vars) f.is f.keeps left (λ ne. returns_after (tree.While' e b) rest refl (f.returns ne)))
    (λ z. branch gives P which t known s (stmts_of b) (tree.While' e b ∷ rest) f.is f.keeps
    (block_none (items_of P) t f.own.scope (f.own.at + 1 + expr_width e + 1) known b f.own.returns f.own.visible f.own.declared
    (while_block (items_of P) f.own.scope f.own.at e b f.own.clean))
    (f.own, f.later) f.returns)

stmt_step : (gives : ℕ → ℕ → Bool) (P : tree.Program) (which : ℕ) (t : Text) (known : List Variable) (s : TaskState) (rest : List tree.Stmt)
    (stmt : tree.Stmt) (u : TaskState) → Front gives P which t known s.vars stmt rest → step_by s rest stmt ≡ Some u → IsTypedState gives P which u
stmt_step gives P which t known s rest (tree.Declare w type) u f h =
    let x = variable w type in
    let parts = nil_three (declared_faults (items_of P) f.own.scope.declared (f.own.at + 1) (variable w type)) (type_faults (f.own.at + 3) type)
    (fault_if (is_handle (kind_of type)) (f.own.at + 1) rule.NoValue) f.own.clean in
    subst (IsTypedState gives P which) (same_Some _ u h)
    (made gives P which t (known ++ x ∷ []) (goes_on s rest (put s.vars w (filled type (Int (pos 0))))) f.is
    (set_one gives (items_of P) t known s.vars x (filled type (Int (pos 0))) f.good.apart f.keeps (f.own.declared x (inl refl))
    (filled_has gives type (Int (pos 0)) (zero_fits gives type (not_found (is_handle (kind_of type)) (f.own.at + 1) rule.NoValue parts.2))))
    f.later (λ ne. returns_after (tree.Declare w type) rest refl (f.returns ne)))
stmt_step gives P which t known s rest (tree.Define w type i) u f h =
    let came = init_came s rest (tree.Define w type i) (local_value s.vars i) u h in
    let inner = nil_left (inner_faults (items_of P) f.own.scope.visible (f.own.at + 3 + type_width type + 1) i)
    (broken (unmet (Some (init_need (kind_of type))) (init_kind (items_of P) f.own.scope.visible i)) (f.own.at + 3 + type_width type + 1))
    (define_init P t known w type i f.own) in
    subst (IsTypedState gives P which) came.2
    (define_set gives P which t known s rest w type i came.0 f
    (local_gives gives P which t known s.vars (tree.Define w type i) rest (f.own.at + 3 + type_width type + 1) i came.0 f inner came.1))
stmt_step gives P which t known s rest (tree.Assign w i) u f h =
    let came = init_came s rest (tree.Assign w i) (local_value s.vars i) u h in
    let inner = nil_left (inner_faults (items_of P) f.own.scope.visible (f.own.at + 2) i)
    (broken (unmet (value_need (kind_named f.own.scope.visible w)) (init_kind (items_of P) f.own.scope.visible i)) (f.own.at + 2))
    (assign_init P t known w i f.own) in
    subst (IsTypedState gives P which) came.2
    (assign_set gives P which t known s rest w i came.0 f
    (local_gives gives P which t known s.vars (tree.Assign w i) rest (f.own.at + 2) i came.0 f inner came.1))
stmt_step gives P which t known s rest (tree.Store w e g) u f h = store_set gives P which t known s rest w e g u f h
stmt_step gives P which t known s rest (tree.SpawnOf w es) u f h = absurd (no_some u _ h refl)
stmt_step gives P which t known s rest tree.SyncAll u f h = absurd (no_some u _ h refl)
stmt_step gives P which t known s rest (tree.If' e b o) u f h =
    subst (IsTypedState gives P which) (same_Some _ u h) (if_step gives P which t known s rest e b o f)
stmt_step gives P which t known s rest (tree.While' e b) u f h =
    subst (IsTypedState gives P which) (same_Some _ u h) (while_step gives P which t known s rest e b f)
stmt_step gives P which t known s rest (tree.Return' e) u f h = absurd (no_some u _ h refl)

-- the first statement of a typed state
pub front : (gives : ℕ → ℕ → Bool) (P : tree.Program) (which : ℕ) (s : TaskState) (stmt : tree.Stmt) (rest : List tree.Stmt) → IsWellTyped P
    → (x : IsTypedState gives P which s) → s.todo ≡ stmt ∷ rest → Front gives P which x.text x.known s.vars stmt rest
front gives P which s stmt rest w x e =
    let todo : AllBreakNone (items_of P) x.text x.known (stmt ∷ rest) = subst (AllBreakNone (items_of P) x.text x.known) e x.todo in
    record {
      is = x.is;
      good = good_text P which x.text w x.is;
      keeps = kept gives P which s x;
      own = todo.0;
      later = todo.1;
      returns = λ ne. subst EndsWithReturn e (x.returns ne);
    }

pub first_stays : (gives : ℕ → ℕ → Bool) (P : tree.Program) (which : ℕ) (s u : TaskState) (todo : List tree.Stmt) → IsWellTyped P
    → IsTypedState gives P which s → s.todo ≡ todo → first_step s todo ≡ Some u → IsTypedState gives P which u
first_stays gives P which s u [] w x e h = absurd (no_some u _ h refl)
first_stays gives P which s u (stmt ∷ rest) w x e h = stmt_step gives P which x.text x.known s rest stmt u (front gives P which s stmt rest w x e) h

pub steps_stay : (gives : ℕ → ℕ → Bool) (P : tree.Program) (which n : ℕ) (s t : TaskState) → IsWellTyped P → IsTypedState gives P which s → Steps n s t
    → IsTypedState gives P which t
steps_stay gives P which zero s t w x h = subst (IsTypedState gives P which) h x
steps_stay gives P which (suc n) s t w x (u, step, rest) = steps_stay gives P which n u t w (first_stays gives P which s u s.todo w x refl step) rest
