-- Calls of a well-typed program: the called task is there, and the arguments fit.
use Rattle.std.proofs.Common.{◌≡◌, ℕ, zero, suc, ◌+◌, Bool, true, false, cond, List, [], ◌∷◌, ◌++◌, length}
use Rattle.std.proofs.Common.{take, drop, inl, inr, refl, sym, ap, ◌∙◌, subst, arith, eqb-true, eq-eqb}
use Rattle.std.specs.Prelude.{Some, None, Option, ℤ, pos, slice_get, slice_index_or, bytes_eq, nat_eq}
use Rattle.std.proofs.Math.Seq.{take-append_seam, drop-append_seam}
use Rattle.std.proofs.lemmas.Option.{same_Some}
use Rattle.std.proofs.lemmas.Bool.{cond-true, cond-false, both_ways}
use Rattle.fut_base.proofs.Members.{among_left}
use Rattle.fut_base.proofs.Cases.{by_bool}
use Rattle.fut_base.specs.declared.record.Value.{Value}
use Rattle.fut_base.specs.declared.record.Value.TheVariants.{Int}
use Rattle.fut_base.specs.Dag.{Among}
use Rattle.fut_syntax.specs.Trees as tree
use Rattle.fut_rules.specs.declared.kind.Kind.{Kind}
use Rattle.fut_rules.specs.declared.kind.Kind.TheVariants as kind
use Rattle.fut_rules.specs.declared.fault.Rule.TheVariants as rule
use Rattle.fut_rules.specs.declared.names.Variable.{Variable}
use Rattle.fut_rules.specs.Faults.{broken}
use Rattle.fut_rules.specs.Kinds.{kind_of, size, argument_need}
use Rattle.fut_rules.specs.Names.{Signature, declares, declaration, means_cells, means_task}
use Rattle.fut_rules.specs.Exprs.{needed_faults}
use Rattle.fut_rules.specs.Inits.{call_rule, tested_params, args_faults, call_faults}
use Rattle.fut_rules.specs.Widths.{expr_width}
use Rattle.fut_check.specs.Items.{items_of, param_variable, param_variables, IsWellTyped}
use Rattle.task_machine.specs.Values.{index_of}
use Rattle.task_machine.specs.Variables.{Slot, One, Many, Variables, slot_at, values_of, slot_in, values_in, size_of, taken, bound}
use Rattle.task_machine.specs.Texts.{TaskText, arrays_from, tasks_from, task_number, number_from, find_cell, stmts_of}
use Rattle.task_machine.specs.State.{TaskState, start_state, started}
use Rattle.task_types.specs.Typed.{Text, texts_from, text_at, variables_of, HasKind, ParamsFit, ArgsFit, one_of, slot_of, AllAmong, IsTypedState}
use Rattle.task_types.proofs.Slots.{no_some, nil_left, nil_right, unbroken, same_word, word_is}
use Rattle.task_types.proofs.Given.{Holds, argument_has, expr_meets}
use Rattle.task_types.proofs.Texts.{good_text}
use Rattle.task_types.proofs.Stepping.{made}

-- ---- what a name means

-- an array of cells has a cell at each index
pub cell_found : (items : List tree.Item) (n : ℕ) (w : List ℕ) (z : ℤ) → means_cells (declaration items w) ≡ true
    → (c : ℕ) × (find_cell (arrays_from n items) w z ≡ Some c)
cell_found [] n w z h = absurd (let e : false ≡ true = h in cc)
cell_found (tree.CellsOf name m ∷ rest) n w z h =
    by_bool
    (λ b. means_cells (cond b (Some (tree.CellsOf name m)) (declaration rest w)) ≡ true
    → (c : ℕ) × (cond b (Some (n + index_of m z)) (find_cell (arrays_from (n + m) rest) w z) ≡ Some c)) (bytes_eq name w)
    (λ t. λ e. (n + index_of m z, refl)) (λ f. λ e. cell_found rest (n + m) w z e) h
cell_found (tree.TaskOf name ps d b ∷ rest) n w z h =
    by_bool (λ c. means_cells (cond c (Some (tree.TaskOf name ps d b)) (declaration rest w)) ≡ true → (c : ℕ) × (find_cell (arrays_from n rest) w z ≡ Some c))
    (bytes_eq name w)
    (λ t. λ e. absurd (let q : false ≡ true = e in cc)) (λ f. λ e. cell_found rest n w z e) h

-- a task that a name means, by its place
pub record TaskFound (items : List tree.Item) (n : ℕ) (w : List ℕ) (s : Signature) : Type 0 where
  pub place : ℕ
  pub number : number_from n (tasks_from items) w ≡ Some (n + place)
  pub text : Text
  pub is : slice_get (texts_from items) place ≡ Some text
  pub params : text.params ≡ s.params
  pub depth : text.depth ≡ s.result

pub task_found : (items : List tree.Item) (n : ℕ) (w : List ℕ) (s : Signature) → means_task (declaration items w) ≡ Some s → TaskFound items n w s
task_found [] n w s h = absurd (no_some s _ h refl)
task_found (tree.CellsOf name m ∷ rest) n w s h =
    by_bool (λ b. means_task (cond b (Some (tree.CellsOf name m)) (declaration rest w)) ≡ Some s → TaskFound (tree.CellsOf name m ∷ rest) n w s)
    (bytes_eq name w)
    (λ t. λ e. absurd (no_some s _ e refl))
    (λ f. λ e. (let r = task_found rest n w s e in record { place = r.place; number = r.number; text = r.text; is = r.is; params = r.params; depth = r.depth }))
    h
task_found (tree.TaskOf name ps d b ∷ rest) n w s h =
    by_bool
    (λ c. bytes_eq name w ≡ c → means_task (cond c (Some (tree.TaskOf name ps d b)) (declaration rest w)) ≡ Some s
    → TaskFound (tree.TaskOf name ps d b ∷ rest) n w s) (bytes_eq name w)
    (λ t. λ i e. (
    let same : record { params = ps; result = d } ≡ s = same_Some _ s e in
    record {
      place = 0;
      number = cond-true (bytes_eq name w) (Some n) (number_from (n + 1) (tasks_from rest) w) i ∙ ap Some (let q : n ≡ n + 0 = omega arith in q);
      text = record { params = ps; depth = d; body = b };
      is = refl;
      params = ap (λ (x : Signature). x.params) same;
      depth = ap (λ (x : Signature). x.result) same;
    }))
    (λ f. λ i e. (
    let r = task_found rest (n + 1) w s e in
    record {
      place = suc r.place;
      number = cond-false (bytes_eq name w) (Some n) (number_from (n + 1) (tasks_from rest) w) i ∙ r.number
          ∙ ap Some (let q : n + 1 + r.place ≡ n + suc r.place = omega arith in q);
      text = r.text;
      is = r.is;
      params = r.params;
      depth = r.depth;
    }))
    refl h

-- ---- arguments

slot_back : (gives : ℕ → ℕ → Bool) (k : Kind) (s : Slot) → HasKind gives k s → (slot_of k (values_of s) ≡ s) × (length (values_of s) ≡ size k)
slot_back gives kind.Int (One v) h = (refl, refl)
slot_back gives kind.Int (Many vs) h = absurd h
slot_back gives (kind.Handle d) (One v) h = (refl, refl)
slot_back gives (kind.Handle d) (Many vs) h = absurd h
slot_back gives (kind.Array d n) (One v) h = absurd h
slot_back gives (kind.Array d n) (Many vs) h = (refl, h.0)

pub args_fit : (gives : ℕ → ℕ → Bool) (vis : List Variable) (vars : Variables) (n : ℕ) (ps : List tree.Param) (es : List tree.Expr) → Holds gives vis vars
    → length ps ≡ length es → args_faults vis n ps es ≡ [] → ParamsFit gives ps (values_in vars es)
args_fit gives vis vars n [] [] h l f = refl
args_fit gives vis vars n [] (e ∷ es) h l f = absurd (omega arith)
args_fit gives vis vars n (p ∷ ps) [] h l f = absurd (omega arith)
args_fit gives vis vars n (p ∷ ps) (e ∷ es) h l f =
    let own = nil_left (needed_faults vis n (Some (argument_need (kind_of p.type))) e) (args_faults vis (n + expr_width e + 1) ps es) f in
    let rest = nil_right (needed_faults vis n (Some (argument_need (kind_of p.type))) e) (args_faults vis (n + expr_width e + 1) ps es) f in
    let m = expr_meets gives vis vars n (argument_need (kind_of p.type)) e h own in
    let has = argument_has gives (kind_of p.type) m.kind (slot_in vars e) m.rule m.has in
    let back = slot_back gives (kind_of p.type) (slot_in vars e) has in (
      values_of (slot_in vars e),
      values_in vars es,
      refl,
      subst (HasKind gives (kind_of p.type)) (sym back.0) has,
      back.1,
      args_fit gives vis vars (n + expr_width e + 1) ps es h (omega arith) rest,
    )

-- a call without faults: the task that it calls, and its arguments
pub record IsCalled (gives : ℕ → ℕ → Bool) (P : tree.Program) (vars : Variables) (w : List ℕ) (es : List tree.Expr) : Type 0 where
  pub code : ℕ
  pub number : task_number P w ≡ Some code
  pub text : Text
  pub is : text_at P code ≡ Some text
  pub fit : ParamsFit gives text.params (values_in vars es)
  pub signature : Signature
  pub means : means_task (declaration (items_of P) w) ≡ Some signature
  pub depth : text.depth ≡ signature.result

pub call_known : (o : Option Signature) (count n : ℕ) → broken (call_rule o count) n ≡ [] → (s : Signature) × (o ≡ Some s) × (length s.params ≡ count)
call_known None count n h = absurd (no_some _ _ refl (unbroken (call_rule None count) n h))
call_known (Some s) count n h =
    by_bool
    (λ b. nat_eq (length s.params) count ≡ b → broken (cond b None (Some rule.ArgumentCount)) n ≡ []
    → (x : Signature) × (Some s ≡ Some x) × (length x.params ≡ count)) (nat_eq (length s.params) count)
    (λ t. λ i e. (s, refl, eqb-true (length s.params) count t))
    (λ f. λ i e. absurd (no_some _ _ refl (unbroken (Some rule.ArgumentCount) n e)))
    refl h

tested : (s : Signature) (count : ℕ) → length s.params ≡ count → tested_params (Some s) count ≡ s.params
tested s count e = cond-true (nat_eq (length s.params) count) s.params [] (eq-eqb (length s.params) count e)

pub called : (gives : ℕ → ℕ → Bool) (P : tree.Program) (vis : List Variable) (vars : Variables) (n : ℕ) (w : List ℕ) (es : List tree.Expr)
    → Holds gives vis vars → call_faults (items_of P) vis n w es ≡ [] → IsCalled gives P vars w es
called gives P vis vars n w es h f =
    let o = means_task (declaration (items_of P) w) in
    let k = call_known o (length es) n (nil_left (broken (call_rule o (length es)) n) (args_faults vis (n + 2) (tested_params o (length es)) es) f) in
    let r = task_found (items_of P) 0 w k.0 k.1 in
    let clean : args_faults vis (n + 2) k.0.params es ≡ [] =
    subst (λ ps. args_faults vis (n + 2) ps es ≡ []) (ap (λ x. tested_params x (length es)) k.1 ∙ tested k.0 (length es) k.2)
    (nil_right (broken (call_rule o (length es)) n) (args_faults vis (n + 2) (tested_params o (length es)) es) f)
    in
    record {
      code = r.place;
      number = r.number ∙ ap Some (let q : 0 + r.place ≡ r.place = omega arith in q);
      text = r.text;
      is = r.is;
      fit = subst (λ ps. ParamsFit gives ps (values_in vars es)) (sym r.params) (args_fit gives vis vars (n + 2) k.0.params es h k.2 clean);
      signature = k.0;
      means = k.1;
      depth = r.depth;
    }

-- ---- the start of a task

one_back : (own rest : List Value) (v : Value) → length own ≡ 1 → one_of own ≡ One (slice_index_or (own ++ rest) 0 v)
one_back [] rest v h = absurd (omega arith)
one_back (x ∷ xs) rest v h = refl

taken_is : (type : tree.VarType) (own rest : List Value) → length own ≡ size (kind_of type) → slot_of (kind_of type) own ≡ taken type (own ++ rest)
taken_is (tree.Plain zero) own rest h = one_back own rest (Int (pos 0)) h
taken_is (tree.Plain (suc d)) own rest h = one_back own rest (Int (pos 0)) h
taken_is (tree.Array d n) own rest h = ap Many (sym (subst (λ k. take k (own ++ rest) ≡ own) h (take-append_seam own rest)))

size_is : (type : tree.VarType) → size_of type ≡ size (kind_of type)
size_is (tree.Plain zero) = refl
size_is (tree.Plain (suc d)) = refl
size_is (tree.Array d n) = refl

left_is : (type : tree.VarType) (own rest : List Value) → length own ≡ size (kind_of type) → drop (size_of type) (own ++ rest) ≡ rest
left_is type own rest h = subst (λ k. drop k (own ++ rest) ≡ rest) (h ∙ sym (size_is type)) (drop-append_seam own rest)

pub bound_holds : (gives : ℕ → ℕ → Bool) (all : List Variable) (ps : List tree.Param) (args : List Value)
    → ((x y : Variable) → Among x all → Among y all → x.name ≡ y.name → x ≡ y) → AllAmong (param_variables ps) all → ParamsFit gives ps args
    → Holds gives (param_variables ps) (bound ps args)
bound_holds gives all [] args one a fit x i = absurd i
bound_holds gives all (p ∷ ps) args one a (own, rest, split, has, count, more) x i =
    let own_has : HasKind gives (kind_of p.type) (taken p.type args) =
    subst (λ vs. HasKind gives (kind_of p.type) (taken p.type vs)) (sym split) (subst (HasKind gives (kind_of p.type)) (taken_is p.type own rest count) has)
    in
    let left : bound ps (drop (size_of p.type) args) ≡ bound ps rest = ap (bound ps) (ap (drop (size_of p.type)) split ∙ left_is p.type own rest count) in
    by_bool (λ b. bytes_eq p.name x.name ≡ b → HasKind gives x.kind (cond b (taken p.type args) (slot_at (bound ps (drop (size_of p.type) args)) x.name)))
    (bytes_eq p.name x.name)
    (λ t. λ e. (
    let same : param_variable p ≡ x = one (param_variable p) x (a (param_variable p) (inl refl)) (a x i) (word_is p.name x.name t) in
    subst (λ (q : Variable). HasKind gives q.kind (taken p.type args)) same own_has))
    (λ f. λ e. elim i [
      | inl same ↦ absurd (both_ways (bytes_eq p.name x.name) f (same_word p.name x.name (ap (λ (q : Variable). q.name) same)))
      | inr j ↦ subst (λ vs. HasKind gives x.kind (slot_at vs x.name)) (sym left) (bound_holds gives all ps rest one (λ y k. a y (inr k)) more x j)
    ]) refl

pub bound_globals : (globals : List tree.Item) (ps : List tree.Param) (args : List Value) (w : List ℕ)
    → ((x : Variable) → Among x (param_variables ps) → declares globals x.name ≡ false) → declares globals w ≡ true
    → slot_at (bound ps args) w ≡ One (Int (pos 0))
bound_globals globals [] args w l d = refl
bound_globals globals (p ∷ ps) args w l d =
    by_bool (λ b. bytes_eq p.name w ≡ b → cond b (taken p.type args) (slot_at (bound ps (drop (size_of p.type) args)) w) ≡ One (Int (pos 0)))
    (bytes_eq p.name w)
    (λ t. λ e. absurd (both_ways (declares globals w) (subst (λ n. declares globals n ≡ false) (word_is p.name w t) (l (param_variable p) (inl refl))) d))
    (λ f. λ e. bound_globals globals ps (drop (size_of p.type) args) w (λ x i. l x (inr i)) d)
    refl

-- the task of the text at the same place
pub text_task : (items : List tree.Item) (which : ℕ) (t : Text) → slice_get (texts_from items) which ≡ Some t
    → (x : TaskText) × (slice_get (tasks_from items) which ≡ Some x) × (x.params ≡ t.params) × (x.body ≡ t.body)
text_task [] which t h = absurd (no_some t _ h refl)
text_task (tree.CellsOf name m ∷ rest) which t h = text_task rest which t h
text_task (tree.TaskOf name ps d b ∷ rest) zero t h =
    let same = same_Some _ t h in
    (record { name = name; params = ps; body = b }, refl, ap (λ (x : Text). x.params) same, ap (λ (x : Text). x.body) same)
text_task (tree.TaskOf name ps d b ∷ rest) (suc which) t h = text_task rest which t h

pub start_typed : (gives : ℕ → ℕ → Bool) (P : tree.Program) (which : ℕ) (args : List Value) → IsWellTyped P → ArgsFit gives P which args
    → IsTypedState gives P which (start_state P which args)
start_typed gives P which args w (t, is, fit) =
    let good = good_text P which t w is in
    let x = text_task (items_of P) which t is in
    let begun : TaskState = record { vars = bound t.params args; todo = stmts_of t.body; is_open = false } in
    let same : begun ≡ start_state P which args =
    ap (λ (ps : List tree.Param). record { vars = bound ps args; todo = stmts_of t.body; is_open = false }) (sym x.2)
    ∙ ap (λ (b : tree.Block). record { vars = bound x.0.params args; todo = stmts_of b; is_open = false }) (sym x.3) ∙ ap (λ o. started o args) (sym x.1)
    in
    subst (IsTypedState gives P which) same
    (made gives P which t (param_variables t.params) begun is
    (record {
      declared = λ y i. among_left y (param_variables t.params) (Rattle.fut_check.specs.Stmts.declared_in_block t.body) i;
      holds = bound_holds gives (variables_of t) t.params args good.apart.one
          (λ y i. among_left y (param_variables t.params) (Rattle.fut_check.specs.Stmts.declared_in_block t.body) i) fit;
      globals_are = λ n d. bound_globals (items_of P) t.params args n
          (λ y i. good.apart.local y (among_left y (param_variables t.params) (Rattle.fut_check.specs.Stmts.declared_in_block t.body) i)) d;
    })
    good.starts good.returns)
