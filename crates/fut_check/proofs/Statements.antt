-- The faults of statements, by those of their parts.
use Rattle.std.proofs.Common.{◌≡◌, ℕ, ◌+◌, List, ◌++◌, Option, Some, Bool, not, ◌&&◌, nat_lt, nat_eq, [], refl}
use Rattle.fut_syntax.specs.Trees.{Expr, Init, Item, TaskOf, Param, Block, VarType, Define, Assign, Store}
use Rattle.fut_rules.specs.declared.kind.Kind.{Kind}
use Rattle.fut_rules.specs.declared.kind.Need.{Need}
use Rattle.fut_rules.specs.declared.names.Variable.{Variable}
use Rattle.fut_rules.specs.declared.fault.Rule.TheVariants as rule
use Rattle.fut_rules.specs.Faults.{broken, fault_if}
use Rattle.fut_check.specs.Items.{is_over, param_faults, params_faults, head_faults, body_faults, item_faults, has_params, opening_scope}
use Rattle.fut_rules.specs.Kinds.{kind_of, init_need}
use Rattle.fut_rules.specs.Names.{Scope, tasks, declares, is_main, kind_named, element, element_rule, means_cells, declaration}
use Rattle.fut_rules.specs.Exprs.{needed_faults, for_int}
use Rattle.fut_rules.specs.Inits.{init_faults}
use Rattle.fut_check.specs.Stmts.{assigned_rule, value_need, declared_faults, type_faults, depth_faults, stmt_faults, block_faults, ends_with_return}
use Rattle.fut_rules.specs.Widths.{expr_width, type_width, block_width, params_width}

pub assign_faults : (g : List Item) (s : Scope) (n : ℕ) (w : List ℕ) (i : Init) (vs : List Variable) (m : ℕ) (need : Option Need)
    → vs ≡ s.visible → m ≡ n + 2 → need ≡ value_need (kind_named s.visible w)
    → broken (assigned_rule (kind_named s.visible w)) n ++ init_faults g vs m need i ≡ stmt_faults g s n (Assign w i)
assign_faults g s n w i vs m need a b c = rw (a, b, c) refl

pub define_faults : (g : List Item) (s : Scope) (n : ℕ) (w : List ℕ) (v : VarType) (i : Init) (kind : Kind) (vs : List Variable) (m1 m2 m3 : ℕ) (need : Need)
    → kind ≡ kind_of v → vs ≡ s.visible → m1 ≡ n + 1 → m2 ≡ n + 3 → m3 ≡ n + 3 + type_width v + 1 → need ≡ init_need kind
    → declared_faults g s.declared m1 (record { name = w; kind = kind }) ++ type_faults m2 v ++ init_faults g vs m3 (Some need) i
    ≡ stmt_faults g s n (Define w v i)
define_faults g s n w v i kind vs m1 m2 m3 need k a b c d e = rw (e, k, a, b, c, d) refl

pub store_faults : (g : List Item) (s : Scope) (n : ℕ) (w : List ℕ) (e f : Expr) (ts vs us : List Variable) (m1 m2 : ℕ) (need : Option Need)
    → ts ≡ s.visible → vs ≡ s.visible → us ≡ s.visible → m1 ≡ n + 2 → m2 ≡ n + 2 + expr_width e + 2
    → need ≡ value_need (element (kind_named s.visible w) (means_cells (declaration g w)))
    → broken (element_rule (kind_named ts w) (means_cells (declaration g w))) n ++ needed_faults vs m1 for_int e ++ needed_faults us m2 need f
    ≡ stmt_faults g s n (Store w e f)
store_faults g s n w e f ts vs us m1 m2 need t a b c d h = rw (t, a, b, c, d, h) refl

pub param_faults_are : (g : List Item) (before : List Variable) (n m : ℕ) (p : Param) (w : List ℕ) (kind : Kind) → w ≡ p.name → kind ≡ kind_of p.type
    → m ≡ n + 2
    → declared_faults g before n (record { name = w; kind = kind }) ++ fault_if (is_over before kind) n rule.ConstantLimit ++ type_faults m p.type
    ≡ param_faults g before n p
param_faults_are g before n m p w kind name k a = rw (name, k, a) refl

pub body_faults_are : (g : List Item) (s : Scope) (n m d : ℕ) (b : Block) (lacks : Bool) → d ≡ s.returns → lacks ≡ (nat_lt 0 d && not (ends_with_return b))
    → m ≡ n + block_width b
    → block_faults g s n b ++ fault_if lacks m rule.ResultType ≡ body_faults g s n b
body_faults_are g s n m d b lacks e l a = rw (l, e, a) refl

pub head_faults_are : (g before : List Item) (n : ℕ) (w : List ℕ) (ps : List Param) (d : ℕ) (count m1 m2 m3 m4 : ℕ) (main : Bool) (declared : List Variable)
    → count ≡ tasks before → main ≡ (is_main w && has_params ps) → declared ≡ [] → m1 ≡ n + 1 → m2 ≡ n + 3 → m3 ≡ n + 3 → m4 ≡ n + 3 + params_width ps
    → (fault_if (declares before w) m1 rule.DoubledName ++ fault_if (nat_eq count 256) m1 rule.ConstantLimit)
    ++ fault_if main m2 rule.MainParameters ++ params_faults g declared m3 ps ++ depth_faults m4 d ≡ head_faults g before n w ps d
head_faults_are g before n w ps d count m1 m2 m3 m4 main declared t h v a b c e = rw (t, h, v, a, b, c, e) refl

pub task_faults_are : (g before : List Item) (n : ℕ) (w : List ℕ) (ps : List Param) (d : ℕ) (b : Block) (m : ℕ) (s : Scope)
    → m ≡ n + 3 + params_width ps + d + 2 → s ≡ opening_scope d ps → head_faults g before n w ps d ++ body_faults g s m b
    ≡ item_faults g before n (TaskOf w ps d b)
task_faults_are g before n w ps d b m s a e = rw (a, e) refl
