-- `main` of a well-typed program has no parameters.
use Rattle.std.proofs.Common.{◌≡◌, ℕ, suc, ◌+◌, Bool, true, false, not, ◌&&◌, ◌||◌, List, [], ◌∷◌, ◌++◌, refl, sym, ap, ◌∙◌, subst, arith}
use Rattle.std.specs.Prelude.{Some, bytes_eq, codes, nat_eq, slice_get, unwrap_or}
use Rattle.std.proofs.lemmas.Bool.{cond-true, cond-false}
use Rattle.fut_base.proofs.Cases.{by_bool}
use Rattle.fut_syntax.specs.Trees as tree
use Rattle.fut_rules.specs.declared.fault.Rule.TheVariants as rule
use Rattle.fut_rules.specs.Faults.{fault_if}
use Rattle.fut_rules.specs.Names.{declares, tasks, is_main, has_main}
use Rattle.fut_rules.specs.Widths.{params_width, item_width}
use Rattle.fut_check.specs.Items.{items_of, has_params, params_faults, head_faults, body_faults, opening_scope, item_faults, items_faults, IsWellTyped}
use Rattle.fut_check.specs.Stmts.{depth_faults}
use Rattle.task_machine.specs.Texts.{tasks_from, number_from, main_of}
use Rattle.task_types.specs.Typed.{Text, texts_from, text_at, ParamsFit, ArgsFit}
use Rattle.task_types.proofs.Slots.{nil_left, nil_right, not_found}

no_params : (ps : List tree.Param) → has_params ps ≡ false → ps ≡ []
no_params [] h = refl
no_params (p ∷ ps) h = absurd (let e : true ≡ false = h in cc)

main_bare : (globals before : List tree.Item) (n : ℕ) (w : List ℕ) (ps : List tree.Param) (d : ℕ) (b : tree.Block) → is_main w ≡ true
    → item_faults globals before n (tree.TaskOf w ps d b) ≡ [] → ps ≡ []
main_bare globals before n w ps d b m f =
    let head = nil_left (head_faults globals before n w ps d) (body_faults globals (opening_scope d ps) (n + 3 + params_width ps + d + 2) b) f in
    let names = fault_if (declares before w) (n + 1) rule.DoubledName ++ fault_if (nat_eq (tasks before) 256) (n + 1) rule.ConstantLimit in
    let mains = fault_if (is_main w && has_params ps) (n + 3) rule.MainParameters in
    let front = nil_left (names ++ mains) (params_faults globals [] (n + 3) ps)
    (nil_left (names ++ mains ++ params_faults globals [] (n + 3) ps) (depth_faults (n + 3 + params_width ps) d) head) in
    let bare = not_found (is_main w && has_params ps) (n + 3) rule.MainParameters (nil_right names mains front) in
    no_params ps (subst (λ x. (x && has_params ps) ≡ false) m bare)

-- the first task named `main`
pub record MainFound (n : ℕ) (items : List tree.Item) : Type 0 where
  pub place : ℕ
  pub number : number_from n (tasks_from items) (codes "main") ≡ Some (n + place)
  pub text : Text
  pub is : slice_get (texts_from items) place ≡ Some text
  pub bare : text.params ≡ []

main_found : (globals before items : List tree.Item) (n k : ℕ) → items_faults globals before k items ≡ [] → has_main items ≡ true → MainFound n items
main_found globals before [] n k f h = absurd (let e : false ≡ true = h in cc)
main_found globals before (tree.CellsOf w m ∷ rest) n k f h =
    let r = main_found globals (before ++ tree.CellsOf w m ∷ []) rest n (k + item_width (tree.CellsOf w m))
    (nil_right (item_faults globals before k (tree.CellsOf w m))
    (items_faults globals (before ++ tree.CellsOf w m ∷ []) (k + item_width (tree.CellsOf w m)) rest) f) h in
    record { place = r.place; number = r.number; text = r.text; is = r.is; bare = r.bare }
main_found globals before (tree.TaskOf w ps d b ∷ rest) n k f h =
    by_bool (λ c. is_main w ≡ c → (c || has_main rest) ≡ true → MainFound n (tree.TaskOf w ps d b ∷ rest)) (is_main w)
    (λ t. λ i e. (
    let own = nil_left (item_faults globals before k (tree.TaskOf w ps d b))
    (items_faults globals (before ++ tree.TaskOf w ps d b ∷ []) (k + item_width (tree.TaskOf w ps d b)) rest) f in
    record {
      place = 0;
      number = cond-true (bytes_eq w (codes "main")) (Some n) (number_from (n + 1) (tasks_from rest) (codes "main")) i
          ∙ ap Some (let q : n ≡ n + 0 = omega arith in q);
      text = record { params = ps; depth = d; body = b };
      is = refl;
      bare = main_bare globals before k w ps d b i own;
    }))
    (λ t. λ i e. (
    let r = main_found globals (before ++ tree.TaskOf w ps d b ∷ []) rest (n + 1) (k + item_width (tree.TaskOf w ps d b))
    (nil_right (item_faults globals before k (tree.TaskOf w ps d b))
    (items_faults globals (before ++ tree.TaskOf w ps d b ∷ []) (k + item_width (tree.TaskOf w ps d b)) rest) f) e in
    record {
      place = suc r.place;
      number = cond-false (bytes_eq w (codes "main")) (Some n) (number_from (n + 1) (tasks_from rest) (codes "main")) i ∙ r.number
          ∙ ap Some (let q : n + 1 + r.place ≡ n + suc r.place = omega arith in q);
      text = r.text;
      is = r.is;
      bare = r.bare;
    }))
    refl h

-- a program without faults has a `main`
has_one : (globals before items : List tree.Item) (k : ℕ) → items_faults globals before k items ≡ [] → has_main globals ≡ true
has_one globals before [] k f =
    by_bool (λ b. fault_if (not b) k rule.NoMain ≡ [] → b ≡ true) (has_main globals) (λ t. λ e. refl)
    (λ t. λ e. absurd (let q : true ≡ false = not_found true k rule.NoMain e in cc)) f
has_one globals before (i ∷ rest) k f =
    has_one globals (before ++ i ∷ []) rest (k + item_width i)
    (nil_right (item_faults globals before k i) (items_faults globals (before ++ i ∷ []) (k + item_width i) rest) f)

pub main_fits : (gives : ℕ → ℕ → Bool) (P : tree.Program) → IsWellTyped P → ArgsFit gives P (main_of P) []
main_fits gives P w =
    let m = main_found (items_of P) [] (items_of P) 0 0 w (has_one (items_of P) [] (items_of P) 0 w) in
    let place : m.place ≡ main_of P = sym (ap (λ o. unwrap_or o 0) m.number ∙ (let q : 0 + m.place ≡ m.place = omega arith in q)) in
    (m.text, subst (λ k. text_at P k ≡ Some m.text) place m.is, subst (λ ps. ParamsFit gives ps []) (sym m.bare) refl)
