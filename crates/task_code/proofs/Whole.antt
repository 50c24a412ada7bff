-- The code of a whole program.
use Rattle.std.proofs.Common.{◌≡◌, ℕ, ◌+◌, ◌<◌, ◌≤◌, inl, inr, List, [], ◌∷◌, ◌++◌, length, drop, get_or, append_assoc, sym, ap, ◌∙◌, subst, arith}
use Rattle.std.specs.Prelude.{Some}
use Rattle.std.proofs.lemmas.List.{append-nil, length-map, drop_all}
use Rattle.std.proofs.lemmas.Bool.{cases_lt}
use Rattle.std.proofs.lemmas.Option.{same_Some}
use Rattle.fut_rules.proofs.Drops.{dropped}
use Rattle.fut_syntax.specs.declared.tree.Param.{Param}
use Rattle.fut_syntax.specs.declared.tree.Item.{Item}
use Rattle.fut_syntax.specs.declared.tree.Item.TheVariants as item
use Rattle.fut_syntax.specs.declared.tree.Stmt.{Stmt}
use Rattle.fut_syntax.specs.Trees as tree
use Rattle.fut_syntax.specs.Trees.{items_of}
use Rattle.fut_syntax.specs.Views.{item_tree, params_tree, block_tree, items_tree, program_tree}
use Rattle.task_machine.specs.Texts.{CellArray, arrays_from, count_cells, tasks_from}
use Rattle.task_frame.specs.declared.names.Name.{Name}
use Rattle.task_code.specs.declared.code.ParamCode.{ParamCode}
use Rattle.task_code.specs.declared.code.TaskCode.{TaskCode}
use Rattle.task_frame.specs.Arrays.{HasCell}
use Rattle.task_code.specs.Flat.{AreGiven, AreCodesOf, IsCodeOfTask, Compiled, IsCodeOf}

pub all_given : (names : List Name) (params : List Param) (i first : ℕ) (given out : List ParamCode) → length params ≤ i → out ≡ given
    → ((more : List ParamCode) → AreGiven names first (params_tree (drop i params)) more → AreGiven names 0 (params_tree params) (given ++ more))
    → AreGiven names 0 (params_tree params) out
all_given names params i first given out le is h =
    subst (λ c. AreGiven names 0 (params_tree params) c) (append-nil given ∙ sym is)
    (h [] (subst (λ d. AreGiven names first (params_tree d) []) (sym (drop_all i params le)) tt))

pub all_coded : (items : List tree.Item) (xs : List Item) (i : ℕ) (codes out : List TaskCode) → length xs ≤ i → out ≡ codes
    → ((more : List TaskCode) → AreCodesOf items (tasks_from (items_tree (drop i xs))) more → AreCodesOf items (tasks_from (items_tree xs)) (codes ++ more))
    → AreCodesOf items (tasks_from (items_tree xs)) out
all_coded items xs i codes out le is h =
    subst (λ c. AreCodesOf items (tasks_from (items_tree xs)) c) (append-nil codes ∙ sym is)
    (h [] (subst (λ d. AreCodesOf items (tasks_from (items_tree d)) []) (sym (drop_all i xs le)) tt))

pub task_coded : (items : List tree.Item) (xs : List Item) (i : ℕ) (x : Item) (name : List ℕ) (ps : List Param) (d : ℕ) (b : List Stmt)
    (codes next : List TaskCode) (code : TaskCode) → i < length xs → x ≡ get_or xs i x → x ≡ item.Task name ps d b → next ≡ codes ++ code ∷ []
    → IsCodeOfTask items (record { name = name; params = params_tree ps; body = block_tree b }) code
    → ((more : List TaskCode) → AreCodesOf items (tasks_from (items_tree (drop i xs))) more → AreCodesOf items (tasks_from (items_tree xs)) (codes ++ more))
    → (more : List TaskCode) → AreCodesOf items (tasks_from (items_tree (drop (i + 1) xs))) more → AreCodesOf items (tasks_from (items_tree xs)) (next ++ more)
task_coded items xs i x name ps d b codes next code below read is new coded h more rest =
    let split : tasks_from (items_tree (drop i xs)) ≡ record { name = name; params = params_tree ps; body = block_tree b } ∷ tasks_from
    (items_tree (drop (i + 1) xs)) =
    ap (λ ys. tasks_from (items_tree ys)) (dropped xs i x below read) ∙ ap (λ y. tasks_from (items_tree (y ∷ drop (i + 1) xs))) is in
    let all = h (code ∷ more) (subst (λ ts. AreCodesOf items ts (code ∷ more)) (sym split) (coded, rest)) in
    subst (λ cs. AreCodesOf items (tasks_from (items_tree xs)) cs) (sym (append_assoc codes (code ∷ []) more) ∙ ap (λ cs. cs ++ more) (sym new)) all

pub other_coded : (items : List tree.Item) (xs : List Item) (i : ℕ) (x : Item) (w : List ℕ) (n : ℕ) (codes next : List TaskCode) → i < length xs
    → x ≡ get_or xs i x → x ≡ item.Cells w n → next ≡ codes
    → ((more : List TaskCode) → AreCodesOf items (tasks_from (items_tree (drop i xs))) more → AreCodesOf items (tasks_from (items_tree xs)) (codes ++ more))
    → (more : List TaskCode) → AreCodesOf items (tasks_from (items_tree (drop (i + 1) xs))) more → AreCodesOf items (tasks_from (items_tree xs)) (next ++ more)
other_coded items xs i x w n codes next below read is new h more rest =
    let split : tasks_from (items_tree (drop i xs)) ≡ tasks_from (items_tree (drop (i + 1) xs)) =
    ap (λ ys. tasks_from (items_tree ys)) (dropped xs i x below read) ∙ ap (λ y. tasks_from (items_tree (y ∷ drop (i + 1) xs))) is in
    subst (λ cs. AreCodesOf items (tasks_from (items_tree xs)) (cs ++ more)) (sym new) (h more (subst (λ ts. AreCodesOf items ts more) (sym split) rest))

tasks_few : (items : List tree.Item) → length (tasks_from items) ≤ length items
tasks_few [] = omega arith
tasks_few (tree.CellsOf w n ∷ rest) = omega (arith, tasks_few rest)
tasks_few (tree.TaskOf w ps d b ∷ rest) = omega (arith, tasks_few rest)

pub tasks_below : (xs : List Item) (n : ℕ) → length xs < n → length (tasks_from (items_tree xs)) < n
tasks_below xs n h = omega (arith, tasks_few (items_tree xs), length-map xs item_tree)

pub items_are : (xs : List Item) (P : tree.Program) → program_tree xs ≡ Some P → items_of P ≡ items_tree xs
items_are [] P h = absurd (cc)
items_are (x ∷ xs) P h = sym (ap items_of (same_Some _ P h))

-- ---- the array that has a cell

arrays_cover : (items : List tree.Item) (f cell : ℕ) → f ≤ cell → cell < f + count_cells items → HasCell cell (arrays_from f items)
arrays_cover [] f cell low high = absurd (omega arith)
arrays_cover (tree.CellsOf name n ∷ rest) f cell low high =
    elim (cases_lt cell (f + n)) [
      | inl below ↦ inl (low, below)
      | inr above ↦ inr (arrays_cover rest (f + n) cell above (omega arith))
    ]
arrays_cover (tree.TaskOf name params depth body ∷ rest) f cell low high = arrays_cover rest f cell low high

code_covers : (P : tree.Program) (code : Compiled) (cell : ℕ) → IsCodeOf P code → cell < code.cells → HasCell cell code.arrays
code_covers P code cell is below = subst (HasCell cell) (sym is.arrays) (arrays_cover (items_of P) 0 cell (omega arith) (omega (arith, is.cells)))

-- the search for a cell that some array has does not come to its end
pub cell_not_passed : (P : tree.Program) (code : Compiled) (cell i : ℕ) (read : List CellArray) → read ≡ code.arrays → IsCodeOf P code → cell < code.cells
    → length read ≤ i → (HasCell cell read → HasCell cell (drop i read)) → ⊥
cell_not_passed P code cell i read same is below le keeps =
    subst (HasCell cell) (drop_all i read le) (keeps (subst (HasCell cell) (sym same) (code_covers P code cell is below)))
