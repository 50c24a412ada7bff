-- Going over items.
use Rattle.std.proofs.Common.{◌≡◌, ℕ, ◌+◌, ◌<◌, ◌≤◌, List, [], ◌∷◌, ◌++◌, length, take, get_or, refl, sym, ap, ◌∙◌, arith}
use Rattle.std.proofs.lemmas.List.{take_more}
use Rattle.fut_syntax.specs.declared.tree.Item as declared
use Rattle.fut_syntax.specs.Trees.{Item, CellsOf, TaskOf}
use Rattle.fut_syntax.specs.Views.{item_tree, items_tree}
use Rattle.fut_rules.specs.Faults.{Searched, Walked, least}
use Rattle.fut_rules.specs.Names.{tasks}
use Rattle.fut_check.specs.Items.{item_faults, items_faults}
use Rattle.fut_rules.specs.Widths.{item_width}
use Rattle.fut_rules.proofs.Least.{least_append}

items_more : (xs : List declared.Item) (x : declared.Item) → items_tree (xs ++ x ∷ []) ≡ items_tree xs ++ item_tree x ∷ []
items_more [] x = refl
items_more (y ∷ xs) x = ap (λ r. item_tree y ∷ r) (items_more xs x)

pub items_taken : (xs : List declared.Item) (i : ℕ) (x : declared.Item) → i < length xs → x ≡ get_or xs i x
    → items_tree (take (i + 1) xs) ≡ items_tree (take i xs) ++ item_tree x ∷ []
items_taken xs i x h is = ap items_tree (take_more xs i x h ∙ ap (λ y. take i xs ++ y ∷ []) (sym is)) ∙ items_more (take i xs) x

pub items_step : (g before : List Item) (a a1 : Searched) (x : Item) (rest : List Item) → Walked a a1 (item_width x) (item_faults g before a.at x)
    → least a.found (items_faults g before a.at (x ∷ rest)) ≡ least a1.found (items_faults g (before ++ x ∷ []) a1.at rest)
items_step g before a a1 x rest w =
    least_append a.found (item_faults g before a.at x) (items_faults g (before ++ x ∷ []) (a.at + item_width x) rest)
    ∙ ap (λ f. least f (items_faults g (before ++ x ∷ []) (a.at + item_width x) rest)) (sym w.found)
    ∙ ap (λ n. least a1.found (items_faults g (before ++ x ∷ []) n rest)) (sym w.at)

pub tasks_few : (i : Item) → tasks (i ∷ []) ≤ item_width i
tasks_few (CellsOf w n) = omega arith
tasks_few (TaskOf w ps d b) = omega arith
