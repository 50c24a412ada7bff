-- A whole program's faults.
use Rattle.std.proofs.Common.{◌≡◌, ℕ, ◌<◌, List, [], ◌∷◌, length, Option, Some, None, sym, ap, ◌∙◌, subst, arith}
use Rattle.std.specs.Prelude.{slice_get, IsSomeAnd}
use Rattle.fut_tokens.specs.declared.token.Position.{Position}
use Rattle.fut_syntax.specs.declared.tree.Item as code
use Rattle.fut_syntax.specs.declared.tree.Program as declared
use Rattle.fut_syntax.specs.Trees.{Program}
use Rattle.fut_syntax.specs.Views.{item_tree, items_tree, program_tree}
use Rattle.fut_rules.specs.declared.fault.Fault.{Fault}
use Rattle.fut_rules.specs.Faults.{rule_number, least, Searched, Walked}
use Rattle.fut_check.specs.Items.{items_of, items_faults, faults_of, IsWellTyped}
use Rattle.fut_check.specs.Checks.{HasPlaces, IsChecked, IsFaultOf}
use Rattle.fut_rules.specs.Widths.{items_width}
use Rattle.fut_check.proofs.First.{none_found, first_found}
use Rattle.fut_check.proofs.Tokens.{program_width}

tree_items : (xs : List code.Item) (P : Program) → program_tree xs ≡ Some P → items_tree xs ≡ items_of P
tree_items [] P h = cc
tree_items (x ∷ xs) P h =
    let q : Program = record { first = item_tree x; others = items_tree xs } in
    let e : q ≡ P = cc in ap items_of e

pub items_fit : (p : declared.Program) (h : HasPlaces p) (xs : List code.Item) → xs ≡ p.items → items_width (items_tree xs) < length p.places
items_fit p h xs e = omega (arith, ap (λ is. items_width (items_tree is)) e, ap items_width (tree_items p.items h.tree h.is), h.places, program_width h.tree)

-- what was found in a whole program
pub found_in : (p : declared.Program) (h : HasPlaces p) (xs : List code.Item) (start last : Searched) (end : ℕ) → xs ≡ p.items
    → start ≡ record { at = 0; end = end; found = None }
    → Walked start last (items_width (items_tree xs)) (items_faults (items_tree xs) [] start.at (items_tree xs)) → last.found ≡ least None (faults_of h.tree)
found_in p h xs start last end e s w =
    w.found ∙ ap (λ (q : Searched). least q.found (items_faults (items_tree xs) [] q.at (items_tree xs))) s
    ∙ ap (λ is. least None (items_faults is [] 0 is)) (ap items_tree e ∙ tree_items p.items h.tree h.is)

pub is_checked : (p : declared.Program) (h : HasPlaces p) (found : Option Fault) → found ≡ least None (faults_of h.tree) → found ≡ None → IsChecked p
is_checked p h found f e = subst (λ (o : Option Program). IsSomeAnd o IsWellTyped) (sym h.is) (none_found (faults_of h.tree) (sym f ∙ e))

pub fault_of : (p : declared.Program) (h : HasPlaces p) (found : Option Fault) (f : Fault) (number : ℕ) (place : Position)
    → found ≡ least None (faults_of h.tree) → found ≡ Some f
    → number ≡ rule_number f.rule → slice_get p.places f.token ≡ Some place → IsFaultOf p number place
fault_of p h found f number place l e r s =
    record { tree = h.tree; is = h.is; fault = f; first = first_found f (faults_of h.tree) (sym l ∙ e); rule = r; stands = s }
