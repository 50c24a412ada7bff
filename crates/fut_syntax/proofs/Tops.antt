-- The answer of the whole.
use Rattle.std.proofs.Common.{◌≡◌, ℕ, List, [], ◌∷◌, length, refl, sym, ap, ◌∙◌}
use Rattle.std.specs.Prelude.{Some, None}
use Rattle.fut_tokens.specs.declared.token.Token.{Token}
use Rattle.fut_syntax.specs.declared.cursor.Stop.TheVariants as stop
use Rattle.fut_syntax.specs.declared.tree.Item.{Item}
use Rattle.fut_syntax.specs.Trees.{Program}
use Rattle.fut_syntax.specs.Views.{item_tree, items_tree, program_tree}
use Rattle.fut_syntax.specs.Faults.{IsFault, IsWhole}
use Rattle.fut_syntax.specs.Machine.{First, run64}
use Rattle.fut_syntax.specs.Steps.{Spells, Stops, stopped_at, front, behind}
use Rattle.fut_syntax.proofs.Exact.{fault, has_room}

pub answer_ok : (xs : List Token) (is : List Item) → Spells xs is → run64 (First ∷ []) 0 xs ≡ None
    → (tree : Program) × (program_tree is ≡ Some tree) × IsWhole xs tree
answer_ok xs [] h e = absurd h
answer_ok xs (i ∷ is) h e = (record { first = item_tree i; others = items_tree is }, refl, (sym h, has_room xs (First ∷ []) 0 e))

pub answer_fault : (xs ys : List Token) (left : ℕ) → Stops (First ∷ []) 0 xs ys stop.Fault → ys ≡ front ys ∷ behind ys → left ≡ length (behind ys)
    → IsFault xs left
answer_fault xs ys left h one count =
    fault xs left (h.by.stops [] ∙ ap stopped_at one ∙ ap (λ (n : ℕ). Some n) (sym count))
