-- The items of a whole.
use Rattle.std.proofs.Common.{◌≡◌, List, [], ◌∷◌, ◌++◌, ◌<◌, length, refl, sym, ap, ◌∙◌, append-nil, arith}
use Rattle.std.specs.Prelude.{None}
use Rattle.fut_tokens.specs.declared.token.Token.{Token}
use Rattle.fut_tokens.specs.declared.token.Token.TheVariants as t
use Rattle.fut_syntax.specs.declared.tree.Item.{Item}
use Rattle.fut_syntax.specs.Trees as trees
use Rattle.fut_syntax.specs.Tokens.{item_before, items_before}
use Rattle.fut_syntax.specs.Views.{item_tree, items_tree}
use Rattle.fut_syntax.specs.Machine.{First, More, run64}
use Rattle.fut_syntax.specs.Steps.{Steps, Spells, SpellsMore}
use Rattle.fut_syntax.proofs.Longer.{item_longer}

items_more : (is : List Item) (i : Item) (rest : List trees.Item) → items_tree (is ++ i ∷ []) ++ rest ≡ items_tree is ++ item_tree i ∷ rest
items_more [] i rest = refl
items_more (x ∷ is) i rest = ap (λ q. item_tree x ∷ q) (items_more is i rest)

pub spells_end : (xs ys : List Token) (is : List Item) → SpellsMore xs ys is → ys ≡ t.End ∷ [] → Spells xs is
spells_end xs ys [] h e = absurd h
spells_end xs ys (i ∷ is) h e = h [] [] e ∙ ap (λ q. item_before (item_tree i) (items_before q [])) (append-nil (items_tree is))

pub spells_next : (xs ys zs : List Token) (is : List Item) (i : Item) → SpellsMore xs ys is → ys ≡ item_before (item_tree i) zs
    → SpellsMore xs zs (is ++ i ∷ [])
spells_next xs ys zs [] i h g = absurd h
spells_next xs ys zs (x ∷ is) i h g = λ rest r z.
    h (item_tree i ∷ rest) r (g ∙ ap (λ q. item_before (item_tree i) q) z)
    ∙ ap (λ q. item_before (item_tree x) (items_before q r)) (sym (items_more is i rest))

pub run_ends : (xs ys : List Token) → Steps (First ∷ []) 0 xs (More ∷ []) 0 ys → ys ≡ t.End ∷ [] → run64 (First ∷ []) 0 xs ≡ None
run_ends xs ys h e = h.goes [] ∙ ap (λ q. run64 (More ∷ []) 0 q) e

pub fewer_by_item : (ys zs : List Token) (i : trees.Item) → ys ≡ item_before i zs → length zs < length ys
fewer_by_item ys zs i g = let a = item_longer i zs in omega (arith, a, ap length g)
