-- Names of cells.
use Rattle.std.proofs.Common.{arith, refl, suc, inl, inr, ◌≡◌, ◌∙◌, ℕ, ◌+◌, ◌-◌, ◌<◌, ◌≤◌, List, [], ◌∷◌, ◌++◌}
use Rattle.std.specs.Prelude.{codes, decimal}
use Rattle.std.proofs.lemmas.Bool.{le-leb, lt-ltb, cases_lt}
use Rattle.std.proofs.lemmas.Bool.Decides.{leb_tells}
use Rattle.task_machine.specs.Texts.{CellArray}
use Rattle.task_machine.specs.Texts.{arrays_from, count_cells}
use Rattle.fut_syntax.specs.Trees as tree
use Rattle.fut_syntax.specs.Trees.{items_of}
use Rattle.race_report.specs.Laws.{IsNameOf, CellsAreNamed}
use Rattle.race_report.specs.Brief.{cell_name}

-- an array that has a cell names it
pub named_here : (a : CellArray) (rest : List CellArray) (cell index : ℕ) → a.first + index ≡ cell → index < a.length
    → cell_name (a ∷ rest) cell ≡ a.name ++ (codes "[" ++ (decimal index ++ codes "]"))
named_here a rest cell index is few =
    let low : a.first ≤ cell = omega (arith, is) in
    let high : cell < a.first + a.length = omega (arith, is, few) in
    let same : cell - a.first ≡ index = omega (arith, is) in
    rw (le-leb a.first cell low) (rw (lt-ltb cell (a.first + a.length) high) (rw same cc))

-- an array that does not have it leaves it to the others
pub named_later : (a : CellArray) (rest : List CellArray) (cell : ℕ) → (a.first ≤ cell → cell < a.first + a.length → ⊥)
    → cell_name (a ∷ rest) cell ≡ cell_name rest cell
named_later a rest cell out = grind (arith, leb_tells a.first cell, leb_tells (cell + 1) (a.first + a.length))

-- a cell of the arrays of some items, which are numbered from a cell on
pub from_named : (items : List tree.Item) (n cell : ℕ) → n ≤ cell → cell < n + count_cells items
    → IsNameOf (arrays_from n items) cell (cell_name (arrays_from n items) cell)
from_named [] n cell low high = absurd (omega (arith, low, high))
from_named (tree.TaskOf _ _ _ _ ∷ rest) n cell low high = from_named rest n cell low high
from_named (tree.CellsOf name count ∷ rest) n cell low high =
    let a : CellArray = record { name = name; first = n; length = count } in
    elim (cases_lt cell (n + count)) [
      | inl here ↦
          record {
            place = 0;
            array = a;
            index = cell - n;
            stands = refl;
            is_cell = omega (arith, low);
            within = omega (arith, low, here);
            text_is = named_here a (arrays_from (n + count) rest) cell (cell - n) (omega (arith, low)) (omega (arith, low, here));
          }
      | inr past ↦
          let later = from_named rest (n + count) cell past (omega (arith, high)) in
          record {
            place = suc later.place;
            array = later.array;
            index = later.index;
            stands = later.stands;
            is_cell = later.is_cell;
            within = later.within;
            text_is = named_later a (arrays_from (n + count) rest) cell (λ low to. absurd (omega (arith, past, to))) ∙ later.text_is;
          }
    ]

pub named : CellsAreNamed
named P cell below = from_named (items_of P) 0 cell (omega arith) (omega (arith, below))
