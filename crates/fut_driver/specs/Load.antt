-- The program that `load` runs: a grid of futures, of which each gets those above it and to its left, reads their cells and writes its own.
use Rattle.std.specs.Prelude.{ℕ, ◌*◌, List, [], ◌∷◌, ◌++◌, codes, decimal}
use Rattle.std.specs.List.{concat}

-- a cell for each place of the grid
abbrev pub cells_parts : ℕ → List (List ℕ)
cells_parts places = codes "cells a[" ∷ (decimal places ∷ (codes "];\n" ∷ []))

-- the first place of the first row
abbrev pub corner_parts : List (List ℕ)
corner_parts = codes "task corner() int { a[0] = 1; return 0; }\n" ∷ []

-- the others of the first row, each with a left neighbour
abbrev pub top_parts : List (List ℕ)
top_parts =
    codes "task top(j: int, left: fut int) int {\n  var g: int = get left;\n  var q: int = a[j - 1];\n  a[j] = q + 1;\n  return 0;\n}\n" ∷ []

-- the others of the first column, each with an upper neighbour
abbrev pub side_parts : ℕ → List (List ℕ)
side_parts n =
    codes "task side(i: int, up: fut int) int {\n  var g: int = get up;\n  var p: int = a[(i - 1) * " ∷ (decimal n
    ∷ (codes "];\n  a[i * " ∷ (decimal n
    ∷ (codes "] = p + 1;\n  return 0;\n}\n" ∷ []))))

-- all others, each with both neighbours
abbrev pub inner_parts : ℕ → List (List ℕ)
inner_parts n =
    codes "task inner(i: int, j: int, up: fut int, left: fut int) int {\n  var g: int = get up;\n  g = get left;\n  var p: int = a[((i - 1) * " ∷ (decimal n
    ∷ (codes ") + j];\n  var q: int = a[(i * " ∷ (decimal n
    ∷ (codes ") + (j - 1)];\n  a[(i * " ∷ (decimal n
    ∷ (codes ") + j] = (p + q) + 1;\n  return 0;\n}\n" ∷ []))))))

-- the task that creates a future for each place, row by row, with the futures of the row above in an array
abbrev pub main_parts : ℕ → List (List ℕ)
main_parts n =
    codes "task main() int {\n  var h: fut int = create corner();\n  var row: fut int[" ∷ (decimal n
    ∷ (codes "] = h;\n  var up: fut int = h;\n  var i: int = 1;\n  var j: int = 1;\n  while j < " ∷ (decimal n
    ∷ (codes " { h = create top(j, h); row[j] = h; j = j + 1; }\n  while i < " ∷ (decimal n
    ∷ (codes " {\n    up = row[0];\n    h = create side(i, up);\n    row[0] = h;\n    j = 1;\n    while j < " ∷ (decimal n
    ∷
    (codes " {\n      up = row[j];\n      h = create inner(i, j, up, h);\n      row[j] = h;\n      j = j + 1;\n    }\n    i = i + 1;\n  }\n  var x: int = get h;\n  return x;\n}\n" ∷ []))))))))

-- all parts of the text for a grid of n by n places
abbrev pub load_parts : ℕ → List (List ℕ)
load_parts n = cells_parts (n * n) ++ (corner_parts ++ (top_parts ++ (side_parts n ++ (inner_parts n ++ main_parts n))))

-- the program text for a grid of n by n places
abbrev pub load_text : ℕ → List ℕ
load_text n = concat (load_parts n)
