-- The brief text of a run: how many tasks, futures and entries it has, its races by the names of their cells, how it ended, and,
-- where it is asked for, the sum of its cells.
use Rattle.std.specs.Prelude.{ℕ, ◌+◌, ◌-◌, Bool, true, false, ◌&&◌, nat_lt, nat_le, if◌then◌else◌, List}
use Rattle.std.specs.Prelude.{[], ◌∷◌, ◌++◌, length, count_by, decimal, codes, ℤ, ◌%◌, ◌^◌, sum_by}
use Rattle.std.specs.Int.{w64, cast_signed, cast_unsigned}
use Rattle.std.specs.Fmt.{signed_decimal}
use Rattle.fut_base.specs.declared.event.Event.{Event}
use Rattle.fut_base.specs.declared.event.Action.{Action}
use Rattle.fut_base.specs.declared.event.Action.TheVariants.{Spawns, Creates}
use Rattle.fut_base.specs.declared.record.Race.{Race}
use Rattle.fut_base.specs.declared.record.Finish.{Finish}
use Rattle.task_machine.specs.Texts.{CellArray}
use Rattle.task_machine.specs.Machine.{create_count}
use Rattle.run_record.specs.RunText.{finish_line}

-- an action that begins a task
abbrev pub begins_task : Action → Bool
begins_task (Spawns _ _ _ _ _) = true
begins_task (Creates _ _ _ _ _) = true
begins_task _ = false

-- `main`, and one task for each spawn and each create
abbrev pub task_count : List Event → ℕ
task_count h = 1 + count_by (λ e. begins_task e.action) h

-- the array has the cell
abbrev pub has_cell : ℕ → CellArray → Bool
has_cell cell a = nat_le a.first cell && nat_lt cell (a.first + a.length)

-- an array with the index of one of its cells
abbrev pub element_name : CellArray → ℕ → List ℕ
element_name a index = a.name ++ (codes "[" ++ (decimal index ++ codes "]"))

-- the name of a cell: the array that has it, and its index there
abbrev pub cell_name : List CellArray → ℕ → List ℕ
cell_name [] cell = []
cell_name (a ∷ rest) cell = if has_cell cell a then element_name a (cell - a.first) else cell_name rest cell

-- a racing cell by its name, and the places of its first pair
abbrev pub race_row : List CellArray → Race → List ℕ
race_row arrays r =
    codes "race " ++ (cell_name arrays r.cell ++ (codes " " ++ (decimal r.first ++ (codes " " ++ (decimal r.second ++ codes "\n")))))

-- the lines of all races
abbrev pub race_rows : List CellArray → List Race → List ℕ
race_rows arrays [] = []
race_rows arrays (r ∷ rs) = race_row arrays r ++ race_rows arrays rs

-- the four counts, a line each
abbrev pub count_rows : List Event → List Race → List ℕ
count_rows h races =
    codes "tasks " ++ (decimal (task_count h)
    ++ (codes "\nfutures " ++ (decimal (create_count h)
    ++ (codes "\nevents " ++ (decimal (length h) ++ (codes "\nraces " ++ (decimal (length races) ++ codes "\n")))))))

-- the sum of all cells modulo 2^64, as two's complement
abbrev pub sum_of : List ℤ → ℤ
sum_of cells = cast_signed w64 (sum_by (cast_unsigned w64) cells % 2 ^ 64)

-- the line of the sum, where it is asked for
abbrev pub sum_row : Bool → List ℤ → List ℕ
sum_row false cells = []
sum_row true cells = codes "sum " ++ (signed_decimal (sum_of cells) ++ codes "\n")

-- how the run ended, and the sum
abbrev pub last_rows : Finish → Bool → List ℤ → List ℕ
last_rows end sum cells = codes "finish " ++ (finish_line end ++ sum_row sum cells)

-- the whole brief text
abbrev pub brief_text : List CellArray → List Event → List Race → Finish → Bool → List ℤ → List ℕ
brief_text arrays h races end sum cells = count_rows h races ++ (race_rows arrays races ++ last_rows end sum cells)
