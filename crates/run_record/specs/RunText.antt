-- The run text: the record of a run, each value in its one spelling.
use Rattle.std.specs.Prelude.{ℕ, ◌+◌, List, [], ◌∷◌, ◌++◌, length, decimal, codes}
use Rattle.std.specs.Fmt.{signed_decimal}
use Rattle.fut_base.specs.declared.event.Event.{Event}
use Rattle.fut_base.specs.declared.event.Action.{Action}
use Rattle.fut_base.specs.declared.event.Action.TheVariants.{Reads, Writes, Spawns, Creates, Syncs, Gets, Ends}
use Rattle.fut_base.specs.declared.record.Value.{Value}
use Rattle.fut_base.specs.declared.record.Value.TheVariants.{Int, Fut}
use Rattle.fut_base.specs.declared.record.Race.{Race}
use Rattle.fut_base.specs.declared.record.Finish.{Finish}
use Rattle.fut_base.specs.declared.record.Finish.TheVariants as finish

-- a number with its sign, or `f` and the number of a future
abbrev pub value_text : Value → List ℕ
value_text (Int z) = signed_decimal z
value_text (Fut f) = codes "f" ++ decimal f

-- each value after a space, to the end of the line
abbrev pub values_line : List Value → List ℕ
values_line [] = codes "\n"
values_line (v ∷ vs) = codes " " ++ (value_text v ++ values_line vs)

-- the called task's place in the text, the child, its first strand and the one on which the caller goes on, and the
-- arguments, to the end of the line
abbrev pub call_line : ℕ → ℕ → ℕ → ℕ → List Value → List ℕ
call_line code child kid cont args =
    decimal code ++ (codes " t" ++ (decimal child ++ (codes " s" ++ (decimal kid ++ (codes " s" ++ (decimal cont ++ values_line args))))))

-- what the task did, to the end of the line
abbrev pub action_line : Action → List ℕ
action_line (Reads cell value) = codes "read " ++ (decimal cell ++ (codes " " ++ (signed_decimal value ++ codes "\n")))
action_line (Writes cell value) = codes "write " ++ (decimal cell ++ (codes " " ++ (signed_decimal value ++ codes "\n")))
action_line (Spawns code child kid cont args) = codes "spawn " ++ call_line code child kid cont args
action_line (Creates code child kid cont args) = codes "create " ++ call_line code child kid cont args
action_line (Syncs strand) = codes "sync s" ++ (decimal strand ++ codes "\n")
action_line (Gets future value strand) =
    codes "get f" ++ (decimal future ++ (codes " " ++ (value_text value ++ (codes " s" ++ (decimal strand ++ codes "\n")))))
action_line (Ends value) = codes "end " ++ (value_text value ++ codes "\n")

-- the line of the entry at a place
abbrev pub entry_line : ℕ → Event → List ℕ
entry_line place e =
    decimal place ++ (codes " t" ++ (decimal e.task ++ (codes " s" ++ (decimal e.strand ++ (codes " " ++ action_line e.action)))))

-- the lines of entries from a place on
abbrev pub entry_lines : ℕ → List Event → List ℕ
entry_lines place [] = []
entry_lines place (e ∷ es) = entry_line place e ++ entry_lines (place + 1) es

-- the line of a racing cell and the places of its first pair
abbrev pub race_line : Race → List ℕ
race_line r =
    codes "race " ++ (decimal r.cell ++ (codes " " ++ (decimal r.first ++ (codes " " ++ (decimal r.second ++ codes "\n")))))

-- the lines of all races
abbrev pub race_lines : List Race → List ℕ
race_lines [] = []
race_lines (r ∷ rs) = race_line r ++ race_lines rs

-- how the run ended, to the end of the line
abbrev pub finish_line : Finish → List ℕ
finish_line finish.Whole = codes "whole\n"
finish_line (finish.Events bound) = codes "events " ++ (decimal bound ++ codes "\n")
finish_line (finish.Local task) = codes "local " ++ (decimal task ++ codes "\n")
finish_line (finish.Futures task) = codes "futures " ++ (decimal task ++ codes "\n")

-- the head of a run text: the program's bytes, and how many entries come
abbrev pub head_text : List ℕ → ℕ → List ℕ
head_text program entries =
    codes "forder 1\nprogram " ++ (decimal (length program) ++ (codes "\n" ++ (program ++ (codes "\nentries " ++ (decimal entries ++ codes "\n")))))

-- the last two lines
abbrev pub last_text : Finish → List ℕ
last_text end = codes "finish " ++ (finish_line end ++ codes "end\n")

-- what stands behind the entries: how many races come, the races, the finish
abbrev pub end_text : List Race → Finish → List ℕ
end_text races end = (codes "races " ++ (decimal (length races) ++ codes "\n")) ++ (race_lines races ++ last_text end)

-- the text of a run: its program's bytes, its entries, its races and its finish
abbrev pub run_text : List ℕ → List Event → List Race → Finish → List ℕ
run_text program events races end = head_text program (length events) ++ (entry_lines 0 events ++ end_text races end)
