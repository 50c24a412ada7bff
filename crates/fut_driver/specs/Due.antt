-- The text that is due for a status.
use Rattle.std.specs.Prelude.{ℕ, Bool, true, false, List, [], ◌++◌, codes, decimal, ℤ}
use Rattle.fut_base.specs.declared.event.Event.{Event}
use Rattle.fut_base.specs.declared.record.Race.{Race}
use Rattle.fut_base.specs.declared.record.Finish.{Finish}
use Rattle.task_machine.specs.Texts.{CellArray}
use Rattle.run_record.specs.RunText.{run_text}
use Rattle.race_report.specs.Brief.{brief_text}
use Rattle.fut_driver.specs.declared.form.Form.{Form}
use Rattle.fut_driver.specs.declared.form.Form.TheVariants as form
use Rattle.fut_driver.specs.declared.status.Status.{Status}
use Rattle.fut_driver.specs.declared.status.Status.TheVariants as status

-- where a text is no program
abbrev pub syntax_text : ℕ → ℕ → List ℕ
syntax_text line column = codes "syntax " ++ (decimal line ++ (codes ":" ++ (decimal column ++ codes "\n")))

-- which type rule a program breaks, and where
abbrev pub type_text : ℕ → ℕ → ℕ → List ℕ
type_text rule line column = codes "type " ++ (decimal rule ++ (codes " " ++ (decimal line ++ (codes ":" ++ (decimal column ++ codes "\n")))))

-- how many entries and races a legal record has
abbrev pub legal_text : ℕ → ℕ → List ℕ
legal_text entries races = codes "legal entries " ++ (decimal entries ++ (codes " races " ++ (decimal races ++ codes "\n")))

-- where a record is refused
abbrev pub not_legal_text : ℕ → List ℕ
not_legal_text entry = codes "not legal " ++ (decimal entry ++ codes "\n")

-- where bytes cease to be a run text
abbrev pub not_run_text : ℕ → List ℕ
not_run_text byte = codes "not a run " ++ (decimal byte ++ codes "\n")

-- the brief text is asked for, or the record
abbrev pub form_of : Bool → Form
form_of false = form.Record
form_of true = form.Brief

-- the record of a run, its brief text, or the brief text with the line of the sum
abbrev pub run_due : Form → List ℕ → List CellArray → List Event → List Race → Finish → List ℤ → List ℕ
run_due form.Record program arrays h races end cells = run_text program h races end
run_due form.Brief program arrays h races end cells = brief_text arrays h races end false cells
run_due form.Summed program arrays h races end cells = brief_text arrays h races end true cells

-- the text that was made of a program, a run or a legal record, or a line that says why there is none
abbrev pub due_text : Status → List ℕ → List ℕ
due_text status.Accepted made = made
due_text status.Clean made = made
due_text status.Raced made = made
due_text (status.Spent end) made = made
due_text (status.Syntax line column) made = syntax_text line column
due_text (status.IllTyped rule line column) made = type_text rule line column
due_text (status.NotLegal entry) made = not_legal_text entry
due_text (status.NotRun byte) made = not_run_text byte
due_text status.ReadFault made = codes "read fault\n"
due_text status.WriteFault made = []
due_text status.NoMemory made = codes "no memory\n"
due_text status.Usage made = codes "usage: forder run, serial, replay, check or load\n"
due_text status.TooLong made = codes "too long\n"
