-- What an answer without a race says of all other runs of the program.
use Rattle.std.specs.Prelude.{◌≡◌, ◌≤◌, ℕ, List, length}
use Rattle.fut_base.specs.declared.event.Event.{Event}
use Rattle.fut_syntax.specs.Trees as tree
use Rattle.task_machine.specs.Machine.{Machine, opening, Leads, EachEnded}
use Rattle.clean_laws.specs.Same.{Names}
use Rattle.clean_laws.specs.Traces.{IsSameRun}
use Rattle.command_words.specs.declared.words.Command.{Command}
use Rattle.fut_driver.specs.Given.{Asked, Asks}
use Rattle.fut_driver.specs.declared.status.Status.TheVariants as status
use Rattle.fut_driver.specs.Verdict.{IsInput, IsGiven, IsWellTypedText, IsVerdict}

-- a whole history of a program answers for all others: no legal one is longer, and each other whole one ends with the same cells and
-- is the same run, up to the numbers of tasks, futures and strands
pub record AnswersForAll (P : tree.Program) (h : List Event) : Type 0 where
  pub machine : Machine
  pub leads : Leads P (opening P) h machine
  pub ended : EachEnded machine.tasks
  pub longest : (g : List Event) (n : Machine) → Leads P (opening P) g n → length g ≤ length h
  pub cells : (g : List Event) (n : Machine) → Leads P (opening P) g n → EachEnded n.tasks → machine.cells ≡ n.cells
  pub same : (g : List Event) (n : Machine) → Leads P (opening P) g n → EachEnded n.tasks → (names : Names) × IsSameRun names g h n machine

-- the program of a call, whose text its command found in what was read
pub record IsAsked (a : Asked) (P : tree.Program) : Type 0 where
  pub command : Command
  pub words : Asks a command
  pub bytes : List ℕ
  pub read : IsInput a command bytes
  pub text : List ℕ
  pub given : IsGiven command bytes text
  pub typed : IsWellTypedText text P

-- where a run or a record is answered to be whole and without a race, its history answers for all others of its program
abbrev pub CleanAnswersForAll : Type 0
CleanAnswersForAll = (a : Asked) (h : List Event) (text : List ℕ) → IsVerdict a status.Clean h text → (P : tree.Program) × IsAsked a P × AnswersForAll P h
