-- The numbers with which the program ends.
use Rattle.std.specs.Prelude.{ℕ}
use Rattle.fut_driver.specs.declared.status.Status.{Status}
use Rattle.fut_driver.specs.declared.status.Status.TheVariants as status

abbrev pub status_number : Status → ℕ
status_number status.Accepted = 0
status_number status.Clean = 0
status_number status.Raced = 1
status_number (status.Syntax _ _) = 2
status_number (status.IllTyped _ _ _) = 3
status_number (status.Spent _) = 4
status_number (status.NotLegal _) = 5
status_number (status.NotRun _) = 5
status_number status.ReadFault = 6
status_number status.WriteFault = 7
status_number status.NoMemory = 8
status_number status.Usage = 9
status_number status.TooLong = 10
