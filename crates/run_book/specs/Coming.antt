-- A task that is to begin.
use Rattle.std.specs.Prelude.{◌≡◌, ℕ, ◌≤◌, false, List, []}
use Rattle.fut_base.specs.declared.record.Value.{Value}
use Rattle.fut_syntax.specs.Trees as tree
use Rattle.task_machine.specs.State.{start_state}
use Rattle.task_types.specs.Typed.{ArgsFit, any_future}
use Rattle.task_code.specs.Flat.{Compiled, IsCodeOf}
use Rattle.task_code.specs.Tasks.{TaskNow, IsTaskOf, IsStill}

-- a task stands at an event, with room for an entry; by that, a child with this number begins this task of the text with these arguments
pub record IsComing (code : Compiled) (parent : TaskNow) (number which : ℕ) (args : List Value) (child : TaskNow) : Type 0 where
  pub still : IsStill code parent
  pub room : 1 ≤ parent.trace.spare
  pub number_is : child.number ≡ number
  pub which_is : child.which ≡ which
  pub running : child.spot.ended ≡ false
  pub empty : child.trace.items ≡ []
  pub state : (P : tree.Program) → IsCodeOf P code → ArgsFit any_future P which args → IsTaskOf P code args child (start_state P which args)
