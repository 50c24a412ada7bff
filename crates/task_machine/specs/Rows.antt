-- A run worked out by hand, and what the definitions make of it.
use Rattle.std.specs.Prelude.{◌≡◌, ℕ, ◌-◌, ◌^◌, true, pos, negsuc, List, [], ◌∷◌, codes}
use Rattle.fut_base.specs.declared.record.Value.TheVariants.{Int}
use Rattle.fut_base.specs.declared.event.Event.{Event}
use Rattle.fut_base.specs.declared.event.Action.TheVariants.{Writes, Spawns, Syncs, Ends}
use Rattle.fut_base.specs.Rows.{ev}
use Rattle.fut_syntax.specs.Trees as tree
use Rattle.task_machine.specs.Values.{combine, index_of}
use Rattle.task_machine.specs.State.{TaskState, ToSync, ToEnd, wish_of, effect_of}
use Rattle.task_machine.specs.Machine.{IsLegal, IsWhole}

-- a number as an expression
abbrev pub literal : ℕ → tree.Expr
literal n = tree.Alone (tree.Signed tree.NoSign (tree.Literal n))

-- cells a[1]; task kid() int { a[0] = 1; return 0; } task main() int { spawn kid(); a[0] = 2; sync; return 0; }
abbrev pub spawn_program : tree.Program
spawn_program =
    record {
      first = tree.CellsOf (codes "a") 1;
      others =
          tree.TaskOf (codes "kid") [] 0 (tree.Then (tree.Store (codes "a") (literal 0) (literal 1)) (tree.Then (tree.Return' (literal 0)) tree.Done))
          ∷ tree.TaskOf (codes "main") [] 0
          (tree.Then (tree.SpawnOf (codes "kid") [])
          (tree.Then (tree.Store (codes "a") (literal 0) (literal 2))
          (tree.Then tree.SyncAll (tree.Then (tree.Return' (literal 0)) tree.Done))))
          ∷ [];
    }

-- its run in which the child goes first
abbrev pub spawn_history : List Event
spawn_history =
    ev 0 0 (Spawns 0 1 1 2 []) ∷ ev 1 1 (Writes 0 (pos 1)) ∷ ev 1 1 (Ends (Int (pos 0)))
    ∷ ev 0 2 (Writes 0 (pos 2)) ∷ ev 0 2 (Syncs 3) ∷ ev 0 3 (Ends (Int (pos 0))) ∷ []

-- the history of this program is legal and whole
pub record SpawnRow : Type 0 where
  pub legal : IsLegal spawn_program spawn_history
  pub whole : IsWhole spawn_program spawn_history

-- numbers wrap, and a divisor of 0 gives 0; an index is never negative
pub record NumberRow : Type 0 where
  pub added : combine tree.Add (pos (2 ^ 63 - 1)) (pos 1) ≡ negsuc (2 ^ 63 - 1)
  pub subtracted : combine tree.Subtract (pos 1) (pos 3) ≡ negsuc 1
  pub multiplied : combine tree.Multiply (pos (2 ^ 32)) (pos (2 ^ 32)) ≡ pos 0
  pub by_zero : combine tree.Divide (pos 7) (pos 0) ≡ pos 0
  pub rest_by_zero : combine tree.Remainder (pos 7) (pos 0) ≡ pos 0
  pub least : combine tree.Divide (negsuc (2 ^ 63 - 1)) (negsuc 0) ≡ negsuc (2 ^ 63 - 1)
  pub least_rest : combine tree.Remainder (negsuc (2 ^ 63 - 1)) (negsuc 0) ≡ pos 0
  pub towards_zero : combine tree.Divide (negsuc 6) (pos 2) ≡ negsuc 2
  pub sign_of_dividend : combine tree.Remainder (negsuc 6) (pos 2) ≡ negsuc 0
  pub bits : combine tree.BitAnd (negsuc 0) (pos 6) ≡ pos 6
  pub either_bits : combine tree.BitOr (pos 5) (pos 6) ≡ pos 7
  pub equal : (combine tree.Equal (pos 3) (pos 3) ≡ pos 1) × (combine tree.Equal (pos 3) (pos 4) ≡ pos 0)
  pub unequal : (combine tree.Unequal (pos 3) (pos 3) ≡ pos 0) × (combine tree.Unequal (pos 3) (pos 4) ≡ pos 1)
  pub compared : combine tree.Less (negsuc 0) (pos 0) ≡ pos 1
  pub less : (combine tree.Less (pos 3) (pos 3) ≡ pos 0) × (combine tree.Less (pos 4) (pos 3) ≡ pos 0)
  pub at_most : (combine tree.AtMost (pos 3) (pos 3) ≡ pos 1) × (combine tree.AtMost (pos 4) (pos 3) ≡ pos 0)
  pub greater : (combine tree.Greater (pos 4) (pos 3) ≡ pos 1) × (combine tree.Greater (pos 3) (pos 3) ≡ pos 0)
  pub at_least : (combine tree.AtLeast (pos 3) (pos 3) ≡ pos 1) × (combine tree.AtLeast (pos 3) (pos 4) ≡ pos 0)
  pub index : index_of 4 (negsuc 0) ≡ 3
  pub index_around : index_of 4 (pos 9) ≡ 1

-- a task whose block is open stands at `return 5;`
abbrev pub at_return : TaskState
at_return = record { vars = []; todo = tree.Return' (literal 5) ∷ []; is_open = true }

-- it waits for its children first, and then ends with the value
pub record ReturnRow : Type 0 where
  pub waits : wish_of spawn_program at_return ≡ ToSync
  pub ends : wish_of spawn_program (effect_of at_return (Syncs 3)) ≡ ToEnd (Int (pos 5))
