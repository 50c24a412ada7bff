-- How the book's lines change.
use Rattle.std.specs.Prelude.{◌≡◌, ℕ, zero, suc, ◌+◌, ◌-◌, ◌==◌, if◌then◌else◌, List, [], ◌∷◌, ◌++◌, slice_get, Option, Some, None}
use Rattle.fut_base.specs.declared.record.Value.{Value}
use Rattle.run_book.specs.Jobs.{JobNow}
use Rattle.run_book.specs.Lines.{LineNow, Ended}

-- the lines with one of them changed
abbrev pub change_at : ℕ → (LineNow → LineNow) → List LineNow → List LineNow
change_at t f [] = []
change_at zero f (l ∷ ls) = f l ∷ ls
change_at (suc t) f (l ∷ ls) = l ∷ change_at t f ls

-- lines are as they were, but for the room of their blocks
abbrev pub AreSameLines : List LineNow → List LineNow → Type 0
AreSameLines [] [] = Unit {0}
AreSameLines [] (_ ∷ _) = ⊥
AreSameLines (_ ∷ _) [] = ⊥
AreSameLines (l ∷ ls) (m ∷ ms) = (m ≡ record l { room = m.room }) × AreSameLines ls ms

-- a task has spawned a child
abbrev pub with_child : ℕ → LineNow → LineNow
with_child child l = record l { block = l.block ++ child ∷ []; room = l.room - 1; count = l.count + 1 }

-- a task has ended with a value, on its last strand, and nobody waits for it any more
abbrev pub with_end : Value → Ended → LineNow → LineNow
with_end value last l = record l { value = Some value; waiters = []; last = Some last }

-- a child of a task's block has ended; where it was the last that ran, the task waits no more
abbrev pub with_less : LineNow → LineNow
with_less l = record l { count = l.count - 1; waiter = (if l.count == 1 then None else l.waiter) }

-- a task's own job waits for the children of its block
abbrev pub with_waiter : JobNow → LineNow → LineNow
with_waiter job l = record l { waiter = Some job }

-- a job waits for the value of a task, behind the others
abbrev pub with_getter : JobNow → LineNow → LineNow
with_getter job l = record l { waiters = l.waiters ++ job ∷ [] }

-- the task that spawned a task
abbrev pub parent_of : Option LineNow → Option ℕ
parent_of None = None
parent_of (Some l) = l.parent

-- the lines when a child of this task has ended
abbrev pub told_of_end : Option ℕ → List LineNow → List LineNow
told_of_end None lines = lines
told_of_end (Some p) lines = change_at p with_less lines

-- the lines when a task has ended
abbrev pub after_end : ℕ → Value → Ended → List LineNow → List LineNow
after_end t value last lines = told_of_end (parent_of (slice_get lines t)) (change_at t (with_end value last) lines)
