-- Two holders of one clock, for the tests.
use Rattle.std.specs.Prelude.{◌≡◌, ◌<◌, []}
use Rattle.event_clock.specs.Views.{carries}
use Rattle.event_clock.specs.Seated.{Seated, Ticking, HolderList}

-- both belong to a clock of two holders, and the list has room for them
abbrev pub IsPair : Ticking → Seated → Seated → HolderList → Type 0
IsPair clock first second list =
    (clock.size.holders ≡ 2) × (first.clock ≡ clock.id) × (second.clock ≡ clock.id) × (list ≡ record { items = []; made = 2 })

-- the first carries task 0, the second task 1
abbrev pub IsBegun : Seated → Seated → Type 0
IsBegun first second = (0 < carries 0 first.view.tasks) × (0 < carries 1 second.view.tasks)
