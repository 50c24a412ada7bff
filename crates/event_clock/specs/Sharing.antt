-- What the end of a clock says of the lists that were given, with no log.
use Rattle.std.specs.Prelude.{◌≡◌, ℕ, ◌<◌, true, min, List, ◌++◌, ◌⊎◌}
use Rattle.fut_base.specs.declared.event.Event.{Event}
use Rattle.fut_base.specs.Dag.{Among}
use Rattle.event_clock.specs.declared.view.Own.{Own}
use Rattle.event_clock.specs.declared.view.Carried.{Carried}
use Rattle.event_clock.specs.declared.view.Size.{Size}
use Rattle.event_clock.specs.Views.{list_at, is_child}
use Rattle.event_clock.specs.Rule.{IsPrefix, Rises}
use Rattle.event_clock.specs.Seated.{Seated}
use Rattle.event_clock.specs.Closing.{IsClosed}

-- the own list of one of these holders
abbrev pub IsOwnOf : List Seated → Own → Type 0
IsOwnOf us p = (u : Seated) × Among u us × Among p u.view.own

-- the tickets of a closed clock are shared out among the own lists
pub record SharesOut (size : Size) (holders passes : List Seated) (count : ℕ) : Type 0 where
  -- the tickets below the lesser of count and bound stand in the own lists, each once, and each list rises
  pub below : (p : Own) (x : ℕ × Event) → IsOwnOf holders p → Among x p.entries → x.0 < min count size.bound
  pub there : (n : ℕ) → n < min count size.bound → (p : Own) × (e : Event) × IsOwnOf holders p × Among (n, e) p.entries
  pub once : (p q : Own) (n : ℕ) (e f : Event) → IsOwnOf holders p → IsOwnOf holders q → Among (n, e) p.entries → Among (n, f) q.entries
      → (p.number ≡ q.number) × (e ≡ f)
  pub rises : (p : Own) → IsOwnOf holders p → Rises p.entries
  -- what each knows of a holder is a beginning of that holder's list
  pub known : (u : Seated) (p : Own) → Among u (holders ++ passes) → IsOwnOf holders p → IsPrefix (list_at u.view.known p.number) p.entries
  -- each task with an entry is 0, or the child of an entry
  pub made : (p : Own) (x : ℕ × Event) → IsOwnOf holders p → Among x p.entries
      → (x.1.task ≡ 0) ⊎ ((q : Own) × (y : ℕ × Event) × IsOwnOf holders q × Among y q.entries × (is_child x.1.task y.1.action ≡ true))
  -- beside a task stand all its entries and no others, by ticket
  pub entries : (u : Seated) (c : Carried) (p : Own) (x : ℕ × Event) → Among u (holders ++ passes) → Among c u.view.tasks → IsOwnOf holders p
      → Among x p.entries → x.1.task ≡ c.task → Among x c.trace
  pub only : (u : Seated) (c : Carried) (x : ℕ × Event) → Among u (holders ++ passes) → Among c u.view.tasks → Among x c.trace
      → (x.1.task ≡ c.task) × ((p : Own) × IsOwnOf holders p × Among x p.entries)
  pub trace_rises : (u : Seated) (c : Carried) → Among u (holders ++ passes) → Among c u.view.tasks → Rises c.trace
  -- a holder that was turned away saw the bound reached
  pub late : (u : Seated) → Among u holders → 0 < u.view.late → size.bound < count

-- so it is of each clock that is closed
abbrev pub ClosedSharesOut : Type 0
ClosedSharesOut = (size : Size) (holders passes : List Seated) (count : ℕ) → IsClosed size holders passes count → SharesOut size holders passes count
