-- Holders of a clock that draw.
use Rattle.std.specs.Prelude.{◌≡◌, ℕ, ◌<◌, ◌≤◌, false}
use Rattle.event_clock.specs.declared.view.View.{View}
use Rattle.event_clock.specs.Views.{carries, number_of, own_list, has_child}
use Rattle.event_clock.specs.Seated.{Seated, Ticking}

-- the holder is one of the clock's and carries the task, so it may draw for its accesses
pub record CanDraw (clock : Ticking) (holder : Seated) (task : ℕ) : Type 0 where
  pub clock_is : holder.clock ≡ clock.id
  pub carried : 0 < carries task holder.view.tasks

-- holder 0, which carries task 0, and has made none of the children from this one on
pub record CanSpawn (clock : Ticking) (holder : Seated) (child : ℕ) : Type 0 where
  pub draws : CanDraw clock holder 0
  pub number : number_of holder.view ≡ 0
  pub new : (t : ℕ) → child ≤ t → has_child t (own_list holder.view) ≡ false
