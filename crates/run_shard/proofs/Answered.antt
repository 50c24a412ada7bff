-- What an answer tells of an access: it was made, or it was not.
use Rattle.std.proofs.Common.{◌≡◌, ℕ, ℤ, List, refl, sym, ap, ◌∙◌, subst}
use Rattle.fut_base.specs.declared.event.Event.{Event}
use Rattle.strand_tree.specs.declared.strand.Strand.{Strand}
use Rattle.task_code.specs.Tasks.{TaskNow}
use Rattle.access_shards.specs.Logged.{Logged}
use Rattle.event_clock.specs.Seated.{Seated}
use Rattle.run_shard.specs.declared.did.Did.{Did}
use Rattle.run_shard.specs.declared.did.Did.TheVariants as did
use Rattle.run_shard.specs.Turns.{IsAdded, IsUnmade, HasMade}

module _ (bound : ℕ) (e : Event) (at : Strand) (h h' : Seated) (l l' : Logged) (t t' : TaskNow) where
  pub made_by_done : (d : Did) → d ≡ did.Done → HasMade bound e at h h' l l' t t' d → IsAdded bound e at h h' l l' t t'
  made_by_done d is made = subst (λ x. HasMade bound e at h h' l l' t t' x) is made

  pub unmade_by : (d : Did) → (d ≡ did.Done → ⊥) → HasMade bound e at h h' l l' t t' d → IsUnmade h h' l l' t t'
  unmade_by did.Done other made = absurd (other refl)
  unmade_by (did.Spent ticket) other made = made.2
  unmade_by did.NoMemory other made = made
