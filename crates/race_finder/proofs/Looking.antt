-- The track of an acting task, looked up among those of a finder.
use Rattle.std.proofs.Common.{◌≡◌, ℕ, ◌<◌, List, [], ◌∷◌, ◌++◌, length, slice_get, arith, refl, ap, subst}
use Rattle.std.specs.Prelude.{Some, get_or}
use Rattle.std.proofs.lemmas.Option.{slice_get_read}
use Rattle.fut_base.specs.declared.event.Event.{Event}
use Rattle.access_shards.specs.Logged.{Logged}
use Rattle.access_shards.specs.Histories.{IsInStep}
use Rattle.race_finder.specs.declared.track.Track.{Track}
use Rattle.race_finder.specs.Finding.{Knows}
use Rattle.race_finder.proofs.Accesses.{task_in, track_of}
use Rattle.race_finder.proofs.Taking.{places_few}

module _ (h : List Event) (e : Event) (english hebrew : List ℕ) (tracks : List Track) (logs : List Logged) (count task : ℕ)
    (k : Knows h english hebrew tracks logs count) (steps : IsInStep (h ++ e ∷ [])) (is : e.task ≡ task) where
  -- the acting task has a track
  pub has_track : task < length tracks
  has_track = task_in h e english hebrew tracks logs count task k steps is

  -- what is read at its place, room having been made or not, is that track
  pub looked_up : (made : List Track) (d : Track) → made ≡ tracks → d ≡ get_or made task d → slice_get tracks task ≡ Some d
  looked_up made d items read =
      let lt = has_track in
      let n = ap (length {A = Track}) items in
      subst (λ (l : List Track). slice_get l task ≡ Some d) items (slice_get_read made (length made) task d refl (omega (arith, lt, n)) read)

  -- its strand stands in both lists
  pub in_english : (made : List Track) (d : Track) (placed : List ℕ) → made ≡ tracks → d ≡ get_or made task d → placed ≡ english → d.at.number < length placed
  in_english made d placed items read same =
      let known = (track_of h english hebrew tracks logs count task d k (looked_up made d items read)).0 in
      let n = ap (length {A = ℕ}) same in
      omega (arith, known, n)

  pub in_hebrew : (made : List Track) (d : Track) (placed : List ℕ) → made ≡ tracks → d ≡ get_or made task d → placed ≡ hebrew → d.at.number < length placed
  in_hebrew made d placed items read same =
      let known = (track_of h english hebrew tracks logs count task d k (looked_up made d items read)).0 in
      let n = ap (length {A = ℕ}) same in
      let even = (places_few h english hebrew tracks logs count k).1 in
      omega (arith, known, n, even)
