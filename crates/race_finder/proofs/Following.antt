-- The entries of a whole history, one after the other.
use Rattle.std.proofs.Common.{◌≡◌, ℕ, zero, suc, ◌+◌, ◌<◌, ◌≤◌, List, [], ◌∷◌, ◌++◌, length, reverse, get_or, take, drop, subst, ap, sym, ◌∙◌, arith}
use Rattle.std.specs.Prelude.{map}
use Rattle.std.proofs.Math.Seq.{take-suc}
use Rattle.std.proofs.lemmas.List.{reverse-append, take_all, take-append-drop, map-append}
use Rattle.std.proofs.lemmas.List.Elements.{filter-append}
use Rattle.fut_base.specs.declared.event.Event.{Event}
use Rattle.fut_base.specs.declared.record.Entry.{Entry}
use Rattle.fut_base.specs.Events.{event_of, structure_of}
use Rattle.fut_base.specs.Sound.{IsSound, IsSoundPast}
use Rattle.reach_table.proofs.Events.{sound_before}
use Rattle.access_shards.specs.Histories.{AreStanding, IsInStep}
use Rattle.access_shards.proofs.Histories.{by_structure}

standing_before : (later past : List Event) → AreStanding (later ++ past) → AreStanding past
standing_before [] past h = h
standing_before (e ∷ later) past h = standing_before later past h.0

-- the beginning of a history
pub in_step_before : (h later : List Event) → IsInStep (h ++ later) → IsInStep h
in_step_before h later steps =
    record {
      sound = sound_before (reverse (structure_of later)) (reverse (structure_of h))
          (subst IsSoundPast (reverse-append (structure_of h) (structure_of later)) (subst IsSound (filter-append by_structure h later) steps.sound));
      standing = standing_before (reverse later) (reverse h) (subst AreStanding (reverse-append h later) steps.standing);
    }

pub taken_more : (xs : List Entry) (i : ℕ) (x : Entry) → i < length xs → x ≡ get_or xs i x
    → map event_of (take (i + 1) xs) ≡ map event_of (take i xs) ++ event_of x ∷ []
taken_more xs i x lt is =
    let up : suc i ≡ i + 1 = omega arith in
    ap (λ n. map event_of (take n xs)) (sym up) ∙ ap (map event_of) (take-suc xs i x lt) ∙ map-append event_of (take i xs) (get_or xs i x ∷ [])
    ∙ ap (λ y. map event_of (take i xs) ++ event_of y ∷ []) (sym is)

pub steps_to : (xs : List Entry) (i : ℕ) (x : Entry) → i < length xs → x ≡ get_or xs i x → IsInStep (map event_of xs)
    → IsInStep (map event_of (take i xs) ++ event_of x ∷ [])
steps_to xs i x lt is steps =
    subst IsInStep (taken_more xs i x lt is)
    (in_step_before (map event_of (take (i + 1) xs)) (map event_of (drop (i + 1) xs))
    (subst IsInStep (ap (map event_of) (sym (take-append-drop (i + 1) xs)) ∙ map-append event_of (take (i + 1) xs) (drop (i + 1) xs)) steps))

pub taken_all : (xs : List Entry) (i : ℕ) → length xs ≤ i → map event_of (take i xs) ≡ map event_of xs
taken_all xs i le = ap (map event_of) (take_all i xs le)

pub taken_few : (xs : List Entry) (i : ℕ) → length (map event_of (take i xs)) ≤ length xs
taken_few [] i = none i
  where
    none : (i : ℕ) → length (map event_of (take i [])) ≤ 0
    none zero = omega arith
    none (suc i) = omega arith
taken_few (x ∷ xs) zero = omega arith
taken_few (x ∷ xs) (suc i) = let k = taken_few xs i in omega (arith, k)
