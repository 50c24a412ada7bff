-- Laws of the accesses of a cell.
use Rattle.std.specs.Prelude.{◌≡◌, ℕ, ◌<◌, ◌↔◌, List, ◌∷◌, ◌++◌, reverse, slice_get, Some, None}
use Rattle.fut_base.specs.declared.event.Event.{Event}
use Rattle.fut_base.specs.Events.{structure_of}
use Rattle.fut_base.specs.Dag.{Among, edges_of, last_of, Reaches}
use Rattle.fut_base.specs.Sound.{IsSound, current, next_strand}
use Rattle.fut_base.specs.Racing.{PlacesRace}
use Rattle.fut_base.specs.Racing as racing
use Rattle.strand_tree.specs.declared.strand.Strand.{Strand}
use Rattle.access_shards.specs.declared.kept.Kept.{Kept}
use Rattle.access_shards.specs.declared.kept.Kept.TheVariants.{Clean, Found}
use Rattle.access_shards.specs.Touches.{Touch, Kinds, WritesConflict, IsRising, IsLate, AreRacing, HasNoRace, IsFirstPair, MustBeKept, IsGreatestPartner}
use Rattle.access_shards.specs.Kept.{Kind, kinds, IsKept, MayCome, touch}
use Rattle.access_shards.specs.Logged.{Logged, IsLogOf}
use Rattle.access_shards.specs.Histories.{touches_of, IsInStep}

-- while there was no race, the greatest partner of a further access is the greatest one of those that must be kept,
-- whatever kinds of access there are, if a write conflicts with each
abbrev pub KeptIsEnough : (K : Type 0) → Kinds K → Type 0
KeptIsEnough K kinds =
    (es : List (ℕ × ℕ)) (past : List (Touch K)) (x : Touch K) → WritesConflict K kinds → IsRising (x ∷ past) → IsLate es (x ∷ past)
    → HasNoRace K kinds es past → (t : Touch K)
    → IsGreatestPartner K kinds es x (λ a. Among a past) t ↔ IsGreatestPartner K kinds es x (MustBeKept K kinds es past) t

-- accesses on strands of some structural events
abbrev pub AreOn : List Event → List (Touch Kind) → Type 0
AreOn s past = (t : Touch Kind) → Among t past → t.strand < next_strand (reverse s)

-- with further structural events the same is kept
abbrev pub KeptStays : Type 0
KeptStays = (s more : List Event) (past : List (Touch Kind)) (kept : Kept) → IsSound (s ++ more) → AreOn s past → IsKept s past
    kept → IsKept (s ++ more) past kept

-- and the log of some accesses is still their log
abbrev pub LogStays : Type 0
LogStays = (s more : List Event) (past : List (Touch Kind)) (l : Logged) → IsSound (s ++ more) → AreOn s past → IsLogOf s past l → IsLogOf (s ++ more) past l

-- and still no path leads from an access to another strand of an earlier one
abbrev pub LateStays : Type 0
LateStays = (s more : List Event) (past : List (Touch Kind)) → IsSound (s ++ more) → AreOn s past → IsLate (edges_of s)
    past → IsLate (edges_of (s ++ more)) past

-- on the current strand of a task that has not ended one more access may come
abbrev pub CurrentMayCome : Type 0
CurrentMayCome =
    (s : List Event) (past : List (Touch Kind)) (task : ℕ) (at : Strand) (place : ℕ) (kind : Kind) → IsSound s → AreOn s past → IsLate (edges_of s) past
    → current (reverse s) task ≡ Some at.number → last_of (reverse s) task ≡ None
    → IsRising (touch place at.number kind ∷ past) → MayCome s past at place kind

-- no path leads from the strand of an event to another strand of an earlier event
abbrev pub NoPathBack : Type 0
NoPathBack =
    (h : List Event) → IsInStep h → (i j : ℕ) (a b : Event) → slice_get h i ≡ Some a → slice_get h j ≡ Some b → i < j
    → Reaches h b.strand a.strand → a.strand ≡ b.strand

-- so the accesses of each cell are late, and their places rise
abbrev pub AccessesAreLate : Type 0
AccessesAreLate = (h : List Event) (c : ℕ) → IsInStep h → IsRising (touches_of c h) × IsLate (edges_of h) (touches_of c h) × AreOn
    (structure_of h) (touches_of c h)

-- two places of a history race on a cell exactly where its accesses there do
abbrev pub RacesAreOfAccesses : Type 0
RacesAreOfAccesses =
    (h : List Event) (c i j : ℕ)
    → PlacesRace h c i j ↔ ((a : Touch Kind) × (b : Touch Kind) × AreRacing Kind kinds (edges_of h) (touches_of c h) a b × (a.place ≡ i) × (b.place ≡ j))

-- the first pair of a cell's accesses is that of the history
abbrev pub FirstPairIsOfAccesses : Type 0
FirstPairIsOfAccesses = (h : List Event) (c i j : ℕ) → racing.IsFirstPair h c i j ↔ IsFirstPair Kind kinds (edges_of h) (touches_of c h) i j

-- what is kept of a cell's accesses tells its races in the history: none, or the first pair
abbrev pub TellsRaces : List Event → ℕ → Kept → Type 0
TellsRaces h c (Clean writer readers) = (i j : ℕ) → PlacesRace h c i j → ⊥
TellsRaces h c (Found first second) = racing.IsFirstPair h c first second

abbrev pub KeptTellsRaces : Type 0
KeptTellsRaces = (h : List Event) (c : ℕ) (kept : Kept) → IsKept (structure_of h) (touches_of c h) kept → TellsRaces h c kept
