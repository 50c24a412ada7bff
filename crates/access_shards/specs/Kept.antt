-- What is kept of the reads and writes of one cell. Lists of accesses called `past` have the newest one first.
use Rattle.std.specs.Prelude.{◌≡◌, ℕ, ◌<◌, Bool, true, false, ◌||◌, List, [], ◌∷◌, ◌++◌, option_to_list, Option, Some, None}
use Rattle.fut_base.specs.declared.event.Event.{Event}
use Rattle.fut_base.specs.Dag.{Among, edges_of}
use Rattle.fut_base.specs.Sound.{IsSound}
use Rattle.strand_tree.specs.declared.strand.Strand.{Strand}
use Rattle.strand_tree.specs.Placing.{IsStrandOf}
use Rattle.reach_table.specs.Telling.{HasTable, OrdersAgree}
use Rattle.access_shards.specs.declared.kept.Access.{Access}
use Rattle.access_shards.specs.declared.kept.Kept.{Kept}
use Rattle.access_shards.specs.declared.kept.Kept.TheVariants.{Clean, Found}
use Rattle.access_shards.specs.Touches.{Touch, Kinds, IsRising, IsLate, HasNoRace, IsFirstPair, HasNoWrite, IsLastWrite, IsLatest}

pub data Kind : Type 0 where
  reading : Kind
  writing : Kind

abbrev pub is_write : Kind → Bool
is_write writing = true
is_write reading = false

-- two accesses conflict where one at least is a write
abbrev pub kinds : Kinds Kind
kinds = record { writes = is_write; conflict = λ a b. is_write a || is_write b }

-- what is remembered of an access of the history, whose strand is one of these structural events
pub record Shows (s : List Event) (a : Access) (t : Touch Kind) : Type 0 where
  pub place_is : a.place ≡ t.place
  pub number_is : a.strand.number ≡ t.strand
  pub strand_of : IsStrandOf s a.strand

-- the last write, where there is one
abbrev pub IsWriter : List Event → List (Touch Kind) → Option Access → Type 0
IsWriter s past None = HasNoWrite Kind kinds past
IsWriter s past (Some a) = (t : Touch Kind) × IsLastWrite Kind kinds past t × Shows s a t

abbrev pub IsInOrder : List Access → Type 0
IsInOrder [] = Unit {0}
IsInOrder (a ∷ rest) = ((b : Access) → Among b rest → a.place < b.place) × IsInOrder rest

-- the reads after the last write that no later read is joined with, in the order of their places
pub record AreReaders (s : List Event) (past : List (Touch Kind)) (readers : List Access) : Type 0 where
  pub each : (a : Access) → Among a readers → (t : Touch Kind) × IsLatest Kind kinds (edges_of s) past reading t × Shows s a t
  pub whole : (t : Touch Kind) → IsLatest Kind kinds (edges_of s) past reading t → (a : Access) × Among a readers × Shows s a t
  pub order : IsInOrder readers

-- what has to be kept of the accesses of one cell, by the paths of these structural events: the first pair once there is
-- a race, and until then the last write and the reads after it that no later read is joined with
abbrev pub IsKept : List Event → List (Touch Kind) → Kept → Type 0
IsKept s past (Clean writer readers) = HasNoRace Kind kinds (edges_of s) past × IsWriter s past writer × AreReaders s past readers.items
IsKept s past (Found first second) = IsFirstPair Kind kinds (edges_of s) past first second

-- the accesses that are kept, in the order of their places
abbrev pub all_kept : Option Access → List Access → List Access
all_kept writer readers = option_to_list writer ++ readers

abbrev pub touch : ℕ → ℕ → Kind → Touch Kind
touch place strand kind = record { place = place; strand = strand; kind = kind }

-- an access may come after those of a cell: its place is above theirs, and no path leads from an access, this one
-- included, to another strand of an earlier one
pub record MayCome (s : List Event) (past : List (Touch Kind)) (at : Strand) (place : ℕ) (kind : Kind) : Type 0 where
  pub rising : IsRising (touch place at.number kind ∷ past)
  pub late : IsLate (edges_of s) (touch place at.number kind ∷ past)

-- a judge's lists and a table are a view of these structural events at a strand: the events are sound and have the
-- strand, the table is the strand's, and the lists have the orders of the events
pub record IsViewOf (s : List Event) (table : List Strand) (at : Strand) (known : ℕ) (english hebrew : List ℕ) : Type 0 where
  pub sound : IsSound s
  pub here : IsStrandOf s at
  pub table_is : HasTable s at.number table
  pub orders : OrdersAgree s known english hebrew

-- the judge knows the strands of what is kept
abbrev pub AreKnown : ℕ → Kept → Type 0
AreKnown known (Clean writer readers) = (a : Access) → Among a (all_kept writer readers.items) → a.strand.number < known
AreKnown known (Found first second) = Unit {0}

-- whoever knew the strands of what was kept, and knows one more, knows those of what is kept
abbrev pub StrandsStay : Strand → Kept → Kept → Type 0
StrandsStay at old new = (known : ℕ) → at.number < known → AreKnown known old → AreKnown known new

-- nothing is kept of a cell without accesses
abbrev pub IsNew : Kept → Type 0
IsNew (Clean writer readers) = (writer ≡ None) × (readers.items ≡ [])
IsNew (Found first second) = ⊥
