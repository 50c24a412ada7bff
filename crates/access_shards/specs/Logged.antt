-- What a log shows, and of which accesses it is the log.
use Rattle.std.specs.Prelude.{◌≡◌, ℕ, ◌+◌, ◌^◌, ◌<◌, Bool, true, false, ◌↔◌, List, [], ◌∷◌, ◌⊎◌, length}
use Rattle.fut_base.specs.declared.event.Event.{Event}
use Rattle.fut_base.specs.Dag.{Among}
use Rattle.fut_base.specs.Orders.{stands_before, english_of}
use Rattle.reach_table.specs.Telling.{AsksAtMost}
use Rattle.strand_tree.specs.declared.strand.Strand.{Strand}
use Rattle.access_shards.specs.declared.kept.Access.{Access}
use Rattle.access_shards.specs.declared.kept.Kept.{Kept}
use Rattle.access_shards.specs.declared.kept.Kept.TheVariants.{Clean, Found}
use Rattle.access_shards.specs.Touches.{Touch}
use Rattle.access_shards.specs.Kept.{Kind, IsKept, IsViewOf, MayCome, touch}

-- what is kept, for how many reads in all there is room, whether it is said that the reads rise in the English order, and
-- a list of the reads in that order, which may be empty
pub record Logged : Type 0 where
  pub kept : Kept
  pub room : ℕ
  pub rise : Bool
  pub sorted : List Access

abbrev pub reads_of : Kept → List Access
reads_of (Clean writer readers) = readers.items
reads_of (Found first second) = []

abbrev pub reader_count : Kept → ℕ
reader_count kept = length (reads_of kept)

-- while there was no race, the reads are said to rise
abbrev pub RisesIfClean : Kept → Bool → Type 0
RisesIfClean (Clean writer readers) rise = rise ≡ true
RisesIfClean (Found first second) rise = Unit {0}

-- there is room for one more read
abbrev pub HasRoom : Logged → Type 0
HasRoom l = reader_count l.kept < l.room

-- one strand is of the future of another, and stands before it in the English order of some structural events
pub record StandsFirst (s : List Event) (u v : Strand) : Type 0 where
  pub future_is : u.future ≡ v.future
  pub first : stands_before u.number v.number (english_of s) ≡ true

-- accesses are on strands of one future, which stand in the English order as the accesses come
abbrev pub RiseInEnglish : List Event → List Access → Type 0
RiseInEnglish s all = (a b : Access) → Among a all → Among b all → a.place < b.place → StandsFirst s a.strand b.strand

-- accesses are on different strands of one future, which stand in the English order as they do in the list
abbrev pub IsInEnglish : List Event → List Access → Type 0
IsInEnglish s [] = Unit {0}
IsInEnglish s (a ∷ rest) = ((b : Access) → Among b rest → StandsFirst s a.strand b.strand × (a.strand.number ≡ b.strand.number → ⊥)) × IsInEnglish s rest

-- a list is empty, or has these accesses, in the English order of one future
pub record AreSorted (s : List Event) (all sorted : List Access) : Type 0 where
  pub order : IsInEnglish s sorted
  pub those : (sorted ≡ []) ⊎ ((a : Access) → Among a sorted ↔ Among a all)

-- a log keeps what has to be kept of the accesses of one cell, and what it says of their reads holds
pub record IsLogOf (s : List Event) (past : List (Touch Kind)) (l : Logged) : Type 0 where
  pub kept : IsKept s past l.kept
  pub rising : l.rise ≡ true → RiseInEnglish s (reads_of l.kept)
  pub listed : AreSorted s (reads_of l.kept) l.sorted

-- the list of the reads in the English order: their own one where they rise, or else the other one
abbrev pub in_english : Bool → List Access → List Access → List Access
in_english true reads sorted = reads
in_english false reads sorted = sorted

abbrev pub english_reads : Logged → List Access
english_reads l = in_english l.rise (reads_of l.kept) l.sorted

-- there is such a list, of reads of one future
pub record AreListed (future : ℕ) (rise : Bool) (reads sorted : List Access) : Type 0 where
  pub there : (rise ≡ true) ⊎ (0 < length sorted)
  pub futures : (a : Access) → Among a (in_english rise reads sorted) → a.strand.future ≡ future

abbrev pub IsListed : ℕ → Logged → Type 0
IsListed future l = AreListed future l.rise (reads_of l.kept) l.sorted

-- for any structural events of which this is a view, and accesses of a cell after which one more may come: where the first
-- was the log of them, the second is the log of them and that one
abbrev pub KeepsOneMore : List Strand → Strand → ℕ → Kind → ℕ → List ℕ → List ℕ → Logged → Logged → Type 0
KeepsOneMore table at place kind known english hebrew old new =
    (s : List Event) (past : List (Touch Kind)) → IsViewOf s table at known english hebrew → MayCome s past at place kind
    → IsLogOf s past old → IsLogOf s (touch place at.number kind ∷ past) new

-- where the reads that are kept, and one more access, are of one future, and there is a list of them in the English order,
-- this one asks the judge so often more, at most: once for each kept read that it drops, four times, and once for each time
-- that the number of kept reads can be halved; and then there is such a list again
abbrev pub AsksFew : List Strand → Strand → ℕ → Kind → ℕ → List ℕ → List ℕ → ℕ → ℕ → Logged → Logged → Type 0
AsksFew table at place kind known english hebrew before after old new =
    (s : List Event) (past : List (Touch Kind)) → IsViewOf s table at known english hebrew → MayCome s past at place kind
    → IsLogOf s past old → IsListed at.future old
    → IsListed at.future new × ((bits : ℕ) → reader_count old.kept < 2 ^ bits
    → AsksAtMost table (reader_count old.kept + bits + 4) before (after + reader_count new.kept))
