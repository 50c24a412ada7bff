-- The order rule: what the words and the views keep between any two steps. Word 0 is the version, word 1 the count of
-- items, and two words an item follow, its labels in the English and in the Hebrew list.
use Rattle.std.specs.Prelude.{◌≡◌, ◌≢◌, ℕ, ◌+◌, ◌*◌, ◌%◌, ◌≤◌, ◌<◌, true, false, List, [], ◌∷◌, length, slice_index}
use lib.ListN.{get_elem?}
use mathlib.Core.Option.{some}
use Rattle.atomic_table.specs.Table.{State}
use Rattle.order_query.specs.declared.view.Insert.{Insert}
use Rattle.order_query.specs.declared.view.Label.{Label}
use Rattle.order_query.specs.declared.view.Snapshot.{Snapshot}
use Rattle.order_query.specs.declared.view.View.{View}
use Rattle.order_query.specs.Logs.{StartsWith, AreRising, count_of}

-- the words publish a log: the count is that of its items and at most the capacity, the version is at most twice the count,
-- and where it is even, labels strictly rise along both lists
pub record IsPublished (words : List ℕ) (log : List Insert) : Type 0 where
  pub capacity : ℕ
  pub size : length words ≡ 2 * capacity + 2
  pub counted : slice_index words 1 ≡ count_of log
  pub few : count_of log ≤ capacity
  pub bounded : slice_index words 0 ≤ 2 * count_of log
  pub rising : slice_index words 0 % 2 ≡ 0 → AreRising words log

-- each of the logs begins this one
abbrev pub AllStart : List Insert → List (List Insert) → Type 0
AllStart log [] = Unit {0}
AllStart log (old ∷ olds) = StartsWith log old × AllStart log olds

-- these are words of labels, below the end
abbrev pub AreLabelWords : ℕ → List Label → Type 0
AreLabelWords end [] = Unit {0}
AreLabelWords end (l ∷ ls) = (2 ≤ l.word) × (l.word < end) × AreLabelWords end ls

-- each of these labels is its word
abbrev pub AreWords : List ℕ → List Label → Type 0
AreWords words [] = Unit {0}
AreWords words (l ∷ ls) = (slice_index words l.word ≡ l.label) × AreWords words ls

abbrev pub AtMost : ℕ → List ℕ → Type 0
AtMost most [] = Unit {0}
AtMost most (n ∷ ns) = (n ≤ most) × AtMost most ns

-- a reader's snapshot: an even version that was, with labels of items whose words are below the end; as long as it is the
-- version, each label is its word
pub record IsSnapshot (words : List ℕ) (end : ℕ) (snapshot : Snapshot) : Type 0 where
  pub even : snapshot.version % 2 ≡ 0
  pub most : snapshot.version ≤ slice_index words 0
  pub known : AreLabelWords end snapshot.labels
  pub same : snapshot.version ≡ slice_index words 0 → AreWords words snapshot.labels

-- what a reader knows: its log begins the log, those that it took in begin its own, its snapshot is of items that it
-- knows, and no version that it loaded is above the version
pub record IsReader (words : List ℕ) (log : List Insert) (v : View) : Type 0 where
  pub reads : v.writes ≡ false
  pub starts : StartsWith log v.log
  pub olds : AllStart v.log v.olds
  pub snapshot : IsSnapshot words (2 * length v.log + 4) v.snapshot
  pub loads : AtMost (slice_index words 0) v.loaded

-- what the writer knows: all words and the whole log
pub record IsWriter (words : List ℕ) (log : List Insert) (v : View) : Type 0 where
  pub writes : v.writes ≡ true
  pub words_are : v.words ≡ words
  pub log_is : v.log ≡ log

-- there is one log, which the words publish; the first seat is the writer's, and each other a reader's
pub record OrderRule (s : State (Unit {0}) View) : Type 0 where
  pub log : List Insert
  pub published : IsPublished s.words log
  pub writer : View
  pub writer_first : get_elem? s.views 0 ≡ some writer
  pub knows_all : IsWriter s.words log writer
  pub readers : (seat : ℕ) (v : View) → get_elem? s.views seat ≡ some v → seat ≢ 0 → IsReader s.words log v

-- a writer's step that keeps the rule: the log only grows, the version does not fall, and where it stays and is even, the
-- labels of the items stay
pub record MayWrite (words : List ℕ) (log : List Insert) (after : List ℕ) (longer : List Insert) : Type 0 where
  pub published : IsPublished after longer
  pub starts : StartsWith longer log
  pub version : slice_index words 0 ≤ slice_index after 0
  pub steady : slice_index words 0 ≡ slice_index after 0 → slice_index words 0 % 2 ≡ 0
      → (w : ℕ) → 2 ≤ w → w < 2 * length log + 4 → slice_index after w ≡ slice_index words w
