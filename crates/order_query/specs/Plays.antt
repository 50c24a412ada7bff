-- What each kind of step changes and tells.
use Rattle.std.specs.Prelude.{◌≡◌, ℕ, ◌%◌, ◌^◌, ◌==◌, nat_lt, true, false, if◌then◌else◌, List, [], ◌∷◌, ◌++◌}
use Rattle.std.specs.Prelude.{length, slice_set, replicate}
use Rattle.atomic_table.specs.Table.{Me, Step}
use Rattle.order_query.specs.declared.view.Insert.{Insert}
use Rattle.order_query.specs.declared.view.Snapshot.{Snapshot}
use Rattle.order_query.specs.declared.view.View.{View}
use Rattle.order_query.specs.Logs.{StartsWith, AreRising}
use Rattle.order_query.specs.Rule.{AllStart, AreWords}

abbrev pub no_insert : Insert
no_insert = record { english = 0; hebrew = 0 }

abbrev pub no_snapshot : Snapshot
no_snapshot = record { version = 0; labels = [] }

-- a reader that knows the items of a log
abbrev pub reader_of : List Insert → View
reader_of log = record { writes = false; log = log; words = []; olds = []; snapshot = no_snapshot; loaded = [] }

-- the words of item 0 alone, with so many words of labels after it
abbrev pub first_words : ℕ → List ℕ
first_words more = 0 ∷ 1 ∷ 2 ^ 61 ∷ 2 ^ 61 ∷ replicate more 0

abbrev pub first_writer : ℕ → View
first_writer more = record { writes = true; log = []; words = first_words more; olds = []; snapshot = no_snapshot; loaded = [] }

-- a version was loaded: where it is even, a snapshot begins anew with it, or is confirmed by it
abbrev pub snapshot_after : Snapshot → ℕ → Snapshot
snapshot_after snapshot n = if n == snapshot.version then snapshot else (if n % 2 == 0 then record { version = n; labels = [] } else snapshot)

abbrev pub after_version : View → ℕ → View
after_version v n = record v { snapshot = snapshot_after v.snapshot n; loaded = v.loaded ++ n ∷ [] }

-- at one moment each label of the snapshot was its word, and labels rose along both lists of a log that begins with the
-- reader's
pub record IsMoment (v : View) : Type 0 where
  pub words : List ℕ
  pub log : List Insert
  pub starts : StartsWith log v.log
  pub labels : AreWords words v.snapshot.labels
  pub rises : AreRising words log

abbrev pub LoadedVersion : Step (Unit {0}) → Me (Unit {0}) View → ℕ → Me (Unit {0}) View → Type 0
LoadedVersion s v n w = (w ≡ (after_version v.0 n, v.1)) × (n ≡ v.0.snapshot.version → IsMoment v.0)

-- a label was loaded
abbrev pub after_label : View → ℕ → ℕ → View
after_label v word n = record v { snapshot = record { version = v.snapshot.version; labels = record { word = word; label = n } ∷ v.snapshot.labels } }

abbrev pub LoadedLabel : Step (Unit {0}) → Me (Unit {0}) View → ℕ → Me (Unit {0}) View → Type 0
LoadedLabel s v n w = (w ≡ (after_label v.0 s.word n, v.1)) × AllStart v.0.log v.0.olds

-- the writer stored a word
abbrev pub after_store : View → ℕ → ℕ → List Insert → View
after_store v word n log = record v { words = slice_set v.words word n; log = log }

abbrev pub Stored : Step (Unit {0}) → Me (Unit {0}) View → ℕ → Me (Unit {0}) View → Type 0
Stored s v n w = w ≡ (after_store v.0 s.word s.first v.0.log, v.1)

-- the writer stored the count, and so published a insert
abbrev pub Counted : Insert → Step (Unit {0}) → Me (Unit {0}) View → ℕ → Me (Unit {0}) View → Type 0
Counted insert s v n w = w ≡ (after_store v.0 s.word s.first (v.0.log ++ insert ∷ []), v.1)

-- of two logs the longer
abbrev pub longer : List Insert → List Insert → List Insert
longer a b = if nat_lt (length a) (length b) then b else a

-- a reader that took in what another knew
abbrev pub joined : View → View → View
joined v w = record { writes = false; log = longer v.log w.log; words = []; olds = v.log ∷ w.log ∷ []; snapshot = no_snapshot; loaded = v.loaded }
