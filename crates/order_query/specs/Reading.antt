-- What contracts see of a reader and of the writer.
use Rattle.std.specs.Prelude.{◌≡◌, ◌≢◌, ℕ, ◌+◌, ◌*◌, ◌%◌, ◌^◌, ◌≤◌, ◌<◌, true, false, List, [], ◌∷◌, ◌++◌, length, slice_index}
use Rattle.atomic_table.specs.Table.{Me}
use Rattle.atomic_table.specs.Seated.{TableId}
use Rattle.order_list.specs.declared.judge.Sides.{Sides}
use Rattle.order_list.specs.declared.place.Place.TheVariants.{Relabel}
use Rattle.order_list.specs.Ordered.{Ordered}
use Rattle.order_list.specs.Labels.{place_of, HasInserted}
use Rattle.order_list.specs.Sides.{Lists, AreSides, AreKept}
use Rattle.order_query.specs.declared.view.Insert.{Insert}
use Rattle.order_query.specs.declared.view.View.{View}
use Rattle.order_query.specs.Logs.{IsLog, StartsWith, english_of, hebrew_of, english_word, hebrew_word}

-- a reader: the inserts that it knows, the versions that it has loaded, and the orders to which it belongs
pub record Reading : Type 0 where
  pub log : List Insert
  pub loaded : List ℕ
  pub home : TableId

-- a reader is as before, but for what it loaded, which was added at the end
pub record HasOnlyLoaded (old new : Reading) : Type 0 where
  pub loads : (more : List ℕ) × (new.loaded ≡ old.loaded ++ more)
  pub log : new.log ≡ old.log
  pub home : new.home ≡ old.home

-- these sides tell how x and y stand in both lists of every log that begins with this one: they hold from the moment on
-- when the log was that long
abbrev pub AreSidesFrom : Sides → ℕ → ℕ → List Insert → Type 0
AreSidesFrom sides x y log = (longer : List Insert) → StartsWith longer log → AreSides sides x y (english_of longer) (hebrew_of longer)

-- what a reader's seat keeps
pub record IsReading (home : TableId) (me : Me (Unit {0}) View) : Type 0 where
  pub alone : me.1 ≡ []
  pub reads : me.0.writes ≡ false
  pub fits : 2 * length me.0.log + 4 ≤ home.words
  pub earlier : IsLog me.0.log

-- the writer: its two lists, the inserts that made them, the version, and the orders to which it belongs
pub record Writing : Type 0 where
  pub lists : Lists
  pub log : List Insert
  pub version : ℕ
  pub home : TableId

-- an item was put right after x in the English list and right after y in the Hebrew one, and published; the version rises by 2
-- at most, and stays where no label was made anew
pub record HasPublished (old : Writing) (x y item : ℕ) (new : Writing) : Type 0 where
  pub english : HasInserted old.lists.english x item new.lists.english
  pub hebrew : HasInserted old.lists.hebrew y item new.lists.hebrew
  pub log : new.log ≡ old.log ++ record { english = x; hebrew = y } ∷ []
  pub version : new.version ≤ old.version + 2
  pub calm : place_of old.lists.english x ≢ Relabel → place_of old.lists.hebrew y ≢ Relabel → new.version ≡ old.version
  pub home : new.home ≡ old.home
  pub was_kept : AreKept old.lists
  pub kept : AreKept new.lists

-- the words have the labels of a list
pub record Shows (words : List ℕ) (word : ℕ → ℕ) (order : List ℕ) (l : Ordered) : Type 0 where
  pub order_is : l.order ≡ order
  pub labels_are : (x : ℕ) → x < length l.order → slice_index words (word x) ≡ slice_index l.labels x

-- the words have the labels of both lists, which are those of the log
pub record ShowBoth (words : List ℕ) (log : List Insert) (lists : Lists) : Type 0 where
  pub english : Shows words english_word (english_of log) lists.english
  pub hebrew : Shows words hebrew_word (hebrew_of log) lists.hebrew

-- what the writer keeps between two inserts: the version is even, at least 2 below twice the count, and the words have the
-- labels of its lists
pub record IsWriting (lists : Lists) (home : TableId) (me : Me (Unit {0}) View) (version : ℕ) : Type 0 where
  pub alone : me.1 ≡ []
  pub writes : me.0.writes ≡ true
  pub version_is : version ≡ slice_index me.0.words 0
  pub even : version % 2 ≡ 0
  pub calm : version ≤ 2 * length me.0.log
  pub shown : ShowBoth me.0.words me.0.log lists
  pub size : length me.0.words ≡ home.words
  pub room : 2 * (lists.english.room + length me.0.log) + 4 ≡ home.words
  pub few : lists.english.room + length me.0.log < 2 ^ 32
  pub earlier : IsLog me.0.log
