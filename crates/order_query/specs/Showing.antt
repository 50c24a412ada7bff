-- How the writer puts the labels of its lists into the words.
use Rattle.std.specs.Prelude.{◌≡◌, ◌≢◌, ℕ, ◌+◌, ◌*◌, ◌%◌, ◌^◌, ◌<◌, ◌≤◌, true, List, [], ◌∷◌}
use Rattle.std.specs.Prelude.{length, slice_index, slice_set, unwrap_or}
use Rattle.atomic_table.specs.Table.{Me}
use Rattle.atomic_table.specs.Seated.{TableId}
use Rattle.order_list.specs.declared.place.Window.{Window}
use Rattle.order_list.specs.declared.place.Windows.{Windows}
use Rattle.order_list.specs.Ordered.{head_of}
use Rattle.order_list.specs.Labels.{IsSegment, HasSpace, HasMadeSpace, HasInserted}
use Rattle.order_list.specs.Sides.{Lists, AreKept}
use Rattle.order_query.specs.declared.view.Insert.{Insert}
use Rattle.order_query.specs.declared.view.View.{View}
use Rattle.order_query.specs.Reading.{ShowBoth}

-- the word of an item's label on a side: 2 is the English one, and 3 the Hebrew one
abbrev pub word_of : ℕ → ℕ → ℕ
word_of side x = 2 * x + side

abbrev pub with_words : View → List ℕ → View
with_words v words = record v { words = words }

-- the words after these items' labels were put there
abbrev pub set_labels : List ℕ → ℕ → List ℕ → List ℕ → List ℕ
set_labels words side labels [] = words
set_labels words side labels (y ∷ ys) = set_labels (slice_set words (word_of side y) (slice_index labels y)) side labels ys

-- these are the items of a window, in order
pub record AreItemsOf (order : List ℕ) (w : Window) (items : List ℕ) : Type 0 where
  pub segment : IsSegment order items
  pub first : w.first.0 ≡ unwrap_or (head_of items) 0
  pub count : w.items ≡ length items

-- only words of labels on one side changed
pub record ChangesSide (words : List ℕ) (side : ℕ) (after : List ℕ) : Type 0 where
  pub size : length after ≡ length words
  pub others : (i : ℕ) → ((y : ℕ) → i ≢ word_of side y) → slice_index after i ≡ slice_index words i

-- the writer has made space in its lists, and the words still have the labels from before
pub record MayShow (home : TableId) (me : Me (Unit {0}) View) (lists : Lists) (version : ℕ) (w : Windows) (old : Lists) (x y : ℕ) : Type 0 where
  pub alone : me.1 ≡ []
  pub writes : me.0.writes ≡ true
  pub size : length me.0.words ≡ home.words
  pub fits : 2 * length lists.english.order + 2 ≤ home.words
  pub version_is : version ≡ slice_index me.0.words 0
  pub even : version % 2 ≡ 0
  pub calm : version ≤ 2 * length me.0.log
  pub small : length me.0.log < 2 ^ 32
  pub kept : AreKept lists
  pub english : HasMadeSpace old.english x w.english lists.english
  pub hebrew : HasMadeSpace old.hebrew y w.hebrew lists.hebrew
  pub shown : ShowBoth me.0.words me.0.log old

-- an item was put into the lists, and the words have the labels of all others
pub record MayCount (home : TableId) (me : Me (Unit {0}) View) (lists : Lists) (item : ℕ) (insert : Insert) (old : Lists) : Type 0 where
  pub alone : me.1 ≡ []
  pub writes : me.0.writes ≡ true
  pub size : length me.0.words ≡ home.words
  pub fits : 2 * item + 4 ≤ home.words
  pub item_is : item ≡ length me.0.log + 1
  pub kept_old : AreKept old
  pub kept : AreKept lists
  pub in_english : insert.english < length old.english.order
  pub in_hebrew : insert.hebrew < length old.hebrew.order
  pub space_english : HasSpace old.english insert.english
  pub space_hebrew : HasSpace old.hebrew insert.hebrew
  pub english : HasInserted old.english insert.english item lists.english
  pub hebrew : HasInserted old.hebrew insert.hebrew item lists.hebrew
  pub shown : ShowBoth me.0.words me.0.log old
