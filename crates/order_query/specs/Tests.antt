-- What the tests' threads begin with.
use Rattle.std.specs.Prelude.{◌≡◌, ℕ, ◌<◌, ◌≤◌, length}
use Rattle.atomic_table.specs.Seated.{TableId}
use Rattle.order_query.specs.Logs.{count_of}
use Rattle.order_query.specs.Reading.{Reading, Writing}

-- the writer belongs to these orders and has room for so many inserts after item 0
pub record HasRoom (home : TableId) (w : Writing) (count : ℕ) : Type 0 where
  pub own : w.home ≡ home
  pub english : 0 < length w.lists.english.order
  pub hebrew : 0 < length w.lists.hebrew.order
  pub room : count ≤ w.lists.english.room

-- the reader belongs to these orders and knows items 1 and 2
pub record MayRead (home : TableId) (r : Reading) : Type 0 where
  pub own : r.home ≡ home
  pub known : 2 < count_of r.log
