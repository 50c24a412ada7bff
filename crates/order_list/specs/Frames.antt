-- What stays of a judge that code asks, and of a placer by which it puts items into two lists.
use Rattle.std.specs.Prelude.{◌≡◌, ℕ, ◌+◌, List, ◌++◌, length}
use Rattle.order_list.specs.declared.judge.Judge as judge
use Rattle.order_list.specs.declared.placer.Placer as placer
use Rattle.order_list.specs.Ordered.{put_after}

-- a judge is as before, but for how often it was asked, and for what it loaded, which was added at the end
pub record IsAsBefore {S H : Type 0} (g : judge.Ghosts S H) (old new : S) : Type 0 where
  pub known : g.known new ≡ g.known old
  pub english : g.english new ≡ g.english old
  pub hebrew : g.hebrew new ≡ g.hebrew old
  pub may_move : g.may_move new ≡ g.may_move old
  pub home : g.home new ≡ g.home old
  pub loads : (more : List ℕ) × (g.loaded new ≡ g.loaded old ++ more)

-- a placer put these items right after x in the English list and those right after y in the Hebrew one, and is as before
-- but for the room that they took
pub record HasPut {S H : Type 0} (g : placer.Ghosts S H) (old new : S) (x : ℕ) (items : List ℕ) (y : ℕ) (others : List ℕ) : Type 0 where
  pub english : g.english new ≡ put_after x items (g.english old)
  pub hebrew : g.hebrew new ≡ put_after y others (g.hebrew old)
  pub spare : g.spare new + length items ≡ g.spare old
  pub home : g.home new ≡ g.home old
