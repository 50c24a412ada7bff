-- The source and the sink in memory, as contracts see them.
use Rattle.std.specs.Prelude.{◌≡◌, ℕ, ◌+◌, ◌-◌, ◌^◌, min, Bool, true, false, List, [], ◌++◌, drop, take, length, Contains, ◌⊎◌}
use Rattle.fut_base.specs.declared.ports.Took.{Took}
use Rattle.fut_base.specs.declared.ports.Took.TheVariants as took
use Rattle.fut_base.specs.declared.ports.Put.{Put}
use Rattle.fut_base.specs.declared.ports.Put.TheVariants as put

-- what a source in memory has left, how much it gives at most a call, how many calls were made and which fail
pub record SourceNow : Type 0 where
  pub left : List ℕ
  pub most : ℕ
  pub calls : ℕ
  pub fails : List ℕ
  pub faults : ℕ
  pub ended : Bool

-- what a sink in memory holds, for how much more it has room, how much it takes at most a call, how many calls were
-- made and which fail
pub record SinkNow : Type 0 where
  pub bytes : List ℕ
  pub room : ℕ
  pub most : ℕ
  pub calls : ℕ
  pub fails : List ℕ
  pub faults : ℕ

-- a source fails exactly at its chosen calls, and else gives as much as it can
abbrev pub TakesOf : SourceNow → ℕ → Took → Type 0
TakesOf s len (took.Bytes n) = (Contains s.fails s.calls → ⊥) × (n ≡ min (min s.most len) (length s.left))
TakesOf s len took.End = (Contains s.fails s.calls → ⊥) × (s.left ≡ [])
TakesOf s len took.Failed = Contains s.fails s.calls

-- a sink fails exactly at its chosen calls and where it has no room, and else takes as much as it can
abbrev pub PutsOf : SinkNow → ℕ → Put → Type 0
PutsOf s len (put.Took n) = (Contains s.fails s.calls → ⊥) × (n ≡ min (min s.most len) s.room)
PutsOf s len put.Failed = (s.room ≡ 0) ⊎ Contains s.fails s.calls

-- a count of 64 bits after one more; at its greatest it stands
abbrev pub one_more : ℕ → ℕ
one_more n = min (n + 1) (2 ^ 64 - 1)

-- a source after the call that answered so
abbrev pub after_take : SourceNow → Took → SourceNow
after_take s (took.Bytes n) =
    record { left = drop n s.left; most = s.most; calls = one_more s.calls; fails = s.fails; faults = s.faults; ended = false }
after_take s took.End = record { left = s.left; most = s.most; calls = one_more s.calls; fails = s.fails; faults = s.faults; ended = true }
after_take s took.Failed =
    record { left = s.left; most = s.most; calls = one_more s.calls; fails = s.fails; faults = one_more s.faults; ended = false }

-- a sink after the call that was given this piece and answered so
abbrev pub after_put : SinkNow → List ℕ → Put → SinkNow
after_put s piece (put.Took n) =
    record { bytes = s.bytes ++ take n piece; room = s.room - n; most = s.most; calls = one_more s.calls; fails = s.fails; faults = s.faults }
after_put s piece put.Failed =
    record { bytes = s.bytes; room = s.room; most = s.most; calls = one_more s.calls; fails = s.fails; faults = one_more s.faults }
