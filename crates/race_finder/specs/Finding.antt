-- What a finder knows of a history.
use Rattle.std.specs.Prelude.{◌≡◌, ℕ, ◌^◌, ◌<◌, ◌≤◌, Bool, true, false, List, [], ◌∷◌, ◌++◌, length, reverse, slice_get, Option, Some, None}
use Rattle.fut_base.specs.declared.record.Value.{Value}
use Rattle.fut_base.specs.declared.event.Event.{Event}
use Rattle.fut_base.specs.declared.event.Action.TheVariants.{Spawns, Creates, Syncs, Gets, Ends}
use Rattle.fut_base.specs.Events.{structure_of}
use Rattle.fut_base.specs.Dag.{last_of, block_of}
use Rattle.fut_base.specs.Sound.{current, next_task}
use Rattle.strand_tree.specs.Placing.{IsStrandOf, AreOrders}
use Rattle.reach_table.specs.Telling.{HasTable}
use Rattle.access_shards.specs.Kept.{Kind, reading, writing}
use Rattle.access_shards.specs.Logged.{Logged, IsLogOf}
use Rattle.access_shards.specs.Histories.{kind_of, touches_of, IsInStep}
use Rattle.race_finder.specs.declared.track.Track.{Track}
use Rattle.race_finder.specs.declared.finder.Finder.{Finder}
use Rattle.race_finder.specs.declared.forks.Fork.{Fork}
use Rattle.race_finder.specs.declared.forks.Fork.TheVariants as fork

abbrev pub last_if : Bool → ℕ → Option ℕ
last_if true v = Some v
last_if false v = None

-- what is remembered of task t after some structural events
pub record IsTrackOf (s : List Event) (t : ℕ) (d : Track) : Type 0 where
  pub stands : current (reverse s) t ≡ Some d.at.number
  pub strand : IsStrandOf s d.at
  pub table : HasTable s d.at.number d.reach
  pub block_is : d.block.items ≡ block_of (reverse s) t
  pub last_is : last_of (reverse s) t ≡ last_if d.ended d.at.number

-- the tasks of some structural events, by number
pub record AreTracksOf (s : List Event) (tracks : List Track) : Type 0 where
  pub count : length tracks ≡ next_task (reverse s)
  pub each : (t : ℕ) (d : Track) → slice_get tracks t ≡ Some d → IsTrackOf s t d

-- the logs of each cell's accesses in a history, by the cell's number; the cells with greater numbers have none
pub record AreLogsOf (h : List Event) (logs : List Logged) : Type 0 where
  pub each : (c : ℕ) (l : Logged) → slice_get logs c ≡ Some l → IsLogOf (structure_of h) (touches_of c h) l
  pub rest : (c : ℕ) → length logs ≤ c → touches_of c h ≡ []

-- both orders of a history's strands, its tasks, what is kept of its accesses, and its length
pub record Knows (h : List Event) (english hebrew : List ℕ) (tracks : List Track) (logs : List Logged) (count : ℕ) : Type 0 where
  pub steps : IsInStep h
  pub orders : AreOrders (structure_of h) english hebrew
  pub tasks : AreTracksOf (structure_of h) tracks
  pub cells : AreLogsOf h logs
  pub few : length logs ≤ 2 ^ 32
  pub length_is : count ≡ length h

-- a finder knows a history
abbrev pub IsFinderOf : List Event → Finder → Type 0
IsFinderOf h f = Knows h f.places.english f.places.hebrew f.tracks.items f.logs.items f.count

-- of some history that the finder knows, which is not too long, and some event of this sort that may come next
abbrev pub MayTake : (Event → Type 0) → Finder → Type 0
MayTake P f = (h : List Event) × (e : Event) × P e × IsFinderOf h f × IsInStep (h ++ e ∷ []) × (length h < 2 ^ 29)

-- where such an event came next, the finder knows the history with it
abbrev pub Takes : (Event → Type 0) → Finder → Finder → Type 0
Takes P old new = (h : List Event) (e : Event) → P e → IsFinderOf h old → IsInStep (h ++ e ∷ []) → IsFinderOf (h ++ e ∷ []) new

-- the finder still knows what it knew
abbrev pub Stays : Finder → Finder → Type 0
Stays old new = (h : List Event) → IsFinderOf h old → IsFinderOf h new

abbrev pub kind_by : Bool → Kind
kind_by true = writing
kind_by false = reading

-- a task accesses a cell
pub record IsAccessBy (task cell : ℕ) (writes : Bool) (e : Event) : Type 0 where
  pub task_is : e.task ≡ task
  pub kind_is : kind_of cell e.action ≡ Some (kind_by writes)

-- a task ends
pub record IsEndBy (task : ℕ) (e : Event) : Type 0 where
  pub task_is : e.task ≡ task
  pub acts : (value : Value) × (e.action ≡ Ends value)

-- a task spawns this child
pub record IsSpawnBy (task child : ℕ) (e : Event) : Type 0 where
  pub task_is : e.task ≡ task
  pub acts : (code : ℕ) × (kid : ℕ) × (cont : ℕ) × (args : List Value) × (e.action ≡ Spawns code child kid cont args)

-- a task creates this future
pub record IsCreateBy (task child : ℕ) (e : Event) : Type 0 where
  pub task_is : e.task ≡ task
  pub acts : (code : ℕ) × (kid : ℕ) × (cont : ℕ) × (args : List Value) × (e.action ≡ Creates code child kid cont args)

-- a task forks so: it spawns this child, or creates this future
abbrev pub IsForkBy : Fork → ℕ → ℕ → Event → Type 0
IsForkBy fork.Spawn task child e = IsSpawnBy task child e
IsForkBy fork.Create task child e = IsCreateBy task child e

-- a task goes on after it waited for a future
pub record IsGetBy (task future : ℕ) (e : Event) : Type 0 where
  pub task_is : e.task ≡ task
  pub acts : (value : Value) × (strand : ℕ) × (e.action ≡ Gets future value strand)

-- a task goes on after it waited for the children of its block
pub record IsSyncBy (task : ℕ) (e : Event) : Type 0 where
  pub task_is : e.task ≡ task
  pub acts : (strand : ℕ) × (e.action ≡ Syncs strand)
