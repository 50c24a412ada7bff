-- The tasks that have not ended as a ring of links. Place 0 stands before the first and behind the last; the place of task t is t + 1.
use Rattle.std.specs.Prelude.{◌≡◌, ℕ, ◌+◌, ◌<◌, List, [], ◌∷◌, length, slice_get, Some, vec_len, vec_capacity}
use Rattle.fut_base.specs.declared.event.Action.{Action}
use Rattle.fut_base.specs.declared.event.Action.TheVariants.{Spawns, Creates}
use Rattle.fut_base.specs.Dag.{Among}
use Rattle.run_laws.specs.Ready.{ready_by}
use Rattle.run_replay.specs.declared.ready.Ring.{Ring}

-- of each place the next one, and the one before
pub record Links : Type 0 where
  pub nexts : List ℕ
  pub prevs : List ℕ

-- what a ring shows
abbrev pub links_of : Ring → Links
links_of r = record { nexts = r.nexts.items; prevs = r.prevs.items }

-- a place leads on to another one, and that one back
pub record AreLinked (l : Links) (from to : ℕ) : Type 0 where
  pub on : slice_get l.nexts from ≡ Some to
  pub back : slice_get l.prevs to ≡ Some from

-- the links lead from a place along those of the tasks, and then to another place
abbrev pub LeadAlong : Links → ℕ → List ℕ → ℕ → Type 0
LeadAlong l from [] to = AreLinked l from to
LeadAlong l from (t ∷ ts) to = AreLinked l from (t + 1) × LeadAlong l (t + 1) ts to

-- links with a place for each of so many tasks, which lead round along these tasks in this order
pub record IsRing (tasks : ℕ) (order : List ℕ) (l : Links) : Type 0 where
  pub nexts_count : length l.nexts ≡ tasks + 1
  pub prevs_count : length l.prevs ≡ tasks + 1
  pub leads : LeadAlong l 0 order 0

-- a task that stands in such a ring
pub record StandsIn (tasks : ℕ) (order : List ℕ) (l : Links) (t : ℕ) : Type 0 where
  pub ring : IsRing tasks order l
  pub there : Among t order

-- the child of an action has the next number
abbrev pub IsNextChild : ℕ → Action → Type 0
IsNextChild tasks (Spawns _ child _ _ _) = child ≡ tasks
IsNextChild tasks (Creates _ child _ _ _) = child ≡ tasks
IsNextChild tasks _ = Unit {0}

-- how many tasks an action begins
abbrev pub tasks_by : Action → ℕ
tasks_by (Spawns _ _ _ _ _) = 1
tasks_by (Creates _ _ _ _ _) = 1
tasks_by _ = 0

-- a ring in which a task stands has become that of the order after its action
abbrev pub Reorders : Links → Links → ℕ → Action → Type 0
Reorders old new t a =
    (tasks : ℕ) (order : List ℕ) → StandsIn tasks order old t → IsNextChild tasks a → IsRing (tasks + tasks_by a) (ready_by t a order) new

-- there is a place for one more task
pub record HasPlace (r : Ring) : Type 0 where
  pub nexts : vec_len r.nexts < vec_capacity r.nexts
  pub prevs : vec_len r.prevs < vec_capacity r.prevs
