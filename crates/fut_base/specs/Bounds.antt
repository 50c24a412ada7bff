-- The numbers of a history within the bounds of their types.
use Rattle.std.specs.Prelude.{ℕ, ◌^◌, ◌<◌, ℤ, pos, negsuc, List, [], ◌∷◌, length}
use Rattle.fut_base.specs.declared.record.Value.{Value}
use Rattle.fut_base.specs.declared.record.Value.TheVariants.{Int, Fut}
use Rattle.fut_base.specs.declared.record.Finish.{Finish}
use Rattle.fut_base.specs.declared.record.Finish.TheVariants as finish
use Rattle.fut_base.specs.Events.{Event, Action, Reads, Writes, Spawns, Creates, Syncs, Gets, Ends}

-- a number without a sign is at most 4,294,967,295
abbrev pub IsNumber : ℕ → Type 0
IsNumber n = n < 2 ^ 32

-- a number with a sign has 64 bits
abbrev pub IsSigned : ℤ → Type 0
IsSigned (pos n) = n < 2 ^ 63
IsSigned (negsuc n) = n < 2 ^ 63

-- a signed number, or a future's number, is within its bounds
abbrev pub IsValue : Value → Type 0
IsValue (Int z) = IsSigned z
IsValue (Fut f) = IsNumber f

-- so are all values of a list
abbrev pub AreValues : List Value → Type 0
AreValues [] = Unit {0}
AreValues (v ∷ vs) = IsValue v × AreValues vs

-- the numbers of a call are within their bounds, and the number of its arguments is one of some
abbrev pub IsCallWith : (ℕ → Type 0) → ℕ → ℕ → ℕ → ℕ → List Value → Type 0
IsCallWith Few code child kid cont args = IsNumber code × IsNumber child × IsNumber kid × IsNumber cont × Few (length args) × AreValues args

-- so are the numbers of an action
abbrev pub IsActionWith : (ℕ → Type 0) → Action → Type 0
IsActionWith Few (Reads cell value) = IsNumber cell × IsSigned value
IsActionWith Few (Writes cell value) = IsNumber cell × IsSigned value
IsActionWith Few (Spawns code child kid cont args) = IsCallWith Few code child kid cont args
IsActionWith Few (Creates code child kid cont args) = IsCallWith Few code child kid cont args
IsActionWith Few (Syncs strand) = IsNumber strand
IsActionWith Few (Gets future value strand) = IsNumber future × IsValue value × IsNumber strand
IsActionWith Few (Ends value) = IsValue value

-- so are the numbers of an event
abbrev pub IsEventWith : (ℕ → Type 0) → Event → Type 0
IsEventWith Few e = IsNumber e.task × IsNumber e.strand × IsActionWith Few e.action

-- so are the numbers of all events of a list
abbrev pub AreEventsWith : (ℕ → Type 0) → List Event → Type 0
AreEventsWith Few [] = Unit {0}
AreEventsWith Few (e ∷ es) = IsEventWith Few e × AreEventsWith Few es

-- any count of arguments
abbrev pub IsAny : ℕ → Type 0
IsAny count = Unit {0}

-- the numbers of each event are within their bounds, however many arguments its calls have
abbrev pub AreNumbered : List Event → Type 0
AreNumbered es = AreEventsWith IsAny es

-- the number of a finish is within its bounds
abbrev pub IsFinish : Finish → Type 0
IsFinish finish.Whole = Unit {0}
IsFinish (finish.Events bound) = IsNumber bound
IsFinish (finish.Local task) = IsNumber task
IsFinish (finish.Futures task) = IsNumber task
