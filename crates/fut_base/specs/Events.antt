-- The entries of a run as plain data: numbers without a greatest one, and lists without their room.
use Rattle.std.specs.Prelude.{List, map, Bool, true, false, filter}
use Rattle.fut_base.specs.Listed.{Listed}
pub use Rattle.fut_base.specs.declared.event.Event.{Event}
pub use Rattle.fut_base.specs.declared.event.Action.{Action}
pub use Rattle.fut_base.specs.declared.event.Action.TheVariants.{Reads, Writes, Spawns, Creates, Syncs, Gets, Ends}
use Rattle.fut_base.specs.declared.record.Entry.{Entry}
use Rattle.fut_base.specs.declared.record.Act.{Act}
use Rattle.fut_base.specs.declared.record.Act.TheVariants.{Read, Write, Spawn, Create, Sync, Get, End}

-- what a task did, without the room of its argument list
abbrev pub action_of : Act → Action
action_of (Read cell value) = Reads cell value
action_of (Write cell value) = Writes cell value
action_of (Spawn code child kid cont args) = Spawns code child kid cont args.items
action_of (Create code child kid cont args) = Creates code child kid cont args.items
action_of (Sync strand) = Syncs strand
action_of (Get future value strand) = Gets future value strand
action_of (End value) = Ends value

-- an entry without that room
abbrev pub event_of : Entry → Event
event_of e = record { task = e.task; strand = e.strand; action = action_of e.act }

-- the events of a history, in order
abbrev pub events_of : Listed Entry → List Event
events_of h = map event_of h.items

-- an action that is no access of a cell
abbrev pub structural : Action → Bool
structural (Reads _ _) = false
structural (Writes _ _) = false
structural _ = true

-- the structural events, in order
abbrev pub structure_of : List Event → List Event
structure_of h = filter (λ e. structural e.action) h
