use Rattle.std.proofs.Common.{◌≡◌, length, map, take, replicate, max}
use Rattle.task_frame.specs.declared.names.Name.{Name}
use Rattle.task_frame.specs.Frames.{AreLaid, slots_of, rooms_of, zero_slot}
use Rattle.task_frame.proofs.frame.Frame.make.Given as goal

abbrev pub invariant-loop-name : goal.invariant-loop-name
invariant-loop-name l =
    record {
      laid : AreLaid 0 l.places.items (length l.values.items);
      slots : slots_of l.values.items l.places.items ≡ replicate l.name-index zero_slot;
      rooms : rooms_of l.places.items ≡ map (λ (n : Name). max 1 n.room) (take l.name-index l.names);
    }
