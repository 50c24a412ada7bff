use Rattle.std.proofs.Common.{◌<◌, All, take}
use Rattle.race_origins.specs.declared.edges.Edge.{Edge}
use Rattle.race_origins.proofs.marks.room.Given as goal

abbrev pub invariant-loop-edge : goal.invariant-loop-edge
invariant-loop-edge l = record {
  strand : l.strand < l.room;
  edges : All (λ (e : Edge). e.from < l.room) (take l.edge-index l.edges);
}
