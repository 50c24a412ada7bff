use Rattle.std.proofs.Common.{◌<◌, All, arith, subst}
use Rattle.std.proofs.lemmas.List.{take_all}
use Rattle.race_origins.specs.declared.edges.Edge.{Edge}
use Rattle.race_origins.proofs.Marking.{room_more}
use Rattle.race_origins.proofs.marks.room.Goals as goal

pub loop-edge-preserved : goal.loop-edge-preserved
loop-edge-preserved c =
    let none : Edge = record { from = 0; to = 0 } in
    record {
      strand = omega (arith, c.max-room.ensures, c.loop-edge.invariant.strand);
      edges = room_more c.args.edges.now c.loop-edge.edge-index c.loop-edge.room c.max-room.result none (omega arith) (omega (arith, c.max-room.ensures))
          (omega (arith, c.max-room.ensures)) c.loop-edge.invariant.edges;
    }

pub returns-clause-edges : goal.returns-clause-edges
returns-clause-edges c =
    subst (λ es. All (λ (e : Edge). e.from < c.loop-edge.room) es) (take_all c.loop-edge.edge-index c.args.edges.now (omega arith))
    c.loop-edge.invariant.edges
