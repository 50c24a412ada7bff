use Rattle.std.proofs.Common.{sym, subst, ℕ}
use Rattle.fut_base.specs.declared.record.Entry.{Entry}
use Rattle.fut_base.specs.Dag.{Among}
use Rattle.trace_merge.proofs.Trying.{both_there}
use Rattle.trace_merge.proofs.tests.entries_come_by_their_tickets.Goals as goal

pub merge-requires-clause-all : goal.merge-requires-clause-all
merge-requires-clause-all g c k less =
    subst (λ l. (x : Entry) × Among {X = ℕ × Entry} (k, x) l) (sym c.in_ok-traces.ensures) (both_there k less)
