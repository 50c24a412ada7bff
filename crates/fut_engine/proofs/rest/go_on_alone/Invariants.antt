use Rattle.std.proofs.Common.{◌≡◌, ◌+◌, length}
use Rattle.fut_base.specs.Events.{events_of}
use Rattle.fut_engine.specs.Going.{AlwaysGoes}
use Rattle.fut_engine.proofs.rest.go_on_alone.Given as goal

abbrev pub invariant-loop-turn : goal.invariant-loop-turn
invariant-loop-turn l = record {
  count : length (events_of l.history) ≡ length (events_of l.initial.history) + l._turn;
  goes : AlwaysGoes l.code l.limits (events_of l.initial.history) (events_of l.history) l.run;
}
