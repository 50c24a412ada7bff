use Rattle.run_replay.specs.Replays.{IsSomeReplay}
use Rattle.fut_engine.proofs.tests.make_all.Given as goal

abbrev pub invariant-loop-entry : goal.invariant-loop-entry
invariant-loop-entry l = IsSomeReplay l.code l.run
