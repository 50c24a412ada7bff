use Rattle.std.proofs.Common.{◌≡◌, ◌-◌, length, take}
use Rattle.fut_tokens.specs.Lexed.{place_after}
use Rattle.fut_explain.proofs.Placing.{Goes}
use Rattle.fut_explain.proofs.lines.bytes_before.Given as goal

abbrev pub invariant-loop-at : goal.invariant-loop-at
invariant-loop-at l = record {
  here : l.here ≡ place_after (take l.at l.text);
  goes : Goes l.text l.place l.at;
}

abbrev pub decreases-loop-at : goal.decreases-loop-at
decreases-loop-at l = length l.text - l.at
