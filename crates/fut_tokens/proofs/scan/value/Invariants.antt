use Rattle.std.proofs.Common.{◌≡◌, ◌≤◌, drop}
use Rattle.fut_tokens.specs.Cut.{value_from}
use Rattle.fut_tokens.proofs.scan.value.Given as goal

abbrev pub invariant-loop-d : goal.invariant-loop-d
invariant-loop-d l = record {
  small : l.value ≤ 9223372036854775807;
  rest : value_from 0 l.digits ≡ value_from l.value (drop l.d-index l.digits);
}
