use Rattle.std.proofs.Common.{◌≡◌, ◌-◌, ◌≤◌, ◌++◌, ◌∷◌, [], List, ℕ, length}
use Rattle.run_record.specs.declared.bounds.TheConstants.{MOST_ARGUMENTS}
use Rattle.fut_base.specs.declared.record.Value.{Value}
use Rattle.run_record.specs.RunText.{values_line}
use Rattle.run_record.specs.Records.{AreValues}
use Rattle.run_record.specs.Machine.{Arguments}
use Rattle.run_record.specs.Steps.{Steps}
use Rattle.run_record.proofs.values.arguments.Given as goal

abbrev pub invariant-more : goal.invariant-more
invariant-more l = record {
  goes : Steps (Arguments MOST_ARGUMENTS ∷ []) l.fn.cursor (Arguments (MOST_ARGUMENTS - length l.all.items) ∷ []) l.cursor;
  text : (rest : List Value) (r : List ℕ) → l.cursor ≡ values_line rest ++ r → l.fn.cursor ≡ values_line (l.all.items ++ rest) ++ r;
  few : length l.all.items ≤ MOST_ARGUMENTS;
  values : AreValues l.all.items;
}

abbrev pub decreases-more : goal.decreases-more
decreases-more l = length l.cursor
