use Rattle.std.proofs.Common.{refl}
use Rattle.task_machine.proofs.laws.number_row.Goals as goal

pub returns : goal.returns
returns c =
    record {
      added = refl;
      subtracted = refl;
      multiplied = refl;
      by_zero = refl;
      rest_by_zero = refl;
      least = refl;
      least_rest = refl;
      towards_zero = refl;
      sign_of_dividend = refl;
      bits = refl;
      either_bits = refl;
      equal = (refl, refl);
      unequal = (refl, refl);
      compared = refl;
      less = (refl, refl);
      at_most = (refl, refl);
      greater = (refl, refl);
      at_least = (refl, refl);
      index = refl;
      index_around = refl;
    }
