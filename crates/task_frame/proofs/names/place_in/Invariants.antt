use Rattle.std.proofs.Common.{◌≡◌, drop}
use Rattle.task_frame.specs.Names.{find_from, find_name}
use Rattle.task_frame.proofs.names.place_in.Given as goal

abbrev pub invariant-loop-name : goal.invariant-loop-name
invariant-loop-name l =
    record {
      counted : l.place ≡ l.name-index;
      rest : find_from l.place (drop l.name-index l.names) l.word ≡ find_name l.names l.word;
    }
