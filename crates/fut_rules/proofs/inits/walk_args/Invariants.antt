use Rattle.std.proofs.Common.{◌≡◌, ◌+◌, drop}
use Rattle.fut_syntax.specs.Views.{args_tree, params_tree}
use Rattle.fut_rules.specs.Faults.{least}
use Rattle.fut_rules.specs.Inits.{args_faults}
use Rattle.fut_rules.specs.Widths.{each_width}
use Rattle.fut_rules.proofs.inits.walk_args.Given as goal

abbrev pub invariant-loop-arg : goal.invariant-loop-arg
invariant-loop-arg l =
    record {
      end : l.search.end ≡ l.initial.search.end;
      at : l.search.at + each_width (args_tree (drop l.arg-index l.args)) ≡ l.initial.search.at + each_width (args_tree l.args);
      found : least l.initial.search.found (args_faults l.variables l.initial.search.at (params_tree l.parameters) (args_tree l.args))
          ≡ least l.search.found (args_faults l.variables l.search.at (params_tree l.left) (args_tree (drop l.arg-index l.args)));
    }
