use Rattle.std.proofs.Common.{◌≡◌, ◌+◌, drop}
use Rattle.fut_syntax.specs.Views.{args_tree, params_tree}
use Rattle.fut_causes.specs.Seeking.{first}
use Rattle.fut_causes.specs.Causes.{args_causes}
use Rattle.fut_rules.specs.Widths.{each_width}
use Rattle.fut_causes.proofs.inits.seek_args.Given as goal

abbrev pub invariant-loop-arg : goal.invariant-loop-arg
invariant-loop-arg l =
    record {
      end : l.seek.end ≡ l.initial.seek.end;
      wanted : l.seek.wanted ≡ l.initial.seek.wanted;
      at : l.seek.at + each_width (args_tree (drop l.arg-index l.args)) ≡ l.initial.seek.at + each_width (args_tree l.args);
      found : first l.initial.seek.wanted l.initial.seek.found (args_causes l.variables l.initial.seek.at (params_tree l.parameters) (args_tree l.args))
          ≡ first l.initial.seek.wanted l.seek.found (args_causes l.variables l.seek.at (params_tree l.left) (args_tree (drop l.arg-index l.args)));
    }
