use Rattle.std.proofs.Common.{◌≡◌, ◌+◌, ◌++◌, drop}
use Rattle.fut_syntax.specs.Views.{items_tree, params_tree}
use Rattle.fut_rules.specs.Faults.{least}
use Rattle.fut_check.specs.Items.{params_faults, param_variables}
use Rattle.fut_rules.specs.Widths.{each_param_width}
use Rattle.fut_check.proofs.items.walk_each_param.Given as goal

abbrev pub invariant-loop-param : goal.invariant-loop-param
invariant-loop-param l =
    record {
      end : l.search.end ≡ l.initial.search.end;
      at : l.search.at + each_param_width (params_tree (drop l.param-index l.params)) ≡ l.initial.search.at + each_param_width (params_tree l.params);
      found : least l.initial.search.found (params_faults (items_tree l.items) l.initial.scope.declared l.initial.search.at (params_tree l.params))
          ≡ least l.search.found (params_faults (items_tree l.items) l.scope.declared l.search.at (params_tree (drop l.param-index l.params)));
      returns : l.scope.returns ≡ l.initial.scope.returns;
      visible : l.scope.visible ++ param_variables (params_tree (drop l.param-index l.params))
          ≡ l.initial.scope.visible ++ param_variables (params_tree l.params);
      declared : l.scope.declared ++ param_variables (params_tree (drop l.param-index l.params))
          ≡ l.initial.scope.declared ++ param_variables (params_tree l.params);
    }
