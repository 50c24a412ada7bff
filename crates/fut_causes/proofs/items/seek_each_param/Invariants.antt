use Rattle.std.proofs.Common.{◌≡◌, ◌+◌, ◌++◌, drop}
use Rattle.fut_syntax.specs.Views.{params_tree}
use Rattle.fut_check.specs.Items.{param_variables}
use Rattle.fut_rules.specs.Widths.{each_param_width}
use Rattle.fut_causes.proofs.items.seek_each_param.Given as goal

abbrev pub invariant-loop-param : goal.invariant-loop-param
invariant-loop-param l =
    record {
      end : l.seek.end ≡ l.initial.seek.end;
      wanted : l.seek.wanted ≡ l.initial.seek.wanted;
      at : l.seek.at + each_param_width (params_tree (drop l.param-index l.params)) ≡ l.initial.seek.at + each_param_width (params_tree l.params);
      found : l.seek.found ≡ l.initial.seek.found;
      returns : l.scope.returns ≡ l.initial.scope.returns;
      visible : l.scope.visible ++ param_variables (params_tree (drop l.param-index l.params))
          ≡ l.initial.scope.visible ++ param_variables (params_tree l.params);
      declared : l.scope.declared ++ param_variables (params_tree (drop l.param-index l.params))
          ≡ l.initial.scope.declared ++ param_variables (params_tree l.params);
    }
