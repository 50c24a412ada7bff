use Rattle.std.proofs.Common.{◌≡◌, ◌+◌, ◌∷◌, drop, ap, ◌∙◌, arith}
use Rattle.fut_syntax.specs.Views.{expr_tree, args_tree, params_tree}
use Rattle.fut_rules.specs.Faults.{least}
use Rattle.fut_rules.specs.Exprs.{needed_faults}
use Rattle.fut_rules.specs.Inits.{args_faults}
use Rattle.fut_rules.specs.Widths.{each_width, expr_width}
use Rattle.fut_rules.proofs.Args.{args_step}
use Rattle.fut_rules.proofs.Drops.{dropped}
use Rattle.fut_rules.proofs.inits.walk_args.Goals as goal

pub loop-arg-preserved : goal.loop-arg-preserved
loop-arg-preserved c =
    let i = c.loop-arg.arg-index in
    let left : args_tree (drop i c.args.args.now) ≡ expr_tree c.arg-item.result ∷ args_tree (drop (i + 1) c.args.args.now) =
    ap args_tree (dropped c.args.args.now i c.arg-item.result (omega arith) c.arg-item.is)
    in
    let width : each_width (args_tree (drop i c.args.args.now)) ≡ expr_width (expr_tree c.arg-item.result) + 1 + each_width
    (args_tree (drop (i + 1) c.args.args.now)) = ap each_width left in
    record {
      end = c.skip.ensures.end ∙ c.walk_needed.ensures.end ∙ c.loop-arg.invariant.end;
      at = omega (arith, width);
      found = c.loop-arg.invariant.found
          ∙ ap (λ es. least c.loop-arg.search.found (args_faults c.args.variables.now c.loop-arg.search.at (params_tree c.loop-arg.left.now) es)) left
          ∙ args_step c.args.variables.now c.loop-arg.search.found c.skip.new.self.found c.loop-arg.search.at c.skip.new.self.at
          (params_tree c.loop-arg.left.now) (params_tree c.later-left.result.now)
          (expr_tree c.arg-item.result) (args_tree (drop (i + 1) c.args.args.now))
          (c.skip.ensures.found ∙ c.walk_needed.ensures.found
          ∙ ap
          (λ q. least c.loop-arg.search.found
          (needed_faults c.args.variables.now c.loop-arg.search.at q (expr_tree c.arg-item.result))) c.next_need.ensures)
          (omega arith) c.later-left.ensures;
    }
