use Rattle.std.proofs.Common.{◌≡◌, ◌+◌, ◌∷◌, drop, ap, ◌∙◌, arith}
use Rattle.fut_syntax.specs.Views.{expr_tree, args_tree, params_tree}
use Rattle.fut_causes.specs.Seeking.{first}
use Rattle.fut_causes.specs.Causes.{needed_causes, args_causes}
use Rattle.fut_rules.specs.Widths.{each_width, expr_width}
use Rattle.fut_causes.proofs.Args.{args_step}
use Rattle.fut_rules.proofs.Drops.{dropped}
use Rattle.fut_causes.proofs.inits.seek_args.Goals as goal

pub loop-arg-preserved : goal.loop-arg-preserved
loop-arg-preserved c =
    let i = c.loop-arg.arg-index in
    let left : args_tree (drop i c.args.args.now) ≡ expr_tree c.arg-item.result ∷ args_tree (drop (i + 1) c.args.args.now) =
    ap args_tree (dropped c.args.args.now i c.arg-item.result (omega arith) c.arg-item.is)
    in
    let width : each_width (args_tree (drop i c.args.args.now)) ≡ expr_width (expr_tree c.arg-item.result) + 1 + each_width
    (args_tree (drop (i + 1) c.args.args.now)) = ap each_width left in
    record {
      end = c.skip.ensures.end ∙ c.seek_needed.ensures.end ∙ c.loop-arg.invariant.end;
      wanted = c.skip.ensures.wanted ∙ c.seek_needed.ensures.wanted ∙ c.loop-arg.invariant.wanted;
      at = omega (arith, width);
      found =
          let t = c.args.seek.now.wanted in
          c.loop-arg.invariant.found
          ∙ ap (λ es. first t c.loop-arg.seek.found (args_causes c.args.variables.now c.loop-arg.seek.at (params_tree c.loop-arg.left.now) es)) left
          ∙ args_step t c.args.variables.now c.loop-arg.seek.found c.skip.new.self.found c.loop-arg.seek.at c.skip.new.self.at
          (params_tree c.loop-arg.left.now) (params_tree c.later-left.result.now)
          (expr_tree c.arg-item.result) (args_tree (drop (i + 1) c.args.args.now))
          (c.skip.ensures.found ∙ c.seek_needed.ensures.found
          ∙ ap (λ w. first w c.loop-arg.seek.found (needed_causes c.args.variables.now c.loop-arg.seek.at c.next_need.result (expr_tree c.arg-item.result)))
          c.loop-arg.invariant.wanted
          ∙ ap
          (λ q. first t c.loop-arg.seek.found
          (needed_causes c.args.variables.now c.loop-arg.seek.at q (expr_tree c.arg-item.result))) c.next_need.ensures)
          (omega arith) c.later-left.ensures;
    }
