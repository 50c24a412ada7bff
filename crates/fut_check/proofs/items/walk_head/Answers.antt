use Rattle.std.proofs.Common.{ap, ◌∙◌, arith}
use Rattle.fut_syntax.specs.Views.{params_tree, items_tree}
use Rattle.fut_rules.specs.Names.{Scope}
use Rattle.fut_check.specs.Items.{with_params}
use Rattle.fut_rules.proofs.Least.{walked_both, walked_past, past_walked, walked_as}
use Rattle.fut_check.proofs.Statements.{head_faults_are}
use Rattle.fut_check.proofs.items.walk_head.Goals as goal

pub returns : goal.returns
returns c =
    record {
      walked =
          walked_as
          (walked_past
          (walked_both
          (walked_both
          (walked_both (past_walked c.skip.ensures c.note_task.ensures)
          (past_walked c.skip-2.ensures c.note_if.ensures)) c.in_ok-walk_params.ensures.walked)
          c.note_depth.ensures)
          c.skip-3.ensures)
          (omega arith)
          (head_faults_are (items_tree c.args.items.now) (items_tree c.args.before.now) c.args.search.now.at c.args.word.now
          (params_tree c.args.params.now) c.args.depth
          _ _ _ _ _ _ _ c.requires.tasks c.is_main_with.ensures (ap (λ (s : Scope). s.declared) c.new-scope.ensures)
          (omega arith) (omega arith) (omega arith) (omega (arith, c.in_ok-walk_params.ensures.walked.at)));
      scope_is = c.in_ok-walk_params.ensures.scope_is ∙ ap (λ (s : Scope). with_params s (params_tree c.args.params.now)) c.new-scope.ensures;
    }
