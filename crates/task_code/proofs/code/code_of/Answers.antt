use Rattle.std.proofs.Common.{length, ap, sym, arith}
use Rattle.std.proofs.lemmas.List.{length-map}
use Rattle.fut_syntax.specs.Views.{items_tree, params_tree, param_tree, block_tree}
use Rattle.task_code.proofs.Growing.{one_longer}
use Rattle.task_code.proofs.Serving.{few_names, params_are_served, few_arguments, body_is_served, few_instructions}
use Rattle.task_code.proofs.code.code_of.Goals as goal

pub given_of-requires-clause-names : goal.given_of-requires-clause-names
given_of-requires-clause-names c =
    few_names (items_tree c.args.items.now) (params_tree c.args.params.now)
    (block_tree c.args.body.now) c.requires.sound c.in_ok-names.names c.as_slice.result.now (length c.args.params.now) c.as_slice.ensures
    (sym (length-map c.args.params.now param_tree)) c.in_ok-names.ensures.few

pub given_of-requires-clause-serves : goal.given_of-requires-clause-serves
given_of-requires-clause-serves c =
    params_are_served (items_tree c.args.items.now) (params_tree c.args.params.now)
    (block_tree c.args.body.now) c.requires.sound c.in_ok-names.names c.as_slice.result.now c.as_slice.ensures c.in_ok-names.ensures.params

pub given_of-requires-clause-few : goal.given_of-requires-clause-few
given_of-requires-clause-few c = few_arguments (items_tree c.args.items.now) (params_tree c.args.params.now) (block_tree c.args.body.now) c.requires.sound

pub invariant_of-scope : goal.invariant_of-scope
invariant_of-scope c =
    record {
      are_arrays = c.requires.arrays;
      few_arrays = c.requires.few;
      few_tasks = c.requires.tasks;
      few_names = few_names (items_tree c.args.items.now) (params_tree c.args.params.now)
          (block_tree c.args.body.now) c.requires.sound c.in_ok-names.names c.as_slice-2.result.now (length c.args.params.now) c.as_slice-2.ensures
          (sym (length-map c.args.params.now param_tree)) c.in_ok-names.ensures.few;
    }

pub add_block-requires-clause-serves : goal.add_block-requires-clause-serves
add_block-requires-clause-serves c =
    body_is_served (items_tree c.args.items.now) (params_tree c.args.params.now)
    (block_tree c.args.body.now) c.requires.sound c.in_ok-names.names c.as_slice-2.result.now c.as_slice-2.ensures c.in_ok-names.ensures.body

pub add_block-requires-clause-few : goal.add_block-requires-clause-few
add_block-requires-clause-few c =
    let few = few_instructions (items_tree c.args.items.now) (params_tree c.args.params.now) (block_tree c.args.body.now) c.requires.sound in
    let one = one_longer c.new-code.result.items c.push.new.code.items _ c.in_ok-end.ensures.0 in
    let none = ap length c.new-code.ensures.items in
    omega (arith, few, one, none)
