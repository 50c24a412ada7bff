use Rattle.std.proofs.Common.{List, ℕ, ap, sym, ◌∙◌, subst, arith}
use Rattle.fut_syntax.specs.declared.tree.Param.{Param}
use Rattle.fut_syntax.specs.declared.tree.Stmt.{Stmt}
use Rattle.fut_syntax.specs.Views.{items_tree, params_tree, block_tree}
use Rattle.task_code.specs.Flat.{IsCodeOfTask}
use Rattle.task_code.specs.Serving.{IsSound}
use Rattle.task_code.proofs.Whole.{all_coded, task_coded, other_coded}
use Rattle.task_code.proofs.Serving.{sound_at}
use Rattle.task_code.proofs.code.codes_of.Goals as goal
use Rattle.task_code.proofs.code.codes_of.Goals.{in-Task+in_ok-code_of+in_ok-push, in_default}

pub returns : goal.returns
returns c =
    all_coded
    (items_tree c.args.items.now) c.args.items.now c.loop-item.item-index c.loop-item.codes.items _ c.loop-item-test.false c.from_vec.ensures
    c.loop-item.invariant

pub loop-item-preserved : goal.loop-item-preserved
loop-item-preserved c =
    let items = items_tree c.args.items.now in
    let i = c.loop-item.item-index in
    let codes = c.loop-item.codes.items in
    elim c.match-item.branch [
      | in-Task+in_ok-code_of+in_ok-push w ↦ (
          let code = w.in_ok-code_of.field-0 in
          let x = w.in-Task in
          let made : (name : List ℕ)
          → IsCodeOfTask items
          (record { name = name; params = params_tree w.as_slice.result.now; body = block_tree w.as_slice-in-Task.result.now }) code =
          w.in_ok-code_of.ensures in
          task_coded items c.args.items.now i c.item-item.result x.field-0 x.params x.field-2 x.body codes c.match-item.codes.items code
          (omega arith) c.item-item.is x.is
          (ap (λ v. v.items) w.codes-is ∙ w.in_ok-push.ensures.items)
          (subst
          (λ (ps : List Param). IsCodeOfTask items (record { name = x.field-0; params = params_tree ps; body = block_tree x.body }) code) w.as_slice.ensures
          (subst
          (λ (b : List Stmt). IsCodeOfTask items
          (record { name = x.field-0; params = params_tree w.as_slice.result.now; body = block_tree b }) code) w.as_slice-in-Task.ensures (made x.field-0)))
          c.loop-item.invariant)
      | in_default w ↦ other_coded items c.args.items.now i c.item-item.result w.in_default.field-0 w.in_default.field-1 codes c.match-item.codes.items
          (omega arith) c.item-item.is w.in_default.is (ap (λ v. v.items) w.codes-is) c.loop-item.invariant
    ]

pub code_of-requires-clause-sound : goal.code_of-requires-clause-sound
code_of-requires-clause-sound c =
    let globals = items_tree c.args.items.now in
    let x = c.in-Task in
    subst (λ b. IsSound globals (params_tree c.as_slice.result.now) (block_tree b)) (sym c.as_slice-in-Task.ensures)
    (subst (λ ps. IsSound globals (params_tree ps) (block_tree x.body)) (sym c.as_slice.ensures)
    (sound_at globals c.args.items.now c.loop-item.item-index c.item-item.result x.field-0 x.params x.field-2 x.body c.loop-item-test.true c.item-item.is x.is
    c.requires.sound))
