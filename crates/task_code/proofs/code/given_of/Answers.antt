use Rattle.std.proofs.Common.{◌≡◌, ◌+◌, ◌++◌, ap, sym, ◌∙◌, subst, arith}
use Rattle.std.specs.Prelude.{Some}
use Rattle.fut_syntax.specs.Views.{params_tree}
use Rattle.task_frame.specs.Names.{find_name}
use Rattle.task_code.specs.Flat.{AreGiven}
use Rattle.task_code.proofs.Whole.{all_given}
use Rattle.task_code.proofs.Serving.{Taken, param_found, param_fits, param_given}
use Rattle.task_code.proofs.code.given_of.Goals as goal

pub loop-param-init : goal.loop-param-init
loop-param-init c =
    record {
      all = λ more h. subst (λ l. AreGiven c.args.names.now 0 (params_tree c.args.params.now) (l ++ more)) (sym c.new-given.ensures.items) h;
      serves = c.requires.serves;
      few = omega arith;
    }

pub returns : goal.returns
returns c =
    all_given c.args.names.now c.args.params.now c.loop-param.param-index c.loop-param.first c.loop-param.given.items _ c.loop-param-test.false
    c.from_vec.ensures c.loop-param.invariant.all

pub unreachable-requires : goal.unreachable-requires
unreachable-requires c =
    let i = c.loop-param in
    param_found c.args.names.now c.args.params.now i.param-index i.first i.given.items c.param-item.result c.loop-param-test.true c.param-item.is i.invariant
    (ap (find_name c.args.names.now) (sym c.as_slice.ensures) ∙ (sym c.find.ensures ∙ c.in_default.is))

pub overflow_cast-first : goal.overflow_cast-first
overflow_cast-first c =
    let i = c.loop-param in
    let fits =
    param_fits c.args.names.now c.args.params.now i.param-index i.first i.given.items c.param-item.result c.loop-param-test.true c.param-item.is
    i.invariant in
    let size = c.size_of.ensures in
    let few = c.requires.few in
    omega (arith, fits, size, few)

pub overflow_add-first : goal.overflow_add-first
overflow_add-first c =
    let i = c.loop-param in
    let fits =
    param_fits c.args.names.now c.args.params.now i.param-index i.first i.given.items c.param-item.result c.loop-param-test.true c.param-item.is
    i.invariant in
    let size = c.size_of.ensures in
    let few = c.requires.few in
    omega (arith, fits, size, few)

pub loop-param-preserved : goal.loop-param-preserved
loop-param-preserved c =
    let i = c.loop-param in
    let found : find_name c.args.names.now c.param-item.result.name ≡ Some c.in-Some.variable =
    ap (find_name c.args.names.now) (sym c.as_slice.ensures) ∙ (sym c.find.ensures ∙ c.in-Some.is) in
    subst (λ n. Taken c.args.names.now c.args.params.now (i.param-index + 1) (i.first + n) c.push.new.self.items) (sym c.size_of.ensures)
    (param_given c.args.names.now c.args.params.now i.param-index i.first i.given.items c.param-item.result c.loop-param-test.true c.param-item.is i.invariant
    c.in-Some.variable c.push.new.self.items found c.in_ok-push.ensures.items)
