use Rattle.std.proofs.Common.{◌≡◌, List, ℕ, ap, sym, subst}
use Rattle.std.specs.Prelude.{Some, pos}
use Rattle.fut_syntax.specs.declared.tree.Stmt.{Stmt}
use Rattle.fut_syntax.specs.Views.{stmt_tree}
use Rattle.task_frame.specs.declared.term.Term.{Number}
use Rattle.task_frame.specs.declared.instruction.Source.TheVariants as source
use Rattle.task_frame.specs.declared.instruction.Instruction.TheVariants.{Set}
use Rattle.task_frame.specs.Names.{find_name}
use Rattle.task_code.specs.Flat.{context_of, IsDone}
use Rattle.task_code.proofs.compile.instruction_of.Goals as goal

pub returns-in-Declare : goal.returns-in-Declare
returns-in-Declare c =
    let names = c.args.scope.now.names.now in
    let t = c.target_of.result in
    let h = c.target_of.ensures in
    subst (λ (s : Stmt). IsDone (context_of c.args.scope.now) (stmt_tree s) c.args.next (Set t (source.Value (Number (pos 0))) c.args.next))
    (sym c.in-Declare.is) (
      t.variable,
      subst (λ (x : List ℕ). find_name names x ≡ Some t.variable) c.as_slice.ensures h.0,
      h.1,
      ap (λ f. Set (record { variable = t.variable; fill = f }) (source.Value (Number (pos 0))) c.args.next) h.2,
    )

pub returns-in_ok-source-in-Define : goal.returns-in_ok-source-in-Define
returns-in_ok-source-in-Define c =
    let names = c.args.scope.now.names.now in
    let t = c.target_of-target.result in
    let h = c.target_of-target.ensures in
    let s = c.in_ok-source-in-Define.source in
    subst (λ (x : Stmt). IsDone (context_of c.args.scope.now) (stmt_tree x) c.args.next (Set t s c.args.next)) (sym c.in-Define.is) (
      t.variable,
      s,
      subst (λ (x : List ℕ). find_name names x ≡ Some t.variable) c.as_slice-in-Define.ensures h.0,
      h.1,
      c.in_ok-source-in-Define.ensures,
      ap (λ f. Set (record { variable = t.variable; fill = f }) s c.args.next) h.2,
    )
