-- The types of expressions, and the faults in them.
use Rattle.std.specs.Prelude.{ℕ, ◌+◌, List, [], ◌++◌, Option, Some, None}
use Rattle.fut_syntax.specs.Trees.{NoSign, Negative, Inverted, Expr, Alone, Pair, Operand, Signed, Primary, Literal, Name, Bracket}
use Rattle.fut_rules.specs.declared.kind.Kind.{Kind}
use Rattle.fut_rules.specs.declared.kind.Kind.TheVariants as kind
use Rattle.fut_rules.specs.declared.kind.Need.{Need}
use Rattle.fut_rules.specs.declared.kind.Need.TheVariants as need
use Rattle.fut_rules.specs.declared.fault.Fault.{Fault}
use Rattle.fut_rules.specs.declared.fault.Rule.{Rule}
use Rattle.fut_rules.specs.declared.fault.Rule.TheVariants as rule
use Rattle.fut_rules.specs.declared.names.Variable.{Variable}
use Rattle.fut_rules.specs.Faults.{broken}
use Rattle.fut_rules.specs.Kinds.{unmet}
use Rattle.fut_rules.specs.Names.{kind_named}
use Rattle.fut_rules.specs.Widths.{operand_width}

-- the type of an expression among the visible variables; it has none where it hangs on an unknown word
abbrev mutual
  pub expr_kind : List Variable → Expr → Option Kind
  expr_kind vs (Alone x) = operand_kind vs x
  expr_kind vs (Pair x o y) = Some kind.Int

  pub operand_kind : List Variable → Operand → Option Kind
  operand_kind vs (Signed NoSign p) = primary_kind vs p
  operand_kind vs (Signed Negative p) = Some kind.Int
  operand_kind vs (Signed Inverted p) = Some kind.Int

  pub primary_kind : List Variable → Primary → Option Kind
  primary_kind vs (Literal n) = Some kind.Int
  primary_kind vs (Name w) = kind_named vs w
  primary_kind vs (Bracket e) = expr_kind vs e

-- the rule that a word breaks which has to be a variable
abbrev pub unknown : Option Kind → Option Rule
unknown None = Some rule.UnknownName
unknown (Some k) = None

-- int is needed
abbrev pub for_int : Option Need
for_int = Some need.Int

-- the faults in an expression whose first token has this number
abbrev mutual
  pub expr_faults : List Variable → ℕ → Expr → List Fault
  expr_faults vs n (Alone x) = operand_faults vs n x
  expr_faults vs n (Pair x o y) =
      (operand_faults vs n x ++ broken (unmet for_int (operand_kind vs x)) n)
      ++ (operand_faults vs (n + operand_width x + 1) y ++ broken (unmet for_int (operand_kind vs y)) (n + operand_width x + 1))

  pub operand_faults : List Variable → ℕ → Operand → List Fault
  operand_faults vs n (Signed NoSign p) = primary_faults vs n p
  operand_faults vs n (Signed Negative p) = primary_faults vs (n + 1) p ++ broken (unmet for_int (primary_kind vs p)) (n + 1)
  operand_faults vs n (Signed Inverted p) = primary_faults vs (n + 1) p ++ broken (unmet for_int (primary_kind vs p)) (n + 1)

  pub primary_faults : List Variable → ℕ → Primary → List Fault
  primary_faults vs n (Literal m) = []
  primary_faults vs n (Name w) = broken (unknown (kind_named vs w)) n
  primary_faults vs n (Bracket e) = expr_faults vs (n + 1) e

-- the faults of an expression in a place with a need
abbrev pub needed_faults : List Variable → ℕ → Option Need → Expr → List Fault
needed_faults vs n needed e = expr_faults vs n e ++ broken (unmet needed (expr_kind vs e)) n
