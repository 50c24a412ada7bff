-- Each part has a token.
use Rattle.std.proofs.Common.{◌<◌, arith}
use Rattle.fut_syntax.specs.Trees.{Expr, Alone, Pair, Operand, Signed, Primary, Literal, Name, Bracket, Init, GetOf, CreateOf, Index, Value}
use Rattle.fut_rules.specs.Widths.{expr_width, operand_width, primary_width, init_width}

mutual
  pub expr_some : (e : Expr) → 0 < expr_width e
  expr_some (Alone x) = operand_some x
  expr_some (Pair x o y) = omega arith

  pub operand_some : (x : Operand) → 0 < operand_width x
  operand_some (Signed s p) = omega (arith, primary_some p)

  pub primary_some : (p : Primary) → 0 < primary_width p
  primary_some (Literal n) = omega arith
  primary_some (Name w) = omega arith
  primary_some (Bracket e) = omega arith

pub init_some : (i : Init) → 0 < init_width i
init_some (GetOf w) = omega arith
init_some (CreateOf w es) = omega arith
init_some (Index w e) = omega arith
init_some (Value e) = expr_some e
