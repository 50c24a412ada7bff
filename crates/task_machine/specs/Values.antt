-- The numbers of the language: 64-bit two's complement.
use Rattle.std.specs.Prelude.{ℕ, ◌-◌, ◌%◌, Bool, true, false, not, if◌then◌else◌, ℤ, pos, negsuc, int_lt, int_le, int_rem}
use Rattle.std.specs.Int.{w64, int_wrapping_add, int_wrapping_sub, int_wrapping_mul, int_wrapping_div, int_bit_and, int_bit_or}
use Rattle.std.specs.Ordering.{int_eq}
use Rattle.fut_base.specs.declared.record.Value.{Value}
use Rattle.fut_base.specs.declared.record.Value.TheVariants.{Int, Fut}
use Rattle.fut_syntax.specs.Trees as tree

-- the number of a value; a handle where a number is due counts as 0
abbrev pub number_of : Value → ℤ
number_of (Int z) = z
number_of (Fut _) = pos 0

-- 1 where a test holds, else 0
abbrev pub truth : Bool → ℤ
truth true = pos 1
truth false = pos 0

-- a number is 0
abbrev pub is_zero : ℤ → Bool
is_zero z = int_eq z (pos 0)

-- a quotient rounds towards zero, and a remainder has the sign of the dividend; both are 0 where the divisor is
abbrev pub quotient : ℤ → ℤ → ℤ
quotient x y = if is_zero y then pos 0 else int_wrapping_div w64 x y

-- the remainder, which has the sign of the dividend; that of a divisor 0 is 0
abbrev pub remainder : ℤ → ℤ → ℤ
remainder x y = if is_zero y then pos 0 else int_rem x y

-- what an operator gives
abbrev pub combine : tree.Op → ℤ → ℤ → ℤ
combine tree.Add x y = int_wrapping_add w64 x y
combine tree.Subtract x y = int_wrapping_sub w64 x y
combine tree.Multiply x y = int_wrapping_mul w64 x y
combine tree.Divide x y = quotient x y
combine tree.Remainder x y = remainder x y
combine tree.BitAnd x y = int_bit_and w64 x y
combine tree.BitOr x y = int_bit_or w64 x y
combine tree.Equal x y = truth (int_eq x y)
combine tree.Unequal x y = truth (not (int_eq x y))
combine tree.Less x y = truth (int_lt x y)
combine tree.AtMost x y = truth (int_le x y)
combine tree.Greater x y = truth (int_lt y x)
combine tree.AtLeast x y = truth (int_le y x)

-- the number from 0 to n - 1 that differs from z by a multiple of n
abbrev pub index_of : ℕ → ℤ → ℕ
index_of n (pos a) = a % n
index_of n (negsuc a) = n - 1 - a % n
