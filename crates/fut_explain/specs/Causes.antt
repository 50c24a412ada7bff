-- What is told of the cause of a type fault.
use Rattle.std.specs.Prelude.{ℕ, zero, suc, List, [], ◌++◌, codes, decimal, Option, Some, None}
use Rattle.fut_rules.specs.declared.kind.Kind.{Kind}
use Rattle.fut_rules.specs.declared.kind.Kind.TheVariants as kind
use Rattle.fut_rules.specs.declared.kind.Need.{Need}
use Rattle.fut_rules.specs.declared.kind.Need.TheVariants as need
use Rattle.fut_causes.specs.declared.cause.Cause.{Cause}
use Rattle.fut_causes.specs.declared.cause.Cause.TheVariants as cause

-- so many `fut`
abbrev pub futs : ℕ → List ℕ
futs zero = []
futs (suc n) = codes "fut " ++ futs n

-- the type of a handle of what has so many `fut`
abbrev pub handle_text : ℕ → List ℕ
handle_text d = codes "fut " ++ (futs d ++ codes "int")

-- the type of an array whose elements have so many `fut`
abbrev pub array_text : ℕ → ℕ → List ℕ
array_text d n = futs d ++ (codes "int[" ++ (decimal n ++ codes "]"))

-- a type
abbrev pub kind_text : Kind → List ℕ
kind_text kind.Int = codes "int"
kind_text (kind.Handle d) = handle_text d
kind_text (kind.Array d n) = array_text d n

-- what a place needs
abbrev pub need_text : Need → List ℕ
need_text need.Int = codes "int"
need_text (need.Handle d) = handle_text d
need_text need.AnyHandle = codes "a handle"
need_text (need.Array d n) = array_text d n

-- what was found and what is due
abbrev pub types_text : Need → Kind → List ℕ
types_text due found = codes "found: " ++ (kind_text found ++ (codes "\ndue: " ++ (need_text due ++ codes "\n")))

-- a line with a number
abbrev pub count_line : List ℕ → ℕ → List ℕ
count_line front n = front ++ (decimal n ++ codes "\n")

-- how many arguments were found, and how many are due
abbrev pub counts_text : ℕ → ℕ → List ℕ
counts_text due found = count_line (codes "arguments found: ") found ++ count_line (codes "arguments due: ") due

-- the cause of a fault, where types or counts are one
abbrev pub cause_text : Option Cause → List ℕ
cause_text (Some (cause.Types due found)) = types_text due found
cause_text (Some (cause.Counts due found)) = counts_text due found
cause_text None = []
