-- The types of variables, parameters and expressions, and the table of needs.
use Rattle.std.specs.Prelude.{ℕ, zero, suc, Bool, true, false, nat_eq, if◌then◌else◌, Option, Some, None}
use Rattle.fut_syntax.specs.Trees.{VarType, Plain, Array}
use Rattle.fut_rules.specs.declared.kind.Kind.{Kind}
use Rattle.fut_rules.specs.declared.kind.Kind.TheVariants as kind
use Rattle.fut_rules.specs.declared.kind.Need.{Need}
use Rattle.fut_rules.specs.declared.kind.Need.TheVariants as need
use Rattle.fut_rules.specs.declared.fault.Rule.{Rule}
use Rattle.fut_rules.specs.declared.fault.Rule.TheVariants as rule

-- `int` behind so many `fut`: int, or a handle of what has one `fut` less
abbrev pub plain : ℕ → Kind
plain zero = kind.Int
plain (suc d) = kind.Handle d

-- a type as it is written
abbrev pub kind_of : VarType → Kind
kind_of (Plain d) = plain d
kind_of (Array d n) = kind.Array d n

-- how many slots or argument values a variable of this type takes: an array one for each element
abbrev pub size : Kind → ℕ
size kind.Int = 1
size (kind.Handle d) = 1
size (kind.Array d n) = n

-- what `get` gives of a handle
abbrev pub got : Kind → Option Kind
got kind.Int = None
got (kind.Handle d) = Some (plain d)
got (kind.Array d n) = None

-- what an argument for a parameter of this type has to be
abbrev pub argument_need : Kind → Need
argument_need kind.Int = need.Int
argument_need (kind.Handle d) = need.Handle d
argument_need (kind.Array d n) = need.Array d n

-- what the init of a variable of this type has to be: for an array one element, which fills it
abbrev pub init_need : Kind → Need
init_need kind.Int = need.Int
init_need (kind.Handle d) = need.Handle d
init_need (kind.Array d n) = argument_need (plain d)

-- the table of needs: the rule that is broken where something of a type stands in a place with a need
abbrev pub need_rule : Need → Kind → Option Rule
need_rule need.Int kind.Int = None
need_rule need.Int (kind.Handle e) = Some rule.HandleForInt
need_rule need.Int (kind.Array e m) = Some rule.ArrayLength
need_rule (need.Handle d) kind.Int = Some rule.IntForHandle
need_rule (need.Handle d) (kind.Handle e) = if nat_eq d e then None else Some rule.HandleDepth
need_rule (need.Handle d) (kind.Array e m) = Some rule.ArrayLength
need_rule need.AnyHandle kind.Int = Some rule.IntForHandle
need_rule need.AnyHandle (kind.Handle e) = None
need_rule need.AnyHandle (kind.Array e m) = Some rule.ArrayLength
need_rule (need.Array d n) kind.Int = Some rule.IntForHandle
need_rule (need.Array d n) (kind.Handle e) = Some rule.ArrayLength
need_rule (need.Array d n) (kind.Array e m) = if nat_eq d e then (if nat_eq n m then None else Some rule.ArrayLength) else Some rule.HandleDepth

-- the rule that is broken where a need is known, and what stands there has a type
abbrev pub unmet : Option Need → Option Kind → Option Rule
unmet None given = None
unmet (Some n) None = None
unmet (Some n) (Some k) = need_rule n k

-- a returned expression is of the task's result
abbrev pub is_result : Kind → Kind → Bool
is_result kind.Int kind.Int = true
is_result (kind.Handle d) (kind.Handle e) = nat_eq d e
is_result _ _ = false

-- the rule that a returned expression breaks, where it has a type and the task's result so many `fut` before `int`
abbrev pub result_rule : ℕ → Option Kind → Option Rule
result_rule d None = None
result_rule d (Some k) = if is_result (plain d) k then None else Some rule.ResultType
