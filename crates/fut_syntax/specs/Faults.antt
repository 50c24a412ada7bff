-- Where the fault of a list of tokens stands.
use Rattle.std.specs.Prelude.{◌≡◌, ℕ, ◌+◌, ◌-◌, ◌⊎◌, Bool, true, false, List, [], ◌∷◌, ◌++◌, length, cond, nat_eq, nat_lt, nat_le, ◌&&◌}
use Rattle.fut_tokens.specs.declared.token.Token.{Token}
use Rattle.fut_tokens.specs.declared.token.Token.TheVariants as t
use Rattle.fut_syntax.specs.Trees.{Program}
use Rattle.fut_syntax.specs.Tokens.{program_tokens}

-- an opening bracket
abbrev pub opens : Token → Bool
opens t.LeftParen = true
opens t.LeftBrace = true
opens t.LeftSquare = true
opens _ = false

-- a closing bracket
abbrev pub closes : Token → Bool
closes t.RightParen = true
closes t.RightBrace = true
closes t.RightSquare = true
closes _ = false

-- the brackets open after a token, of those open before it
abbrev pub open_by : Token → ℕ → ℕ
open_by x d = cond (opens x) (d + 1) (cond (closes x) (d - 1) d)

-- the brackets open after some tokens
abbrev pub open_after : List Token → ℕ → ℕ
open_after [] d = d
open_after (x ∷ xs) d = open_after xs (open_by x d)

-- an opening bracket where 64 are open
abbrev pub is_full : ℕ → Token → Bool
is_full d x = opens x && nat_le 64 d

-- some program begins with these tokens
abbrev pub Begins : List Token → Type 0
Begins xs = (p : Program) × (more : List Token) × (program_tokens p ≡ xs ++ more)

-- the word `a`
abbrev pub is_a : List ℕ → Bool
is_a [] = false
is_a (b ∷ []) = nat_eq b 97
is_a (b ∷ c ∷ w) = false

-- keywords, signs and the end token, the word `a`, and the numbers 0 and 1
abbrev pub is_simple : Token → Bool
is_simple (t.Word w) = is_a w
is_simple (t.Number n) = nat_lt n 2
is_simple t.Scrap = false
is_simple _ = true

-- each token of the list is simple
abbrev pub all_simple : List Token → Bool
all_simple [] = true
all_simple (x ∷ xs) = is_simple x && all_simple xs

-- some program begins with these tokens and goes on with simple ones
abbrev pub IsBegun : List Token → Type 0
IsBegun xs = (p : Program) × (more : List Token) × (program_tokens p ≡ xs ++ more) × (all_simple more ≡ true)

-- after these tokens this one can't come: no program at all has both, or it opens one bracket too many
abbrev pub IsBad : List Token → Token → Type 0
IsBad before x = (Begins (before ++ x ∷ []) → ⊥) ⊎ (is_full (open_after before 0) x ≡ true)

-- after these tokens this one can come
abbrev pub IsGood : List Token → Token → Type 0
IsGood before x = IsBegun (before ++ x ∷ []) × (is_full (open_after before 0) x ≡ false)

-- the first bad token is the one behind which `left` tokens stand
pub record IsFault (xs : List Token) (left : ℕ) : Type 0 where
  pub before : List Token
  pub token : Token
  pub behind : List Token
  pub whole : xs ≡ before ++ token ∷ behind
  pub left_is : left ≡ length behind
  pub bad : IsBad before token
  pub good : (a : List Token) (x : Token) (b : List Token) → before ≡ a ++ x ∷ b → IsGood a x

-- every token is good
abbrev pub IsWhole : List Token → Program → Type 0
IsWhole xs p = (program_tokens p ≡ xs) × ((a : List Token) (x : Token) (b : List Token) → xs ≡ a ++ x ∷ b → is_full (open_after a 0) x ≡ false)
